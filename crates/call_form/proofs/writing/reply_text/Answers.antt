use Rattle.std.proofs.Common.{◌≡◌, ◌∷◌, [], codes, ◌∙◌}
use Rattle.serde_json.specs.Written.{compact_text}
use Rattle.call_form.specs.ReplyText.{reply_tree, continues_text, error_text}
use Rattle.call_form.proofs.ReplyLemmas.{pieces_are, put_together, sound_no_float}
use Rattle.call_form.proofs.writing.reply_text.Goals as goal

pub returns : goal.returns
unfolding reply_tree
returns c =
    let reply = c.args.reply.now in
    let parameters : c.in_ok-parameters.parameters.items ≡ compact_text reply.parameters =
    rw (← c.inner.ensures)
    (c.in_ok-parameters.ensures.text (rw c.inner.ensures (sound_no_float reply.parameters c.requires.is_sound))) in
    let all = put_together (codes "{") (continues_text reply.continues) (error_text reply.error)
    (codes "\"parameters\":") c.in_ok-parameters.parameters.items (125 ∷ 0 ∷ [])
    c.new-text.ensures.items c.in_ok-put.ensures c.in_ok-put_continues.ensures
    c.in_ok-put_error.ensures c.in_ok-put-2.ensures
    (rw (← c.deref.ensures.value) c.in_ok-put-3.ensures) c.in_ok-put-4.ensures in
    c.from_vec.ensures ∙ all
    ∙ rw parameters (pieces_are reply.continues reply.error reply.parameters)
