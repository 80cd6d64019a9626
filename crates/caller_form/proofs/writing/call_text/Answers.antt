use Rattle.std.proofs.Common.{◌≡◌, ◌∷◌, [], codes, ◌∙◌}
use Rattle.serde_json.specs.Written.{compact_text}
use Rattle.call_form.specs.CallText.{call_tree}
use Rattle.call_form.proofs.ReplyLemmas.{sound_no_float}
use Rattle.caller_form.specs.CallBytes.{method_text, flag_text}
use Rattle.caller_form.proofs.CallPieces.{pieces_are, put_together}
use Rattle.caller_form.proofs.writing.call_text.Goals as goal

pub returns : goal.returns
unfolding call_tree
returns c =
    let call = c.args.call.now in
    let parameters : c.in_ok-parameters.parameters.items ≡ compact_text call.parameters =
    rw (← c.inner.ensures)
    (c.in_ok-parameters.ensures.text (rw c.inner.ensures (sound_no_float call.parameters c.requires.is_sound))) in
    let all = put_together (method_text call.method) (flag_text (codes ",\"more\":true") call.more) (flag_text (codes ",\"oneway\":true") call.oneway)
    (codes ",\"parameters\":") c.in_ok-parameters.parameters.items (flag_text (codes ",\"upgrade\":true") call.upgrade) (125 ∷ 0 ∷ [])
    c.new-text.ensures.items c.in_ok-put_method.ensures c.in_ok-put_flag.ensures
    c.in_ok-put_flag-2.ensures c.in_ok-put.ensures
    (rw (← c.deref.ensures.value) c.in_ok-put-2.ensures) c.in_ok-put_flag-3.ensures c.in_ok-put-3.ensures in
    c.from_vec.ensures ∙ all
    ∙ rw parameters (pieces_are call.method call.parameters call.more call.oneway call.upgrade)
