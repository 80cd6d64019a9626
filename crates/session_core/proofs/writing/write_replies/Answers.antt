use Rattle.std.proofs.Common.{ℕ, refl, List, [], ◌∷◌, ◌++◌, ◌∙◌, ap, sym, subst, append_assoc}
use Rattle.std.specs.List.{AllByRecursion}
use Rattle.call_form.specs.declared.Outcome.{Outcome}
use Rattle.call_form.specs.declared.Reply.{Reply}
use Rattle.session_core.specs.Outcomes.{HasSoundParameters}
use Rattle.session_core.specs.Sent.{sent, Sends}
use Rattle.session_core.specs.Writes.{BreaksOff}
use Rattle.session_core.proofs.SentLemmas.{Sends-nil}
use Rattle.session_core.proofs.WriteLemmas.{BreaksWithin-none, BreaksOff-after, Sends-reply}
use Rattle.session_core.proofs.writing.write_replies.Goals as goal

pub replies-preserved : goal.replies-preserved
replies-preserved g c =
    let given = rw c.in-Ok-Some.field-0-is at c.in-Ok-Some.ensures.given in
    let first = ap (λ (outcome : Outcome). outcome.replies) given in
    let earlier = c.replies.invariant in
    let reply = c.in-Ok-Some.reply in
    record {
      done = earlier.done ++ reply ∷ [];
      split = earlier.split ∙ ap (λ (replies : List Reply). earlier.done ++ replies) first
          ∙ sym (append_assoc earlier.done (reply ∷ []) (g.P.Replies.left c.next.new.self).replies);
      raw = sym (ap (λ (outcome : Outcome). outcome.raw) given) ∙ earlier.raw;
      wrote = Sends-reply earlier.done reply _ _ _ earlier.wrote c.in-Ok.ensures.wrote;
      faults = c.in-Ok.ensures.sound ∙ earlier.faults;
      left = c.write_reply.ensures.other.0 ∙ earlier.left;
      read_faults = c.write_reply.ensures.other.1 ∙ earlier.read_faults;
      room = c.write_reply.ensures.room ∙ earlier.room;
      unfinished = c.write_reply.ensures.unfinished;
      writable = (subst (λ (replies : List Reply). AllByRecursion HasSoundParameters replies) first earlier.writable).1;
    }

pub returns-in-Err-write_reply-clause-part : goal.returns-in-Err-write_reply-clause-part
returns-in-Err-write_reply-clause-part g c =
    let given = rw c.in-Ok-Some.field-0-is at c.in-Ok-Some.ensures.given in
    let first = ap (λ (outcome : Outcome). outcome.replies) given in
    let earlier = c.replies.invariant in
    BreaksOff-after c.in-Err-write_reply.stop earlier.done c.in-Ok-Some.reply (g.P.Replies.left c.next.new.self).replies _ _ _ _ _ _
    (earlier.split ∙ ap (λ (replies : List Reply). earlier.done ++ replies) first) earlier.wrote
    (subst (λ (faults : ℕ). BreaksOff (Sends (sent (g.K.Ends.written c.replies.sink) c.replies.outbox)
    (sent (g.K.Ends.written c.write_reply.new.sink) c.write_reply.new.outbox)) c.in-Err-write_reply.stop (c.in-Ok-Some.reply ∷ []) [] faults (g.K.Ends.write_faults c.write_reply.new.sink))
    earlier.faults c.in-Err-write_reply.ensures.part)

pub returns-in-Err-clause-part : goal.returns-in-Err-clause-part
returns-in-Err-clause-part g c =
    let earlier = c.replies.invariant in (
      BreaksWithin-none _ _ earlier.done _ _
          (earlier.split ∙ ap (λ (outcome : Outcome). earlier.done ++ outcome.replies) (sym c.in-Err.ensures.memory)) earlier.wrote,
      earlier.faults,
    )

pub replies-init : goal.replies-init
replies-init g c = record {
  done = [];
  split = refl;
  raw = refl;
  wrote = Sends-nil _;
  room = refl;
  unfinished = c.requires.unfinished;
  faults = refl;
  left = refl;
  read_faults = refl;
  writable = c.requires.writable;
}
