use Rattle.std.proofs.Common.{◌≡◌, false, List, ◌++◌, length}
use Rattle.std.specs.List.{AllByRecursion, flat_map}
use Rattle.call_form.specs.declared.Reply.{Reply}
use Rattle.call_form.specs.ReplyText.{reply_bytes}
use Rattle.session_core.specs.Outcomes.{HasSoundParameters}
use Rattle.session_core.specs.Sent.{sent, Sends}
use Rattle.session_core.proofs.writing.write_replies.Given as goal

abbrev pub invariant-replies : goal.invariant-replies
invariant-replies g l = record {
  done : List Reply;
  split : (g.P.Replies.left l.initial.replies).replies ≡ done ++ (g.P.Replies.left l.replies).replies;
  raw : (g.P.Replies.left l.replies).raw ≡ (g.P.Replies.left l.initial.replies).raw;
  wrote : Sends (sent (g.K.Ends.written l.initial.sink) l.initial.outbox) (sent (g.K.Ends.written l.sink) l.outbox) (flat_map reply_bytes done);
  room : l.outbox.room ≡ l.initial.outbox.room;
  unfinished : g.K.Ends.finished l.sink ≡ false;
  faults : g.K.Ends.write_faults l.sink ≡ g.K.Ends.write_faults l.initial.sink;
  left : g.K.Ends.left l.sink ≡ g.K.Ends.left l.initial.sink;
  read_faults : g.K.Ends.read_faults l.sink ≡ g.K.Ends.read_faults l.initial.sink;
  writable : AllByRecursion HasSoundParameters (g.P.Replies.left l.replies).replies;
}

abbrev pub decreases-replies : goal.decreases-replies
decreases-replies g l = length (g.P.Replies.left l.replies).replies
