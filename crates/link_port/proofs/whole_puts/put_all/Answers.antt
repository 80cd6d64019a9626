-- One more put appended a front of the rest.
use Rattle.std.proofs.Common.{◌∙◌, arith, length-drop, length-take}
use Rattle.link_port.proofs.Flowing.{Appends-front}
use Rattle.link_port.proofs.whole_puts.put_all.Goals as goal

pub loop-done-preserved : goal.loop-done-preserved
loop-done-preserved g c =
    let before = c.loop-done.invariant in
    let step = c.in-Ok.ensures in
    let piece = c.args.piece.now in
    let counted = simp (length-take, length-drop) at step.bound.1 in
    record {
      within = omega arith;
      bytes = Appends-front _ _ _ c.loop-done.done c.in-Ok.count piece before.bytes step.bytes;
      sound = step.sound ∙ before.sound;
      other = (step.other.0 ∙ before.other.0, step.other.1 ∙ before.other.1);
      unfinished = step.unfinished;
    }
