-- One more text was appended, or a front of it.
use Rattle.std.proofs.Common.{◌∙◌, ◌++◌, ℕ, subst}
use Rattle.std.proofs.KnownBytes.{Appends-trans}
use Rattle.link_port.specs.Faults.{Rises}
use Rattle.varlink_command.proofs.Joining.{joined-next, joined-done, AppendsFront-more}
use Rattle.varlink_command.proofs.pieces.put_texts.Goals as goal

pub returns-in-Err-clause-all : goal.returns-in-Err-clause-all
returns-in-Err-clause-all g c =
    let before = c.loop-text.invariant in
    let piece = c.as_bytes.result.now in
    let next = joined-next c.args.texts.now c.loop-text.text-index _ piece c.loop-text-test.true c.as_bytes.ensures.value in
    let front = AppendsFront-more _ _ _ _ before.done piece _ _ (joined-done _ before.done _ piece _ before.whole next) before.bytes c.in-Err.ensures.short in
    (front, subst (λ (n : ℕ). Rises n (g.K.Ends.write_faults c.put_all.new.sink)) before.sound c.in-Err.ensures.fault)

pub loop-text-preserved : goal.loop-text-preserved
loop-text-preserved g c =
    let before = c.loop-text.invariant in
    let piece = c.as_bytes.result.now in
    let next = joined-next c.args.texts.now c.loop-text.text-index _ piece c.loop-text-test.true c.as_bytes.ensures.value in
    let step = c.in-Ok.ensures in
    record {
      done = before.done ++ piece;
      whole = joined-done _ before.done _ piece _ before.whole next;
      bytes = Appends-trans _ _ _ _ _ before.bytes step.ok;
      sound = step.sound ∙ before.sound;
      unfinished = step.unfinished;
      other = (step.other.0 ∙ before.other.0, step.other.1 ∙ before.other.1);
    }
