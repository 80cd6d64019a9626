use Rattle.std.proofs.Common.{sym, ◌∙◌}
use Rattle.std.specs.BTreeSet.{contains_text}
use Rattle.sheet_draft.specs.Outlines.{stood}
use Rattle.sheet_draft.proofs.NameSets.{names_of, names_stood, register_same, register_more}
use Rattle.sheet_draft.proofs.registers.read_registers.Goals as goal

pub loop-value-preserved : goal.loop-value-preserved
loop-value-preserved c =
    let done = c.loop-value.registers in
    let left = rw c.in-Some.ensures at c.loop-value.invariant.left in
    let names = c.loop-value.invariant.names in
    let same = register_same c.in-Some.value (contains_text c.loop-value.names) (stood (names_of done)) names in
    rw c.in_ok-push-in-Ok.ensures.ok (record {
      names = λ q. names_stood done c.in-Ok.register q _ _ (c.in-Ok.ensures.after q) (names q);
      left = register_more done c.in-Ok.register c.in-Some.value c.next.new.self _ left (sym same ∙ c.in-Ok.ensures.answer);
    })
