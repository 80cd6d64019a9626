use Rattle.std.proofs.Common.{IsSome, List, sym, ap, subst, ◌∙◌}
use Rattle.sheet_step.specs.Undoing.{all_undone}
use Rattle.sheet_step.specs.declared.backs.Undo.{Undo}
use Rattle.sheet_step.proofs.Runs.{undone_last, last_there}
use Rattle.sheet_step.proofs.backs.undo_all.Goals as goal

pub undo_one-requires : goal.undo_one-requires
undo_one-requires c =
    let rs = c.loop-last.registers.items in
    let now = ap (λ (us : List Undo). all_undone us rs) c.in-Some.ensures.items in
    last_there c.pop.new.self.items c.in-Some.last rs (subst IsSome (sym c.loop-last.invariant ∙ now) c.requires)

pub loop-last-preserved : goal.loop-last-preserved
loop-last-preserved c =
    let rs = c.loop-last.registers.items in
    let now = ap (λ (us : List Undo). all_undone us rs) c.in-Some.ensures.items in
    sym (undone_last c.pop.new.self.items c.in-Some.last rs c.undo_one.new.registers.items c.undo_one.ensures) ∙ (sym now ∙ c.loop-last.invariant)
