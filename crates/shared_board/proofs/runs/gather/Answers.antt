use Rattle.std.proofs.Common.{rules, ◌∙◌, ap, subst, arith}
use Rattle.std.specs.Prelude.{All, sum_by}
use Rattle.std.proofs.lemmas.List.Elements.{All-tail}
use Rattle.std.proofs.lemmas.List.Sums.{sum_by-cons}
use Rattle.turn_desk.specs.Passes.{IsOf, all_asks}
use Rattle.shared_board.specs.declared.askers.Asker.{Asker}
use Rattle.shared_board.proofs.runs.gather.Goals as goal

pub loop-worker-preserved : goal.loop-worker-preserved
loop-worker-preserved c =
    let kept = c.loop-worker.invariant in
    let next = c.in-Some.ensures.steps.0 in
    let asks = ap all_asks c.join.ensures.pass in
    let parts = ap (sum_by (λ (w : Asker). all_asks w.pass)) next ∙ sum_by-cons (λ (w : Asker). all_asks w.pass) c.in-Some.worker c.next.new.self.rest.items in
    let sum = kept.4 in (
      tt,
      tt,
      search rules,
      All-tail (λ (w : Asker). IsOf c.args.desk.now w.pass) c.in-Some.worker c.next.new.self.rest.items (subst (All (λ (w : Asker). IsOf c.args.desk.now w.pass)) next kept.3),
      omega arith,
    )
