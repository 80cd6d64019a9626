use Rattle.std.proofs.Common.{◌≡◌, ℕ, take, sym, ap, ◌∙◌, arith}
use Rattle.idl_rules.specs.Settle.{trimmed}
use Rattle.idl_grammar.proofs.Trimming.{trim_more, trim_ends}
use Rattle.idl_grammar.proofs.words.trimmed.Goals as goal
use Rattle.idl_grammar.proofs.words.trimmed.Goals.{then-loop-end-test+else-is_gap, else-loop-end-test}

pub loop-end-preserved : goal.loop-end-preserved
loop-end-preserved c =
    let within = c.loop-end.invariant.within in
    record {
      within = omega arith;
      same = trim_more c.args.text.now c.loop-end.end c.loop-end-test.true within (sym c.is_gap.ensures ∙ c.if-is_gap.true) ∙ c.loop-end.invariant.same;
    }

pub returns : goal.returns
returns c =
    let within = c.loop-end.invariant.within in
    let same = c.loop-end.invariant.same in
    elim c.loop-end-test.branch [
      | then-loop-end-test+else-is_gap w ↦ trim_ends c.args.text.now c.loop-end.end w.loop-end-test.true within (sym w.is_gap.ensures ∙ w.if-is_gap.false) ∙ same
      | else-loop-end-test w ↦ (let none : c.loop-end.end ≡ 0 = omega arith in
          ap (λ (n : ℕ). take n c.args.text.now) none ∙ ap (λ (n : ℕ). trimmed (take n c.args.text.now)) (sym none) ∙ same)
    ]
