use Rattle.std.proofs.Common.{◌≡◌, ◌<◌, List, length, take, ap, ◌∙◌, arith, inl, inr}
use Rattle.std.proofs.lemmas.Bool.{cases_lt}
use Rattle.std.proofs.lemmas.List.{take_all}
use Rattle.sheet_rules.specs.declared.forms.Rule.{Rule}
use Rattle.sheet_form.specs.RulePlaces.{placed, rule_place}
use Rattle.sheet_form.proofs.RulePlaces.{put_more, none_past}
use Rattle.sheet_form.proofs.rule_places.RulePlaces.of.Goals as goal

pub loop-place-preserved : goal.loop-place-preserved
loop-place-preserved c =
    record {
      size = c.in_ok-put_rule.ensures.size ∙ c.loop-place.invariant.size;
      puts = λ interface method within.
          let before : interface < length c.loop-place.by_interface.items = omega (arith, c.in_ok-put_rule.ensures.size) in
          put_more c.args.rules.now c.loop-place.place c.index-rules-place.result c.loop-place-test.true c.index-rules-place.is interface method
          (placed c.loop-place.by_interface.items interface method) (placed c.put_rule.new.maps.items interface method)
          (c.loop-place.invariant.puts interface method before) (c.in_ok-put_rule.ensures.put interface method within);
    }

pub returns : goal.returns
returns c = λ interface method.
    let maps = c.loop-place.by_interface.items in
    let whole : take c.loop-place.place c.args.rules.now ≡ c.args.rules.now =
    take_all c.loop-place.place c.args.rules.now (omega (arith, c.loop-place-test.false)) in
    elim (cases_lt interface (length maps)) [
      | inl within ↦ c.loop-place.invariant.puts interface method within
          ∙ ap (λ (rules : List Rule). rule_place rules interface method) whole
      | inr past ↦ none_past maps c.args.rules.now interface method (rw c.loop-place.invariant.size c.requires) past
    ]
