use Rattle.std.proofs.Common.{rules, ◌≡◌, ◌+◌, ◌≤◌, List, [], ◌∷◌, ◌++◌, refl, sym, ap, ◌∙◌, arith, append_assoc, append-nil}
use Rattle.std.proofs.lemmas.List.{nil_from_length}
use Rattle.door_host.specs.declared.porters.Porter.{Porter}
use Rattle.door_host.specs.Rounds.{from_last}
use Rattle.door_host.proofs.resolvers.unseat_porters.Goals as goal

pub loop-porter-init : goal.loop-porter-init
loop-porter-init g c = (
  [],
  sym (append-nil c.args.porters.items),
  c.requires.doors.0,
  c.requires.ends.0,
  search rules,
  search rules,
)

pub loop-porter-preserved : goal.loop-porter-preserved
loop-porter-preserved g c =
    let kept = c.loop-porter.invariant in
    let gone = kept.0 in
    let porter = c.in-Some.porter in
    let next : c.loop-porter.porters.items ≡ c.pop.new.self.items ++ porter ∷ [] = c.in-Some.ensures.items in (
      porter ∷ gone,
      kept.1 ∙ (ap (λ l. l ++ gone) next ∙ append_assoc c.pop.new.self.items (porter ∷ []) gone),
      c.push_reserved.ensures.items ∙ ap (λ l. l ++ porter.door ∷ []) kept.2,
      c.push_reserved-in-Some.ensures.items ∙ ap (λ l. l ++ porter.end ∷ []) kept.3,
      search rules,
      search rules,
    )
