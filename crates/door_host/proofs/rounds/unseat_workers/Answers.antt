use Rattle.std.proofs.Common.{rules, ◌≡◌, ℕ, ◌+◌, ◌≤◌, List, [], ◌∷◌, ◌++◌, Some, length, refl, sym, ap, ◌∙◌, subst, arith, append_assoc, append-nil}
use Rattle.std.specs.Prelude.{All, Contains, slice_index_or}
use Rattle.std.proofs.lemmas.List.{nil_from_length}
use Rattle.std.proofs.lemmas.List.Elements.{All-nil, All-cons, All-pop, All-append}
use Rattle.turn_desk.specs.declared.objects.Entry.{Entry}
use Rattle.turn_desk.specs.Asks.{SeesOthers}
use Rattle.turn_desk.specs.Histories.{GoesOn, NoneOf}
use Rattle.turn_desk.specs.Passes.{PassView, all_asks, carried}
use Rattle.turn_desk.specs.Turns.{total}
use Rattle.turn_desk.proofs.Lists.{total_snoc}
use Rattle.service_core.specs.declared.requests.Request.{Request}
use Rattle.service_core.specs.States.{State}
use Rattle.door_host.specs.declared.keepers.Keeper.{Keeper}
use Rattle.door_host.specs.Rounds.{MayLeave, from_last}
use Rattle.door_host.proofs.Leaving.{fewer, on_and_on}
use Rattle.door_host.proofs.Lists.{contains_nothing, contains_first, contains_later, distinct_push, members}
use Rattle.door_host.proofs.rounds.unseat_workers.Goals as goal

pub loop-keeper-init : goal.loop-keeper-init
loop-keeper-init g c = (
  [],
  sym (append-nil c.args.keepers.items),
  c.requires.doors.0,
  c.requires.ends.0,
  refl,
  omega arith,
  search rules,
  search rules,
  c.requires.pass.0,
  c.requires.seats,
  c.requires.asks,
  λ i. c.requires.pass.1 i ∷ c.requires.pass.2 i,
  (contains_nothing 0, tt),
  subst (NoneOf (0 ∷ [])) (sym c.requires.pass.3) (All-nil (λ (e : Entry Request). ¬ Contains (0 ∷ []) e.pass)),
  All-nil (λ (k : Keeper g.row.D.Denot g.row.L.Denot). GoesOn k.seated.pass.seen (k.seated.pass.number ∷ []) c.args.pass.seen),
)

pub join-requires-clause-other : goal.join-requires-clause-other
join-requires-clause-other g c =
    let parts = All-pop (λ (k : Keeper g.row.D.Denot g.row.L.Denot). MayLeave c.args.desk.now k.seated) c.loop-keeper.keepers.items c.pop.new.self.items (Some c.in-Some.keeper) c.in-Some.ensures.items c.loop-keeper.invariant.9 in
    let of_desk = parts.1.0 in
    let left = c.leave.ensures.pass in
    (ap (λ (p : PassView State Request). p.table) left ∙ of_desk.0, ap (λ (p : PassView State Request). p.start) left ∙ of_desk.1)

pub loop-keeper-preserved : goal.loop-keeper-preserved
loop-keeper-preserved g c =
    let K : Type 0 = Keeper g.row.D.Denot g.row.L.Denot in
    let kept = c.loop-keeper.invariant in
    let gone = kept.0 in
    let keeper = c.in-Some.keeper in
    let numbers = from_last (λ (k : K). k.seated.pass.number) gone in
    let next : c.loop-keeper.keepers.items ≡ c.pop.new.self.items ++ keeper ∷ [] = c.in-Some.ensures.items in
    let parts = All-pop (λ (k : K). MayLeave c.args.desk.now k.seated) c.loop-keeper.keepers.items c.pop.new.self.items (Some c.in-Some.keeper) c.in-Some.ensures.items kept.9 in
    let left : c.leave.result ≡ keeper.seated.pass = c.leave.ensures.pass in
    let number : c.leave.result.number ≡ keeper.seated.pass.number = ap (λ (p : PassView State Request). p.number) left in
    let joined : c.leave.result.joined ≡ [] = ap (λ (p : PassView State Request). p.joined) left ∙ parts.1.1 in
    let united = c.join.ensures.pass in
    let first = c.join.ensures.first in
    let made : c.made-entries.result ≡ keeper.seated.made = c.made-entries.ensures in
    let fewest : keeper.seated.made ≤ c.leave.result.asked = c.leave.ensures.made in
    let asks = ap all_asks united in
    let left_asks = ap all_asks left in
    let sum = ap (total (λ (k : K). all_asks k.seated.pass)) next ∙ total_snoc (λ (k : K). all_asks k.seated.pass) c.pop.new.self.items keeper in
    let old_sum = kept.10 in
    let old_count = kept.4 in
    let old_most = kept.5 in
    let zero : c.loop-keeper.pass.number ≡ 0 = let all = kept.11 in cc in
    let second : GoesOn keeper.seated.pass.seen (keeper.seated.pass.number ∷ keeper.seated.pass.joined) c.join.new.pass.seen = subst (λ (p : PassView State Request). SeesOthers p c.join.new.pass) left c.join.ensures.second in (
      keeper ∷ gone,
      kept.1 ∙ (ap (λ l. l ++ gone) next ∙ append_assoc c.pop.new.self.items (keeper ∷ []) gone),
      c.push_reserved.ensures.items ∙ ap (λ l. l ++ keeper.door ∷ []) kept.2,
      c.push_reserved-in-Some.ensures.items ∙ ap (λ l. l ++ keeper.end ∷ []) kept.3,
      omega arith,
      omega arith,
      search rules,
      search rules,
      (ap (λ (p : PassView State Request). p.table) united ∙ kept.8.0, ap (λ (p : PassView State Request). p.start) united ∙ kept.8.1),
      parts.0,
      omega arith,
      ap carried united ∙ (λ i. kept.11 i ++ number i ∷ joined i),
      distinct_push (0 ∷ numbers) keeper.seated.pass.number kept.12
          (λ there. c.join.ensures.apart keeper.seated.pass.number (subst (λ l. Contains l keeper.seated.pass.number) (sym kept.11) there) (contains_first c.leave.result.number keeper.seated.pass.number c.leave.result.joined number)),
      subst (NoneOf (0 ∷ [])) (sym first.1) (All-append (λ (e : Entry Request). ¬ Contains (0 ∷ []) e.pass) c.loop-keeper.pass.seen first.0 kept.13 (fewer 0 (carried c.loop-keeper.pass) first.0 (contains_first c.loop-keeper.pass.number 0 c.loop-keeper.pass.joined zero) first.2)),
      All-cons (λ (k : K). GoesOn k.seated.pass.seen (k.seated.pass.number ∷ []) c.join.new.pass.seen) keeper gone
          (subst (λ (j : List ℕ). GoesOn keeper.seated.pass.seen (keeper.seated.pass.number ∷ j) c.join.new.pass.seen) parts.1.1 second)
          (λ k d low. on_and_on (slice_index_or gone k d).seated.pass.number (carried c.loop-keeper.pass) (slice_index_or gone k d).seated.pass.seen c.loop-keeper.pass.seen c.join.new.pass.seen
          (subst (λ l. Contains l (slice_index_or gone k d).seated.pass.number) (sym kept.11) (contains_later 0 (slice_index_or gone k d).seated.pass.number numbers (members (λ (x : K). x.seated.pass.number) gone k d low)))
          (kept.14 k d low) first),
    )

pub returns-clause-history : goal.returns-clause-history
returns-clause-history g c =
    let kept = c.loop-keeper.invariant in
    let none : c.loop-keeper.keepers.items ≡ [] =
    nil_from_length c.loop-keeper.keepers.items (sym c.loop-keeper.keepers.ok.0 ∙ c.in_default.ensures.cases.0) in
    let all : c.args.keepers.items ≡ kept.0 = kept.1 ∙ ap (λ l. l ++ kept.0) none in
    subst (All (λ (k : Keeper g.row.D.Denot g.row.L.Denot). GoesOn k.seated.pass.seen (k.seated.pass.number ∷ []) c.loop-keeper.pass.seen)) (sym all) kept.14
