use Rattle.std.proofs.Common.{◌≡◌, ℕ, suc, ◌+◌, List, [], ◌∷◌, ◌++◌, sym, ap, ◌∙◌, subst, arith, append_assoc, vec_len}
use Rattle.door_host.specs.declared.porters.Porter.{Porter}
use Rattle.door_host.specs.Porters.{AreNumberedFrom}
use Rattle.door_host.specs.Rounds.{from_last}
use Rattle.door_host.proofs.Lists.{from_last_push}
use Rattle.door_host.proofs.Numbering.{numbered_push}
use Rattle.door_host.proofs.resolvers.seat_porters.Goals as goal

pub loop-door-preserved : goal.loop-door-preserved
loop-door-preserved g c =
    let P : Type 0 = Porter g.row.D.Denot in
    let kept = c.loop-door.invariant in
    let next : c.loop-door.doors.items ≡ c.pop.new.self.items ++ c.in-Some.door ∷ [] = c.in-Some.ensures.items in
    let porters = c.loop-door.porters.items in
    let pushed = c.push_reserved.ensures.items in
    let one_less = c.in-Some.ensures.cases in
    let one_more = c.push_reserved.ensures.len in
    let old_room = kept.1 in
    let same_room = c.pop.ensures.capacity in
    let old_seats = kept.2 in
    let same_seats = c.push_reserved.ensures.capacity in
    let before : AreNumberedFrom (λ (p : P). p.number) (suc (vec_len c.pop.new.self)) porters = subst (λ (n : ℕ). AreNumberedFrom (λ (p : P). p.number) n porters) (omega arith) kept.3 in (
      kept.0 ∙ ((λ i. next i ++ from_last (λ (k : P). k.door) porters) ∙ (append_assoc c.pop.new.self.items (c.in-Some.door ∷ []) (from_last (λ (k : P). k.door) porters)
          ∙ sym (ap (λ (l : List g.row.D.Denot). c.pop.new.self.items ++ l) (ap (from_last (λ (k : P). k.door)) pushed ∙ from_last_push (λ (k : P). k.door) porters _)))),
      omega arith,
      omega arith,
      subst (AreNumberedFrom (λ (p : P). p.number) (vec_len c.pop.new.self)) (sym pushed) (numbered_push (λ (p : P). p.number) (vec_len c.pop.new.self) porters _ before (omega arith)),
    )
