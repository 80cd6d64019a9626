use Rattle.std.proofs.Common.{rules, ◌≡◌, ℕ, ◌+◌, ◌*◌, ◌<◌, ◌≤◌, ◌^◌, List, [], ◌∷◌, ◌++◌, refl, sym, ap, ◌∙◌, subst, arith, append_assoc}
use Rattle.std.proofs.lemmas.List.Elements.{All-push, All-same}
use Rattle.turn_desk.specs.Passes.{PassView, all_asks}
use Rattle.turn_desk.specs.Turns.{total}
use Rattle.turn_desk.proofs.Lists.{total_snoc}
use Rattle.service_core.specs.declared.requests.Request.{Request}
use Rattle.service_core.specs.States.{State}
use Rattle.service_desk.specs.Seats.{Seat}
use Rattle.door_host.specs.declared.keepers.Keeper.{Keeper}
use Rattle.door_host.specs.Rounds.{IsSeated, from_last}
use Rattle.door_host.proofs.Lists.{above_first, from_last_push}
use Rattle.door_host.proofs.rounds.seat_workers.Goals as goal

pub loop-door-preserved : goal.loop-door-preserved
loop-door-preserved g c =
    let K : Type 0 = Keeper g.row.D.Denot g.row.L.Denot in
    let kept = c.loop-door.invariant in
    let next : c.loop-door.doors.items ≡ c.pop.new.self.items ++ c.in-Some.door ∷ [] = c.in-Some.ensures.items in
    let keepers = c.loop-door.keepers.items in
    let pushed = c.push_reserved.ensures.items in
    let given = c.split-mine.ensures.given in
    let left = c.split-mine.ensures.kept in
    let seat = c.new.ensures in
    let number = ap (λ (s : Seat). s.pass.number) seat in
    let above : 0 < c.split-mine.result.number = above_first c.loop-door.pass.number c.split-mine.result.number c.loop-door.pass.joined kept.3.1 c.split-mine.ensures.other in
    let seated : IsSeated c.args.service.now c.args.desk.now c.new.result = record {
      sheet_is = ap (λ (s : Seat). s.sheet) seat;
      desk_is = ap (λ (s : Seat). s.desk) seat;
      of_desk = (
        ap (λ (s : Seat). s.pass.table) seat ∙ (ap (λ (p : PassView State Request). p.table) given ∙ kept.3.0.0),
        ap (λ (s : Seat). s.pass.start) seat ∙ (ap (λ (p : PassView State Request). p.start) given ∙ kept.3.0.1),
      );
      above = subst (λ (n : ℕ). 0 < n) (sym number) above;
      below = subst (λ (n : ℕ). n ≤ 2 ^ 62) (sym number) c.split-mine.ensures.number;
      joined = ap (λ (s : Seat). s.pass.joined) seat ∙ ap (λ (p : PassView State Request). p.joined) given;
      left = ap (λ (s : Seat). s.pass.left) seat ∙ ap (λ (p : PassView State Request). p.left) given;
      asked = ap (λ (s : Seat). s.pass.asked) seat ∙ ap (λ (p : PassView State Request). p.asked) given;
      seen = ap (λ (s : Seat). s.pass.seen) seat ∙ (ap (λ (p : PassView State Request). p.seen) given ∙ kept.3.3);
      made = ap (λ (s : Seat). s.made) seat;
    } in
    let one_less = c.in-Some.ensures.cases in
    let one_more = c.push_reserved.ensures.len in
    let old_room = kept.1 in
    let same_room = c.pop.ensures.capacity in
    let old_seats = kept.2 in
    let same_seats = c.push_reserved.ensures.capacity in
    let old_sum = kept.5 in
    let old_left = kept.6 in
    let left_now = ap (λ (p : PassView State Request). p.left) left in
    let asked_now = ap (λ (p : PassView State Request). p.asked) left in
    let mine_left = seated.left in
    let mine_asked = seated.asked in
    let sum = ap (total (λ (k : K). all_asks k.seated.pass)) pushed ∙ total_snoc (λ (k : K). all_asks k.seated.pass) keepers _ in (
      kept.0 ∙ ((λ i. next i ++ from_last (λ (k : K). k.door) keepers) ∙ (append_assoc c.pop.new.self.items (c.in-Some.door ∷ []) (from_last (λ (k : K). k.door) keepers)
          ∙ sym (ap (λ (l : List g.row.D.Denot). c.pop.new.self.items ++ l) (ap (from_last (λ (k : K). k.door)) pushed ∙ from_last_push (λ (k : K). k.door) keepers _)))),
      omega arith,
      omega arith,
      (
        (ap (λ (p : PassView State Request). p.table) left ∙ kept.3.0.0, ap (λ (p : PassView State Request). p.start) left ∙ kept.3.0.1),
        ap (λ (p : PassView State Request). p.number) left ∙ kept.3.1,
        ap (λ (p : PassView State Request). p.joined) left ∙ kept.3.2,
        ap (λ (p : PassView State Request). p.seen) left ∙ kept.3.3,
      ),
      All-same (λ (k : K). IsSeated c.args.service.now c.args.desk.now k.seated) _ _ pushed
          (All-push (λ (k : K). IsSeated c.args.service.now c.args.desk.now k.seated) keepers _ kept.4 seated),
      omega arith,
      omega arith,
    )
