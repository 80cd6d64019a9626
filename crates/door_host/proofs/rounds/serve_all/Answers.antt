use Rattle.std.proofs.Common.{◌≡◌, ◌+◌, ◌≤◌, ℕ, List, [], ◌∷◌, length, refl, sym, ap, ◌∙◌, subst, arith, vec_capacity}
use Rattle.std.specs.Prelude.{All, IfSome}
use Rattle.turn_desk.specs.Histories as histories
use Rattle.turn_desk.specs.Passes.{all_asks}
use Rattle.turn_desk.specs.Turns.{total}
use Rattle.door_host.specs.declared.keepers.Keeper.{Keeper}
use Rattle.door_host.specs.Doors.{kind_of}
use Rattle.door_host.specs.Rounds.{IsWhole, MayLeave, from_last}
use Rattle.door_host.proofs.Leaving.{Works, all_gathered, may_leave, same_asks}
use Rattle.door_host.proofs.Lists.{all_of_last, from_last_length, given_back, zip_length}
use Rattle.door_host.proofs.rounds.serve_all.Goals as goal

pub work_all-requires-clause-out : goal.work_all-requires-clause-out
work_all-requires-clause-out g c κs within =
    let K : Type 0 = Keeper g.row.D.Denot g.row.L.Denot in
    let Out : g.row.D.Denot → Type 0 = λ door. IfSome (g.D.Listener.back door) (λ visits. length visits ≤ g.D.Listener.given door) in
    subst (All (λ (k : K). Out k.door)) (sym c.as_mut_slice.ensures.value)
    (all_of_last (λ (k : K). k.door) Out c.seat_workers-keepers.result.items (subst (All Out) c.seat_workers-keepers.ensures.doors c.requires.out))

pub unseat_workers-requires-clause-seats : goal.unseat_workers-requires-clause-seats
unseat_workers-requires-clause-seats g c =
    let K : Type 0 = Keeper g.row.D.Denot g.row.L.Denot in
    let back = given_back (Works (kind_of g.D.Listener.stated g.D.Listener.given g.D.Listener.faults g.D.Listener.coming g.D.Listener.back g.D.Conn.Ends.left g.D.Conn.Ends.written) (λ (k : Keeper g.row.D.Denot g.row.L.Denot). k.door) (λ (k : Keeper g.row.D.Denot g.row.L.Denot). k.seated) (λ (k : Keeper g.row.D.Denot g.row.L.Denot). k.end) c.args.service.now c.args.desk.now) c.seat_workers-keepers.result.len c.seat_workers-keepers.result.items c.as_mut_slice.result.now c.work_all.new.keepers c.seat_workers-keepers.result.ok.0 c.as_mut_slice.ensures.value c.work_all.ensures in
    subst (All (λ (k : K). MayLeave c.args.desk.now k.seated)) (sym back.0)
    (may_leave (kind_of g.D.Listener.stated g.D.Listener.given g.D.Listener.faults g.D.Listener.coming g.D.Listener.back g.D.Conn.Ends.left g.D.Conn.Ends.written) (λ (k : Keeper g.row.D.Denot g.row.L.Denot). k.door) (λ (k : Keeper g.row.D.Denot g.row.L.Denot). k.seated) (λ (k : Keeper g.row.D.Denot g.row.L.Denot). k.end) c.args.service.now c.args.desk.now c.seat_workers-keepers.result.items c.work_all.new.keepers c.seat_workers-keepers.ensures.seats back.1)

pub unseat_workers-requires-clause-asks : goal.unseat_workers-requires-clause-asks
unseat_workers-requires-clause-asks g c =
    let K : Type 0 = Keeper g.row.D.Denot g.row.L.Denot in
    let back = given_back (Works (kind_of g.D.Listener.stated g.D.Listener.given g.D.Listener.faults g.D.Listener.coming g.D.Listener.back g.D.Conn.Ends.left g.D.Conn.Ends.written) (λ (k : Keeper g.row.D.Denot g.row.L.Denot). k.door) (λ (k : Keeper g.row.D.Denot g.row.L.Denot). k.seated) (λ (k : Keeper g.row.D.Denot g.row.L.Denot). k.end) c.args.service.now c.args.desk.now) c.seat_workers-keepers.result.len c.seat_workers-keepers.result.items c.as_mut_slice.result.now c.work_all.new.keepers c.seat_workers-keepers.result.ok.0 c.as_mut_slice.ensures.value c.work_all.ensures in
    let same = same_asks (kind_of g.D.Listener.stated g.D.Listener.given g.D.Listener.faults g.D.Listener.coming g.D.Listener.back g.D.Conn.Ends.left g.D.Conn.Ends.written) (λ (k : Keeper g.row.D.Denot g.row.L.Denot). k.door) (λ (k : Keeper g.row.D.Denot g.row.L.Denot). k.seated) (λ (k : Keeper g.row.D.Denot g.row.L.Denot). k.end) c.args.service.now c.args.desk.now c.seat_workers-keepers.result.items c.work_all.new.keepers back.1 in
    let first = all_asks c.seat_workers-keepers.new.pass in
    ap (λ (l : List K). first + total (λ (k : K). all_asks k.seated.pass) l) back.0 ∙ (ap (λ (n : ℕ). first + n) same ∙ c.seat_workers-keepers.ensures.asks)

pub unseat_workers-requires-clause-doors : goal.unseat_workers-requires-clause-doors
unseat_workers-requires-clause-doors g c =
    let K : Type 0 = Keeper g.row.D.Denot g.row.L.Denot in
    let back = given_back (Works (kind_of g.D.Listener.stated g.D.Listener.given g.D.Listener.faults g.D.Listener.coming g.D.Listener.back g.D.Conn.Ends.left g.D.Conn.Ends.written) (λ (k : Keeper g.row.D.Denot g.row.L.Denot). k.door) (λ (k : Keeper g.row.D.Denot g.row.L.Denot). k.seated) (λ (k : Keeper g.row.D.Denot g.row.L.Denot). k.end) c.args.service.now c.args.desk.now) c.seat_workers-keepers.result.len c.seat_workers-keepers.result.items c.as_mut_slice.result.now c.work_all.new.keepers c.seat_workers-keepers.result.ok.0 c.as_mut_slice.ensures.value c.work_all.ensures in
    let long = zip_length (Works (kind_of g.D.Listener.stated g.D.Listener.given g.D.Listener.faults g.D.Listener.coming g.D.Listener.back g.D.Conn.Ends.left g.D.Conn.Ends.written) (λ (k : Keeper g.row.D.Denot g.row.L.Denot). k.door) (λ (k : Keeper g.row.D.Denot g.row.L.Denot). k.seated) (λ (k : Keeper g.row.D.Denot g.row.L.Denot). k.end) c.args.service.now c.args.desk.now) c.seat_workers-keepers.result.items c.work_all.new.keepers back.1 in
    let all = ap length c.seat_workers-keepers.ensures.doors in
    let many = from_last_length (λ (k : K). k.door) c.seat_workers-keepers.result.items in
    let room = c.seat_workers-keepers.ensures.room in
    (c.seat_workers-keepers.ensures.none, subst (λ (l : List K). length l ≤ vec_capacity c.seat_workers-keepers.new.doors) (sym back.0) (omega arith))

pub unseat_workers-requires-clause-ends : goal.unseat_workers-requires-clause-ends
unseat_workers-requires-clause-ends g c =
    let K : Type 0 = Keeper g.row.D.Denot g.row.L.Denot in
    let back = given_back (Works (kind_of g.D.Listener.stated g.D.Listener.given g.D.Listener.faults g.D.Listener.coming g.D.Listener.back g.D.Conn.Ends.left g.D.Conn.Ends.written) (λ (k : Keeper g.row.D.Denot g.row.L.Denot). k.door) (λ (k : Keeper g.row.D.Denot g.row.L.Denot). k.seated) (λ (k : Keeper g.row.D.Denot g.row.L.Denot). k.end) c.args.service.now c.args.desk.now) c.seat_workers-keepers.result.len c.seat_workers-keepers.result.items c.as_mut_slice.result.now c.work_all.new.keepers c.seat_workers-keepers.result.ok.0 c.as_mut_slice.ensures.value c.work_all.ensures in
    let long = zip_length (Works (kind_of g.D.Listener.stated g.D.Listener.given g.D.Listener.faults g.D.Listener.coming g.D.Listener.back g.D.Conn.Ends.left g.D.Conn.Ends.written) (λ (k : Keeper g.row.D.Denot g.row.L.Denot). k.door) (λ (k : Keeper g.row.D.Denot g.row.L.Denot). k.seated) (λ (k : Keeper g.row.D.Denot g.row.L.Denot). k.end) c.args.service.now c.args.desk.now) c.seat_workers-keepers.result.items c.work_all.new.keepers back.1 in
    let all = ap length c.seat_workers-keepers.ensures.doors in
    let many = from_last_length (λ (k : K). k.door) c.seat_workers-keepers.result.items in
    let room = c.requires.ends.1 in
    (c.requires.ends.0, subst (λ (l : List K). length l ≤ vec_capacity c.args.ends) (sym back.0) (omega arith))

pub returns : goal.returns
returns g c =
    let K : Type 0 = Keeper g.row.D.Denot g.row.L.Denot in
    let back = given_back (Works (kind_of g.D.Listener.stated g.D.Listener.given g.D.Listener.faults g.D.Listener.coming g.D.Listener.back g.D.Conn.Ends.left g.D.Conn.Ends.written) (λ (k : Keeper g.row.D.Denot g.row.L.Denot). k.door) (λ (k : Keeper g.row.D.Denot g.row.L.Denot). k.seated) (λ (k : Keeper g.row.D.Denot g.row.L.Denot). k.end) c.args.service.now c.args.desk.now) c.seat_workers-keepers.result.len c.seat_workers-keepers.result.items c.as_mut_slice.result.now c.work_all.new.keepers c.seat_workers-keepers.result.ok.0 c.as_mut_slice.ensures.value c.work_all.ensures in
    let left = c.unseat_workers.ensures in
    let pass = c.unseat_workers.result.pass in
    all_gathered (kind_of g.D.Listener.stated g.D.Listener.given g.D.Listener.faults g.D.Listener.coming g.D.Listener.back g.D.Conn.Ends.left g.D.Conn.Ends.written) (λ (k : Keeper g.row.D.Denot g.row.L.Denot). k.door) (λ (k : Keeper g.row.D.Denot g.row.L.Denot). k.seated) (λ (k : Keeper g.row.D.Denot g.row.L.Denot). k.end) c.args.service.now c.args.desk.now
    pass c.unseat_workers.result.entries c.args.doors.now.items c.unseat_workers.new.doors.items c.unseat_workers.result.ends.items
    c.seat_workers-keepers.result.items c.work_all.new.keepers c.requires.begun c.seat_workers-keepers.ensures.seats back.1
    (subst (All (λ (k : K). histories.GoesOn k.seated.pass.seen (k.seated.pass.number ∷ []) pass.seen)) back.0 left.history)
    c.seat_workers-keepers.ensures.doors
    (left.doors ∙ ap (from_last (λ (k : K). k.door)) back.0)
    (left.ends ∙ ap (from_last (λ (k : K). k.end)) back.0)
    (subst (λ (l : List K). IsWhole c.args.desk.now pass (from_last (λ (k : K). k.seated.pass.number) l)) back.0 left.whole)
    (left.entries ∙ ap (total (λ (k : K). k.seated.made)) back.0)
