use Rattle.std.proofs.Common.{◌≡◌, ◌≤◌, ℕ, List, length, sym, ap, ◌∙◌, subst, arith, vec_capacity}
use Rattle.std.specs.Prelude.{All, IfSome}
use Rattle.door_host.specs.declared.porters.Porter.{Porter}
use Rattle.door_host.specs.Doors.{kind_of}
use Rattle.door_host.specs.Rounds.{from_last}
use Rattle.door_host.proofs.Lists.{all_of_last, from_last_length, given_back, zip_length}
use Rattle.door_host.proofs.Numbering.{Resolves, resolved_there}
use Rattle.door_host.proofs.resolvers.resolve_all.Goals as goal

pub resolve_each-requires-clause-out : goal.resolve_each-requires-clause-out
resolve_each-requires-clause-out g c κs within =
    let P : Type 0 = Porter g.row.D.Denot in
    let Out : g.row.D.Denot → Type 0 = λ door. IfSome (g.D.Listener.back door) (λ visits. length visits ≤ g.D.Listener.given door) in
    subst (All (λ (p : P). Out p.door)) (sym c.as_mut_slice.ensures.value)
    (all_of_last (λ (p : P). p.door) Out c.seat_porters-porters.result.items (subst (All Out) c.seat_porters-porters.ensures.doors c.requires.out))

pub unseat_porters-requires-clause-doors : goal.unseat_porters-requires-clause-doors
unseat_porters-requires-clause-doors g c =
    let P : Type 0 = Porter g.row.D.Denot in
    let R : P → P → Type 0 = Resolves (kind_of g.D.Listener.stated g.D.Listener.given g.D.Listener.faults g.D.Listener.coming g.D.Listener.back g.D.Conn.Ends.left g.D.Conn.Ends.written) (λ (p : P). p.door) (λ (p : P). p.number) (λ (p : P). p.end) c.args.registry.now in
    let back = given_back R c.seat_porters-porters.result.len c.seat_porters-porters.result.items c.as_mut_slice.result.now c.resolve_each.new.porters c.seat_porters-porters.result.ok.0 c.as_mut_slice.ensures.value c.resolve_each.ensures in
    let long = zip_length R c.seat_porters-porters.result.items c.resolve_each.new.porters back.1 in
    let all = ap length c.seat_porters-porters.ensures.doors in
    let many = from_last_length (λ (p : P). p.door) c.seat_porters-porters.result.items in
    let room = c.seat_porters-porters.ensures.room in
    (c.seat_porters-porters.ensures.none, subst (λ (l : List P). length l ≤ vec_capacity c.seat_porters-porters.new.doors) (sym back.0) (omega arith))

pub unseat_porters-requires-clause-ends : goal.unseat_porters-requires-clause-ends
unseat_porters-requires-clause-ends g c =
    let P : Type 0 = Porter g.row.D.Denot in
    let R : P → P → Type 0 = Resolves (kind_of g.D.Listener.stated g.D.Listener.given g.D.Listener.faults g.D.Listener.coming g.D.Listener.back g.D.Conn.Ends.left g.D.Conn.Ends.written) (λ (p : P). p.door) (λ (p : P). p.number) (λ (p : P). p.end) c.args.registry.now in
    let back = given_back R c.seat_porters-porters.result.len c.seat_porters-porters.result.items c.as_mut_slice.result.now c.resolve_each.new.porters c.seat_porters-porters.result.ok.0 c.as_mut_slice.ensures.value c.resolve_each.ensures in
    let long = zip_length R c.seat_porters-porters.result.items c.resolve_each.new.porters back.1 in
    let all = ap length c.seat_porters-porters.ensures.doors in
    let many = from_last_length (λ (p : P). p.door) c.seat_porters-porters.result.items in
    let room = c.requires.ends.1 in
    (c.requires.ends.0, subst (λ (l : List P). length l ≤ vec_capacity c.args.ends) (sym back.0) (omega arith))

pub returns : goal.returns
returns g c =
    let P : Type 0 = Porter g.row.D.Denot in
    let kind = kind_of g.D.Listener.stated g.D.Listener.given g.D.Listener.faults g.D.Listener.coming g.D.Listener.back g.D.Conn.Ends.left g.D.Conn.Ends.written in
    let R : P → P → Type 0 = Resolves kind (λ (p : P). p.door) (λ (p : P). p.number) (λ (p : P). p.end) c.args.registry.now in
    let back = given_back R c.seat_porters-porters.result.len c.seat_porters-porters.result.items c.as_mut_slice.result.now c.resolve_each.new.porters c.seat_porters-porters.result.ok.0 c.as_mut_slice.ensures.value c.resolve_each.ensures in
    let left = c.unseat_porters.ensures in
    resolved_there kind (λ (p : P). p.door) (λ (p : P). p.number) (λ (p : P). p.end) c.args.registry.now
    c.args.doors.now.items c.unseat_porters.new.doors.items c.unseat_porters.result.items
    c.seat_porters-porters.result.items c.resolve_each.new.porters c.seat_porters-porters.ensures.numbers back.1
    c.seat_porters-porters.ensures.doors
    (left.doors ∙ ap (from_last (λ (p : P). p.door)) back.0)
    (left.ends ∙ ap (from_last (λ (p : P). p.end)) back.0)
