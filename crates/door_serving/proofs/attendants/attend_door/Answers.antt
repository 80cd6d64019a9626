use Rattle.std.proofs.Common.{◌≡◌, ◌≢◌, ◌+◌, ◌<◌, List, length, Option, Some, refl, sym, ap, ◌∙◌, subst, arith}
use Rattle.std.specs.Prelude.{IfSome}
use Rattle.link_doors.specs.Accepts.{Takes}
use Rattle.link_doors.specs.Visits.{Visit}
use Rattle.door_serving.specs.Attended.{AttendedAndBack}
use Rattle.door_serving.proofs.Attending.{SoFar, none_yet, one_more, still_out, match_some}
use Rattle.door_serving.proofs.attendants.attend_door.Goals as goal

pub loop-connections-init : goal.loop-connections-init
loop-connections-init g c = (
  none_yet g.A.Attendant.attends g.D.Conn.Ends.left g.D.Conn.Ends.written c.args.attendant.now (g.D.Listener.coming c.args.door.now) (g.D.Listener.back c.args.door.now),
  omega arith,
  refl,
  refl,
  g.met.A.Attendant.same_self c.args.attendant.now,
)

pub attend_one-requires-clause-out : goal.attend_one-requires-clause-out
attend_one-requires-clause-out g c =
    let door = g.D.Listener in
    let before = c.loop-connections.door in
    let after = c.accept.new.self in
    let kept = c.loop-connections.invariant in
    let number : (door.stated before ≢ Some (door.given before)) × (door.given after ≡ door.given before + 1) =
    match_some c.in-Ok-Some.field-0 c.in-Ok-Some.conn _ (λ conn. (door.stated before ≢ Some (door.given before)) × (door.given after ≡ door.given before + 1))
    c.in-Ok-Some.field-0-is c.in-Ok-Some.ensures.number in
    let so_far = kept.1 in
    let one = number.1 in
    let sum : door.given after ≡ (door.given c.args.door.now + c.loop-connections.connections) + 1 = one ∙ ap (λ n. n + 1) so_far in
    let out = still_out g.A.Attendant.attends g.D.Conn.Ends.left g.D.Conn.Ends.written c.args.attendant.now c.loop-connections.attendant
    (door.coming c.args.door.now) (door.coming before) (door.back c.args.door.now) (door.back before) c.loop-connections.connections
    (door.given c.args.door.now) (door.given after) kept.0 c.requires.out sum in
    subst (λ (o : Option (List Visit)). IfSome o (λ visits. length visits < door.given after)) (sym c.accept.ensures.back) out

pub loop-connections-preserved : goal.loop-connections-preserved
loop-connections-preserved g c =
    let door = g.D.Listener in
    let before = c.loop-connections.door in
    let given = c.accept.new.self in
    let after = c.attend_one.new.door in
    let kept = c.loop-connections.invariant in
    let told = c.attend_one.ensures in
    let conn = c.in-Ok-Some.conn in
    let number : (door.stated before ≢ Some (door.given before)) × (door.given given ≡ door.given before + 1) =
    match_some c.in-Ok-Some.field-0 conn _ (λ conn. (door.stated before ≢ Some (door.given before)) × (door.given given ≡ door.given before + 1))
    c.in-Ok-Some.field-0-is c.in-Ok-Some.ensures.number in
    let next : IfSome (door.coming before) (λ all. Takes all (door.coming given) (Some conn)) =
    subst (λ (o : Option g.row.D-Conn.Denot). IfSome (door.coming before) (λ all. Takes all (door.coming given) o)) c.in-Ok-Some.field-0-is c.in-Ok-Some.ensures.first in
    let attended = subst
    (λ (o : Option (List Visit)). AttendedAndBack g.A.Attendant.attends c.loop-connections.attendant c.attend_one.new.attendant
    (g.D.Conn.Ends.left conn) (g.D.Conn.Ends.written conn) o (door.back after))
    c.accept.ensures.back told.back in
    let more = one_more g.A.Attendant.attends g.D.Conn.Ends.left g.D.Conn.Ends.written c.args.attendant.now c.loop-connections.attendant c.attend_one.new.attendant
    (door.coming c.args.door.now) (door.coming before) (door.coming given) (door.back c.args.door.now) (door.back before) (door.back after)
    c.loop-connections.connections conn kept.0 next attended in
    let sum = kept.1 in
    let one = number.1 in
    let same = told.given in (
      subst
          (λ (o : Option (List g.row.D-Conn.Denot)). SoFar g.A.Attendant.attends g.D.Conn.Ends.left g.D.Conn.Ends.written c.args.attendant.now c.attend_one.new.attendant
          (door.coming c.args.door.now) o (door.back c.args.door.now) (door.back after) (c.loop-connections.connections + 1))
          (sym told.coming) more,
      omega arith,
      told.stated ∙ (c.accept.ensures.stated ∙ kept.2),
      told.faults ∙ (c.in-Ok-Some.ensures.sound ∙ kept.3),
      g.met.A.Attendant.same_on c.args.attendant.now c.loop-connections.attendant c.attend_one.new.attendant kept.4 told.same,
    )
