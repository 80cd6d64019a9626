-- the room behind one piece and then another
use Rattle.std.proofs.Common.{◌≡◌, ℕ, ◌+◌, ◌-◌, Bool, true, false, ◌||◌, ◌++◌, not, cond, nat_le, List, Option, Some, None, length, codes, refl, arith}
use Rattle.std.proofs.lemmas.Bool.Decides.{nat_tests}
use Rattle.std.specs.Prelude.{◌==◌}
use Rattle.std.specs.List.{list_any}
use Rattle.std.proofs.lemmas.List.{length-append}
use Rattle.idl_token.specs.Lex.{Bytes}
use Rattle.idl_rules.specs.Canon.{Entry, bracket, flat_entries, is_noted}
use Rattle.idl_print.specs.Room.{room_left, room_behind}

plain_rooms : (m n room : ℕ) → room_left false n (cond (nat_le m room) (Some (room - m)) None) ≡ cond (nat_le (m + n) room) (Some (room - (m + n))) None
plain_rooms m n room = grind (arith, nat_tests)

noted_none : (n : ℕ) (room : Option ℕ) → room_left true n room ≡ None
noted_none n None = refl
noted_none n (Some room) = refl

pub room_both : (a b : Bool) (m n : ℕ) (room : Option ℕ) → room_left b n (room_left a m room) ≡ room_left (a || b) (m + n) room
room_both a b m n None = refl
room_both true b m n (Some room) = refl
room_both false true m n (Some room) = noted_none n (cond (nat_le m room) (Some (room - m)) None)
room_both false false m n (Some room) = plain_rooms m n room

or_false : (a : Bool) → (a || false) ≡ a
or_false true = refl
or_false false = refl

-- the room behind a bracket, piece by piece
pub bracket_room : (entries : List Entry) (ending : List Bytes) (room : Option ℕ)
    → room_left false 1 (room_left (not (length ending == 0)) 0 (room_left (list_any is_noted entries) (length (flat_entries entries)) (room_left false 1 room)))
    ≡ room_behind (bracket entries ending) room
bracket_room entries ending room =
    let flat = flat_entries entries in
    let noted = list_any is_noted entries in
    let size : 1 + length flat + 0 + 1 ≡ length (codes "(" ++ flat ++ codes ")") = omega (arith, length-append flat (codes ")")) in
    rw (
      room_both false noted 1 (length flat) room,
      room_both noted (not (length ending == 0)) (1 + length flat) 0 room,
      room_both (noted || not (length ending == 0)) false (1 + length flat + 0) 1 room,
      or_false (noted || not (length ending == 0)),
      size,
    ) refl
