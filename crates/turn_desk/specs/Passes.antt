-- A desk and a pass as contracts see them.
use Rattle.std.specs.Prelude.{◌≡◌, ℕ, ◌+◌, ◌-◌, ◌^◌, List, [], ◌∷◌, ◌++◌, Option, Some}
use Rattle.atomic_table.specs.Seated.{TableId}
use Rattle.turn_desk.specs.declared.objects.Entry.{Entry}
use Rattle.turn_desk.specs.Histories.{requests_of, longer}

-- which desk it is, the object that it was started with, and the most that its history may weigh
pub record DeskView (O : Type 0) : Type 0 where
  pub table : TableId
  pub start : O
  pub limit : ℕ

-- which desk the pass is of, the object that this desk was started with, the number of the pass,
-- the numbers of the passes joined into it, the asks left and spent, and the history that it has seen
pub record PassView (O R : Type 0) : Type 0 where
  pub table : TableId
  pub start : Option O
  pub number : ℕ
  pub joined : List ℕ
  pub left : ℕ
  pub asked : ℕ
  pub seen : List (Entry R)

-- the pass is of this desk
abbrev pub IsOf : {O R : Type 0} → DeskView O → PassView O R → Type 0
IsOf desk pass = (pass.table ≡ desk.table) × (pass.start ≡ Some desk.start)

-- the numbers that a pass carries: its own, and those of the passes joined into it
abbrev pub carried : {O R : Type 0} → PassView O R → List ℕ
carried pass = pass.number ∷ pass.joined

-- the asks of a pass, left and spent
abbrev pub all_asks : {O R : Type 0} → PassView O R → ℕ
all_asks pass = pass.left + pass.asked

-- what the pass has asked under its own number, in order
abbrev pub own_requests : {O R : Type 0} → PassView O R → List R
own_requests pass = requests_of pass.number pass.seen

-- all but the asks and the history is the same
abbrev pub IsSamePass : {O R : Type 0} → PassView O R → PassView O R → Type 0
IsSamePass before after =
    (after.table ≡ before.table)
    × (after.start ≡ before.start)
    × (after.number ≡ before.number)
    × (after.joined ≡ before.joined)

-- the pass that a desk begins with
abbrev pub first_pass : {O R : Type 0} → DeskView O → PassView O R
first_pass desk = record {
  table = desk.table;
  start = Some desk.start;
  number = 0;
  joined = [];
  left = 2 ^ 62;
  asked = 0;
  seen = [];
}

-- what a split leaves of a pass that hands so many asks on
abbrev pub split_off : {O R : Type 0} → ℕ → PassView O R → PassView O R
split_off asks pass = record pass { left = pass.left - (asks + 1); asked = pass.asked + 1 }

-- the pass that a split makes, with this number
abbrev pub split_to : {O R : Type 0} → ℕ → ℕ → PassView O R → PassView O R
split_to number asks pass = record pass { number = number; joined = []; left = asks; asked = 0 }

-- a pass with another one joined into it
abbrev pub united : {O R : Type 0} → PassView O R → PassView O R → PassView O R
united pass other = record pass {
  joined = pass.joined ++ carried other;
  left = pass.left + other.left;
  asked = pass.asked + other.asked;
  seen = longer pass.seen other.seen;
}
