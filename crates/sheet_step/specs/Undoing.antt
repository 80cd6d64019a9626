-- What undoes a change of a register.
use Rattle.std.specs.Prelude.{◌≡◌, ℕ, ◌-◌, nat_le, nat_lt, nat_eq, true, false, ◌&&◌, List, [], ◌∷◌, take, length, Option, Some, None, option_map, slice_get, slice_set, if◌then◌else◌, vec_capacity}
use Rattle.std.specs.List.{insert, remove}
use Rattle.idl_tree.specs.Names.{Bytes}
use Rattle.typed_value.specs.declared.vals.Val.{Val}
use Rattle.typed_value.specs.declared.vals.Val.TheVariants as val
use Rattle.rule_values.specs.Parts.{items_of, entries_of}
use Rattle.rule_values.specs.Meanings.{◌>>=◌}
use Rattle.sheet_step.specs.Registers.{Change, replaced, pushed, put, dropped, changed}
use Rattle.sheet_step.specs.declared.deeds.Deed.{Deed}
use Rattle.sheet_step.specs.declared.deeds.Deed.TheVariants as deed
use Rattle.sheet_step.specs.declared.backs.Back.{Back}
use Rattle.sheet_step.specs.declared.backs.Back.TheVariants as back
use Rattle.sheet_step.specs.declared.backs.Undo.{Undo}
use Rattle.sheet_step.specs.declared.backs.Act.{Act}
use Rattle.sheet_step.specs.Levels.{is_within, are_within}

-- what a step whose values are made does to its register
abbrev pub change_of : Deed → Change
change_of (deed.Set v) = replaced v
change_of (deed.Push v) = pushed v
change_of (deed.Put key v) = put key v
change_of (deed.Drop key) = dropped key

-- the entries of a map after a change of them is undone: one has its old value, one goes, or one comes back, for which
-- there is room
abbrev pub entries_turned : Back → List (Bytes × Val) → Option (List (Bytes × Val))
entries_turned (back.Restore place old) entries =
    option_map (λ (entry : Bytes × Val). slice_set entries place (entry.0, old)) (slice_get entries place)
entries_turned (back.Remove place) entries = option_map (λ (entry : Bytes × Val). remove entries place) (slice_get entries place)
entries_turned (back.Insert place entry room) entries =
    if nat_eq (length room.items) 0 && (nat_le place (length entries) && nat_lt (length entries) (vec_capacity room))
    then Some (insert entries place entry) else None
entries_turned back.Same entries = Some entries
entries_turned x entries = None

-- a register's value after a change of it is undone
abbrev pub popped : Change
popped v = option_map (λ items. val.Items (take (length items - 1) items)) (items_of v)

abbrev pub map_turned : Back → Change
map_turned x v = option_map val.Map (entries_of v >>= entries_turned x)

abbrev pub turned : Back → Change
turned (back.Set old) v = Some old
turned back.Pop v = popped v
turned x v = map_turned x v

abbrev pub undone : Undo → List Val → Option (List Val)
undone undo rs = changed undo.place (turned undo.back) rs

-- the registers after all is undone, the last change first
abbrev pub all_undone : List Undo → List Val → Option (List Val)
all_undone [] rs = Some rs
all_undone (undo ∷ undos) rs = do
  later ← all_undone undos rs
  undone undo later

-- a register's value is changed, and what undoes it gives the old one back
pub record Turns (change : Change) (old new : Val) (x : Back) : Type 0 where
  pub done : change old ≡ Some new
  pub back : turned x new ≡ Some old

-- the same of a map's entries
pub record TurnsEntries (after old new : List (Bytes × Val)) (x : Back) : Type 0 where
  pub done : new ≡ after
  pub back : entries_turned x new ≡ Some old

-- and of the registers: the others stay, and by what was put in it is known whether the levels of this one are within
pub record IsDone (after : Option (List Val)) (before now : List Val) (act : Act) : Type 0 where
  pub done : after ≡ Some now
  pub back : undone act.undo now ≡ Some before
  pub small : act.small ≡ true → are_within before ≡ true → are_within now ≡ true
  pub deep : act.small ≡ false → option_map is_within (slice_get now act.undo.place) ≡ Some false
  pub others : (place : ℕ) → (place ≡ act.undo.place → ⊥) → slice_get now place ≡ slice_get before place

-- the entry at a place has another value, with its key, and the old one can be put back
abbrev pub ReplacesAt : List (Bytes × Val) → List (Bytes × Val) → ℕ → Val → Back → Type 0
ReplacesAt old new place v x = (key : Bytes) → option_map (λ (entry : Bytes × Val). entry.0) (slice_get old place) ≡ Some key
    → TurnsEntries (slice_set old place (key, v)) old new x
