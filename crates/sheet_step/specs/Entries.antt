-- Where keys stand among the entries of a map.
use Rattle.std.specs.Prelude.{◌≡◌, ℕ, ◌<◌, ◌≤◌, List, length, Option, Some, None, option_map, slice_get, slice_set}
use Rattle.std.specs.List.{insert, remove}
use Rattle.idl_tree.specs.Names.{Bytes}
use Rattle.typed_value.specs.declared.vals.Val.{Val}
use Rattle.sheet_step.specs.Registers.{with_entry, without_entry}
use Rattle.sheet_step.specs.declared.entries.Spot.{Spot}
use Rattle.sheet_step.specs.declared.entries.Spot.TheVariants.{At, Before}

-- the entry at a place has the key, and a value at the key takes its place
pub record IsAt (key : Bytes) (entries : List (Bytes × Val)) (place : ℕ) : Type 0 where
  pub here : option_map (λ (entry : Bytes × Val). entry.0) (slice_get entries place) ≡ Some key
  pub with_it : (v : Val) → with_entry key v entries ≡ slice_set entries place (key, v)

-- no entry has the key, and one with it stands before the entry at a place
pub record IsBefore (key : Bytes) (entries : List (Bytes × Val)) (place : ℕ) : Type 0 where
  pub within : place ≤ length entries
  pub with_it : (v : Val) → with_entry key v entries ≡ insert entries place (key, v)

abbrev pub IsSpot : Bytes → List (Bytes × Val) → Spot → Type 0
IsSpot key entries (At place) = IsAt key entries place
IsSpot key entries (Before place) = IsBefore key entries place

-- the first entry with the key, or none
abbrev pub IsFound : Bytes → List (Bytes × Val) → Option ℕ → Type 0
IsFound key entries (Some place) = (place < length entries) × (without_entry key entries ≡ remove entries place)
IsFound key entries None = without_entry key entries ≡ entries
