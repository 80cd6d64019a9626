-- A map by texts as plain data, and what the readers of a registry's file find.
use Rattle.std.specs.Prelude.{◌≡◌, ◌++◌, ◌∷◌, [], ℕ, List, map, Result, Ok, Err, String, string_bytes, ⊤}
use Rattle.std.specs.List.{AllByRecursion}
use Rattle.std.specs.Ordering.{nat_cmp}
use Rattle.std.specs.Cmp.Lexicographic.{slice_cmp}
use Rattle.std.specs.declared.cmp.Ordering.TheVariants.{Greater}
use Rattle.std.specs.declared.alloc.Global.{Global}
use Rattle.std.specs.BTreeMap.{BTreeMap}
use Rattle.serde_json.specs.Data.{Data}
use Rattle.serde_json.specs.View.{view}
use Rattle.serde_json.specs.declared.value.Value.{Value}
use Rattle.link_doors.specs.declared.addresses.Address.{Address}
use Rattle.resolver_core.specs.Registries.{Entries}
use Rattle.resolver_core.specs.declared.faults.RegistryFault.{RegistryFault}
use Rattle.resolver_core.specs.declared.faults.RegistryFault.TheVariants.{Memory}

abbrev pub seen : List (String Global × Address) → Entries
seen entries = map (λ (entry : String Global × Address). (string_bytes entry.0, entry.1)) entries

-- a name is behind those of all entries
abbrev pub IsLast : List ℕ → Entries → Type 0
IsLast name entries = AllByRecursion (λ (entry : List ℕ × Address). slice_cmp nat_cmp name entry.0 ≡ Greater) entries

-- want of memory tells nothing, and any other fault is the one that is there
abbrev pub Refuses : {A : Type 0} → Result A RegistryFault → RegistryFault → Type 0
Refuses there Memory = ⊤
Refuses there fault = there ≡ Err fault

-- a JSON value was read as its tree
abbrev pub ReadsTree : Result Data RegistryFault → Result Value RegistryFault → Type 0
ReadsTree there (Ok value) = there ≡ Ok (view value)
ReadsTree there (Err fault) = Refuses there fault

-- the address of a name was read
abbrev pub ReadsAt : List ℕ → Result (List ℕ × Address) RegistryFault → Result Address RegistryFault → Type 0
ReadsAt name there (Ok address) = there ≡ Ok (name, address)
ReadsAt name there (Err fault) = Refuses there fault

-- the entry of a name was put behind the others
abbrev pub Adds : List ℕ → Result (List ℕ × Address) RegistryFault → (old new : Entries) → Result (Unit {0}) RegistryFault → Type 0
Adds name there old new (Ok _) = (address : Address) × (there ≡ Ok (name, address)) × (new ≡ old ++ (name, address) ∷ [])
Adds name there old new (Err fault) = Refuses there fault

-- all entries were read
abbrev pub ReadsEntries : Result Entries RegistryFault → Result (BTreeMap (String Global) Address) RegistryFault → Type 0
ReadsEntries there (Ok entries) = there ≡ Ok (seen entries.entries)
ReadsEntries there (Err fault) = Refuses there fault
