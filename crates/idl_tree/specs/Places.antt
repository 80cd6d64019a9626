-- What an index of names tells: the place of the first member with each name.
use Rattle.std.specs.Prelude.{◌≡◌, ℕ, Bool, false, ◌==◌, List, Option, Some, None, is_some}
use Rattle.std.specs.List.{position_from}
use Rattle.std.specs.declared.alloc.Global.{Global}
use Rattle.std.specs.declared.string.String.{String}
use Rattle.std.specs.BTreeMap.{BTreeMap, get_by_text}
use Rattle.std.specs.BTreeSet.{BTreeSet, contains_by}
use Rattle.std.specs.Borrow.{Bor}
use Rattle.std.specs.Cmp.Lexicographic.{slice_cmp}
use Rattle.std.specs.Ordering.{nat_cmp}
use Rattle.idl_tree.specs.Names.{Bytes}
use Rattle.idl_tree.specs.Faults.{is_named}
use Rattle.idl_tree.specs.declared.places.Index.{Index}
use Rattle.idl_tree.specs.declared.spaces.Space.{Space}
use Rattle.idl_tree.specs.declared.spaces.Space.TheVariants.{Types, Methods, Errors}
use Rattle.idl_tree.specs.declared.trees.Member.{Member}

abbrev pub Places : Type 0
Places = BTreeMap (String Global) ℕ

-- the map has each name of that name space, with the place of the first member of that name
abbrev pub TellsPlaces : Places → Space → List Member → Type 0
TellsPlaces places space members = (name : Bytes) → get_by_text places name ≡ position_from (is_named space name) 0 members

abbrev pub places_in : Index → Space → Places
places_in index Types = index.types
places_in index Methods = index.methods
places_in index Errors = index.errors

-- so do the three maps of an index
abbrev pub Tells : Index → List Member → Type 0
Tells index members = (space : Space) → TellsPlaces (places_in index space) space members

-- the names that are types
abbrev pub is_type : Index → Bytes → Bool
is_type index name = is_some (get_by_text index.types name)

-- whether that is the place
abbrev pub is_place : Option ℕ → ℕ → Bool
is_place None place = false
is_place (Some first) place = first == place

-- whether a set of texts has that one
abbrev pub has_name : BTreeSet (Bor Bytes) → Bytes → Bool
has_name names name = contains_by (λ other. slice_cmp nat_cmp name other.now) names
