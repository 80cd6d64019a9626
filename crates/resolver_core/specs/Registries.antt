-- What a registry holds, and how its file is read: a JSON object (RFC 8259) from interface names to the texts of
-- addresses.
use Rattle.std.specs.Prelude.{◌≡◌, ◌==◌, ◌++◌, ◌&&◌, ◌||◌, ℕ, Bool, not, List, [], ◌∷◌, map, length, Option, Some, None, Result, Ok, Err}
use Rattle.std.specs.Prelude.{codes, if◌then◌else◌, option_and_then, ⊤}
use Rattle.std.specs.Str.{bytes_eq}
use Rattle.std.specs.Str.Lossy.{utf8_valid_len}
use Rattle.std.specs.List.Sorted.{IsStrictlySortedBy}
use Rattle.std.specs.Ordering.{nat_cmp}
use Rattle.std.specs.Cmp.Lexicographic.{slice_cmp}
use Rattle.serde_json.specs.Data.{Data, Members, no_members, member}
use Rattle.serde_json.specs.Read.{read}
use Rattle.serde_json.specs.Find.{as_str, as_object}
use Rattle.link_doors.specs.Addresses.{address_of}
use Rattle.link_doors.specs.declared.addresses.Address.{Address}
use Rattle.idl_tree.specs.Names.{is_interface_name}
use Rattle.resolver_core.specs.declared.faults.RegistryFault.{RegistryFault}
use Rattle.resolver_core.specs.declared.faults.RegistryFault.TheVariants.{NotJson, NotObject, BadName, BadAddress, Memory}

infixl 10 ◌>>=◌
abbrev pub ◌>>=◌ : {A B : Type 0} → Result A RegistryFault → (A → Result B RegistryFault) → Result B RegistryFault
(Ok x) >>= f = f x
(Err fault) >>= f = Err fault

-- names of interfaces, each with the address at which the interface is served
abbrev pub Entries : Type 0
Entries = List (List ℕ × Address)

abbrev pub names : Entries → List (List ℕ)
names entries = map (λ (entry : List ℕ × Address). entry.0) entries

-- the address that is registered for a name
abbrev pub address_at : List ℕ → Entries → Option Address
address_at name [] = None
address_at name (entry ∷ entries) = if bytes_eq name entry.0 then Some entry.1 else address_at name entries

-- the names stand in byte order, each once
abbrev pub AreInOrder : List (List ℕ) → Type 0
AreInOrder words = IsStrictlySortedBy (slice_cmp nat_cmp) words

-- the interfaces that the resolver itself has
abbrev pub service_name : List ℕ
service_name = codes "org.varlink.service"

abbrev pub resolver_name : List ℕ
resolver_name = codes "org.varlink.resolver"

abbrev pub is_fixed : List ℕ → Bool
is_fixed name = bytes_eq name service_name || bytes_eq name resolver_name

-- a member of the file: its name is that of an interface, and not one of the resolver's own, and its value is an address
abbrev pub by_address : List ℕ → Option Address → Result (List ℕ × Address) RegistryFault
by_address name (Some address) = Ok (name, address)
by_address name None = Err (BadAddress name)

abbrev pub entry_of : List ℕ → Data → Result (List ℕ × Address) RegistryFault
entry_of name tree =
    if is_interface_name name && not (is_fixed name) then by_address name (option_and_then address_of (as_str tree))
    else Err (BadName name)

-- the members in the order in which an object has them, which is the byte order of their names
abbrev pub entries_of : Members → Result Entries RegistryFault
entries_of no_members = Ok []
entries_of (member name tree members) = do
  entry ← entry_of name tree
  entries ← entries_of members
  Ok (entry ∷ entries)

-- a JSON text is UTF-8
abbrev pub found : Option Data → Result Data RegistryFault
found None = Err NotJson
found (Some tree) = Ok tree

abbrev pub tree_of : List ℕ → Result Data RegistryFault
tree_of text = if utf8_valid_len text == length text then found (read text) else Err NotJson

abbrev pub object_in : Option Members → Result Members RegistryFault
object_in None = Err NotObject
object_in (Some members) = Ok members

abbrev pub members_in : Data → Result Members RegistryFault
members_in tree = object_in (as_object tree)

abbrev pub entries_in : Data → Result Entries RegistryFault
entries_in tree = do
  members ← members_in tree
  entries_of members

-- the registry that a text is, or the first condition that fails
unfoldable pub registry_of : List ℕ → Result Entries RegistryFault
registry_of text = do
  tree ← tree_of text
  entries_in tree

-- what was read is what the definition has; each refusal is the definition's, and want of memory tells nothing
abbrev pub Reads : {A : Type 0} → Result A RegistryFault → Result A RegistryFault → Type 0
Reads there (Ok x) = there ≡ Ok x
Reads there (Err Memory) = ⊤
Reads there (Err fault) = there ≡ Err fault

-- how a fault is told
abbrev pub fault_text : RegistryFault → List ℕ
fault_text NotJson = codes "not JSON"
fault_text NotObject = codes "not an object"
fault_text (BadName name) = codes "bad name " ++ name
fault_text (BadAddress name) = codes "bad address of " ++ name
fault_text Memory = codes "out of memory"
