-- Entries that are read one after another from the members of an object.
use Rattle.std.proofs.Common.{◌≡◌, ℕ, List, [], ◌∷◌, ◌++◌, Result, Ok, Err, String, Global, string_bytes, IsUtf8, refl, sym, ap, ◌∙◌, subst, append_assoc, append-nil, nat_cmp, Less, Greater}
use Rattle.std.specs.List.{AllByRecursion}
use Rattle.std.specs.List.Sorted.{IsStrictlySortedBy}
use Rattle.std.specs.Map.{keys_of, lookup}
use Rattle.std.specs.BTreeMap.{insert_entry, is_at}
use Rattle.std.specs.Ordering.{ordering_reverse}
use Rattle.std.specs.Cmp.Lexicographic.{slice_cmp}
use Rattle.std.specs.String.{string_cmp}
use Rattle.std.proofs.lemmas.Bool.{eq-eqb}
use Rattle.std.proofs.lemmas.Cmp.{nat_list_cmp_total}
use Rattle.std.proofs.lemmas.Map.Text.{is_eq-slice_cmp}
use Rattle.std.proofs.lemmas.Str.{utf8_valid_len-IsUtf8}
use Rattle.serde_json.specs.Data.{Data}
use Rattle.serde_json.specs.Read.{read}
use Rattle.serde_json.specs.View.{view, members_view}
use Rattle.serde_json.proofs.Views.{Entry}
use Rattle.link_doors.specs.declared.addresses.Address.{Address}
use Rattle.resolver_core.specs.Registries.{Entries, names, address_at, AreInOrder, entry_of, entries_of, found, tree_of, entries_in, registry_of, ◌>>=◌}
use Rattle.resolver_core.specs.Held.{seen, IsLast, Refuses}
use Rattle.resolver_core.specs.declared.faults.RegistryFault.{RegistryFault}
use Rattle.resolver_core.specs.declared.faults.RegistryFault.TheVariants.{NotJson, NotObject, BadName, BadAddress, Memory}

abbrev Held : Type 0
Held = List (String Global × Address)

-- a look-up in the map is one in its entries
pub lookup_is : (name : List ℕ) (entries : Held)
    → lookup (is_at (λ (key : String Global). slice_cmp nat_cmp name (string_bytes key))) entries ≡ address_at name (seen entries)
lookup_is name [] = refl
lookup_is name (e ∷ entries) = rw (is_eq-slice_cmp name (string_bytes e.0), lookup_is name entries) refl

-- what is put behind all others goes last
pub insert_is : (entries : Held) (key : String Global) (address : Address) → IsLast (string_bytes key) (seen entries)
    → seen (insert_entry string_cmp entries key address) ≡ seen entries ++ (string_bytes key, address) ∷ []
insert_is [] key address last = refl
insert_is (e ∷ entries) key address last =
    rw last.0 (ap (λ (l : Entries). (string_bytes e.0, e.1) ∷ l) (insert_is entries key address last.1))

pub insert_named : (entries : Held) (key : String Global) (name : List ℕ) (address : Address) → string_bytes key ≡ name
    → IsLast name (seen entries) → seen (insert_entry string_cmp entries key address) ≡ seen entries ++ (name, address) ∷ []
insert_named entries key name address is last =
    insert_is entries key address (subst (λ (n : List ℕ). IsLast n (seen entries)) (sym is) last)
    ∙ ap (λ (n : List ℕ). seen entries ++ (n, address) ∷ []) is

-- the names of a map are in order
names_behind : (key : String Global) (entries : Held) → AllByRecursion (λ y. string_cmp key y ≡ Less) (keys_of entries)
    → AllByRecursion (λ y. slice_cmp nat_cmp (string_bytes key) y ≡ Less) (names (seen entries))
names_behind key [] h = tt
names_behind key (e ∷ entries) h = (h.0, names_behind key entries h.1)

pub order_is : (entries : Held) → IsStrictlySortedBy string_cmp (keys_of entries) → AreInOrder (names (seen entries))
unfolding IsStrictlySortedBy
order_is [] h = tt
order_is (e ∷ entries) h = (names_behind e.0 entries h.0, order_is entries h.1)

-- a text in UTF-8 is read by its JSON tree
pub tree_utf8 : (text : List ℕ) → IsUtf8 text → tree_of text ≡ found (read text)
tree_utf8 text is = rw (eq-eqb _ _ (utf8_valid_len-IsUtf8 text is)) refl

-- the entries that are read, before what is left
abbrev after : Entries → Result Entries RegistryFault → Result Entries RegistryFault
after done (Ok later) = Ok (done ++ later)
after done (Err fault) = Err fault

after_none : (later : Result Entries RegistryFault) → after [] later ≡ later
after_none (Ok later) = refl
after_none (Err fault) = refl

after_more : (done : Entries) (entry : List ℕ × Address) (later : Result Entries RegistryFault)
    → after done (later >>= (λ entries. Ok (entry ∷ entries))) ≡ after (done ++ entry ∷ []) later
after_more done entry (Ok later) = ap Ok (sym (append_assoc done (entry ∷ []) later))
after_more done entry (Err fault) = refl

-- each member that is left is behind all entries
abbrev AllLast : Entries → List Entry → Type 0
AllLast done left = AllByRecursion (λ (e : Entry). IsLast (string_bytes e.0) done) left

pub record Reading (done : Entries) (left all : List Entry) : Type 0 where
  pub read : after done (entries_of (members_view left)) ≡ entries_of (members_view all)
  pub sorted : IsStrictlySortedBy string_cmp (keys_of left)
  pub apart : AllLast done left
  pub order : AreInOrder (names done)

last_of_none : (left : List Entry) → AllLast [] left
last_of_none [] = tt
last_of_none (e ∷ left) = (tt, last_of_none left)

no_order : AreInOrder []
unfolding IsStrictlySortedBy
no_order = tt

pub reading_start : (done : Entries) (left all : List Entry) → done ≡ [] → left ≡ all → IsStrictlySortedBy string_cmp (keys_of all)
    → Reading done left all
reading_start done left all none same sorted = rw (none, same) (record {
  read = after_none (entries_of (members_view all));
  sorted = sorted;
  apart = last_of_none all;
  order = no_order;
})

pub reading_last : (done : Entries) (left all rest : List Entry) (e : Entry) → left ≡ e ∷ rest → Reading done left all
    → IsLast (string_bytes e.0) done
reading_last done left all rest e is reading = (rw is at reading.apart).0

-- one entry more
last_more : (name : List ℕ) (done : Entries) (entry : List ℕ × Address) → IsLast name done → slice_cmp nat_cmp name entry.0 ≡ Greater
    → IsLast name (done ++ entry ∷ [])
last_more name [] entry last behind = (behind, tt)
last_more name (e ∷ done) entry last behind = (last.0, last_more name done entry last.1 behind)

apart_more : (done : Entries) (left : List Entry) (key : String Global) (address : Address) → AllLast done left
    → AllByRecursion (λ y. string_cmp key y ≡ Less) (keys_of left) → AllLast (done ++ (string_bytes key, address) ∷ []) left
apart_more done [] key address apart below = tt
apart_more done (e ∷ left) key address apart below = (
  last_more (string_bytes e.0) done (string_bytes key, address) apart.0
      (nat_list_cmp_total.antisymm (string_bytes e.0) (string_bytes key) ∙ ap ordering_reverse below.0),
  apart_more done left key address apart.1 below.1,
)

read_more : (done : Entries) (rest : List Entry) (e : Entry) (address : Address)
    → entry_of (string_bytes e.0) (view e.1) ≡ Ok (string_bytes e.0, address)
    → after done (entries_of (members_view (e ∷ rest))) ≡ after (done ++ (string_bytes e.0, address) ∷ []) (entries_of (members_view rest))
read_more done rest e address here = rw here (after_more done (string_bytes e.0, address) (entries_of (members_view rest)))

pub reading_more : (done new : Entries) (left all rest : List Entry) (e : Entry) (address : Address) → left ≡ e ∷ rest → Reading done left all
    → entry_of (string_bytes e.0) (view e.1) ≡ Ok (string_bytes e.0, address) → new ≡ done ++ (string_bytes e.0, address) ∷ []
    → AreInOrder (names new) → Reading new rest all
unfolding IsStrictlySortedBy
reading_more done new left all rest e address is reading here more order =
    let sorted = rw is at reading.sorted in
    record {
      read = rw more (sym (read_more done rest e address here) ∙ rw is at reading.read);
      sorted = sorted.1;
      apart = rw more (apart_more done rest e.0 address (rw is at reading.apart).1 sorted.0);
      order = order;
    }

pub reading_added : (done new : Entries) (left all rest : List Entry) (e : Entry) (name : List ℕ) → left ≡ e ∷ rest → Reading done left all
    → name ≡ string_bytes e.0
    → (address : Address) × (entry_of name (view e.1) ≡ Ok (name, address)) × (new ≡ done ++ (name, address) ∷ [])
    → AreInOrder (names new) → Reading new rest all
reading_added done new left all rest e name is reading same added order =
    let named = subst (λ (n : List ℕ). (address : Address) × (entry_of n (view e.1) ≡ Ok (n, address)) × (new ≡ done ++ (n, address) ∷ [])) same added in
    reading_more done new left all rest e named.0 is reading named.1 named.2 order

refused_at : (done : Entries) (rest all : List Entry) (e : Entry) (fault : RegistryFault)
    → after done (entries_of (members_view (e ∷ rest))) ≡ entries_of (members_view all)
    → entry_of (string_bytes e.0) (view e.1) ≡ Err fault → entries_of (members_view all) ≡ Err fault
refused_at done rest all e fault read here = sym read ∙ rw here refl

pub reading_refused : (done : Entries) (left all rest : List Entry) (e : Entry) (fault : RegistryFault) → left ≡ e ∷ rest → Reading done left all
    → Refuses (entry_of (string_bytes e.0) (view e.1)) fault → Refuses (entries_of (members_view all)) fault
reading_refused done left all rest e Memory is reading refuses = tt
reading_refused done left all rest e NotJson is reading refuses = refused_at done rest all e NotJson (rw is at reading.read) refuses
reading_refused done left all rest e NotObject is reading refuses = refused_at done rest all e NotObject (rw is at reading.read) refuses
reading_refused done left all rest e (BadName name) is reading refuses = refused_at done rest all e (BadName name) (rw is at reading.read) refuses
reading_refused done left all rest e (BadAddress name) is reading refuses =
    refused_at done rest all e (BadAddress name) (rw is at reading.read) refuses

pub reading_done : (done : Entries) (left all : List Entry) → left ≡ [] → Reading done left all → entries_of (members_view all) ≡ Ok done
reading_done done left all none reading = sym (rw none at reading.read) ∙ ap Ok (append-nil done)

-- the whole file, by its tree
pub read_found : (text : List ℕ) (tree : Data) → tree_of text ≡ Ok tree → registry_of text ≡ entries_in tree
unfolding registry_of
read_found text tree is = rw is refl

read_fails : (text : List ℕ) (fault : RegistryFault) → tree_of text ≡ Err fault → registry_of text ≡ Err fault
unfolding registry_of
read_fails text fault is = rw is refl

pub read_refused : (text : List ℕ) (fault : RegistryFault) → Refuses (tree_of text) fault → Refuses (registry_of text) fault
read_refused text Memory refuses = tt
read_refused text NotJson refuses = read_fails text NotJson refuses
read_refused text NotObject refuses = read_fails text NotObject refuses
read_refused text (BadName name) refuses = read_fails text (BadName name) refuses
read_refused text (BadAddress name) refuses = read_fails text (BadAddress name) refuses
