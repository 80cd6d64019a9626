-- a tree's reader, opened by the tree's kind and by the type
use Rattle.std.proofs.Common.{◌≡◌, true, false, List, [], ◌∷◌, map, find, Option, Some, None, is_some, is_none, option_map, option_and_then, refl, sym, ap, cond, Ordering, Less, Equal, Greater, is_eq, bytes_eq}
use Rattle.std.specs.Map.{lookup}
use Rattle.std.specs.Ordering.{nat_cmp, match_ordering}
use Rattle.std.specs.Cmp.Lexicographic.{slice_cmp}
use Rattle.std.proofs.lemmas.Map.Text.{is_eq-slice_cmp}
use Rattle.serde_json.specs.Data.{Data, null, boolean, number, string, array, object, Members, no_members, member}
use Rattle.serde_json.specs.Find.{as_null, as_array, as_object, get_member}
use Rattle.idl_tree.specs.Names.{Bytes}
use Rattle.idl_tree.specs.Form.{begins_with_maybe, is_struct_layer}
use Rattle.idl_tree.specs.declared.trees.Interface.{Interface}
use Rattle.idl_tree.specs.declared.trees.Field.{Field}
use Rattle.idl_tree.specs.declared.trees.Prefix.{Prefix}
use Rattle.idl_tree.specs.declared.trees.Prefix.TheVariants.{Array, Map, Maybe}
use Rattle.idl_tree.specs.declared.trees.Core.{Core}
use Rattle.idl_tree.specs.declared.trees.TypeRef.{TypeRef}
use Rattle.idl_tree.specs.declared.trees.Body.{Body}
use Rattle.idl_tree.specs.declared.trees.Body.TheOpen.{Body-F}
use Rattle.typed_value.specs.Reads.{Reader, reader, item_readers, member_readers, value_by, field_by, member_by, all_of, body_by, first_unread}
use Rattle.typed_value.specs.Bodies.{behind_maybes, fields_in, fields_of}
use Rattle.typed_value.specs.Parts.{items_at, members_at, field_at, fields_at}
use Rattle.typed_value.specs.declared.vals.Val.{Val}
use Rattle.typed_value.specs.declared.vals.Val.TheVariants as val

found_here : (scope : Interface) (o : Ordering) (d : Data) (rest : Option Reader) (left : Option Data) → rest ≡ option_map (reader scope) left
    → cond (is_eq o) (Some (reader scope d)) rest ≡ option_map (reader scope) (match_ordering o left (Some d) left)
found_here scope Less d rest left h = h
found_here scope Equal d rest left h = refl
found_here scope Greater d rest left h = h

pub lookup_reads : (scope : Interface) (name : Bytes) (ms : Members)
    → lookup (bytes_eq name) (member_readers scope ms) ≡ option_map (reader scope) (get_member name ms)
lookup_reads scope name no_members = refl
lookup_reads scope name (member k d ms) = rw (← is_eq-slice_cmp name k) (found_here scope (slice_cmp nat_cmp name k) d _ _ (lookup_reads scope name ms))

field_same : (scope : Interface) (ms : Members) (field : Field) → field_by (member_readers scope ms) field ≡ field_at scope (object ms) field
field_same scope ms field = ap (member_by field) (lookup_reads scope field.name ms)

fields_same : (scope : Interface) (ms : Members) (fields : List Field)
    → map (field_by (member_readers scope ms)) fields ≡ map (field_at scope (object ms)) fields
fields_same scope ms [] = refl
fields_same scope ms (field ∷ fields) = λ i. field_same scope ms field i ∷ fields_same scope ms fields i

pub struct_is : (scope : Interface) (fields : List Field) (ending : List Bytes) (d : Data) → is_some (as_object d) ≡ true
    → body_by d (option_map (member_readers scope) (as_object d)) (Body-F.Struct fields ending) ≡ fields_at scope d fields
struct_is scope fields ending (object ms) h = ap (λ (found : List (Option Val)). option_map val.Struct (all_of found)) (fields_same scope ms fields)
struct_is scope fields ending d h = let no : false ≡ true = h in absurd (cc)

-- where the tree is not null, a `?` changes nothing
pub past_maybes : (scope : Interface) (d : Data) (items : Option (List Reader)) (members : Option (List (Bytes × Reader))) (prefixes : List Prefix) (core : Core)
    → is_some (as_null d) ≡ false
    → value_by scope d items members prefixes core ≡ value_by scope d items members (behind_maybes prefixes) core
past_maybes scope d items members [] core h = refl
past_maybes scope d items members (Array ∷ prefixes) core h = refl
past_maybes scope d items members (Map ∷ prefixes) core h = refl
past_maybes scope d items members (Maybe ∷ prefixes) core h = rw h (past_maybes scope d items members prefixes core h)

plain_stays : (prefixes : List Prefix) → begins_with_maybe prefixes ≡ false → behind_maybes prefixes ≡ prefixes
plain_stays [] h = refl
plain_stays (Array ∷ prefixes) h = refl
plain_stays (Map ∷ prefixes) h = refl
plain_stays (Maybe ∷ prefixes) h = let no : true ≡ false = h in absurd (cc)

-- a tree's reader as that of its kind
pub reader_is : (scope : Interface) (d : Data) → is_some (as_null d) ≡ false → (prefixes : List Prefix) (core : Core)
    → reader scope d prefixes core ≡ reader scope d (behind_maybes prefixes) core
reader_is scope null h prefixes core = let no : true ≡ false = h in absurd (cc)
reader_is scope (boolean b) h prefixes core = past_maybes scope (boolean b) None None prefixes core refl
reader_is scope (number n) h prefixes core = past_maybes scope (number n) None None prefixes core refl
reader_is scope (string s) h prefixes core = past_maybes scope (string s) None None prefixes core refl
reader_is scope (array ds) h prefixes core = past_maybes scope (array ds) (Some (item_readers scope ds)) None prefixes core refl
reader_is scope (object ms) h prefixes core = past_maybes scope (object ms) None (Some (member_readers scope ms)) prefixes core refl

pub plain_reader : (scope : Interface) (d : Data) (prefixes : List Prefix) (core : Core) → begins_with_maybe prefixes ≡ false
    → reader scope d prefixes core ≡ reader scope d (behind_maybes prefixes) core
plain_reader scope d prefixes core h = ap (λ (ps : List Prefix). reader scope d ps core) (sym (plain_stays prefixes h))

-- what an array, and what an object, is by a type of its kind
pub array_is : (scope : Interface) (d : Data) (prefixes : List Prefix) (core : Core)
    → reader scope d (Array ∷ prefixes) core ≡ option_and_then (items_at scope prefixes core) (as_array d)
array_is scope null prefixes core = refl
array_is scope (boolean b) prefixes core = refl
array_is scope (number n) prefixes core = refl
array_is scope (string s) prefixes core = refl
array_is scope (array ds) prefixes core = refl
array_is scope (object ms) prefixes core = refl

pub map_is : (scope : Interface) (d : Data) (prefixes : List Prefix) (core : Core)
    → reader scope d (Map ∷ prefixes) core ≡ option_and_then (members_at scope prefixes core) (as_object d)
map_is scope null prefixes core = refl
map_is scope (boolean b) prefixes core = refl
map_is scope (number n) prefixes core = refl
map_is scope (string s) prefixes core = refl
map_is scope (array ds) prefixes core = refl
map_is scope (object ms) prefixes core = refl

-- a struct's fields, in terms of the members of its tree
pub body_is : (scope : Interface) (body : Body-F Body Core Field TypeRef) (d : Data) → is_struct_layer body ≡ true → is_some (as_object d) ≡ true
    → body_by d (option_map (member_readers scope) (as_object d)) body ≡ fields_at scope d (fields_in body)
body_is scope (Body-F.Struct fields ending) d of_struct of_object = struct_is scope fields ending d of_object
body_is scope (Body-F.Enum names ending) d of_struct of_object = let no : false ≡ true = of_struct in absurd (cc)

find_same : (scope : Interface) (ms : Members) (fields : List Field)
    → find (λ (field : Field). is_none (field_by (member_readers scope ms) field)) fields
    ≡ find (λ (field : Field). is_none (field_at scope (object ms) field)) fields
find_same scope ms [] = refl
find_same scope ms (field ∷ fields) = rw (field_same scope ms field, find_same scope ms fields) refl

pub first_is : (scope : Interface) (body : Body) (d : Data) → is_some (as_object d) ≡ true
    → first_unread scope body d
    ≡ option_map (λ (field : Field). field.name) (find (λ (field : Field). is_none (field_at scope d field)) (fields_of body))
first_is scope body (object ms) h = ap (λ (found : Option Field). option_map (λ (field : Field). field.name) found) (find_same scope ms (fields_of body))
first_is scope body d h = let no : false ≡ true = h in absurd (cc)
