-- JSON objects and arrays, taken apart (RFC 8259, sections 4 and 5). An object that was read has its
-- members in the byte order of their names, and each name once: of those that stand more than once in
-- the text the last one counts.
use Rattle.std.specs.Prelude.{Bool, true, false, List, [], ◌∷◌, if◌then◌else◌, Option, Some, None}
use Rattle.std.specs.Str.{bytes_eq}
use Rattle.serde_json.specs.Data.{Data, Items, no_items, item, Members, no_members, member}
use Rattle.serde_json.specs.Find.{as_str, as_array, as_object}
use Rattle.idl_tree.specs.Names.{Bytes}

infixl 10 ◌>>=◌
-- the first part, and then the rest of it; nothing where a part is nothing
abbrev pub ◌>>=◌ : {A B : Type 0} → Option A → (A → Option B) → Option B
None >>= f = None
Some x >>= f = f x

-- nothing where the condition does not hold
abbrev pub only_if : {A : Type 0} → Bool → Option A → Option A
only_if true found = found
only_if false found = None

abbrev pub has_no_item : Items → Bool
has_no_item no_items = true
has_no_item (item d ds) = false

abbrev pub has_no_member : Members → Bool
has_no_member no_members = true
has_no_member (member name d ms) = false

-- the first member is of this name
abbrev pub begins_with : Bytes → Members → Bool
begins_with name no_members = false
begins_with name (member first d behind) = bytes_eq first name

-- the first member, which is of this name, and the members behind it
abbrev pub next : Bytes → Members → Option (Data × Members)
next name no_members = None
next name (member first d behind) = if bytes_eq first name then Some (d, behind) else None

-- what the first member, which is of this name, reads as, and the members behind it
abbrev pub named : {A : Type 0} → Bytes → (Data → Option A) → Members → Option (A × Members)
named name reads members = do
  first ← next name members
  x ← reads first.0
  Some (x, first.1)

-- the first member where it is of this name, and the members behind it
abbrev pub optional : Bytes → Members → Option Data × Members
optional name no_members = (None, no_members)
optional name (member first d behind) =
    if bytes_eq first name then (Some d, behind) else (None, member first d behind)

-- what the first item reads as, and the items behind it
abbrev pub first_item : {A : Type 0} → (Data → Option A) → Items → Option (A × Items)
first_item reads no_items = None
first_item reads (item d behind) = do
  x ← reads d
  Some (x, behind)

-- the only item
abbrev pub sole_item : Items → Option Data
sole_item no_items = None
sole_item (item d no_items) = Some d
sole_item (item d (item e ds)) = None

-- the only member, with its name
abbrev pub sole_member : Members → Option (Bytes × Data)
sole_member no_members = None
sole_member (member name d no_members) = Some (name, d)
sole_member (member name d (member other e ms)) = None

abbrev pub sole_of : Data → Option (Bytes × Data)
sole_of d = as_object d >>= sole_member

-- the strings of an array
abbrev pub texts_in : Items → Option (List Bytes)
texts_in no_items = Some []
texts_in (item d ds) = do
  text ← as_str d
  texts ← texts_in ds
  Some (text ∷ texts)

abbrev pub texts_of : Data → Option (List Bytes)
texts_of d = as_array d >>= texts_in
