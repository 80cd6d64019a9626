-- The parts of values, where they have them.
use Rattle.std.specs.Prelude.{ℕ, ℤ, List, [], ◌∷◌, Option, Some, None, option_and_then, slice_get}
use Rattle.idl_tree.specs.Names.{Bytes}
use Rattle.typed_value.specs.declared.vals.Val.{Val, out-Val}
use Rattle.typed_value.specs.declared.vals.Val.TheOpen.{Val-F}

abbrev pub int_part : Val-F Val → Option ℤ
int_part (Val-F.Int z) = Some z
int_part x = None

abbrev pub text_part : Val-F Val → Option Bytes
text_part (Val-F.Str text) = Some text
text_part x = None

abbrev pub items_part : Val-F Val → Option (List Val)
items_part (Val-F.Items items) = Some items
items_part x = None

abbrev pub entries_part : Val-F Val → Option (List (Bytes × Val))
entries_part (Val-F.Map entries) = Some entries
entries_part x = None

abbrev pub fields_part : Val-F Val → Option (List Val)
fields_part (Val-F.Struct values) = Some values
fields_part x = None

-- the number, the text, the items of an array, the entries of a map, and the fields of a struct, in declared order
abbrev pub int_of : Val → Option ℤ
int_of v = int_part (out-Val v)

abbrev pub text_of : Val → Option Bytes
text_of v = text_part (out-Val v)

abbrev pub items_of : Val → Option (List Val)
items_of v = items_part (out-Val v)

abbrev pub entries_of : Val → Option (List (Bytes × Val))
entries_of v = entries_part (out-Val v)

abbrev pub fields_of : Val → Option (List Val)
fields_of v = fields_part (out-Val v)

-- the field at a place
abbrev pub field_at : ℕ → Val → Option Val
field_at place v = option_and_then (λ values. slice_get values place) (fields_of v)

-- the value to which a path of fields leads
abbrev pub at_path : List ℕ → Val → Option Val
at_path [] v = Some v
at_path (place ∷ path) v = option_and_then (at_path path) (field_at place v)
