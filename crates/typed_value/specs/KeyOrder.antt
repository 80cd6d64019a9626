-- Keys in byte order, each once: those of a map's entries, and those of the objects of a JSON tree as it is read.
use Rattle.std.specs.Prelude.{Bool, true, false, ◌&&◌, pos, negsuc, List, [], ◌∷◌}
use Rattle.std.specs.Ordering.{nat_cmp, is_lt}
use Rattle.std.specs.Cmp.Lexicographic.{slice_cmp}
use Rattle.serde_json.specs.Data.{Num, unsigned, negative, float, Data, null, boolean, number, string, array, object, Items, no_items, item, Members, no_members, member}
use Rattle.idl_tree.specs.Names.{Bytes}
use Rattle.typed_value.specs.Ints.{has_only_ints}

abbrev pub is_before_all : Bytes → List Bytes → Bool
is_before_all key [] = true
is_before_all key (next ∷ keys) = is_lt (slice_cmp nat_cmp key next) && is_before_all key keys

abbrev pub are_in_order : List Bytes → Bool
are_in_order [] = true
are_in_order (key ∷ keys) = is_before_all key keys && are_in_order keys

abbrev pub member_keys : Members → List Bytes
member_keys no_members = []
member_keys (member k d ms) = k ∷ member_keys ms

-- a number with a sign is below 0
abbrev pub has_sign_below_zero : Num → Bool
has_sign_below_zero (unsigned n) = true
has_sign_below_zero (negative (pos n)) = false
has_sign_below_zero (negative (negsuc n)) = true
has_sign_below_zero (float x) = true

-- a tree as the reader of JSON makes it: the keys of each object are in order, and only numbers below 0 have a sign
abbrev mutual
  pub is_as_read : Data → Bool
  is_as_read null = true
  is_as_read (boolean b) = true
  is_as_read (number n) = has_sign_below_zero n
  is_as_read (string s) = true
  is_as_read (array ds) = items_are_as_read ds
  is_as_read (object ms) = members_are_as_read ms

  pub items_are_as_read : Items → Bool
  items_are_as_read no_items = true
  items_are_as_read (item d ds) = is_as_read d && items_are_as_read ds

  pub members_are_as_read : Members → Bool
  members_are_as_read no_members = true
  members_are_as_read (member k d ms) = is_before_all k (member_keys ms) && (is_as_read d && members_are_as_read ms)

-- a tree as it is read, of whole numbers alone
abbrev pub is_whole_tree : Data → Bool
is_whole_tree d = has_only_ints d && is_as_read d
