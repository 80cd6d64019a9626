-- Whole numbers in JSON trees (RFC 8259, section 6): those that 64 bits with a sign hold.
use Rattle.std.specs.Prelude.{◌^◌, Bool, true, ◌&&◌, ℤ, pos, negsuc, nat_lt, if◌then◌else◌, Option, Some, None, is_some, IsSome}
use Rattle.serde_json.specs.Find.{as_number}
use Rattle.serde_json.specs.Data.{Num, unsigned, negative, float, Data, null, boolean, number, string, array, object, Items, no_items, item, Members, no_members, member}

-- from -2^63 to 2^63 - 1
abbrev pub is_int : ℤ → Bool
is_int (pos n) = nat_lt n (2 ^ 63)
is_int (negsuc n) = nat_lt n (2 ^ 63)

abbrev pub int_if : ℤ → Option ℤ
int_if z = if is_int z then Some z else None

-- a number that the tree holds as such a whole number; `1.0`, `1e2` and `-0` are held as floats
abbrev pub int_of : Num → Option ℤ
int_of (unsigned n) = int_if (pos n)
int_of (negative z) = int_if z
int_of (float x) = None

-- every number at any depth is such a whole number
abbrev mutual
  pub has_only_ints : Data → Bool
  has_only_ints null = true
  has_only_ints (boolean b) = true
  has_only_ints (number n) = is_some (int_of n)
  has_only_ints (string s) = true
  has_only_ints (array ds) = items_have_only_ints ds
  has_only_ints (object ms) = members_have_only_ints ms

  pub items_have_only_ints : Items → Bool
  items_have_only_ints no_items = true
  items_have_only_ints (item d ds) = has_only_ints d && items_have_only_ints ds

  pub members_have_only_ints : Members → Bool
  members_have_only_ints no_members = true
  members_have_only_ints (member k d ms) = has_only_ints d && members_have_only_ints ms

abbrev pub IsNumber : Data → Type 0
IsNumber d = IsSome (as_number d)
