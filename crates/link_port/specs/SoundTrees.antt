-- Which JSON trees have a text that stands for them alone: numbers are whole, and an object has its keys in byte order
-- and each once, as it is read; and which have strings in UTF-8 (RFC 8259, sections 4, 6 and 8.1).
use Rattle.std.specs.Prelude.{◌≡◌, ℕ, ◌^◌, ◌<◌, pos, negsuc, List, IsUtf8, ⊤}
use Rattle.std.specs.Ordering.{nat_cmp}
use Rattle.std.specs.declared.cmp.Ordering.TheVariants.{Greater}
use Rattle.std.specs.Cmp.Lexicographic.{slice_cmp}
use Rattle.serde_json.specs.Data.{Num, unsigned, negative, float, Data, null, boolean, number, string, array, object}
use Rattle.serde_json.specs.Data.{Items, no_items, item, Members, no_members, member}

-- a whole number of 64 bits, with a sign where it is below 0
abbrev pub IsWhole : Num → Type 0
IsWhole (unsigned n) = n < 2 ^ 64
IsWhole (negative (pos n)) = ⊥
IsWhole (negative (negsuc n)) = n < 2 ^ 63
IsWhole (float x) = ⊥

-- each of these keys is behind this one in byte order
abbrev pub AreBehind : List ℕ → Members → Type 0
AreBehind key no_members = ⊤
AreBehind key (member later tree members) = (slice_cmp nat_cmp later key ≡ Greater) × AreBehind key members

abbrev mutual
  -- each number is whole, and in each object each key is behind all earlier ones
  pub IsSound : Data → Type 0
  IsSound null = ⊤
  IsSound (boolean b) = ⊤
  IsSound (number n) = IsWhole n
  IsSound (string s) = ⊤
  IsSound (array items) = AreSoundItems items
  IsSound (object members) = AreSoundMembers members

  pub AreSoundItems : Items → Type 0
  AreSoundItems no_items = ⊤
  AreSoundItems (item tree items) = IsSound tree × AreSoundItems items

  pub AreSoundMembers : Members → Type 0
  AreSoundMembers no_members = ⊤
  AreSoundMembers (member key tree members) = AreBehind key members × IsSound tree × AreSoundMembers members

abbrev mutual
  -- each string and each key is UTF-8
  pub HasUtf8 : Data → Type 0
  HasUtf8 null = ⊤
  HasUtf8 (boolean b) = ⊤
  HasUtf8 (number n) = ⊤
  HasUtf8 (string s) = IsUtf8 s
  HasUtf8 (array items) = ItemsHaveUtf8 items
  HasUtf8 (object members) = MembersHaveUtf8 members

  pub ItemsHaveUtf8 : Items → Type 0
  ItemsHaveUtf8 no_items = ⊤
  ItemsHaveUtf8 (item tree items) = HasUtf8 tree × ItemsHaveUtf8 items

  pub MembersHaveUtf8 : Members → Type 0
  MembersHaveUtf8 no_members = ⊤
  MembersHaveUtf8 (member key tree members) = IsUtf8 key × HasUtf8 tree × MembersHaveUtf8 members
