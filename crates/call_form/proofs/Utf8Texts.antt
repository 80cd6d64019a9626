-- The compact text of a tree whose strings are UTF-8 is UTF-8.
use Rattle.std.proofs.Common.{ℕ, zero, suc, ◌+◌, ◌%◌, ◌/◌, ◌<◌, ◌==◌, Bool, true, false, cond, pos, negsuc, List, [], ◌∷◌, decimal, arith, nat_lt}
use Rattle.std.specs.Prelude.{IsUtf8, slice_index}
use Rattle.std.specs.Fmt.{digit_glyph, digits_onto, digits}
use Rattle.std.proofs.lemmas.Str.{IsUtf8-append, IsUtf8-nil, IsUtf8-from_ascii}
use Rattle.json.specs.Print.{quoted}
use Rattle.json.proofs.Printed.Utf8.{IsUtf8-quoted}
use Rattle.serde_json.specs.Data.{Num, unsigned, negative, float, Data, null, boolean, number, string, array, object}
use Rattle.serde_json.specs.Data.{Items, no_items, item, Members, no_members, member}
use Rattle.serde_json.specs.Written.{number_text, comma_if, compact_text, items_text, members_text}
use Rattle.link_port.specs.SoundTrees.{HasUtf8, ItemsHaveUtf8, MembersHaveUtf8}

one_is : (x : ℕ) → x < 128 → (i : ℕ) → slice_index (x ∷ []) i < 128
one_is x small zero = small
one_is x small (suc i) = omega arith

ascii_then : (x : ℕ) (xs : List ℕ) → x < 128 → IsUtf8 xs → IsUtf8 (x ∷ xs)
ascii_then x xs small rest = IsUtf8-append (x ∷ []) xs (IsUtf8-from_ascii (x ∷ []) (one_is x small)) rest

small_if : (b : Bool) (x y : ℕ) → x < 128 → y < 128 → cond b x y < 128
small_if true x y h k = h
small_if false x y h k = k

small_glyph : (d : ℕ) → d < 10 → digit_glyph false d < 128
small_glyph d low = small_if (nat_lt d 10) (48 + d) (87 + d) (omega arith) (omega arith)

utf8_if : (b : Bool) (xs ys : List ℕ) → IsUtf8 xs → IsUtf8 ys → IsUtf8 (cond b xs ys)
utf8_if true xs ys h k = h
utf8_if false xs ys h k = k

digits_onto-utf8 : (k n : ℕ) (later : List ℕ) → IsUtf8 later → IsUtf8 (digits_onto k 10 false n later)
digits_onto-utf8 zero n later h = h
digits_onto-utf8 (suc k) n later h =
    let low : n % 10 < 10 = omega arith in
    let here : IsUtf8 (digit_glyph false (n % 10) ∷ later) = ascii_then _ later (small_glyph (n % 10) low) h in
    utf8_if (n / 10 == 0) _ _ here (digits_onto-utf8 k (n / 10) _ here)

decimal-utf8 : (n : ℕ) → IsUtf8 (decimal n)
unfolding digits
decimal-utf8 n = digits_onto-utf8 64 n [] IsUtf8-nil

number-utf8 : (n : Num) → IsUtf8 (number_text n)
number-utf8 (unsigned n) = decimal-utf8 n
number-utf8 (negative (pos n)) = decimal-utf8 n
number-utf8 (negative (negsuc n)) = ascii_then 45 (decimal (suc n)) (omega arith) (decimal-utf8 (suc n))
number-utf8 (float x) = IsUtf8-nil

comma_if-utf8 : (later : Bool) → IsUtf8 (comma_if later)
comma_if-utf8 true = ascii_then 44 [] (omega arith) IsUtf8-nil
comma_if-utf8 false = IsUtf8-nil

word-utf8 : (a b c d : ℕ) (rest : List ℕ) → a < 128 → b < 128 → c < 128 → d < 128 → IsUtf8 rest → IsUtf8 (a ∷ b ∷ c ∷ d ∷ rest)
word-utf8 a b c d rest ha hb hc hd h =
    ascii_then a _ ha (ascii_then b _ hb (ascii_then c _ hc (ascii_then d rest hd h)))

mutual
  pub compact_text-utf8 : (tree : Data) → HasUtf8 tree → IsUtf8 (compact_text tree)
  compact_text-utf8 null h = word-utf8 110 117 108 108 [] (omega arith) (omega arith) (omega arith) (omega arith) IsUtf8-nil
  compact_text-utf8 (boolean true) h = word-utf8 116 114 117 101 [] (omega arith) (omega arith) (omega arith) (omega arith) IsUtf8-nil
  compact_text-utf8 (boolean false) h =
      ascii_then 102 _ (omega arith) (word-utf8 97 108 115 101 [] (omega arith) (omega arith) (omega arith) (omega arith) IsUtf8-nil)
  compact_text-utf8 (number n) h = number-utf8 n
  compact_text-utf8 (string s) h = IsUtf8-quoted s h
  compact_text-utf8 (array items) h = ascii_then 91 _ (omega arith) (items_text-utf8 false items h)
  compact_text-utf8 (object members) h = ascii_then 123 _ (omega arith) (members_text-utf8 false members h)

  items_text-utf8 : (later : Bool) (items : Items) → ItemsHaveUtf8 items → IsUtf8 (items_text later items)
  items_text-utf8 later no_items h = ascii_then 93 [] (omega arith) IsUtf8-nil
  items_text-utf8 later (item tree items) h =
      IsUtf8-append (comma_if later) _ (comma_if-utf8 later)
      (IsUtf8-append (compact_text tree) _ (compact_text-utf8 tree h.0) (items_text-utf8 true items h.1))

  members_text-utf8 : (later : Bool) (members : Members) → MembersHaveUtf8 members → IsUtf8 (members_text later members)
  members_text-utf8 later no_members h = ascii_then 125 [] (omega arith) IsUtf8-nil
  members_text-utf8 later (member key tree members) h =
      IsUtf8-append (comma_if later) _ (comma_if-utf8 later)
      (IsUtf8-append (quoted key) _ (IsUtf8-quoted key h.0)
      (ascii_then 58 _ (omega arith)
      (IsUtf8-append (compact_text tree) _ (compact_text-utf8 tree h.1) (members_text-utf8 true members h.2))))
