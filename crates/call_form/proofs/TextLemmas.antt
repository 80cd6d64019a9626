-- JSON text holds no NUL.
use Rattle.std.proofs.Common.{◌≡◌, ◌≢◌, ℕ, zero, suc, ◌+◌, ◌/◌, ◌%◌, Bool, true, false, cond}
use Rattle.std.proofs.Common.{List, [], ◌∷◌, ◌++◌, arith, refl, nat_lt}
use Rattle.std.specs.Prelude.{ℤ, pos, negsuc, ◌==◌}
use Rattle.std.specs.List.{AllByRecursion}
use Rattle.std.specs.Char.{digit_char}
use Rattle.std.specs.Fmt.{digit_glyph, digits_onto, digits, decimal, signed_decimal}
use Rattle.std.proofs.lemmas.Bool.Decides.{nat_tests}
use Rattle.json.specs.Print.{escape_letter, escape_byte, escape, quoted}
use Rattle.serde_json.specs.Data.{Num, unsigned, negative, float, Data, null, boolean, number}
use Rattle.serde_json.specs.Data.{string, array, object, Items, no_items, item, Members}
use Rattle.serde_json.specs.Data.{no_members, member}
use Rattle.serde_json.specs.Written.{number_text, comma_if, compact_text, items_text, members_text}

abbrev pub NoNul : List ℕ → Type 0
NoNul = AllByRecursion (λ b. b ≢ 0)

NoNul-append : (xs ys : List ℕ) → NoNul xs → NoNul ys → NoNul (xs ++ ys)
NoNul-append [] ys h k = k
NoNul-append (x ∷ xs) ys h k = (h.0, NoNul-append xs ys h.1 k)

NoNul-cond : (b : Bool) (xs ys : List ℕ) → (b ≡ true → NoNul xs) → (b ≡ false → NoNul ys) →
    NoNul (cond b xs ys)
NoNul-cond true xs ys h k = h refl
NoNul-cond false xs ys h k = k refl

cond-some : (b : Bool) (x y : ℕ) → x ≢ 0 → y ≢ 0 → cond b x y ≢ 0
cond-some true x y h k = h
cond-some false x y h k = k

digit_char-some : (d : ℕ) → digit_char d ≢ 0
digit_char-some d = cond-some (nat_lt d 10) (48 + d) (87 + d) (λ e. omega arith) (λ e. omega arith)

digit_glyph-some : (d : ℕ) → digit_glyph false d ≢ 0
digit_glyph-some d = cond-some (nat_lt d 10) (48 + d) (87 + d) (λ e. omega arith) (λ e. omega arith)

digits_onto-NoNul : (k n : ℕ) (later : List ℕ) → NoNul later →
    NoNul (digits_onto k 10 false n later)
digits_onto-NoNul zero n later h = h
digits_onto-NoNul (suc k) n later h =
    let here : NoNul (digit_glyph false (n % 10) ∷ later) = (digit_glyph-some (n % 10), h) in
    NoNul-cond (n / 10 == 0) _ _ (λ _. here) (λ _. digits_onto-NoNul k (n / 10) _ here)

decimal-NoNul : (n : ℕ) → NoNul (decimal n)
unfolding digits
decimal-NoNul n = digits_onto-NoNul 64 n [] tt

signed-NoNul : (z : ℤ) → NoNul (signed_decimal z)
signed-NoNul (pos n) = decimal-NoNul n
signed-NoNul (negsuc n) = ((λ e. absurd cc), decimal-NoNul (suc n))

above_zero : (x : ℕ) → nat_lt 0 x ≡ true → x ≢ 0
above_zero x is = λ e. absurd (grind (arith, nat_tests))

above_low : (x : ℕ) → nat_lt x 32 ≡ false → x ≢ 0
above_low x is = λ e. absurd (grind (arith, nat_tests))

escape_byte-NoNul : (x : ℕ) → NoNul (escape_byte x)
unfolding escape_byte
escape_byte-NoNul x =
    let some : nat_lt 0 (escape_letter x) ≡ true → escape_letter x ≢ 0 =
    λ is. above_zero (escape_letter x) is in
    let high : nat_lt x 32 ≡ false → x ≢ 0 = λ is. above_low x is in
    NoNul-cond (nat_lt 0 (escape_letter x)) _ _ (λ is. ((λ e. absurd cc), (some is, tt)))
    (λ _. NoNul-cond (nat_lt x 32) _ _
    (λ _. (
      (λ e. absurd cc),
      (
        (λ e. absurd cc),
        (
          (λ e. absurd cc),
          ((λ e. absurd cc), (digit_char-some (x / 16), (digit_char-some (x % 16), tt))),
        ),
      ),
    ))
    (λ is. (high is, tt)))

escape-NoNul : (s : List ℕ) → NoNul (escape s)
escape-NoNul [] = tt
escape-NoNul (x ∷ s) =
    NoNul-append (escape_byte x) (escape s) (escape_byte-NoNul x) (escape-NoNul s)

quoted-NoNul : (s : List ℕ) → NoNul (quoted s)
quoted-NoNul s =
    ((λ e. absurd cc), NoNul-append (escape s) (34 ∷ []) (escape-NoNul s) ((λ e. absurd cc), tt))

number-NoNul : (n : Num) → NoNul (number_text n)
number-NoNul (unsigned n) = decimal-NoNul n
number-NoNul (negative z) = signed-NoNul z
number-NoNul (float x) = tt

comma_if-NoNul : (later : Bool) → NoNul (comma_if later)
comma_if-NoNul true = ((λ e. absurd cc), tt)
comma_if-NoNul false = tt

mutual
  pub compact_text-NoNul : (d : Data) → NoNul (compact_text d)
  compact_text-NoNul null =
      ((λ e. absurd cc), ((λ e. absurd cc), ((λ e. absurd cc), ((λ e. absurd cc), tt))))
  compact_text-NoNul (boolean true) =
      ((λ e. absurd cc), ((λ e. absurd cc), ((λ e. absurd cc), ((λ e. absurd cc), tt))))
  compact_text-NoNul (boolean false) = (
    (λ e. absurd cc),
    ((λ e. absurd cc), ((λ e. absurd cc), ((λ e. absurd cc), ((λ e. absurd cc), tt)))),
  )
  compact_text-NoNul (number n) = number-NoNul n
  compact_text-NoNul (string s) = quoted-NoNul s
  compact_text-NoNul (array ds) = ((λ e. absurd cc), items_text-NoNul false ds)
  compact_text-NoNul (object ms) = ((λ e. absurd cc), members_text-NoNul false ms)

  items_text-NoNul : (later : Bool) (ds : Items) → NoNul (items_text later ds)
  items_text-NoNul later no_items = ((λ e. absurd cc), tt)
  items_text-NoNul later (item d ds) =
      NoNul-append (comma_if later) _ (comma_if-NoNul later)
      (NoNul-append (compact_text d) _ (compact_text-NoNul d) (items_text-NoNul true ds))

  members_text-NoNul : (later : Bool) (ms : Members) → NoNul (members_text later ms)
  members_text-NoNul later no_members = ((λ e. absurd cc), tt)
  members_text-NoNul later (member k d ms) =
      NoNul-append (comma_if later) _ (comma_if-NoNul later)
      (NoNul-append (quoted k) _ (quoted-NoNul k) (
        (λ e. absurd cc),
        NoNul-append (compact_text d) _ (compact_text-NoNul d)
            (members_text-NoNul true ms),
      ))
