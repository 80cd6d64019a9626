-- which texts are numbers
use Rattle.std.proofs.Common.{◌≡◌, ◌≢◌, ℕ, suc, ◌<◌, ◌≤◌, ◌^◌, ◌&&◌, Bool, true, false, cond, List, Option, Some, None, is_some, unwrap_or}
use Rattle.std.proofs.Common.{get_or, decimal, bytes_eq, refl, sym, ap, ◌∙◌, subst, inl, inr, true≢false, arith, lt-ltb, ltb-true, lit≤, lit<, eq-zero-or-pos, nat_lt}
use Rattle.std.specs.Str.Parse.{IsNumeral, AllDigits, digits_value, without_leading_plus}
use Rattle.std.proofs.lemmas.Bool.{cases_Bool}
use Rattle.std.proofs.lemmas.Fmt.{decimal_is_IsNumeral, decimal-digits_value, decimal_digit, first_decimal}
use Rattle.std.proofs.lemmas.Slice.Eq.{bytes_eq-Decides}
use Rattle.std.proofs.lemmas.Str.Parse.{IsNumeralModel, numerals_by_value, tells_digits, without_leading_plus_none}
use Rattle.network_words.specs.Numbers.{number_to}

none_if : {A : Type 0} (found : Option A) → ((x : A) → found ≡ Some x → ⊥) → found ≡ None
none_if None never = refl
none_if (Some x) never = absurd (never x refl)

cond_some : {A : Type 0} (b : Bool) (x y : A) → cond b (Some x) None ≡ Some y → (b ≡ true) × (x ≡ y)
cond_some true x y e = (refl, ap (λ (o : Option _). unwrap_or o x) e)
cond_some false x y e = absurd (true≢false (ap is_some (sym e)))

own : IsNumeralModel (AllDigits 10) (digits_value 10)
own = numerals_by_value _ tells_digits

both : (a b : Bool) → (a && b) ≡ true → (a ≡ true) × (b ≡ true)
both true b e = (refl, e)
both false b e = absurd (true≢false (sym e))

module _ (most : ℕ) where
  number_decimal : (text : List ℕ) (n : ℕ) → number_to most text ≡ Some n → (text ≡ decimal n) × (0 < n) × (n < suc most)
  number_decimal text n e =
      let found = cond_some _ (digits_value 10 text) n e in
      let tests = both _ _ found.0 in
      let bounds = both _ _ tests.1 in
      subst (λ (m : ℕ). (text ≡ decimal m) × (0 < m) × (m < suc most)) found.1
      (sym ((bytes_eq-Decides (decimal (digits_value 10 text)) text).0 tests.0), ltb-true 0 _ bounds.0, ltb-true _ (suc most) bounds.1)

  number_none : (text : List ℕ) → ((n : ℕ) → text ≡ decimal n → 0 < n → n < suc most → ⊥) → number_to most text ≡ None
  number_none text never = none_if (number_to most text)
      (λ n e. let is = number_decimal text n e in never n is.0 is.1 is.2)

  -- a text that begins with a sign or a zero is no number
  pub begins : (text : List ℕ) (b : ℕ) → most < 2 ^ 64 → b ≤ 48 → get_or text 0 0 ≡ b → number_to most text ≡ None
  begins text b small low first = number_none text (λ n is some within.
      let high : 48 < get_or text 0 0 = subst (λ (t : List ℕ). 48 < get_or t 0 0) (sym is) (first_decimal n some (omega arith)) in
      omega arith)

  positive_value : (text : List ℕ) (value : ℕ) → decimal value ≡ text → get_or text 0 0 ≢ 48 → 0 < value
  positive_value text value spelled zero = elim (eq-zero-or-pos value) [
    | inl none ↦ absurd (zero (sym (ap (λ (t : List ℕ). get_or t 0 0) (sym (decimal_digit 0 (lit< tt)) ∙ sym (ap decimal none) ∙ spelled))))
    | inr some ↦ some
  ]

  -- what was parsed, where no sign and no zero is in front
  pub is_read : (text : List ℕ) (n : ℕ) → get_or text 0 0 ≢ 43 → get_or text 0 0 ≢ 48
      → (IsNumeral 10 (without_leading_plus text) × (digits_value 10 (without_leading_plus text) < 2 ^ 64)) × (n ≡ digits_value 10 (without_leading_plus text))
      → number_to most text ≡ cond (nat_lt n (suc most)) (Some n) None
  is_read text n plus zero parsed =
      let plain = without_leading_plus_none text plus in
      let is = rw plain at parsed in
      let value = digits_value 10 text in
      let spelled : decimal value ≡ text =
      decimal-digits_value own text is.0.0.1 is.0.0.0 (λ here. absurd (zero here)) (omega (arith, is.0.1)) in
      let positive : 0 < value = positive_value text value spelled zero in
      subst (λ (m : ℕ). number_to most text ≡ cond (nat_lt m (suc most)) (Some m) None) (sym is.1)
      (rw ((bytes_eq-Decides (decimal value) text).1 spelled, lt-ltb 0 value positive) refl)

  pub is_refused : (text : List ℕ) → most < 2 ^ 64 → get_or text 0 0 ≢ 43
      → (IsNumeral 10 (without_leading_plus text) × (digits_value 10 (without_leading_plus text) < 2 ^ 64) → ⊥) → number_to most text ≡ None
  is_refused text small plus refused = number_none text (λ n is some within.
      let numeral = decimal_is_IsNumeral n (omega arith) in
      let value : digits_value 10 text < 2 ^ 64 = omega (arith, ap (digits_value 10) is ∙ numeral.1) in
      refused (subst (λ (t : List ℕ). IsNumeral 10 t × (digits_value 10 t < 2 ^ 64)) (sym (without_leading_plus_none text plus))
      (subst (IsNumeral 10) (sym is) numeral.0, value)))
