-- Texts cut at a byte, and the numbers in an address.
use Rattle.std.proofs.Common.{◌≡◌, ◌≢◌, ℕ, suc, ◌<◌, ◌≤◌, ◌^◌, ◌==◌, ◌&&◌, Bool, true, false, cond, List, [], ◌∷◌, ◌++◌, Option, Some, None, is_some, unwrap_or}
use Rattle.std.proofs.Common.{length, get_or, codes, decimal, bytes_eq, refl, sym, ap, ap₂, ◌∙◌, subst, inl, inr, true≢false, arith, append-nil, lt-ltb, ltb-true, lit≤, lit<, eq-zero-or-pos}
use Rattle.std.specs.Str.Parse.{IsNumeral, AllDigits, digits_value, without_leading_plus}
use Rattle.std.specs.Net.Grammar.{IsDotted}
use Rattle.std.specs.Net.Reader.{read_ipv4}
use Rattle.std.proofs.NetLemmas.Ipv4.{read_ipv4_complete, read_ipv4_sound}
use Rattle.std.proofs.lemmas.Bool.{cases_Bool, eq-eqb, eqb-true, ne_eqb}
use Rattle.std.proofs.lemmas.Fmt.{decimal_is_IsNumeral, decimal-digits_value, decimal_digit, first_decimal}
use Rattle.std.proofs.lemmas.Slice.Eq.{bytes_eq-Decides}
use Rattle.std.proofs.lemmas.Str.Parse.{IsNumeralModel, numerals_by_value, tells_digits, without_leading_plus_none}
use Rattle.link_doors.specs.Addresses.{before, behind, whole, octets_of, port_of, path_of, tcp_of, by_scheme, address_of}

-- no byte is the mark
abbrev pub Lacks : ℕ → List ℕ → Type 0
Lacks mark bytes = (i : ℕ) → i < length bytes → get_or bytes i 0 ≢ mark

pub lacks-tail : (mark b : ℕ) (bytes : List ℕ) → Lacks mark (b ∷ bytes) → Lacks mark bytes
lacks-tail mark b bytes lacks i within = lacks (suc i) (omega (arith))

lacks-head : (mark b : ℕ) (bytes : List ℕ) → Lacks mark (b ∷ bytes) → (b == mark) ≡ false
lacks-head mark b bytes lacks = ne_eqb b mark (lacks 0 (omega arith))

pub before-whole : (mark : ℕ) (bytes : List ℕ) → Lacks mark bytes → before mark bytes ≡ bytes
before-whole mark [] lacks = refl
before-whole mark (b ∷ bytes) lacks =
    rw (lacks-head mark b bytes lacks) (ap (λ (l : List ℕ). b ∷ l) (before-whole mark bytes (lacks-tail mark b bytes lacks)))

pub behind-whole : (mark : ℕ) (bytes : List ℕ) → Lacks mark bytes → behind mark bytes ≡ []
behind-whole mark [] lacks = refl
behind-whole mark (b ∷ bytes) lacks = rw (lacks-head mark b bytes lacks) (behind-whole mark bytes (lacks-tail mark b bytes lacks))

pub before-split : (mark : ℕ) (front back : List ℕ) → Lacks mark front → before mark (front ++ mark ∷ back) ≡ front
before-split mark [] back lacks = rw (eq-eqb mark mark refl) refl
before-split mark (b ∷ front) back lacks =
    rw (lacks-head mark b front lacks) (ap (λ (l : List ℕ). b ∷ l) (before-split mark front back (lacks-tail mark b front lacks)))

pub behind-split : (mark : ℕ) (front back : List ℕ) → Lacks mark front → behind mark (front ++ mark ∷ back) ≡ back
behind-split mark [] back lacks = rw (eq-eqb mark mark refl) refl
behind-split mark (b ∷ front) back lacks =
    rw (lacks-head mark b front lacks) (behind-split mark front back (lacks-tail mark b front lacks))

-- what stands before a mark has none
pub before-twice : (mark : ℕ) (bytes : List ℕ) → before mark (before mark bytes) ≡ before mark bytes
before-twice mark [] = refl
before-twice mark (b ∷ bytes) = elim (cases_Bool (b == mark)) [
  | inl here ↦ rw here refl
  | inr other ↦ rw other (rw other (ap (λ (l : List ℕ). b ∷ l) (before-twice mark bytes)))
]

-- a text with something behind the mark is put together again
pub rejoined : (mark : ℕ) (bytes : List ℕ) → behind mark bytes ≢ [] → bytes ≡ before mark bytes ++ mark ∷ behind mark bytes
rejoined mark [] some = absurd (some refl)
rejoined mark (b ∷ bytes) some = elim (cases_Bool (b == mark)) [
  | inl here ↦ rw (here, eqb-true b mark here) refl
  | inr other ↦ rw other (ap (λ (l : List ℕ). b ∷ l) (rejoined mark bytes (rw other at some)))
]

-- the scheme of an address, and what stands behind it
pub read_by : (text named scheme rest : List ℕ) → named ≡ before 59 text → scheme ≡ before 58 named → rest ≡ behind 58 named
    → address_of text ≡ by_scheme scheme rest
unfolding address_of
read_by text named scheme rest n s r = sym (ap₂ by_scheme (s ∙ ap (before 58) n) (r ∙ ap (behind 58) n))

pub scheme_unix : (scheme rest : List ℕ) → scheme ≡ codes "unix" → by_scheme scheme rest ≡ path_of rest
scheme_unix scheme rest is = ap (λ (s : List ℕ). by_scheme s rest) is

pub scheme_tcp : (scheme rest : List ℕ) → scheme ≡ codes "tcp" → by_scheme scheme rest ≡ tcp_of rest
scheme_tcp scheme rest is = ap (λ (s : List ℕ). by_scheme s rest) is

other_text : (one other : List ℕ) → one ≢ other → bytes_eq one other ≡ false
other_text one other apart = elim (cases_Bool (bytes_eq one other)) [
  | inl same ↦ absurd (apart ((bytes_eq-Decides one other).0 same))
  | inr differ ↦ differ
]

pub scheme_none : (scheme rest : List ℕ) → scheme ≢ codes "unix" → scheme ≢ codes "tcp" → by_scheme scheme rest ≡ None
scheme_none scheme rest unix tcp = rw (other_text scheme (codes "unix") unix, other_text scheme (codes "tcp") tcp) refl

-- a value that is there where nothing can be is none
none_if : {A : Type 0} (found : Option A) → ((x : A) → found ≡ Some x → ⊥) → found ≡ None
none_if None never = refl
none_if (Some x) never = absurd (never x refl)

pub cond_some : {A : Type 0} (b : Bool) (x y : A) → cond b (Some x) None ≡ Some y → (b ≡ true) × (x ≡ y)
cond_some true x y e = (refl, ap (λ (o : Option _). unwrap_or o x) e)
cond_some false x y e = absurd (true≢false (ap is_some (sym e)))

-- four octets, found exactly where the text has them
whole_some : (found : Option (List ℕ × List ℕ)) (octets : List ℕ) → whole found ≡ Some octets → found ≡ Some (octets, [])
whole_some None octets e = absurd (true≢false (ap is_some (sym e)))
whole_some (Some (front, [])) octets e = ap (λ (l : List ℕ). Some (l, [])) (ap (λ (o : Option (List ℕ)). unwrap_or o []) e)
whole_some (Some (front, b ∷ rest)) octets e = absurd (true≢false (ap is_some (sym e)))

pub dotted_octets : (text octets : List ℕ) → IsDotted text octets → octets_of text ≡ Some octets
dotted_octets text octets dotted =
    let found : read_ipv4 text ≡ Some (octets, []) =
    subst (λ (t : List ℕ). read_ipv4 t ≡ Some (octets, [])) (append-nil text) (read_ipv4_complete text octets [] dotted (lit≤ tt)) in
    rw found refl

pub octets_dotted : (text octets : List ℕ) → octets_of text ≡ Some octets → IsDotted text octets
octets_dotted text octets e =
    let found = read_ipv4_sound text octets [] (whole_some (read_ipv4 text) octets e) in
    subst (λ (t : List ℕ). IsDotted t octets) (sym (found.1 ∙ append-nil found.0)) found.2

pub octets_none : (text : List ℕ) → ((octets : List ℕ) → IsDotted text octets → ⊥) → octets_of text ≡ None
octets_none text never = none_if (octets_of text) (λ octets e. never octets (octets_dotted text octets e))

-- a port, found exactly where the text is its decimal text
pub own : IsNumeralModel (AllDigits 10) (digits_value 10)
own = numerals_by_value _ tells_digits

both : (a b : Bool) → (a && b) ≡ true → (a ≡ true) × (b ≡ true)
both true b e = (refl, e)
both false b e = absurd (true≢false (sym e))

pub port_decimal : (text : List ℕ) (port : ℕ) → port_of text ≡ Some port → (text ≡ decimal port) × (0 < port) × (port < 2 ^ 16)
port_decimal text port e =
    let found = cond_some _ (digits_value 10 text) port e in
    let tests = both _ _ found.0 in
    let bounds = both _ _ tests.1 in
    subst (λ (n : ℕ). (text ≡ decimal n) × (0 < n) × (n < 2 ^ 16)) found.1
    (sym ((bytes_eq-Decides (decimal (digits_value 10 text)) text).0 tests.0), ltb-true 0 _ bounds.0, ltb-true _ (2 ^ 16) bounds.1)

port_found : (text : List ℕ) (port : ℕ) → digits_value 10 text ≡ port → decimal port ≡ text → 0 < port → port < 2 ^ 16
    → port_of text ≡ Some port
port_found text port value is some within =
    rw (value, (bytes_eq-Decides (decimal port) text).1 is, lt-ltb 0 port some, lt-ltb port (2 ^ 16) within) refl

pub decimal_port : (text : List ℕ) (port : ℕ) → text ≡ decimal port → 0 < port → port < 2 ^ 16 → port_of text ≡ Some port
decimal_port text port is some within =
    port_found text port (ap (digits_value 10) is ∙ (decimal_is_IsNumeral port (omega arith)).1) (sym is) some within

pub port_none : (text : List ℕ) → ((port : ℕ) → text ≡ decimal port → 0 < port → port < 2 ^ 16 → ⊥) → port_of text ≡ None
port_none text never = none_if (port_of text)
    (λ port e. let is = port_decimal text port e in never port is.0 is.1 is.2)

-- a text that begins with a sign or a zero is no port
pub port_begins : (text : List ℕ) (b : ℕ) → b ≤ 48 → get_or text 0 0 ≡ b → port_of text ≡ None
port_begins text b low first = port_none text (λ port is some within.
    let high : 48 < get_or text 0 0 = subst (λ (t : List ℕ). 48 < get_or t 0 0) (sym is) (first_decimal port some (omega arith)) in
    omega arith)

positive_value : (text : List ℕ) (value : ℕ) → decimal value ≡ text → get_or text 0 0 ≢ 48 → 0 < value
positive_value text value spelled zero = elim (eq-zero-or-pos value) [
  | inl none ↦ absurd (zero (sym (ap (λ (t : List ℕ). get_or t 0 0) (sym (decimal_digit 0 (lit< tt)) ∙ sym (ap decimal none) ∙ spelled))))
  | inr some ↦ some
]

-- what was parsed, where no sign and no zero is in front
pub port_read : (text : List ℕ) (port : ℕ) → get_or text 0 0 ≢ 43 → get_or text 0 0 ≢ 48
    → (IsNumeral 10 (without_leading_plus text) × (digits_value 10 (without_leading_plus text) < 2 ^ 16)) × (port ≡ digits_value 10 (without_leading_plus text))
    → port_of text ≡ Some port
port_read text port plus zero parsed =
    let plain = without_leading_plus_none text plus in
    let is = rw plain at parsed in
    let value = digits_value 10 text in
    let spelled : decimal value ≡ text =
    decimal-digits_value own text is.0.0.1 is.0.0.0 (λ here. absurd (zero here)) (omega (arith, is.0.1)) in
    let positive : 0 < value = positive_value text value spelled zero in
    subst (λ (n : ℕ). port_of text ≡ Some n) (sym is.1) (port_found text value refl spelled positive is.0.1)

pub port_refused : (text : List ℕ) → get_or text 0 0 ≢ 43
    → (IsNumeral 10 (without_leading_plus text) × (digits_value 10 (without_leading_plus text) < 2 ^ 16) → ⊥) → port_of text ≡ None
port_refused text plus refused = port_none text (λ port is some within.
    let numeral = decimal_is_IsNumeral port (omega arith) in
    let value : digits_value 10 text < 2 ^ 16 = omega (arith, ap (digits_value 10) is ∙ numeral.1) in
    refused (subst (λ (t : List ℕ). IsNumeral 10 t × (digits_value 10 t < 2 ^ 16)) (sym (without_leading_plus_none text plus))
    (subst (IsNumeral 10) (sym is) numeral.0, value)))
