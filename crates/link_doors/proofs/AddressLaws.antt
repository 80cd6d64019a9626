-- A text is read as the address whose text it is.
use Rattle.std.proofs.Common.{◌≡◌, ◌≢◌, ℕ, zero, suc, ◌<◌, ◌^◌, ◌==◌, ◌||◌, Bool, true, false, List, [], ◌∷◌, ◌++◌, Option, Some, None, is_some, unwrap_or}
use Rattle.std.proofs.Common.{length, get_or, codes, decimal, bytes_eq, refl, sym, ap, ap₂, ◌∙◌, subst, inl, inr, true≢false, arith}
use Rattle.std.specs.List.{AllByRecursion, list_any}
use Rattle.std.specs.Net.Grammar.{IsDotted}
use Rattle.std.specs.Net.Text.{dotted_text, ipv4_text}
use Rattle.std.proofs.lemmas.Bool.{cases_Bool, eqb-false, ne_eqb}
use Rattle.std.proofs.lemmas.Fmt.{decimal_is_IsNumeral, decimal_nonempty}
use Rattle.std.proofs.lemmas.Slice.Eq.{bytes_eq-Decides}
use Rattle.std.proofs.lemmas.Str.Parse.{not_in_digits}
use Rattle.link_doors.specs.declared.addresses.Address.{Address}
use Rattle.link_doors.specs.declared.addresses.Address.TheVariants.{Unix, Tcp}
use Rattle.link_doors.specs.Addresses.{before, behind, octets_of, port_of, path_of, tcp_at, tcp_of, by_scheme, address_of, address_text, IsGood, IsAddress, AddressesAre, AddressesReadBack}
use Rattle.link_doors.proofs.AddressParts.{Lacks, lacks-tail, own, before-split, behind-split, before-twice, rejoined, dotted_octets, octets_dotted, port_decimal, decimal_port}

-- a path
none_zero : (path : List ℕ) → list_any (λ b. b == 0) path ≡ false → AllByRecursion (λ b. b ≢ 0) path
none_zero [] e = tt
none_zero (b ∷ path) e = elim (cases_Bool (b == 0)) [
  | inl here ↦ absurd (true≢false (rw here at e))
  | inr other ↦ (eqb-false b 0 other, none_zero path (rw other at e))
]

zero_none : (path : List ℕ) → AllByRecursion (λ b. b ≢ 0) path → list_any (λ b. b == 0) path ≡ false
zero_none [] each = refl
zero_none (b ∷ path) each = rw (ne_eqb b 0 each.0) (zero_none path each.1)

neither : (a b : Bool) → (a || b) ≡ false → (a ≡ false) × (b ≡ false)
neither true b e = absurd (true≢false e)
neither false b e = (refl, e)

path_sound : (path : List ℕ) (address : Address) → path_of path ≡ Some address → (address ≡ Unix path) × IsGood (Unix path)
path_sound path address e =
    elim (cases_Bool (length path == 0 || (get_or path 0 0 == 64 || list_any (λ b. b == 0) path))) [
      | inl refused ↦ absurd (true≢false (sym (ap is_some (rw refused at e))))
      | inr passes ↦
          (let empty = neither _ _ passes in
          let first = neither _ _ empty.1 in (
            ap (λ (o : Option Address). unwrap_or o (Unix path)) (sym (rw passes at e)),
            (λ here. eqb-false (length path) 0 empty.0 (ap length here), eqb-false _ 64 first.0, none_zero path first.1),
          ))
    ]

some_length : (path : List ℕ) → path ≢ [] → (length path == 0) ≡ false
some_length [] some = absurd (some refl)
some_length (b ∷ path) some = ne_eqb (length (b ∷ path)) 0 (λ e. omega arith)

path_complete : (path : List ℕ) → IsGood (Unix path) → path_of path ≡ Some (Unix path)
path_complete path good = rw (some_length path good.0, ne_eqb (get_or path 0 0) 64 good.1, zero_none path good.2) refl

-- a port of an address of the network
record IsAt (octets : Option (List ℕ)) (number : Option ℕ) (address : Address) : Type 0 where
  pub ip : List ℕ
  pub port : ℕ
  pub found : octets ≡ Some ip
  pub numbered : number ≡ Some port
  pub is : address ≡ Tcp ip port

tcp_found : (octets : Option (List ℕ)) (number : Option ℕ) (address : Address) → tcp_at octets number ≡ Some address
    → IsAt octets number address
tcp_found (Some ip) (Some port) address e =
    record { ip = ip; port = port; found = refl; numbered = refl; is = ap (λ (o : Option Address). unwrap_or o address) (sym e) }
tcp_found (Some ip) None address e = absurd (true≢false (sym (ap is_some e)))
tcp_found None number address e = absurd (true≢false (sym (ap is_some e)))

dotted_good : (text ip : List ℕ) (dotted : IsDotted text ip) → (length ip ≡ 4) × AllByRecursion (λ n. n < 256) ip × (text ≡ ipv4_text ip)
dotted_good text ip dotted = rw dotted.value (refl, (dotted.fit.0, (dotted.fit.1, (dotted.fit.2, (dotted.fit.3, tt)))), dotted.spelled)

decimal_some : (port : ℕ) → port < 2 ^ 16 → decimal port ≢ []
decimal_some port within e = let some = decimal_nonempty port (omega arith) in omega (arith, ap length e)

tcp_sound : (place : List ℕ) (address : Address) → tcp_of place ≡ Some address
    → (codes "tcp:" ++ place ≡ address_text address) × IsGood address × (place ≢ [])
tcp_sound place address e =
    let at = tcp_found (octets_of (before 58 place)) (port_of (behind 58 place)) address e in
    let dotted = dotted_good (before 58 place) at.ip (octets_dotted (before 58 place) at.ip at.found) in
    let number = port_decimal (behind 58 place) at.port at.numbered in
    let some : behind 58 place ≢ [] = λ none. decimal_some at.port number.2 (sym number.0 ∙ none) in
    let both : place ≡ ipv4_text at.ip ++ 58 ∷ decimal at.port =
    rejoined 58 place some ∙ ap₂ (λ (ip port : List ℕ). ip ++ 58 ∷ port) dotted.2 number.0 in (
      ap (λ (l : List ℕ). codes "tcp:" ++ l) both ∙ sym (ap address_text at.is),
      subst IsGood (sym at.is) (dotted.0, dotted.1, number.1, number.2),
      λ none. some (ap (behind 58) none),
    )

-- the scheme
spelled_sound : (named : List ℕ) (address : Address) → by_scheme (before 58 named) (behind 58 named) ≡ Some address
    → (named ≡ address_text address) × IsGood address
spelled_sound named address e = elim (cases_Bool (bytes_eq (before 58 named) (codes "unix"))) [
  | inl unix ↦
      (let found = path_sound (behind 58 named) address (rw unix at e) in (
        rejoined 58 named found.1.0 ∙ ap (λ (s : List ℕ). s ++ 58 ∷ behind 58 named) ((bytes_eq-Decides (before 58 named) (codes "unix")).0 unix)
            ∙ sym (ap address_text found.0),
        subst IsGood (sym found.0) found.1,
      ))
  | inr other ↦ elim (cases_Bool (bytes_eq (before 58 named) (codes "tcp"))) [
    | inl tcp ↦
        (let found = tcp_sound (behind 58 named) address (rw tcp at (rw other at e)) in (
          rejoined 58 named found.2 ∙ ap (λ (s : List ℕ). s ++ 58 ∷ behind 58 named) ((bytes_eq-Decides (before 58 named) (codes "tcp")).0 tcp)
              ∙ found.0,
          found.1,
        ))
    | inr another ↦ absurd (true≢false (sym (ap is_some (rw another at (rw other at e)))))
  ]
]

-- the text of an address of the network is cut at its one `:`
lacks-append : (mark : ℕ) (front back : List ℕ) → Lacks mark front → Lacks mark back → Lacks mark (front ++ back)
lacks-append mark [] back one other i within e = other i within e
lacks-append mark (b ∷ front) back one other zero within e = one 0 (omega arith) e
lacks-append mark (b ∷ front) back one other (suc i) within e =
    lacks-append mark front back (lacks-tail mark b front one) other i (omega arith) e

lacks-decimal : (n : ℕ) → n < 256 → Lacks 58 (decimal n)
lacks-decimal n within = not_in_digits own (decimal n) 58 (decimal_is_IsNumeral n (omega arith)).0.1 (λ r. omega arith)

lacks-dot : Lacks 58 (codes ".")
lacks-dot zero within e = omega arith
lacks-dot (suc i) within e = omega arith

lacks-dotted : (a b c d : ℕ) → a < 256 → b < 256 → c < 256 → d < 256 → Lacks 58 (dotted_text a b c d)
lacks-dotted a b c d p q r s =
    let joined : (front : List ℕ) (n : ℕ) → Lacks 58 front → n < 256 → Lacks 58 ((front ++ codes ".") ++ decimal n) =
    λ front n lacks within. lacks-append 58 (front ++ codes ".") (decimal n) (lacks-append 58 front (codes ".") lacks lacks-dot) (lacks-decimal n within) in
    joined _ d (joined _ c (joined (decimal a) b (lacks-decimal a p) q) r) s

tcp_complete : (ip : List ℕ) (port : ℕ) → IsGood (Tcp ip port) → tcp_of (ipv4_text ip ++ (codes ":" ++ decimal port)) ≡ Some (Tcp ip port)
tcp_complete (a ∷ b ∷ c ∷ d ∷ []) port good =
    let fit = good.1 in
    let lacks = lacks-dotted a b c d fit.0 fit.1.0 fit.1.1.0 fit.1.1.1.0 in
    let dotted : IsDotted (dotted_text a b c d) (a ∷ b ∷ c ∷ d ∷ []) = record {
      a = a;
      b = b;
      c = c;
      d = d;
      fit = (fit.0, fit.1.0, fit.1.1.0, fit.1.1.1.0);
      value = refl;
      spelled = refl;
    } in
    ap₂ tcp_at
    (ap octets_of (before-split 58 (dotted_text a b c d) (decimal port) lacks) ∙ dotted_octets _ _ dotted)
    (ap port_of (behind-split 58 (dotted_text a b c d) (decimal port) lacks) ∙ decimal_port (decimal port) port refl good.2 good.3)
tcp_complete ip port good = absurd (let four = good.0 in omega arith)

spelled_complete : (address : Address) → IsGood address
    → by_scheme (before 58 (address_text address)) (behind 58 (address_text address)) ≡ Some address
spelled_complete (Unix path) good = path_complete path good
spelled_complete (Tcp ip port) good = tcp_complete ip port good

sound : (text : List ℕ) (address : Address) → address_of text ≡ Some address → IsAddress text address
unfolding address_of
sound text address e = spelled_sound (before 59 text) address e

complete : (text : List ℕ) (address : Address) → IsAddress text address → address_of text ≡ Some address
unfolding address_of
complete text address is =
    subst (λ (named : List ℕ). by_scheme (before 58 named) (behind 58 named) ≡ Some address) (sym is.0) (spelled_complete address is.1)

pub addresses-are : AddressesAre
addresses-are text address = (sound text address, complete text address)

pub addresses-read-back : AddressesReadBack
addresses-read-back text address e =
    let is = sound text address e in
    complete (address_text address) address
    (subst (λ (named : List ℕ). before 59 named ≡ named) is.0 (before-twice 59 text), is.1)
