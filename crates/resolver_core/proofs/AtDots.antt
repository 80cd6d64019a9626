-- Words cut at their last dots.
use Rattle.std.proofs.Common.{◌≡◌, ℕ, List, [], ◌∷◌, ◌++◌, Option, Some, None, MatchOption, option_map, Bor, take, drop, refl, sym, ap, ◌∙◌, lit<, arith, take-append-drop}
use Rattle.std.specs.Str.Pattern.{RFindsChar, SplitsAroundMatch}
use Rattle.std.proofs.lemmas.Bool.{ne_eqb}
use Rattle.std.proofs.lemmas.Str.Pattern.{NoCharPasses-char, drop_at_char}
use Rattle.link_doors.proofs.AddressParts.{Lacks, lacks-tail}
use Rattle.resolver_core.specs.Words.{at_dot, led}

no_dot : (word : List ℕ) → Lacks 46 word → at_dot word ≡ None
no_dot [] lacks = refl
no_dot (b ∷ word) lacks = rw (no_dot word (lacks-tail 46 b word lacks), ne_eqb b 46 (lacks 0 (omega arith))) refl

last_dot : (front back : List ℕ) → Lacks 46 back → at_dot (front ++ 46 ∷ back) ≡ Some (front, back)
last_dot [] back lacks = ap (led 46 back) (no_dot back lacks)
last_dot (b ∷ front) back lacks = ap (led b (front ++ 46 ∷ back)) (last_dot front back lacks)

pub cut_is : (word : List ℕ) (found : Option (Bor (List ℕ) × Bor (List ℕ)))
    → MatchOption found (RFindsChar 46 word None) (λ x. SplitsAroundMatch (RFindsChar 46) word x.0.now x.1.now)
    → option_map (λ (parts : Bor (List ℕ) × Bor (List ℕ)). (parts.0.now, parts.1.now)) found ≡ at_dot word
cut_is word None lacks = sym (no_dot word (λ i within. NoCharPasses-char 46 word i lacks (lit< tt) within))
cut_is word (Some parts) is =
    let whole : word ≡ take is.0 word ++ 46 ∷ drop is.1 word =
    sym (take-append-drop is.0 word) ∙ ap (λ (l : List ℕ). take is.0 word ++ l) (drop_at_char 46 word is.0 is.1 is.2.1 (lit< tt)) in
    let last = last_dot (take is.0 word) (drop is.1 word) (λ i within. NoCharPasses-char 46 (drop is.1 word) i is.2.0 (lit< tt) within) in
    rw (is.3, is.4) (sym (ap at_dot whole ∙ last))
