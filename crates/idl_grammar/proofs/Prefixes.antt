-- what a front begins with is a front
use Rattle.std.proofs.Common.{◌≡◌, true, [], ◌∷◌, ◌++◌, append_assoc, refl, sym, ap, subst, ◌∙◌}
use Rattle.idl_token.specs.Lex.{Lexeme, Lexemes}
use Rattle.idl_rules.specs.Grammar.{Grammar, one, many, type_rule, Whole, an_item, a_row, on_left, on_right, no_turn, a_turn, the_type, Front, nothing, whole, of_first, of_next, of_left, of_right, of_turn, of_type}

-- one list cut at two places: the second cut is in the first part, or behind it
data Cuts (first next front back : Lexemes) : Type 0 where
  inside : (more : Lexemes) → first ≡ front ++ more → Cuts first next front back
  behind : (more : Lexemes) → front ≡ first ++ more → next ≡ more ++ back → Cuts first next front back

cuts : (first next front back : Lexemes) → first ++ next ≡ front ++ back → Cuts first next front back
cuts first next [] back same = inside first refl
cuts [] next (item ∷ front) back same = behind (item ∷ front) refl same
cuts (head ∷ first) next (item ∷ front) back same =
    let heads : head ≡ item = cc in
    let tails : first ++ next ≡ front ++ back = cc in
    elim (cuts first next front back tails) [
      | inside more cut ↦ inside more (cc)
      | behind more cut left ↦ behind more (cc) left
    ]

front_of_none : (front back : Lexemes) → [] ≡ front ++ back → front ≡ []
front_of_none [] back same = refl
front_of_none (item ∷ front) back same = absurd (cc)

-- a whole turn, and a front of turns behind it
turn_before : (turn : Grammar) (items more : Lexemes) → Whole turn items → Front (many turn) more → Front (many turn) (items ++ more)
turn_before turn items more w nothing = whole (a_turn w no_turn refl)
turn_before turn items more w (whole ws) = whole (a_turn w ws refl)
turn_before turn items more w (of_turn {items = turns} {more = rest} ws f same) =
    of_turn (a_turn w ws refl) f (ap (λ (x : Lexemes). items ++ x) same ∙ sym (append_assoc items turns rest))

of_whole : (part : Grammar) (all : Lexemes) → Whole part all → (front back : Lexemes) → all ≡ front ++ back → Front part front
of_whole part all w [] back same = nothing
of_whole part all (an_item {test = test} {item = item} h) (head ∷ front) back same =
    let heads : item ≡ head = cc in
    let tails : [] ≡ front ++ back = cc in
    let none = front_of_none front back tails in
    whole (subst (λ (x : Lexemes). Whole (one test) (head ∷ x)) (sym none) (an_item (subst (λ (x : Lexeme). test x ≡ true) heads h)))
of_whole part all (a_row {first = first} {next = next} {items = items} {more = more} w v cut) (head ∷ front) back same =
    elim (cuts items more (head ∷ front) back (sym cut ∙ same)) [
      | inside rest e ↦ of_first (of_whole first items w (head ∷ front) rest e)
      | behind rest e left ↦ of_next w (of_whole next more v rest back left) e
    ]
of_whole part all (on_left {left = left} w) (head ∷ front) back same = of_left (of_whole left all w (head ∷ front) back same)
of_whole part all (on_right {right = right} w) (head ∷ front) back same = of_right (of_whole right all w (head ∷ front) back same)
of_whole part all no_turn (head ∷ front) back same = absurd (cc)
of_whole part all (a_turn {turn = turn} {items = items} {more = more} w ws cut) (head ∷ front) back same =
    elim (cuts items more (head ∷ front) back (sym cut ∙ same)) [
      | inside rest e ↦ of_turn no_turn (of_whole turn items w (head ∷ front) rest e) refl
      | behind rest e left ↦ subst (λ (x : Lexemes). Front (many turn) x) (sym e) (turn_before turn items rest w (of_whole (many turn) more ws rest back left))
    ]
of_whole part all (the_type w) (head ∷ front) back same = of_type (of_whole type_rule all w (head ∷ front) back same)

pub of_front : (part : Grammar) (all : Lexemes) → Front part all → (front back : Lexemes) → all ≡ front ++ back → Front part front
of_front part all nothing front back same = subst (λ (x : Lexemes). Front part x) (sym (front_of_none front back same)) nothing
of_front part all (whole w) front back same = of_whole part all w front back same
of_front part all (of_first {first = first} f) front back same = of_first (of_front first all f front back same)
of_front part all (of_next {next = next} {items = items} {more = more} w f cut) front back same =
    elim (cuts items more front back (sym cut ∙ same)) [
      | inside rest e ↦ of_first (of_whole _ items w front rest e)
      | behind rest e left ↦ of_next w (of_front next more f rest back left) e
    ]
of_front part all (of_left {left = left} f) front back same = of_left (of_front left all f front back same)
of_front part all (of_right {right = right} f) front back same = of_right (of_front right all f front back same)
of_front part all (of_turn {turn = turn} {items = items} {more = more} ws f cut) front back same =
    elim (cuts items more front back (sym cut ∙ same)) [
      | inside rest e ↦ of_whole (many turn) items ws front rest e
      | behind rest e left ↦ of_turn ws (of_front turn more f rest back left) e
    ]
of_front part all (of_type f) front back same = of_type (of_front type_rule all f front back same)
