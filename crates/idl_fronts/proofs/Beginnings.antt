-- what begins a whole spelling is a front, and a front can be completed
use Rattle.std.proofs.Common.{◌≡◌, Bool, true, [], ◌∷◌, ◌++◌, refl, sym, ap, subst, ◌∙◌, append_assoc}
use Rattle.idl_token.specs.Lex.{Lexeme, Lexemes}
use Rattle.idl_rules.specs.Grammar.{Grammar, one, in_row, many, type_rule, Whole, an_item, a_row, on_left, on_right, no_turn, a_turn, the_type, Front, nothing, whole, of_first, of_next, of_left, of_right, of_turn, of_type}

-- of two ways to cut a list, one is the longer
pub data Cut (xs ys items more : Lexemes) : Type 0 where
  shorter : (between : Lexemes) → items ≡ xs ++ between → Cut xs ys items more
  longer : (between : Lexemes) → xs ≡ items ++ between → more ≡ between ++ ys → Cut xs ys items more

cut_more : (x : Lexeme) (xs ys items more : Lexemes) → Cut xs ys items more → Cut (x ∷ xs) ys (x ∷ items) more
cut_more x xs ys items more (shorter between e) = shorter between (ap (λ (l : Lexemes). x ∷ l) e)
cut_more x xs ys items more (longer between e f) = longer between (ap (λ (l : Lexemes). x ∷ l) e) f

pub cut : (xs ys items more : Lexemes) → items ++ more ≡ xs ++ ys → Cut xs ys items more
cut [] ys items more e = shorter items refl
cut (x ∷ xs) ys [] more e = longer (x ∷ xs) refl e
cut (x ∷ xs) ys (item ∷ items) more e =
    let head : item ≡ x = cc in
    let tail : items ++ more ≡ xs ++ ys = cc in
    subst (λ (i : Lexeme). Cut (x ∷ xs) ys (i ∷ items) more) (sym head) (cut_more x xs ys items more (cut xs ys items more tail))

turn_more : (turn : Grammar) (items more : Lexemes) → Whole turn items → Front (many turn) more → Front (many turn) (items ++ more)
turn_more turn items more w nothing = whole (a_turn w no_turn refl)
turn_more turn items more w (whole ws) = whole (a_turn w ws refl)
turn_more turn items more w (of_turn {items = before} {more = last} ws f e) =
    of_turn (a_turn w ws refl) f (ap (λ (l : Lexemes). items ++ l) e ∙ sym (append_assoc items before last))

one_begins : (test : Lexeme → Bool) (item : Lexeme) → test item ≡ true → (x : Lexeme) (xs ys : Lexemes) → ◌≡◌ {A = Lexemes} (item ∷ []) (x ∷ (xs ++ ys)) → Front (one test) (x ∷ xs)
one_begins test item h x [] ys e =
    let same : item ≡ x = cc in
    whole (an_item (subst (λ (i : Lexeme). test i ≡ true) same h))
one_begins test item h x (y ∷ xs) ys e =
    let tail : ◌≡◌ {A = Lexemes} [] (y ∷ (xs ++ ys)) = cc in absurd (cc)

row_begins : (first next : Grammar) (items more xs ys : Lexemes) → Whole first items → Cut xs ys items more
    → ((between : Lexemes) → items ≡ xs ++ between → Front first xs) → ((between : Lexemes) → more ≡ between ++ ys → Front next between) → Front (in_row first next) xs
row_begins first next items more xs ys w (shorter between e) front other = of_first (front between e)
row_begins first next items more xs ys w (longer between e f) front other = of_next w (other between f) e

turn_begins : (turn : Grammar) (items more xs ys : Lexemes) → Whole turn items → Cut xs ys items more
    → ((between : Lexemes) → items ≡ xs ++ between → Front turn xs) → ((between : Lexemes) → more ≡ between ++ ys → Front (many turn) between) → Front (many turn) xs
turn_begins turn items more xs ys w (shorter between e) front other = of_turn no_turn (front between e) refl
turn_begins turn items more xs ys w (longer between e f) front other = subst (λ (l : Lexemes). Front (many turn) l) (sym e) (turn_more turn items between w (other between f))

pub beginning : (part : Grammar) (all : Lexemes) → Whole part all → (xs ys : Lexemes) → all ≡ xs ++ ys → Front part xs
beginning part all w [] ys e = nothing
beginning part all (an_item {test = test} {item = item} h) (x ∷ xs) ys e = one_begins test item h x xs ys e
beginning part all (a_row {first = first} {next = next} {items = items} {more = more} w v same) (x ∷ xs) ys e =
    row_begins first next items more (x ∷ xs) ys w (cut (x ∷ xs) ys items more (sym same ∙ e)) (λ between f. beginning first items w (x ∷ xs) between f) (λ between f. beginning next more v between ys f)
beginning part all (on_left w) (x ∷ xs) ys e = of_left (beginning _ all w (x ∷ xs) ys e)
beginning part all (on_right w) (x ∷ xs) ys e = of_right (beginning _ all w (x ∷ xs) ys e)
beginning part all no_turn (x ∷ xs) ys e = let no : ◌≡◌ {A = Lexemes} [] (x ∷ (xs ++ ys)) = e in absurd (cc)
beginning part all (a_turn {turn = turn} {items = items} {more = more} w v same) (x ∷ xs) ys e =
    turn_begins turn items more (x ∷ xs) ys w (cut (x ∷ xs) ys items more (sym same ∙ e)) (λ between f. beginning turn items w (x ∷ xs) between f) (λ between f. beginning (many turn) more v between ys f)
beginning part all (the_type w) (x ∷ xs) ys e = of_type (beginning type_rule all w (x ∷ xs) ys e)
