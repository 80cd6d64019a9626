-- chains of required pairs
use Rattle.std.proofs.Common.{◌≡◌, Bool, true, false, ◌||◌, ◌&&◌, inl, inr, List, [], ◌∷◌, ◌++◌, Some, None, is_none, refl, sym, ap, ◌∙◌, subst, bytes_eq}
use Rattle.std.specs.List.{list_any}
use Rattle.std.proofs.lemmas.Bool.{cases_Bool}
use Rattle.std.proofs.lemmas.Slice.Eq.{bytes_eq-Decides}
use Rattle.idl_tree.specs.Names.{Bytes}
use Rattle.idl_compat.specs.Within.{Scopes, Kind, Pair, Step, Line, Among, Within, line, requires, steps_of, leads_to_failure}

or_left : (a b : Bool) → a ≡ true → (a || b) ≡ true
or_left a b h = rw h refl

or_right : (a b : Bool) → b ≡ true → (a || b) ≡ true
or_right true b h = refl
or_right false b h = h

pub and_both : (a b : Bool) → a ≡ true → b ≡ true → (a && b) ≡ true
and_both a b h k = rw (h, k) refl

any_true : (p : Step → Bool) (step : Step) (steps : List Step) → Among step steps → p step ≡ true → list_any p steps ≡ true
any_true p step [] h is = absurd h
any_true p step (first ∷ steps) (inl same) is = or_left (p first) _ (sym (ap p same) ∙ is)
any_true p step (first ∷ steps) (inr later) is = or_right (p first) _ (any_true p step steps later is)

pub among_front : (step : Step) (steps more : List Step) → Among step steps → Among step (steps ++ more)
among_front step [] more h = absurd h
among_front step (first ∷ steps) more (inl same) = inl same
among_front step (first ∷ steps) more (inr later) = inr (among_front step steps more later)

pub among_back : (step : Step) (steps more : List Step) → Among step more → Among step (steps ++ more)
among_back step [] more h = h
among_back step (first ∷ steps) more h = inr (among_back step steps more h)

-- a chain that begins with one of the steps
pub step_fails : (scopes : Scopes) (pair : Pair) (step : Step) (words : List Bytes) → Among step (steps_of (line scopes pair))
    → leads_to_failure scopes words step.1 ≡ true → leads_to_failure scopes (step.0 ∷ words) (Some pair) ≡ true
unfolding leads_to_failure
step_fails scopes pair step words among fails =
    any_true (λ (other : Step). bytes_eq other.0 step.0 && leads_to_failure scopes words other.1) step (steps_of (line scopes pair)) among
    (and_both (bytes_eq step.0 step.0) _ ((bytes_eq-Decides step.0 step.0).1 refl) fails)

pub within_step : (scopes : Scopes) (pair : Pair) (step : Step) → Within scopes pair → Among step (steps_of (line scopes pair))
    → (words : List Bytes) → leads_to_failure scopes words step.1 ≡ false
within_step scopes pair step within among words = elim (cases_Bool (leads_to_failure scopes words step.1)) [
  | inl bad ↦ (let no : true ≡ false = sym (step_fails scopes pair step words among bad) ∙ within (step.0 ∷ words) in absurd (cc))
  | inr good ↦ good
]

pub within_next : (scopes : Scopes) (pair : Pair) (word : Bytes) (a b : Kind) → line scopes pair ≡ requires word a b → Within scopes pair
    → Within scopes (a, b)
within_next scopes pair word a b is within =
    within_step scopes pair (word, Some (a, b)) within (subst (λ (l : Line). Among (word, Some (a, b)) (steps_of l)) (sym is) (inl refl))

pub within_line : (scopes : Scopes) (pair : Pair) → Within scopes pair → is_none (line scopes pair) ≡ false
unfolding leads_to_failure
within_line scopes pair within = within []

pub missing_fails : (scopes : Scopes) → leads_to_failure scopes [] None ≡ true
unfolding leads_to_failure
missing_fails scopes = refl

pub line_fails : (scopes : Scopes) (pair : Pair) → is_none (line scopes pair) ≡ true → leads_to_failure scopes [] (Some pair) ≡ true
unfolding leads_to_failure
line_fails scopes pair h = h
