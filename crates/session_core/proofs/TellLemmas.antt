-- Answers by a function, over a list of calls.
use Rattle.std.proofs.Common.{◌≡◌, ◌↔◌, List, [], ◌∷◌, refl, sym, subst}
use Rattle.call_form.specs.declared.Call.{Call}
use Rattle.call_form.specs.declared.Outcome.{Outcome}
use Rattle.session_core.specs.Served.{Told}
use Rattle.session_core.specs.Tells.{Tell, tells_by, tale_of}

module _ {A : Type 0} (tell : A → Call → Tell A) where
  told-is : (a b : A) (calls : List Call) (outcomes : List Outcome) → Told (tells_by tell) a calls outcomes b →
      (outcomes ≡ (tale_of tell a calls).outcomes) × (b ≡ (tale_of tell a calls).state)
  told-is a b [] [] told = (refl, told)
  told-is a b [] (outcome ∷ outcomes) told = absurd told
  told-is a b (call ∷ calls) [] told = absurd told
  told-is a b (call ∷ calls) (outcome ∷ outcomes) told =
      let later = told-is (tell a call).state b calls outcomes
      (subst (λ (mid : A). Told (tells_by tell) mid calls outcomes b) told.1.1 told.2) in
      ((λ i. told.1.0 i ∷ later.0 i), later.1)

  is-told : (a : A) (calls : List Call) → Told (tells_by tell) a calls (tale_of tell a calls).outcomes (tale_of tell a calls).state
  is-told a [] = refl
  is-told a (call ∷ calls) = ((tell a call).state, (refl, refl), is-told (tell a call).state calls)

  pub told-tale : (a b : A) (calls : List Call) (outcomes : List Outcome) →
      Told (tells_by tell) a calls outcomes b ↔ ((outcomes ≡ (tale_of tell a calls).outcomes) × (b ≡ (tale_of tell a calls).state))
  told-tale a b calls outcomes = (
    told-is a b calls outcomes,
    λ is. subst (λ (all : List Outcome). Told (tells_by tell) a calls all b) (sym is.0)
        (subst (λ (last : A). Told (tells_by tell) a calls (tale_of tell a calls).outcomes last) (sym is.1) (is-told a calls)),
  )
