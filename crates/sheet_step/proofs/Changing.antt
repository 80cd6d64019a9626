-- a change of one register, and what undoes it
use Rattle.std.proofs.Common.{◌≡◌, ℕ, zero, suc, ◌<◌, List, [], ◌∷◌, length, set, Option, Some, None, IsSome, refl, sym, ap, ◌∙◌, arith}
use Rattle.std.specs.Prelude.{slice_get, slice_set}
use Rattle.std.proofs.lemmas.Bool.{false≢true}
use Rattle.std.proofs.lemmas.List.{get_or-set_same, set-set, set-get_or, length-set}
use Rattle.std.proofs.lemmas.Option.{slice_get_within, slice_get-get_or, get_or_from_slice_get}
use Rattle.rule_values.proofs.Parting.{then_some}
use Rattle.typed_value.specs.declared.vals.Val.{Val}
use Rattle.sheet_step.specs.Registers.{Change, changed}

some_of : {A : Type 0} (o : Option A) → IsSome o → (x : A) × (o ≡ Some x)
some_of None h = absurd (false≢true h)
some_of (Some x) h = (x, refl)

pub register_there : (place : ℕ) (f : Change) (rs : List Val) → IsSome (changed place f rs) → place < length rs
register_there place f rs h =
    let s = some_of (slice_get rs place) (then_some (slice_get rs place) _ h) in
    slice_get_within rs place s.0 s.1

pub change_there : (place : ℕ) (f : Change) (rs : List Val) (old : Val) → slice_get rs place ≡ Some old → IsSome (changed place f rs)
    → IsSome (f old)
change_there place f rs old is h = then_some (f old) _ (rw is at h)

pub change_is : (place : ℕ) (f : Change) (rs : List Val) (old new : Val) → slice_get rs place ≡ Some old → f old ≡ Some new
    → changed place f rs ≡ Some (slice_set rs place new)
change_is place f rs old new is to = rw (is, to) refl

kept : (rs : List Val) (place : ℕ) (old : Val) → slice_get rs place ≡ Some old → slice_set rs place old ≡ rs
kept rs place old is = ap (λ (v : Val). set rs place v) (sym (get_or_from_slice_get rs place old old is)) ∙ set-get_or rs place old

pub placed_is : (rs : List Val) (place : ℕ) (old new : Val) → slice_get rs place ≡ Some old → slice_get (slice_set rs place new) place ≡ Some new
placed_is rs place old new is =
    let within : place < length rs = slice_get_within rs place old is in
    slice_get-get_or (set rs place new) place new (omega (arith, length-set rs place new)) ∙ ap Some (get_or-set_same rs place new new within)

pub other_stays : (rs : List Val) (place other : ℕ) (new : Val) → (other ≡ place → ⊥) → slice_get (slice_set rs place new) other ≡ slice_get rs other
other_stays [] place other new apart = refl
other_stays (r ∷ rs) zero zero new apart = absurd (apart refl)
other_stays (r ∷ rs) zero (suc other) new apart = refl
other_stays (r ∷ rs) (suc place) zero new apart = refl
other_stays (r ∷ rs) (suc place) (suc other) new apart = other_stays rs place other new (λ e. apart (ap suc e))

pub change_back : (place : ℕ) (f : Change) (rs : List Val) (old new : Val) → slice_get rs place ≡ Some old → f new ≡ Some old
    → changed place f (slice_set rs place new) ≡ Some rs
change_back place f rs old new is to =
    change_is place f (slice_set rs place new) new old (placed_is rs place old new is) to ∙ ap Some (set-set rs place new old ∙ kept rs place old is)
