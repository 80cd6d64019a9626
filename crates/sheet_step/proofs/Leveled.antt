-- what is left where the levels are tested
use Rattle.std.proofs.Common.{◌≡◌, Bool, true, false, ◌&&◌, cond, List, Some, refl, subst, ap}
use Rattle.idl_tree.specs.Names.{Bytes}
use Rattle.typed_value.specs.declared.vals.Val.{Val}
use Rattle.sheet_rules.specs.declared.forms.Guard.{Guard}
use Rattle.rule_values.specs.Meanings.{Env, meaning}
use Rattle.sheet_step.specs.Levels.{are_within}
use Rattle.sheet_step.specs.Step.{done_is_within, leveled, qualified, refused}
use Rattle.sheet_step.specs.declared.dones.Done.{Done}
use Rattle.sheet_step.specs.declared.dones.Done.TheVariants as outcome

pub within_is : (before after : List Val) (d : Done) → are_within after ≡ true → done_is_within d ≡ true → leveled before (d, after) ≡ (d, after)
within_is before after d h k = rw (h, k) refl

pub deep_is : (before after : List Val) (d : Done) → are_within after ≡ true → done_is_within d ≡ false
    → leveled before (d, after) ≡ (outcome.TooDeep, before)
deep_is before after d h k = rw (h, k) refl

pub refusal_is : (interface : Bytes) (guard : Guard) (e : Env) (v : Val) → meaning guard.with e ≡ Some v
    → refused interface guard e ≡ Some (outcome.Refused (qualified interface guard.error) v)
refusal_is interface guard e v h = rw h refl

chosen : (a b : Bool) (before after new : List Val) (d r : Done) → are_within after ≡ a → are_within before ≡ true
    → ◌≡◌ {A = Done × List Val} (cond (a && b) (d, after) (outcome.TooDeep, before)) (r, new) → are_within new ≡ true
chosen true true before after new d r at h is = subst (λ (vs : List Val). are_within vs ≡ true) (ap (λ (p : Done × List Val). p.1) is) at
chosen true false before after new d r at h is = subst (λ (vs : List Val). are_within vs ≡ true) (ap (λ (p : Done × List Val). p.1) is) h
chosen false b before after new d r at h is = subst (λ (vs : List Val). are_within vs ≡ true) (ap (λ (p : Done × List Val). p.1) is) h

pub leveled_within : (before after new : List Val) (d r : Done) → are_within before ≡ true → leveled before (d, after) ≡ (r, new) → are_within new ≡ true
leveled_within before after new d r h is = chosen (are_within after) (done_is_within d) before after new d r refl h is
