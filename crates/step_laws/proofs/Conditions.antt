-- a typed condition holds or does not
use Rattle.std.proofs.Common.{◌≡◌, Bool, true, not, List, Option, Some, is_some, option_map, refl, sym, ap, ◌∙◌, subst}
use Rattle.std.specs.Prelude.{int_lt, slice_get}
use Rattle.idl_tree.specs.declared.trees.Interface.{Interface}
use Rattle.typed_value.specs.OfType.{fits}
use Rattle.typed_value.specs.Sizes.{is_whole}
use Rattle.typed_value.specs.declared.vals.Val.{Val}
use Rattle.typed_value.proofs.Distinct.{first_true, second_true}
use Rattle.value_laws.proofs.WholeOfType.{whole_of_type}
use Rattle.sheet_rules.specs.Types.{Typ, int_typ, string_typ, maybe_part, map_part, is_of_typ}
use Rattle.sheet_rules.specs.Settings.{Setting, ref_typ}
use Rattle.sheet_rules.specs.Gives.{gives}
use Rattle.sheet_rules.specs.Conditions.{gives_string, gives_int, is_given, is_map, cond_step, cond_is_typed}
use Rattle.sheet_rules.specs.declared.forms.Ref.{Ref}
use Rattle.sheet_rules.specs.declared.forms.Expr.{Expr}
use Rattle.sheet_rules.specs.declared.forms.Cond.{Cond, roll-Cond, map-Cond}
use Rattle.sheet_rules.specs.declared.forms.Cond.TheOpen.{Cond-F}
use Rattle.sheet_rules.specs.declared.forms.Cond.TheFolds.{ind-Cond, fold-roll-Cond}
use Rattle.rule_values.specs.Equal.{same_val}
use Rattle.rule_values.specs.Meanings.{Env}
use Rattle.rule_values.specs.Conditions.{Truth, compared, is_there, equal_truth, less_truth, has_truth, truth_step, truth}
use Rattle.step_laws.specs.Given.{ThereIs, InPlace}
use Rattle.step_laws.proofs.Parted.{passed}
use Rattle.step_laws.proofs.Referred.{found_given}
use Rattle.step_laws.proofs.FittingTypes.{some_there, scope_of_value}
use Rattle.step_laws.proofs.Expressions.{own_scope, number_given, looked_given, expr_given}

whole_of : (interfaces : List Interface) (t : Typ) (v : Val) → is_of_typ interfaces t v ≡ true → is_whole v ≡ true
whole_of interfaces t v of =
    let home = passed (λ (home : Interface). fits home v t.prefixes t.core) (slice_get interfaces t.scope) of in
    whole_of_type home.value v t.prefixes t.core home.so

compared_is : (one other : Val) → is_whole one ≡ true → is_whole other ≡ true → compared one other ≡ Some (same_val one other)
compared_is one other h k = rw (h, k) refl

module _ (s : Setting) (e : Env) (at : InPlace s e) where
  -- it has a truth value
  abbrev pub IsTold : Option Bool → Type 0
  IsTold o = ThereIs o (λ b. Unit {0})

  abbrev Tells : Cond → Type 0
  Tells cond = cond_is_typed s cond ≡ true → IsTold (truth cond e)

  abbrev Proved : Type 0
  Proved = (cond : Cond) × Tells cond

  equal_told : (r : Ref) (expr : Expr) → is_given s r expr ≡ true → IsTold (equal_truth r expr e)
  equal_told r expr h =
      let u = passed (gives s expr) (ref_typ s r) h in
      let v = found_given s e at r u.value u.is in
      let w = expr_given s e at expr u.value (scope_of_value s.interfaces u.value v.value v.so) u.so in
      let is = compared_is v.value w.value (whole_of s.interfaces u.value v.value v.so) (whole_of s.interfaces u.value w.value w.so) in
      record { value = same_val v.value w.value; is = rw (v.is, w.is) is; so = tt }

  less_told : (one other : Expr) → gives_int s one ≡ true → gives_int s other ≡ true → IsTold (less_truth one other e)
  less_told one other h k =
      let x = number_given s e at one (expr_given s e at one (int_typ s.scope) (own_scope s e at) h) in
      let y = number_given s e at other (expr_given s e at other (int_typ s.scope) (own_scope s e at) k) in
      record { value = int_lt x.value y.value; is = rw (x.is, y.is) refl; so = tt }

  has_told : (r : Ref) (key : Expr) → is_map s r ≡ true → gives_string s key ≡ true → IsTold (has_truth r key e)
  has_told r key h k =
      let u = passed (λ (u : Typ). is_some (map_part u)) (ref_typ s r) h in
      let part = some_there (map_part u.value) u.so in
      let text = expr_given s e at key (string_typ s.scope) (own_scope s e at) k in
      let there = looked_given s e at r u.value part.value text.value u.is part.is text.so in
      record { value = is_some there.value; is = rw (text.is, there.is) refl; so = tt }

  layer_told : (y : Cond-F Proved) → cond_step s (map-Cond Cond Bool (cond_is_typed s) (map-Cond Proved Cond (λ item. item.0) y)) ≡ true
      → IsTold (truth_step (map-Cond Cond Truth truth (map-Cond Proved Cond (λ item. item.0) y)) e)
  layer_told (Cond-F.Equal r expr) h = equal_told r expr h
  layer_told (Cond-F.Less one other) h = less_told one other (first_true (gives_int s one) _ h) (second_true (gives_int s one) _ h)
  layer_told (Cond-F.Present r) h =
      let u = passed (λ (t : Typ). is_some (maybe_part t)) (ref_typ s r) h in
      let v = found_given s e at r u.value u.is in
      record { value = is_there v.value; is = ap (option_map is_there) v.is; so = tt }
  layer_told (Cond-F.Has r key) h = has_told r key (first_true (is_map s r) _ h) (second_true (is_map s r) _ h)
  layer_told (Cond-F.Not cond) h =
      let b = cond.1 h in
      record { value = not b.value; is = ap (option_map not) b.is; so = tt }

  pub cond_told : (cond : Cond) → Tells cond
  cond_told = ind-Cond Tells (λ x y is. subst (λ (z : Cond-F Cond). Tells (roll-Cond z)) is (λ h.
      let b = layer_told y (sym (fold-roll-Cond Bool (cond_step s) (map-Cond Proved Cond (λ item. item.0) y)) ∙ h) in
      record {
        value = b.value;
        is = ap (λ (t : Truth). t e) (fold-roll-Cond Truth truth_step (map-Cond Proved Cond (λ item. item.0) y)) ∙ b.is;
        so = tt;
      }))
