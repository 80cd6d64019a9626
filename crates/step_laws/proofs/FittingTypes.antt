-- a value of a type is a value of each type that it fits, and of `?U` where it is one of U
use Rattle.std.proofs.Common.{◌≡◌, ℕ, Bool, true, false, ◌||◌, ◌&&◌, ◌==◌, not, ◌⊎◌, inl, inr, List, [], ◌∷◌, Option, Some, None, IsSome, refl, sym, ap, ◌∙◌, subst}
use Rattle.std.specs.Prelude.{slice_get}
use Rattle.std.proofs.lemmas.Bool.{false≢true, eqb-true}
use Rattle.idl_tree.specs.Same.{same_prefixes, same_core}
use Rattle.idl_tree.specs.declared.trees.Interface.{Interface}
use Rattle.idl_tree.specs.declared.trees.Prefix.{Prefix}
use Rattle.idl_tree.specs.declared.trees.Prefix.TheVariants.{Array, Map, Maybe}
use Rattle.idl_tree.specs.declared.trees.Core.{Core}
use Rattle.typed_value.specs.OfType.{Fit, fits, fit_step}
use Rattle.typed_value.specs.declared.vals.Val.{Val, out-Val, map-Val}
use Rattle.typed_value.specs.declared.vals.Val.TheOpen.{Val-F}
use Rattle.typed_value.proofs.Distinct.{first_true, second_true}
use Rattle.sheet_rules.specs.Types.{Typ, behind, behind_maybe, without_maybe, after_maybe, part_behind, maybe_part, core_has_name, same_typ, fits_typ, passes, is_of_typ}
use Rattle.step_laws.specs.Given.{ThereIs}
use Rattle.step_laws.proofs.Parted.{no_some, some_same, passed, passing}
use Rattle.step_laws.proofs.StructValues.{at_layer}
use Rattle.step_laws.proofs.SameTypes.{Agrees, prefixes_are, same_values}

layer_maybe : (home : Interface) (x : Val-F Fit) (prefixes : List Prefix) (core : Core) → fit_step home x prefixes core ≡ true
    → fit_step home x (Maybe ∷ prefixes) core ≡ true
layer_maybe home (Val-F.Bool b) prefixes core h = h
layer_maybe home (Val-F.Int z) prefixes core h = h
layer_maybe home (Val-F.Str s) prefixes core h = h
layer_maybe home (Val-F.Items values) prefixes core h = h
layer_maybe home (Val-F.Map entries) prefixes core h = h
layer_maybe home (Val-F.Struct values) prefixes core h = h
layer_maybe home (Val-F.Pick place) prefixes core h = h
layer_maybe home Val-F.Nothing prefixes core h = refl
layer_maybe home (Val-F.Foreign d) prefixes core h = h

pub maybe_fits : (home : Interface) (v : Val) (prefixes : List Prefix) (core : Core) → fits home v prefixes core ≡ true
    → fits home v (Maybe ∷ prefixes) core ≡ true
maybe_fits home v prefixes core h =
    at_layer home v (out-Val v) refl (Maybe ∷ prefixes) core
    ∙ layer_maybe home (map-Val Val Fit (fits home) (out-Val v)) prefixes core (sym (at_layer home v (out-Val v) refl prefixes core) ∙ h)

pub without_fits : (home : Interface) (v : Val) (prefixes : List Prefix) (core : Core) → fits home v (behind_maybe prefixes) core ≡ true
    → fits home v prefixes core ≡ true
without_fits home v [] core h = h
without_fits home v (Array ∷ prefixes) core h = h
without_fits home v (Map ∷ prefixes) core h = h
without_fits home v (Maybe ∷ prefixes) core h = maybe_fits home v prefixes core h

pub some_there : {A : Type 0} (o : Option A) → IsSome o → ThereIs o (λ x. Unit {0})
some_there None h = absurd (false≢true h)
some_there (Some x) h = record { value = x; is = refl; so = tt }

pub there_some : {A : Type 0} (o : Option A) (x : A) → o ≡ Some x → IsSome o
there_some o x is = rw is refl

pub or_true : (a b : Bool) → (a || b) ≡ true → (a ≡ true) ⊎ (b ≡ true)
or_true true b h = inl refl
or_true false b h = inr h

not_true : (a : Bool) → not a ≡ true → a ≡ false
not_true true h = absurd (false≢true h)
not_true false h = refl

module _ (interfaces : List Interface) where
  -- the interface that the names of a type belong to is there
  abbrev pub HasScope : Typ → Type 0
  HasScope t = IsSome (slice_get interfaces t.scope)

  pub scope_of_value : (t : Typ) (v : Val) → is_of_typ interfaces t v ≡ true → HasScope t
  scope_of_value t v of =
      let home = passed (λ (scope : Interface). fits scope v t.prefixes t.core) (slice_get interfaces t.scope) of in
      there_some (slice_get interfaces t.scope) home.value home.is

  pub without_of : (t : Typ) (v : Val) → is_of_typ interfaces (without_maybe t) v ≡ true → is_of_typ interfaces t v ≡ true
  without_of t v of =
      let home = passed (λ (scope : Interface). fits scope v (behind_maybe t.prefixes) t.core) (slice_get interfaces t.scope) of in
      passing (λ (scope : Interface). fits scope v t.prefixes t.core) (slice_get interfaces t.scope) home.value home.is
      (without_fits home.value v t.prefixes t.core home.so)

  homes_agree : (m n : ℕ) (named : Bool) (home other : Interface) → slice_get interfaces m ≡ Some home → slice_get interfaces n ≡ Some other
      → ((m == n) || not named) ≡ true → Agrees home other named
  homes_agree m n named home other is at h = elim (or_true (m == n) (not named) h) [
    | inl same ↦ inl (some_same home other (sym is ∙ ap (slice_get interfaces) (eqb-true m n same) ∙ at))
    | inr none ↦ inr (not_true named none)
  ]

  pub same_of : (t u : Typ) (v : Val) → same_typ t u ≡ true → HasScope u → is_of_typ interfaces t v ≡ true → is_of_typ interfaces u v ≡ true
  same_of t u v same there of =
      let home = passed (λ (scope : Interface). fits scope v t.prefixes t.core) (slice_get interfaces t.scope) of in
      let other = some_there (slice_get interfaces u.scope) there in
      let heads = first_true (same_prefixes t.prefixes u.prefixes && same_core t.core u.core) _ same in
      let prefixes = prefixes_are t.prefixes u.prefixes (first_true (same_prefixes t.prefixes u.prefixes) _ heads) in
      let core = second_true (same_prefixes t.prefixes u.prefixes) _ heads in
      let agree = homes_agree t.scope u.scope (core_has_name t.core) home.value other.value home.is other.is
      (second_true (same_prefixes t.prefixes u.prefixes && same_core t.core u.core) _ same) in
      passing (λ (scope : Interface). fits scope v u.prefixes u.core) (slice_get interfaces u.scope) other.value other.is
      (subst (λ (ps : List Prefix). fits other.value v ps u.core ≡ true) prefixes
      (same_values home.value other.value v t.prefixes t.core u.core agree core home.so))

  maybe_of : (prefixes : List Prefix) (t u : Typ) (v : Val) → t.prefixes ≡ prefixes → part_behind t (after_maybe prefixes) ≡ Some u
      → is_of_typ interfaces u v ≡ true → is_of_typ interfaces t v ≡ true
  maybe_of [] t u v is part of = absurd (no_some u part)
  maybe_of (Array ∷ prefixes) t u v is part of = absurd (no_some u part)
  maybe_of (Map ∷ prefixes) t u v is part of = absurd (no_some u part)
  maybe_of (Maybe ∷ prefixes) t u v is part of =
      let whole = subst (λ (x : Typ). is_of_typ interfaces x v ≡ true) (sym (some_same (behind t prefixes) u part)) of in
      let home = passed (λ (scope : Interface). fits scope v prefixes t.core) (slice_get interfaces t.scope) whole in
      passing (λ (scope : Interface). fits scope v t.prefixes t.core) (slice_get interfaces t.scope) home.value home.is
      (subst (λ (ps : List Prefix). fits home.value v ps t.core ≡ true) (sym is) (maybe_fits home.value v prefixes t.core home.so))

  maybe_scope : (prefixes : List Prefix) (t u : Typ) → part_behind t (after_maybe prefixes) ≡ Some u → u.scope ≡ t.scope
  maybe_scope [] t u part = absurd (no_some u part)
  maybe_scope (Array ∷ prefixes) t u part = absurd (no_some u part)
  maybe_scope (Map ∷ prefixes) t u part = absurd (no_some u part)
  maybe_scope (Maybe ∷ prefixes) t u part = ap (λ (x : Typ). x.scope) (sym (some_same (behind t prefixes) u part))

  pub fits_of : (t u : Typ) (v : Val) → fits_typ t u ≡ true → HasScope u → is_of_typ interfaces t v ≡ true → is_of_typ interfaces u v ≡ true
  fits_of t u v fit there of = elim (or_true (same_typ t u) (passes (same_typ t) (maybe_part u)) fit) [
    | inl same ↦ same_of t u v same there of
    | inr more ↦ (let part = passed (same_typ t) (maybe_part u) more in
        let scope = subst (λ (n : ℕ). IsSome (slice_get interfaces n)) (sym (maybe_scope u.prefixes u part.value part.is)) there in
        maybe_of u.prefixes u part.value v refl part.is (same_of t part.value v part.so scope of))
  ]
