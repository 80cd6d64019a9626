-- codes that are told the same are equal, and so values are compared by equality
use Rattle.std.proofs.Common.{◌≡◌, ◌↔◌, ℕ, Bool, true, false, cond, ◌&&◌, nat_eq, Option, Some, None, IsSome, refl, ap, sym, subst, arith}
use Rattle.std.proofs.lemmas.Bool.Decides.{nat_tests}
use Rattle.std.proofs.lemmas.Bool.{false≢true}
use base.Stored.{Gv, gnil, gnum, gcons}
use Rattle.typed_value.proofs.Distinct.{first_true, second_true}
use Rattle.typed_value.specs.declared.vals.Val.{Val}
use Rattle.typed_value.specs.contracts.vals.Val.{the_row}
use Rattle.rule_values.specs.Equal.{same_code, same_val}

number_is : (m n : ℕ) → nat_eq m n ≡ true → m ≡ n
number_is m n h = grind (arith, nat_tests)

number_same : (n : ℕ) → nat_eq n n ≡ true
number_same n = grind (arith, nat_tests)

code_is : (a b : Gv) → same_code a b ≡ true → a ≡ b
code_is gnil gnil h = refl
code_is gnil (gnum n) h = absurd (false≢true h)
code_is gnil (gcons c d) h = absurd (false≢true h)
code_is (gnum m) gnil h = absurd (false≢true h)
code_is (gnum m) (gnum n) h = ap gnum (number_is m n h)
code_is (gnum m) (gcons c d) h = absurd (false≢true h)
code_is (gcons a b) gnil h = absurd (false≢true h)
code_is (gcons a b) (gnum n) h = absurd (false≢true h)
code_is (gcons a b) (gcons c d) h =
    let p = code_is a c (first_true (same_code a c) (same_code b d) h) in
    let q = code_is b d (second_true (same_code a c) (same_code b d) h) in
    λ i. gcons (p i) (q i)

code_same : (a : Gv) → same_code a a ≡ true
code_same gnil = refl
code_same (gnum n) = number_same n
code_same (gcons a b) = rw (code_same a, code_same b) refl

pub tells_equality : (one other : Val) → (same_val one other ≡ true) ↔ (one ≡ other)
tells_equality one other = (
  λ h. the_row.coded.inj one other (code_is (the_row.coded.code one) (the_row.coded.code other) h),
  λ e. subst (λ v. same_val one v ≡ true) e (code_same (the_row.coded.code one)),
)

-- two tests of the same are equal
pub same_tests : (a b : Bool) (P : Type 0) → ((a ≡ true) ↔ P) → ((b ≡ true) ↔ P) → a ≡ b
same_tests true true P h k = refl
same_tests false false P h k = refl
same_tests true false P h k = sym (k.1 (h.0 refl))
same_tests false true P h k = h.1 (k.0 refl)

pub some_where : {A : Type 0} (b : Bool) (x y : A) → IsSome (cond b (Some x) None) → x ≡ y → cond b (Some x) None ≡ Some y
some_where true x y h e = ap Some e
some_where false x y h e = absurd (false≢true h)
