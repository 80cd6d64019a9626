-- the rule of a call that asks for a step
use Rattle.std.proofs.Common.{◌≡◌, ℕ, Option, Some, None, Ok, Err, Result, IfOk, OnErr, refl, sym, ap, ◌∙◌, subst}
use Rattle.idl_tree.specs.Names.{Bytes}
use Rattle.typed_value.proofs.ReadsFit.{some_is}
use Rattle.sheet_form.specs.declared.sheets.Contents.{Contents}
use Rattle.call_form.specs.declared.Call.{Call}
use Rattle.service_core.specs.declared.requests.Request.{Request}
use Rattle.service_core.specs.Places.{place_of}
use Rattle.service_core.specs.Comes.{called}
use Rattle.service_core.proofs.Ways.{asks, called_is}

pub ok_map : {A E : Type 0} (r : Result A E) (P Q : A → Type 0) → ((x : A) → P x → Q x) → IfOk r P → IfOk r Q
ok_map (Ok x) P Q each is = each x is
ok_map (Err e) P Q each is = tt

pub ok_both : {A E : Type 0} (r : Result A E) (P Q R : A → Type 0) → ((x : A) → P x → Q x → R x) → IfOk r P → IfOk r Q → IfOk r R
ok_both (Ok x) P Q R each is other = each x is other
ok_both (Err e) P Q R each is other = tt

pub err_map : {A E : Type 0} (r : Result A E) (P Q : Type 0) → (P → Q) → OnErr r P → OnErr r Q
err_map (Ok x) P Q then is = tt
err_map (Err e) P Q then is = then is

-- what follows from a result in both its cases
pub in_both : {A E : Type 0} (r : Result A E) (P : A → Type 0) (Q R : Type 0) → ((x : A) → P x → R) → (Q → R) → IfOk r P → OnErr r Q → R
in_both (Ok x) P Q R ok err is none = ok x is
in_both (Err e) P Q R ok err none is = err is

module _ (sheet other : Contents) (call : Call) (word : Bytes) (request : Request) (of : other ≡ sheet) (named : word ≡ call.method)
    (place : place_of sheet call ≡ Ok request) where
  found : called other word ≡ Some request.rule
  found = (λ j. called (of j) (named j)) ∙ called_is sheet call request (asks sheet call request place)

  pub rule_called : (rule : ℕ) → Some rule ≡ called other word → rule ≡ request.rule
  rule_called rule is = some_is (is ∙ found)

  pub is_called : None ≡ called other word → ⊥
  is_called is = let no : ◌≡◌ {A = Option ℕ} None (Some request.rule) = is ∙ found in absurd (cc)
