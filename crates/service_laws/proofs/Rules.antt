-- the rule that a call asks for is one of the sheet's, and what its step comes to fits it
use Rattle.std.proofs.Common.{◌≡◌, ℕ, zero, suc, Bool, true, false, ◌==◌, cond, List, [], ◌∷◌, Option, Some, None, option_map, option_and_then, slice_get, find, length, nat_lt, refl, sym, ap, ◌∙◌, subst, arith, inl, inr}
use Rattle.std.specs.List.{list_all, position, position_or_len, position_from}
use Rattle.std.specs.Str.{bytes_eq}
use Rattle.std.proofs.lemmas.Bool.{and_parts, cases_Bool}
use Rattle.std.proofs.lemmas.Slice.Eq.{bytes_eq-Decides}
use Rattle.idl_tree.specs.Names.{Bytes}
use Rattle.idl_tree.specs.Faults.{method_named}
use Rattle.idl_tree.specs.declared.trees.Interface.{Interface}
use Rattle.idl_tree.specs.declared.trees.Body.{Body}
use Rattle.idl_tree.specs.declared.trees.Core.TheVariants.{Inline, outs-Inline}
use Rattle.idl_tree.proofs.FirstPlaces.{found_by_place}
use Rattle.typed_value.specs.Bodies.{body_in}
use Rattle.typed_value.specs.OfType.{is_of_body}
use Rattle.typed_value.specs.declared.vals.Val.{Val}
use Rattle.typed_value.proofs.ReadsFit.{some_is, mapped, cond_some, body_reads_fit}
use Rattle.sheet_rules.specs.Rules.{rule_is_typed}
use Rattle.sheet_step.specs.Step.{step}
use Rattle.sheet_step.specs.declared.dones.Done.{Done}
use Rattle.rule_form.specs.Rules.{interface_place}
use Rattle.sheet_form.specs.Kept.{goes_one_way}
use Rattle.sheet_form.specs.RulePlaces.{rule_place, is_rule_of}
use Rattle.sheet_form.specs.declared.sheets.Contents.{Contents}
use Rattle.step_laws.specs.Ready.{IsRuleOf, are_of_types}
use Rattle.step_laws.specs.Fits.{Fits}
use Rattle.step_laws.proofs.Whole.{keeps_types, comes_to_fit}
use Rattle.call_form.specs.declared.Call.{Call}
use Rattle.service_core.specs.Served.{IsServed}
use Rattle.service_core.specs.Sheets.{output_of}
use Rattle.service_core.specs.States.{State}
use Rattle.service_core.specs.Tells.{stepped}
use Rattle.service_laws.specs.Laws.{IsKept}
use Rattle.service_laws.proofs.Described.{served_at}
use Rattle.service_laws.proofs.Ways.{Called, request_of}

-- what stands at the first place that passes a test passes it
module _ {A : Type 0} (p : A → Bool) where
  first_passes : (xs : List A) (found : A) → slice_get xs (position_or_len p xs) ≡ Some found → p found ≡ true
  first_passes [] found is = absurd (cc)
  first_passes (x ∷ xs) found is = elim (cases_Bool (p x)) [
    | inl here ↦ (let first : position_or_len p (x ∷ xs) ≡ 0 = rw here refl in
        subst (λ (y : A). p y ≡ true) (some_is (sym (ap (slice_get (x ∷ xs)) first) ∙ is)) here)
    | inr fails ↦ (let more : position_or_len p (x ∷ xs) ≡ suc (position_or_len p xs) = rw fails (omega arith) in
        first_passes xs found (sym (ap (slice_get (x ∷ xs)) more) ∙ is))
  ]

  position_passes : (xs : List A) (place : ℕ) (found : A) → position p xs ≡ Some place → slice_get xs place ≡ Some found → p found ≡ true
  position_passes xs place found is at =
      let first = (cond_some (nat_lt (position_or_len p xs) (length xs)) (Some (position_or_len p xs)) place is).1 in
      first_passes xs found (ap (slice_get xs) (some_is first) ∙ at)

  passing_first : (x found : A) (later : Option A) (b : Bool) → p x ≡ b → cond b (Some x) later ≡ Some found → (later ≡ Some found → p found ≡ true) → p found ≡ true
  passing_first x found later true passes is behind = subst (λ (y : A). p y ≡ true) (some_is is) passes
  passing_first x found later false fails is behind = behind is

  passing : (xs : List A) (found : A) → find p xs ≡ Some found → p found ≡ true
  passing [] found is = absurd (cc)
  passing (x ∷ xs) found is = passing_first x found (find p xs) (p x) refl is (passing xs found)

  from_passes : (xs : List A) (place : ℕ) (found : A) → position_from p 0 xs ≡ Some place → slice_get xs place ≡ Some found → p found ≡ true
  from_passes xs place found is at =
      passing xs found (found_by_place p xs (position_from p 0 xs) refl ∙ ap (λ (o : Option ℕ). option_and_then (λ (i : ℕ). slice_get xs i) o) is ∙ at)

  at_place : (xs : List A) (place : ℕ) (found : A) → list_all p xs ≡ true → slice_get xs place ≡ Some found → p found ≡ true
  at_place [] place found all is = absurd (cc)
  at_place (x ∷ xs) zero found all is = subst (λ (y : A). p y ≡ true) (some_is is) (and_parts (p x) (list_all p xs) all).0
  at_place (x ∷ xs) (suc place) found all is = at_place xs place found (and_parts (p x) (list_all p xs) all).1 is

then_is : {A B : Type 0} (f : A → Option B) (o : Option A) (y : B) → option_and_then f o ≡ Some y → (x : A) × ((o ≡ Some x) × (f x ≡ Some y))
then_is f (Some x) y is = (x, (refl, is))
then_is f None y is = absurd (cc)

-- it passes the test, and stands at its place
record IsFirst {A : Type 0} (p : A → Bool) (xs : List A) (found : ℕ × A) : Type 0 where
  at : slice_get xs found.0 ≡ Some found.1
  passes : p found.1 ≡ true

first_found : {A : Type 0} (p : A → Bool) (xs : List A) (o : Option ℕ) (found : ℕ × A)
    → ((place : ℕ) (x : A) → o ≡ Some place → slice_get xs place ≡ Some x → p x ≡ true)
    → option_and_then (λ (place : ℕ). option_map (λ (x : A). (place, x)) (slice_get xs place)) o ≡ Some found → IsFirst p xs found
first_found {A = A} p xs o found first is =
    let place = then_is (λ (i : ℕ). option_map (λ (x : A). (i, x)) (slice_get xs i)) o found is in
    let at = mapped (λ (x : A). (place.0, x)) (slice_get xs place.0) found place.1.1 in
    subst (IsFirst p xs) at.1.1 (record { at = at.1.0; passes = first place.0 at.0 place.1.0 at.1.0 })

-- the rule, with its interface and the bodies of its method
pub record Ruled (sheet : Contents) (call : Call) (a : Called sheet call) : Type 0 where
  pub output : Body
  pub method_is : method_named a.names.1 a.home.1 ≡ Some (a.input, output)
  pub at : slice_get sheet.rules a.rule.0 ≡ Some a.rule.1
  pub is : IsRuleOf sheet.interfaces sheet.registers a.rule.1 a.home.1 a.input output
  pub typed : is_of_body a.home.1 a.input a.parameters ≡ true
  pub name_is : a.home.1.name ≡ a.names.0
  pub served : IsServed a.home.1

module _ (state : State) (kept : IsKept state) (call : Call) (a : Called state.sheet call) where
  abbrev sheet : Contents
  sheet = state.sheet

  pub ruled : Ruled sheet call a
  ruled =
      let named = λ (i : Interface). bytes_eq i.name a.names.0 in
      let home = first_found named sheet.interfaces (interface_place sheet.interfaces a.names.0) a.home
      (λ place x is at. position_passes named sheet.interfaces place x is at) a.home_is in
      let of = is_rule_of a.home.0 a.names.1 in
      let rule = first_found of sheet.rules (rule_place sheet.rules a.home.0 a.names.1) a.rule
      (λ place x is at. from_passes of sheet.rules place x is at) a.rule_is in
      let both = and_parts (a.rule.1.interface == a.home.0) (bytes_eq a.rule.1.method a.names.1) rule.passes in
      let interface : a.rule.1.interface ≡ a.home.0 = grind (arith, both.0) in
      let method = (bytes_eq-Decides a.rule.1.method a.names.1).0 both.1 in
      let bodies = mapped (λ (b : Body × Body). b.0) (method_named a.names.1 a.home.1) a.input a.input_is in
      let method_is : method_named a.names.1 a.home.1 ≡ Some (a.input, bodies.0.1) = bodies.1.0 ∙ ap (λ (input : Body). Some (input, bodies.0.1)) bodies.1.1 in
      record {
        output = bodies.0.1;
        method_is = method_is;
        at = rule.at;
        is = record {
          typed = at_place (rule_is_typed sheet.interfaces sheet.registers) sheet.rules a.rule.0 a.rule.1 kept.typed rule.at;
          one_way = at_place goes_one_way sheet.rules a.rule.0 a.rule.1 kept.one_way rule.at;
          home_is = ap (slice_get sheet.interfaces) interface ∙ home.at;
          method_is = ap (λ (m : Bytes). method_named m a.home.1) method ∙ method_is;
        };
        typed = body_reads_fit a.home.1 a.input (Inline a.input) call.parameters a.parameters (ap (body_in a.home.1) (outs-Inline a.input)) a.reads;
        name_is = (bytes_eq-Decides a.home.1.name a.names.0).0 home.passes;
        served = served_at sheet.interfaces a.home.0 a.home.1 kept.served home.at;
      }

  abbrev pub IsStep : Done → List Val → Type 0
  IsStep done after = stepped state (request_of sheet call a) ≡ Some (done, after)

  step_is : (done : Done) (after : List Val) → IsStep done after → step a.home.1.name a.rule.1.branches a.parameters state.registers ≡ Some (done, after)
  step_is done after is = let r = ruled in rw (r.at, r.is.home_is) at is

  pub after_typed : (done : Done) (after : List Val) → IsStep done after → are_of_types sheet.interfaces sheet.registers after ≡ true
  after_typed done after is = let r = ruled in
      keeps_types sheet.interfaces sheet.registers a.rule.1 a.home.1 a.input r.output r.is a.parameters state.registers r.typed kept.registers done after (step_is done after is)

  pub done_fits : (done : Done) (after : List Val) → IsStep done after → Fits a.home.1 ruled.output a.rule.1 done
  done_fits done after is = let r = ruled in
      comes_to_fit sheet.interfaces sheet.registers a.rule.1 a.home.1 a.input r.output r.is a.parameters state.registers r.typed kept.registers done after (step_is done after is)

  pub output_is : output_of sheet a.rule.0 ≡ Some (a.home.1, ruled.output)
  output_is = let r = ruled in rw (r.at, r.is.home_is, r.is.method_is) refl
