-- what holds of each end of a call's way holds of what the call is placed as
use Rattle.std.proofs.Common.{◌≡◌, ℕ, Bool, true, false, Option, Some, None, Ok, Err, codes, refl, inl, inr}
use Rattle.std.specs.Str.{bytes_eq}
use Rattle.std.proofs.lemmas.Bool.{cases_Bool}
use Rattle.idl_tree.specs.Names.{Bytes}
use Rattle.idl_tree.specs.declared.trees.Interface.{Interface}
use Rattle.idl_tree.specs.declared.trees.Body.{Body}
use Rattle.typed_value.specs.Reads.{ReadsBody}
use Rattle.typed_value.specs.declared.vals.Val.{Val}
use Rattle.sheet_rules.specs.declared.forms.Rule.{Rule}
use Rattle.sheet_draft.specs.Outlines.{at_last_dot}
use Rattle.sheet_form.specs.declared.sheets.Contents.{Contents}
use Rattle.call_form.specs.declared.Call.{Call}
use Rattle.call_form.specs.declared.StdError.{StdError}
use Rattle.call_form.specs.declared.StdError.TheVariants.{InterfaceNotFound, MethodNotFound, MethodNotImplemented, InvalidParameter, ExpectedMore}
use Rattle.call_form.specs.StdErrors.{standard_of}
use Rattle.service_core.specs.declared.requests.Request.{Request}
use Rattle.service_core.specs.Sheets.{interface_named, rule_named}
use Rattle.service_core.specs.Descriptions.{service_name}
use Rattle.service_core.specs.Places.{Way, ◌>>=◌, given, barred, own_reply, by_interface, by_method, by_rule, by_parameters, input_named, mistakes_upgrade, lacks_more, unread, place_of}

-- the rule that a call asks for, with its method and interface
pub record Called (sheet : Contents) (call : Call) : Type 0 where
  pub names : Bytes × Bytes
  pub names_are : at_last_dot call.method ≡ Some names
  pub other : bytes_eq names.0 service_name ≡ false
  pub home : ℕ × Interface
  pub home_is : interface_named sheet names.0 ≡ Some home
  pub input : Body
  pub input_is : input_named names.1 home.1 ≡ Some input
  pub rule : ℕ × Rule
  pub rule_is : rule_named sheet home.0 names.1 ≡ Some rule
  pub upgrade : mistakes_upgrade call rule.1 ≡ false
  pub parameters : Val
  pub reads : ReadsBody home.1 input call.parameters ≡ Some parameters

abbrev pub request_of : (sheet : Contents) (call : Call) → Called sheet call → Request
request_of sheet call a = record { rule = a.rule.0; parameters = a.parameters }

given_way : {A B : Type 0} (P : Way B → Type 0) (error : StdError) (o : Option A) (f : A → Way B)
    → P (Err (standard_of error)) → ((x : A) → o ≡ Some x → P (f x)) → P (given error o >>= f)
given_way P error (Some x) f none some = some x refl
given_way P error None f none some = none

barred_way : {A : Type 0} (P : Way A → Type 0) (b : Bool) (error : StdError) (way : Way A)
    → P (Err (standard_of error)) → (b ≡ false → P way) → P (barred b error way)
barred_way P true error way bars behind = bars
barred_way P false error way bars behind = behind refl

module _ (sheet : Contents) (call : Call) (P : Way Request → Type 0)
    (fails : (error : StdError) → P (Err (standard_of error)))
    (own : (names : Bytes × Bytes) → at_last_dot call.method ≡ Some names → bytes_eq names.0 service_name ≡ true → P (Err (own_reply sheet call names.1)))
    (asks : (a : Called sheet call) → P (Ok (request_of sheet call a))) where
  on_method : (names : Bytes × Bytes) → at_last_dot call.method ≡ Some names → bytes_eq names.0 service_name ≡ false
      → (home : ℕ × Interface) → interface_named sheet names.0 ≡ Some home → P (by_method sheet call names.1 home)
  on_method names names_are other home home_is =
      given_way P (MethodNotFound call.method) (input_named names.1 home.1)
      (λ (input : Body). given (MethodNotImplemented call.method) (rule_named sheet home.0 names.1) >>= by_rule call home.1 input) (fails (MethodNotFound call.method))
      (λ input input_is. given_way P (MethodNotImplemented call.method) (rule_named sheet home.0 names.1) (by_rule call home.1 input)
      (fails (MethodNotImplemented call.method))
      (λ rule rule_is. barred_way P (mistakes_upgrade call rule.1) (InvalidParameter (codes "upgrade"))
      (barred (lacks_more call rule.1) ExpectedMore (by_parameters call home.1 input rule.0)) (fails (InvalidParameter (codes "upgrade")))
      (λ upgrade. barred_way P (lacks_more call rule.1) ExpectedMore (by_parameters call home.1 input rule.0) (fails ExpectedMore)
      (λ more. given_way P (unread home.1 input call.parameters) (ReadsBody home.1 input call.parameters)
      (λ (v : Val). Ok (record { rule = rule.0; parameters = v })) (fails (unread home.1 input call.parameters))
      (λ parameters reads. asks (record {
        names = names;
        names_are = names_are;
        other = other;
        home = home;
        home_is = home_is;
        input = input;
        input_is = input_is;
        rule = rule;
        rule_is = rule_is;
        upgrade = upgrade;
        parameters = parameters;
        reads = reads;
      }))))))

  on_interface : (names : Bytes × Bytes) → at_last_dot call.method ≡ Some names → P (by_interface sheet call names)
  on_interface names names_are = elim (cases_Bool (bytes_eq names.0 service_name)) [
    | inl service ↦ rw service (own names names_are service)
    | inr other ↦ rw other (given_way P (InterfaceNotFound names.0) (interface_named sheet names.0) (by_method sheet call names.1) (fails (InterfaceNotFound names.0))
        (on_method names names_are other))
  ]

  pub on_way : P (place_of sheet call)
  unfolding place_of
  on_way = given_way P (InterfaceNotFound call.method) (at_last_dot call.method) (by_interface sheet call) (fails (InterfaceNotFound call.method)) on_interface
