-- what a call that asks for a step is
use Rattle.std.proofs.Common.{◌≡◌, ℕ, Bool, true, false, cond, Option, Some, None, Ok, Err, option_map, option_and_then, slice_get, codes, refl, sym, ap, ◌∙◌, subst}
use Rattle.std.specs.Str.{bytes_eq}
use Rattle.idl_tree.specs.Names.{Bytes}
use Rattle.idl_tree.specs.declared.trees.Interface.{Interface}
use Rattle.idl_tree.specs.declared.trees.Body.{Body}
use Rattle.typed_value.specs.Reads.{ReadsBody}
use Rattle.typed_value.specs.declared.vals.Val.{Val}
use Rattle.typed_value.proofs.ReadsFit.{mapped}
use Rattle.sheet_rules.specs.declared.forms.Rule.{Rule}
use Rattle.sheet_draft.specs.Outlines.{at_last_dot}
use Rattle.sheet_form.specs.declared.sheets.Contents.{Contents}
use Rattle.call_form.specs.declared.Call.{Call}
use Rattle.call_form.specs.declared.Reply.{Reply}
use Rattle.call_form.specs.declared.StdError.{StdError}
use Rattle.call_form.specs.declared.StdError.TheVariants.{InterfaceNotFound, MethodNotFound, MethodNotImplemented, InvalidParameter, ExpectedMore}
use Rattle.service_core.specs.declared.requests.Request.{Request}
use Rattle.service_core.specs.Sheets.{interface_named, rule_named, with_rule}
use Rattle.service_core.specs.Descriptions.{service_name}
use Rattle.service_core.specs.Places.{Way, ◌>>=◌, given, barred, own_reply, asked, by_interface, by_method, by_rule, by_parameters, input_named, mistakes_upgrade, lacks_more, unread, place_of}
use Rattle.service_core.specs.Comes.{called}

pub record Asked (sheet : Contents) (call : Call) (request : Request) : Type 0 where
  pub names : Bytes × Bytes
  pub names_are : at_last_dot call.method ≡ Some names
  pub home : ℕ × Interface
  pub home_is : interface_named sheet names.0 ≡ Some home
  pub input : Body
  pub input_is : input_named names.1 home.1 ≡ Some input
  pub rule : ℕ × Rule
  pub rule_is : rule_named sheet home.0 names.1 ≡ Some rule
  pub upgrade : mistakes_upgrade call rule.1 ≡ false
  pub more : lacks_more call rule.1 ≡ false
  pub parameters : Val
  pub reads : ReadsBody home.1 input call.parameters ≡ Some parameters
  pub request_is : record { rule = rule.0; parameters = parameters } ≡ request

given_ok : {A B : Type 0} (error : StdError) (o : Option A) (f : A → Way B) (y : B) → (given error o >>= f) ≡ Ok y
    → (x : A) × ((o ≡ Some x) × (f x ≡ Ok y))
given_ok error (Some x) f y is = (x, (refl, is))
given_ok error None f y is = absurd (cc)

barred_ok : {A : Type 0} (b : Bool) (error : StdError) (way : Way A) (y : A) → barred b error way ≡ Ok y → (b ≡ false) × (way ≡ Ok y)
barred_ok true error way y is = absurd (cc)
barred_ok false error way y is = (refl, is)

other_ok : {A : Type 0} (b : Bool) (reply : Reply) (way : Way A) (y : A) → cond b (Err reply) way ≡ Ok y → way ≡ Ok y
other_ok true reply way y is = absurd (cc)
other_ok false reply way y is = is

ok_is : {A : Type 0} {a b : A} → ◌≡◌ {A = Way A} (Ok a) (Ok b) → a ≡ b
ok_is is = cc

module _ (sheet : Contents) (call : Call) (request : Request) where
  asks_method : (names : Bytes × Bytes) → at_last_dot call.method ≡ Some names → (home : ℕ × Interface) → interface_named sheet names.0 ≡ Some home
      → by_method sheet call names.1 home ≡ Ok request → Asked sheet call request
  asks_method names names_are home home_is is =
      let input = given_ok (MethodNotFound call.method) (input_named names.1 home.1)
      (λ (x : Body). given (MethodNotImplemented call.method) (rule_named sheet home.0 names.1) >>= by_rule call home.1 x) request is in
      let rule = given_ok (MethodNotImplemented call.method) (rule_named sheet home.0 names.1) (by_rule call home.1 input.0) request input.1.1 in
      let upgrade = barred_ok (mistakes_upgrade call rule.0.1) (InvalidParameter (codes "upgrade"))
      (barred (lacks_more call rule.0.1) ExpectedMore (by_parameters call home.1 input.0 rule.0.0)) request rule.1.1 in
      let more = barred_ok (lacks_more call rule.0.1) ExpectedMore (by_parameters call home.1 input.0 rule.0.0) request upgrade.1 in
      let parameters = given_ok (unread home.1 input.0 call.parameters) (ReadsBody home.1 input.0 call.parameters)
      (λ (v : Val). Ok (record { rule = rule.0.0; parameters = v })) request more.1 in
      record {
        names = names;
        names_are = names_are;
        home = home;
        home_is = home_is;
        input = input.0;
        input_is = input.1.0;
        rule = rule.0;
        rule_is = rule.1.0;
        upgrade = upgrade.0;
        more = more.0;
        parameters = parameters.0;
        reads = parameters.1.0;
        request_is = ok_is parameters.1.1;
      }

  asks_interface : (names : Bytes × Bytes) → at_last_dot call.method ≡ Some names → by_interface sheet call names ≡ Ok request → Asked sheet call request
  asks_interface names names_are is =
      let way = other_ok (bytes_eq names.0 service_name) (own_reply sheet call names.1) (asked sheet call names.0 names.1) request is in
      let home = given_ok (InterfaceNotFound names.0) (interface_named sheet names.0) (by_method sheet call names.1) request way in
      asks_method names names_are home.0 home.1.0 home.1.1

  pub asks : place_of sheet call ≡ Ok request → Asked sheet call request
  unfolding place_of
  asks is =
      let names = given_ok (InterfaceNotFound call.method) (at_last_dot call.method) (by_interface sheet call) request is in
      asks_interface names.0 names.1.0 names.1.1

-- the place of its rule
pub called_is : (sheet : Contents) (call : Call) (request : Request) → Asked sheet call request → called sheet call.method ≡ Some request.rule
called_is sheet call request a = rw (a.names_are, a.home_is, a.rule_is) (ap (λ (r : Request). Some r.rule) a.request_is)

pub then_is : {A B : Type 0} (f : A → Option B) (o : Option A) (y : B) → option_and_then f o ≡ Some y → (x : A) × ((o ≡ Some x) × (f x ≡ Some y))
then_is f (Some x) y is = (x, (refl, is))
then_is f None y is = absurd (cc)

-- the rule that was found stands at its place
pub rule_at : (sheet : Contents) (interface : ℕ) (method : Bytes) (rule : ℕ × Rule) → rule_named sheet interface method ≡ Some rule
    → slice_get sheet.rules rule.0 ≡ Some rule.1
rule_at sheet interface method rule is =
    let place = then_is (with_rule sheet) _ rule is in
    let at = mapped (λ (r : Rule). (place.0, r)) (slice_get sheet.rules place.0) rule place.1.1 in
    subst (λ (x : ℕ × Rule). slice_get sheet.rules x.0 ≡ Some x.1) at.1.1 at.1.0
