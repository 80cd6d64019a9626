-- A request has no more levels than the call that it is of.
use Rattle.std.proofs.Common.{◌≡◌, ℕ, ◌≤◌, ◌||◌, Bool, true, false, cond, List, [], ◌∷◌, Option, Some, None, Ok, Err, Result, refl, sym, ap, ◌∙◌, subst, arith}
use Rattle.std.specs.Prelude.{All}
use Rattle.std.specs.Str.{bytes_eq}
use Rattle.std.proofs.lemmas.List.Elements.{All-nil, All-cons, All-head, All-tail}
use Rattle.serde_json.specs.Data.{Data, null, boolean, number, string, array, object, depth}
use Rattle.idl_tree.specs.Names.{Bytes}
use Rattle.idl_tree.specs.declared.trees.Interface.{Interface}
use Rattle.idl_tree.specs.declared.trees.Body.{Body}
use Rattle.idl_tree.specs.declared.trees.Core.{Core, out-Core}
use Rattle.idl_tree.specs.declared.trees.Core.TheVariants as core
use Rattle.idl_tree.specs.declared.trees.Core.TheVariants.{outs-Inline}
use Rattle.typed_value.specs.Reads.{ReadsBody, core_by, member_readers}
use Rattle.typed_value.specs.Sizes.{levels_of}
use Rattle.typed_value.specs.declared.vals.Val.{Val}
use Rattle.value_laws.proofs.ReadDepths.{reads_no_deeper}
use Rattle.sheet_rules.specs.declared.forms.Rule.{Rule}
use Rattle.sheet_draft.specs.Outlines.{at_last_dot}
use Rattle.sheet_form.specs.declared.sheets.Contents.{Contents}
use Rattle.call_form.specs.declared.Call.{Call}
use Rattle.call_form.specs.declared.Reply.{Reply}
use Rattle.call_form.specs.declared.StdError.{StdError}
use Rattle.call_form.specs.declared.StdError.TheVariants.{InterfaceNotFound, MethodNotFound, MethodNotImplemented, InvalidParameter, ExpectedMore}
use Rattle.service_core.specs.Sheets.{interface_named, rule_named}
use Rattle.service_core.specs.declared.requests.Request.{Request}
use Rattle.service_core.specs.Descriptions.{service_name}
use Rattle.service_core.specs.Places.{Way, ◌>>=◌, given, barred, own_reply, by_interface, by_method, by_rule, by_parameters, input_named, mistakes_upgrade, lacks_more, unread, asked, place_of}
use Rattle.service_desk.specs.Hearing.{asked_by, asked_first}
use Rattle.host_laws.specs.Laws.{IsShallow}
use Rattle.host_laws.proofs.CallDepths.{IsShallowCall}

body_levels : (home : Interface) (body : Body) (tree : Data) (v : Val) → ReadsBody home body tree ≡ Some v → levels_of v ≤ depth tree
body_levels home body null v e = reads_no_deeper home null [] (core.Inline body) v (ap (core_by home null None) (outs-Inline body) ∙ e)
body_levels home body (boolean b) v e = reads_no_deeper home (boolean b) [] (core.Inline body) v (ap (core_by home (boolean b) None) (outs-Inline body) ∙ e)
body_levels home body (number n) v e = reads_no_deeper home (number n) [] (core.Inline body) v (ap (core_by home (number n) None) (outs-Inline body) ∙ e)
body_levels home body (string s) v e = reads_no_deeper home (string s) [] (core.Inline body) v (ap (core_by home (string s) None) (outs-Inline body) ∙ e)
body_levels home body (array ds) v e = reads_no_deeper home (array ds) [] (core.Inline body) v (ap (core_by home (array ds) None) (outs-Inline body) ∙ e)
body_levels home body (object ms) v e = reads_no_deeper home (object ms) [] (core.Inline body) v (ap (core_by home (object ms) (Some (member_readers home ms))) (outs-Inline body) ∙ e)

way_ok : {A B : Type 0} (r : Way A) (f : A → Way B) (b : B) → (r >>= f) ≡ Ok b → (a : A) × (r ≡ Ok a) × (f a ≡ Ok b)
way_ok (Ok a) f b e = (a, refl, e)
way_ok (Err reply) f b e = absurd (cc)

abbrev way_or : {A : Type 0} → A → Way A → A
way_or x (Ok a) = a
way_or x (Err reply) = x

given_ok : {A : Type 0} (error : StdError) (o : Option A) (x : A) → given error o ≡ Ok x → o ≡ Some x
given_ok error None x e = absurd (cc)
given_ok error (Some y) x e = ap Some (ap (way_or x) e)

barred_ok : (b : Bool) (error : StdError) (r : Way Request) (x : Request) → barred b error r ≡ Ok x → r ≡ Ok x
barred_ok true error r x e = absurd (cc)
barred_ok false error r x e = e

own_ok : (b : Bool) (reply : Reply) (r : Way Request) (x : Request) → cond b (Err reply) r ≡ Ok x → r ≡ Ok x
own_ok true reply r x e = absurd (cc)
own_ok false reply r x e = e

module _ (sheet : Contents) (call : Call) (request : Request) where
  parameters_levels : (home : Interface) (input : Body) (rule : ℕ) → by_parameters call home input rule ≡ Ok request → levels_of request.parameters ≤ depth call.parameters
  parameters_levels home input rule e =
      let read = way_ok (given (unread home input call.parameters) (ReadsBody home input call.parameters)) (λ (v : Val). Ok (record { rule = rule; parameters = v })) request e in
      let low = body_levels home input call.parameters read.0 (given_ok (unread home input call.parameters) (ReadsBody home input call.parameters) read.0 read.1) in
      subst (λ (r : Request). levels_of r.parameters ≤ depth call.parameters) (ap (way_or (record { rule = rule; parameters = read.0 })) read.2) low

  rule_levels : (home : Interface) (input : Body) (rule : ℕ × Rule) → by_rule call home input rule ≡ Ok request → levels_of request.parameters ≤ depth call.parameters
  rule_levels home input rule e =
      parameters_levels home input rule.0
      (barred_ok (lacks_more call rule.1) ExpectedMore _ request (barred_ok (mistakes_upgrade call rule.1) (InvalidParameter _) _ request e))

  method_levels : (method : Bytes) (home : ℕ × Interface) → by_method sheet call method home ≡ Ok request → levels_of request.parameters ≤ depth call.parameters
  method_levels method home e =
      let input = way_ok (given (MethodNotFound call.method) (input_named method home.1)) (λ (b : Body). given (MethodNotImplemented call.method) (rule_named sheet home.0 method) >>= (λ (rule : ℕ × Rule). by_rule call home.1 b rule)) request e in
      let rule = way_ok (given (MethodNotImplemented call.method) (rule_named sheet home.0 method)) (λ (rule : ℕ × Rule). by_rule call home.1 input.0 rule) request input.2 in
      rule_levels home.1 input.0 rule.0 rule.2

  pub place_levels : place_of sheet call ≡ Ok request → levels_of request.parameters ≤ depth call.parameters
  unfolding place_of
  place_levels e =
      let names = way_ok (given (InterfaceNotFound call.method) (at_last_dot call.method)) (λ (names : Bytes × Bytes). by_interface sheet call names) request e in
      let there = own_ok (bytes_eq names.0.0 service_name) (own_reply sheet call names.0.1) (asked sheet call names.0.0 names.0.1) request names.2 in
      let home = way_ok (given (InterfaceNotFound names.0.0) (interface_named sheet names.0.0)) (λ (home : ℕ × Interface). by_method sheet call names.0.1 home) request there in
      method_levels names.0.1 home.0 home.2

first_shallow : (sheet : Contents) (call : Call) (way : Way Request) (later : List Request) → place_of sheet call ≡ way → IsShallowCall call → All IsShallow later → All IsShallow (asked_first way later)
first_shallow sheet call (Err reply) later is low all = all
first_shallow sheet call (Ok request) later is low all = let here = place_levels sheet call request is in All-cons IsShallow request later (omega (arith, low, here)) all

pub asked_shallow : (sheet : Contents) (calls : List Call) → All IsShallowCall calls → All IsShallow (asked_by sheet calls)
asked_shallow sheet [] all = All-nil IsShallow
asked_shallow sheet (call ∷ calls) all =
    first_shallow sheet call (place_of sheet call) (asked_by sheet calls) refl (All-head IsShallowCall call calls all) (asked_shallow sheet calls (All-tail IsShallowCall call calls all))

pub request_shallow : (sheet : Contents) (call : Call) (request : Request) → place_of sheet call ≡ Ok request → IsShallowCall call → IsShallow request
request_shallow sheet call request is low = let here = place_levels sheet call request is in omega (arith, low, here)
