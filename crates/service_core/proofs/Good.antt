-- a call that asks for a step asks for a good one
use Rattle.std.proofs.Common.{◌≡◌, ℕ, zero, suc, Bool, true, false, ◌&&◌, ◌==◌, cond, List, [], ◌∷◌, Option, Some, None, option_map, option_and_then, slice_get, find, refl, sym, ap, ◌∙◌, subst, arith}
use Rattle.std.specs.List.{list_all, position_from}
use Rattle.std.specs.Str.{bytes_eq}
use Rattle.std.proofs.lemmas.Bool.{and_parts}
use Rattle.std.proofs.lemmas.Slice.Eq.{bytes_eq-Decides}
use Rattle.idl_tree.specs.Names.{Bytes}
use Rattle.idl_tree.specs.Faults.{method_named}
use Rattle.idl_tree.specs.declared.trees.Interface.{Interface}
use Rattle.idl_tree.specs.declared.trees.Body.{Body}
use Rattle.idl_tree.specs.declared.trees.Core.TheVariants.{Inline, outs-Inline}
use Rattle.idl_tree.proofs.FirstPlaces.{found_by_place}
use Rattle.typed_value.specs.Bodies.{body_in, body_of}
use Rattle.typed_value.specs.OfType.{is_of_body}
use Rattle.typed_value.proofs.ReadsFit.{some_is, mapped, body_reads_fit}
use Rattle.sheet_rules.specs.declared.forms.Rule.{Rule}
use Rattle.sheet_rules.specs.declared.forms.Register.{Register}
use Rattle.sheet_rules.specs.Rules.{rule_is_typed}
use Rattle.rule_form.specs.Rules.{interface_place}
use Rattle.sheet_form.specs.Kept.{goes_one_way}
use Rattle.sheet_form.specs.RulePlaces.{rule_place, is_rule_of}
use Rattle.sheet_form.specs.Rules.{AreTyped}
use Rattle.sheet_form.specs.declared.sheets.Contents.{Contents}
use Rattle.call_form.specs.declared.Call.{Call}
use Rattle.service_core.specs.declared.requests.Request.{Request}
use Rattle.service_core.specs.Sheets.{interface_named, rule_named, with_rule}
use Rattle.service_core.specs.Runs.{IsGood}
use Rattle.service_core.proofs.Ways.{Asked, rule_at, then_is}

-- what is found first passes the test
passing_first : (p : Rule → Bool) (r rule : Rule) (later : Option Rule) (b : Bool) → p r ≡ b → cond b (Some r) later ≡ Some rule → (later ≡ Some rule → p rule ≡ true)
    → p rule ≡ true
passing_first p r rule later true passes is behind = subst (λ (x : Rule). p x ≡ true) (some_is is) passes
passing_first p r rule later false fails is behind = behind is

passing : (p : Rule → Bool) (rules : List Rule) (rule : Rule) → find p rules ≡ Some rule → p rule ≡ true
passing p [] rule is = absurd (cc)
passing p (r ∷ rules) rule is = passing_first p r rule (find p rules) (p r) refl is (passing p rules rule)

at_place : (p : Rule → Bool) (rules : List Rule) (place : ℕ) (rule : Rule) → list_all p rules ≡ true → slice_get rules place ≡ Some rule → p rule ≡ true
at_place p [] place rule all is = absurd (cc)
at_place p (r ∷ rules) zero rule all is = subst (λ (x : Rule). p x ≡ true) (some_is is) (and_parts (p r) (list_all p rules) all).0
at_place p (r ∷ rules) (suc place) rule all is = at_place p rules place rule (and_parts (p r) (list_all p rules) all).1 is

-- the rule that was found is of the method
rule_of_method : (sheet : Contents) (interface : ℕ) (method : Bytes) (rule : ℕ × Rule) → rule_named sheet interface method ≡ Some rule
    → is_rule_of interface method rule.1 ≡ true
rule_of_method sheet interface method rule is =
    let place = then_is (with_rule sheet) (rule_place sheet.rules interface method) rule is in
    let at = mapped (λ (r : Rule). (place.0, r)) (slice_get sheet.rules place.0) rule place.1.1 in
    let found = found_by_place (is_rule_of interface method) sheet.rules (rule_place sheet.rules interface method) refl
    ∙ ap (λ (o : Option ℕ). option_and_then (λ (i : ℕ). slice_get sheet.rules i) o) place.1.0 ∙ at.1.0 in
    subst (λ (x : ℕ × Rule). is_rule_of interface method x.1 ≡ true) at.1.1 (passing (is_rule_of interface method) sheet.rules at.0 found)

-- the interface that was found stands at its place
home_at : (sheet : Contents) (name : Bytes) (home : ℕ × Interface) → interface_named sheet name ≡ Some home → slice_get sheet.interfaces home.0 ≡ Some home.1
home_at sheet name home is =
    let place = then_is _ (interface_place sheet.interfaces name) home is in
    let at = mapped (λ (i : Interface). (place.0, i)) (slice_get sheet.interfaces place.0) home place.1.1 in
    subst (λ (x : ℕ × Interface). slice_get sheet.interfaces x.0 ≡ Some x.1) at.1.1 at.1.0

in_place : (home : Interface) (body : Body) → body_of home (Inline body) ≡ Some body
in_place home body = ap (body_in home) (outs-Inline body)

pub good : (sheet : Contents) (call : Call) (request : Request) → Asked sheet call request → AreTyped sheet.interfaces sheet.registers sheet.rules
    → list_all goes_one_way sheet.rules ≡ true → IsGood sheet request
good sheet call request a typed one_way =
    let rule = a.rule.1 in
    let is = rule_of_method sheet a.home.0 a.names.1 a.rule a.rule_is in
    let both = and_parts (rule.interface == a.home.0) (bytes_eq rule.method a.names.1) is in
    let interface : rule.interface ≡ a.home.0 = grind (arith, both.0) in
    let method = (bytes_eq-Decides rule.method a.names.1).0 both.1 in
    let at = rule_at sheet a.home.0 a.names.1 a.rule a.rule_is in
    let bodies = mapped (λ (b : Body × Body). b.0) (method_named a.names.1 a.home.1) a.input a.input_is in
    let same = a.request_is in
    record {
      rule = rule;
      home = a.home.1;
      input = bodies.0.0;
      output = bodies.0.1;
      rule_is = ap (λ (r : Request). slice_get sheet.rules r.rule) (sym same) ∙ at;
      is = record {
        typed = at_place (rule_is_typed sheet.interfaces sheet.registers) sheet.rules a.rule.0 rule typed at;
        one_way = at_place goes_one_way sheet.rules a.rule.0 rule one_way at;
        home_is = ap (slice_get sheet.interfaces) interface ∙ home_at sheet a.names.0 a.home a.home_is;
        method_is = ap (λ (m : Bytes). method_named m a.home.1) method ∙ bodies.1.0;
      };
      typed = subst (λ (body : Body). is_of_body a.home.1 body request.parameters ≡ true) (sym bodies.1.1)
          (subst (λ (r : Request). is_of_body a.home.1 a.input r.parameters ≡ true) same
          (body_reads_fit a.home.1 a.input (Inline a.input) call.parameters a.parameters (in_place a.home.1 a.input) a.reads));
    }
