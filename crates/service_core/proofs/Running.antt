-- a good request runs
use Rattle.std.proofs.Common.{◌≡◌, ℕ, List, Option, Some, None, Ok, IsSome, IfOk, Result, option_and_then, slice_get, refl, sym, ap, ◌∙◌, subst}
use Rattle.std.specs.List.{AllByRecursion}
use Rattle.idl_tree.specs.Names.{Bytes}
use Rattle.idl_tree.specs.declared.trees.Interface.{Interface}
use Rattle.typed_value.specs.declared.vals.Val.{Val}
use Rattle.typed_value.proofs.ReadsFit.{some_is}
use Rattle.sheet_rules.specs.declared.forms.Rule.{Rule}
use Rattle.sheet_step.specs.Step.{step}
use Rattle.sheet_step.specs.declared.dones.Done.{Done}
use Rattle.sheet_form.specs.declared.sheets.Contents.{Contents}
use Rattle.step_laws.proofs.Whole.{runs, keeps_types, comes_to_fit}
use Rattle.call_form.specs.declared.Call.{Call}
use Rattle.service_core.specs.declared.requests.Request.{Request}
use Rattle.service_core.specs.Tells.{stepped}
use Rattle.service_core.specs.Sheets.{home_of}
use Rattle.service_core.specs.Comes.{MayCome}
use Rattle.service_core.specs.Runs.{IsGood, IsTyped}

-- the interface of a rule that stands at a place
pub home_from : (sheet : Contents) (place : ℕ) (rule : Rule) (home : Interface) → Some rule ≡ slice_get sheet.rules place → Some home ≡ home_of sheet place
    → slice_get sheet.interfaces rule.interface ≡ Some home
home_from sheet place rule home at is =
    ap (λ (o : Option Rule). option_and_then (λ (r : Rule). slice_get sheet.interfaces r.interface) o) at ∙ sym is

pub is_there : (sheet : Contents) (request : Request) → IsGood sheet request → None ≡ slice_get sheet.rules request.rule → ⊥
is_there sheet request g none = let no : ◌≡◌ {A = Option Rule} None (Some g.rule) = none ∙ g.rule_is in absurd (cc)

pub has_home : (sheet : Contents) (request : Request) → IsGood sheet request → None ≡ home_of sheet request.rule → ⊥
has_home sheet request g none =
    let no : ◌≡◌ {A = Option Interface} None (Some g.home) = none
    ∙ ap (λ (o : Option Rule). option_and_then (λ (r : Rule). slice_get sheet.interfaces r.interface) o) g.rule_is ∙ g.is.home_is in absurd (cc)

module _ (sheet : Contents) (request : Request) (registers : List Val) (g : IsGood sheet request)
    (typed : IsTyped (record { sheet = sheet; registers = registers })) (rule : Rule) (home : Interface)
    (at : slice_get sheet.rules request.rule ≡ Some rule) (home_at : slice_get sheet.interfaces rule.interface ≡ Some home) where
  same : g.rule ≡ rule
  same = some_is (sym g.rule_is ∙ at)

  same_home : g.home ≡ home
  same_home = some_is (sym g.is.home_is ∙ ap (λ (r : Rule). slice_get sheet.interfaces r.interface) same ∙ home_at)

  steps_same : step g.home.name g.rule.branches request.parameters registers ≡ step home.name rule.branches request.parameters registers
  steps_same = λ j. step (same_home j).name (same j).branches request.parameters registers

  pub can_step : IsSome (step home.name rule.branches request.parameters registers)
  can_step = subst IsSome steps_same
      (runs sheet.interfaces sheet.registers g.rule g.home g.input g.output g.is request.parameters registers g.typed typed)

  pub is_stepped : (d : Done) (after : List Val) → step home.name rule.branches request.parameters registers ≡ Some (d, after)
      → stepped (record { sheet = sheet; registers = registers }) request ≡ Some (d, after)
  is_stepped d after told = rw (at, home_at) told

  pub may_come : (d : Done) (after : List Val) → step home.name rule.branches request.parameters registers ≡ Some (d, after) → MayCome sheet request.rule d
  may_come d after told = record {
    rule = g.rule;
    home = g.home;
    input = g.input;
    output = g.output;
    rule_is = g.rule_is;
    home_is = g.is.home_is;
    method_is = g.is.method_is;
    fits = comes_to_fit sheet.interfaces sheet.registers g.rule g.home g.input g.output g.is request.parameters registers g.typed typed d after (steps_same ∙ told);
  }

  pub keeps : (d : Done) (after : List Val) → step home.name rule.branches request.parameters registers ≡ Some (d, after)
      → IsTyped (record { sheet = sheet; registers = after })
  keeps d after told =
      keeps_types sheet.interfaces sheet.registers g.rule g.home g.input g.output g.is request.parameters registers g.typed typed d after (steps_same ∙ told)
