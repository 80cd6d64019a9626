-- A request that is run on registers.
use Rattle.std.specs.Prelude.{◌≡◌, true, List, Some, slice_get, ⊤}
use Rattle.idl_tree.specs.declared.trees.Interface.{Interface}
use Rattle.idl_tree.specs.declared.trees.Body.{Body}
use Rattle.typed_value.specs.OfType.{is_of_body}
use Rattle.typed_value.specs.declared.vals.Val.{Val}
use Rattle.sheet_rules.specs.declared.forms.Rule.{Rule}
use Rattle.sheet_step.specs.declared.dones.Done.{Done}
use Rattle.sheet_form.specs.declared.sheets.Contents.{Contents}
use Rattle.step_laws.specs.Ready.{IsRuleOf, are_of_types}
use Rattle.service_core.specs.declared.requests.Request.{Request}
use Rattle.service_core.specs.declared.requests.Placed.{Placed}
use Rattle.service_core.specs.declared.requests.Placed.TheVariants.{Answered, Ask}
use Rattle.service_core.specs.declared.renderings.Rendering.{Rendering}
use Rattle.service_core.specs.Comes.{MayCome}
use Rattle.service_core.specs.Outcomes.{outcome_of}
use Rattle.service_core.specs.Renders.{left_of, Renders}
use Rattle.service_core.specs.States.{State}
use Rattle.service_core.specs.Tells.{stepped}

-- the registers are of their types
abbrev pub IsTyped : State → Type 0
IsTyped state = are_of_types state.sheet.interfaces state.sheet.registers state.registers ≡ true

-- the rule of the request is one of the sheet, and its parameters are of the method's input
pub record IsGood (sheet : Contents) (request : Request) : Type 0 where
  pub rule : Rule
  pub home : Interface
  pub input : Body
  pub output : Body
  pub rule_is : slice_get sheet.rules request.rule ≡ Some rule
  pub is : IsRuleOf sheet.interfaces sheet.registers rule home input output
  pub typed : is_of_body home input request.parameters ≡ true

-- where a step is asked for, the request is good
abbrev pub AsksGood : Contents → Placed → Type 0
AsksGood sheet (Answered outcome) = ⊤
AsksGood sheet (Ask request) = IsGood sheet request

-- the request was one step of its rule, which came to these replies and left these registers
pub record Ran (state : State) (request : Request) (replies : Rendering) (after : List Val) : Type 0 where
  pub done : Done
  pub step_is : stepped state request ≡ Some (done, after)
  pub comes : MayCome state.sheet request.rule done
  pub outcome : left_of replies ≡ outcome_of state.sheet request.rule done
  pub renders : Renders state.sheet request.rule done replies
