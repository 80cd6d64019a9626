-- What the request of a call may come to.
use Rattle.std.specs.Prelude.{◌≡◌, ℕ, Some, Ok, Option, slice_get}
use Rattle.idl_tree.specs.Faults.{method_named}
use Rattle.idl_tree.specs.declared.trees.Interface.{Interface}
use Rattle.idl_tree.specs.declared.trees.Body.{Body}
use Rattle.sheet_rules.specs.declared.forms.Rule.{Rule}
use Rattle.sheet_step.specs.declared.dones.Done.{Done}
use Rattle.sheet_form.specs.declared.sheets.Contents.{Contents}
use Rattle.sheet_draft.specs.Outlines.{at_last_dot}
use Rattle.idl_tree.specs.Names.{Bytes}
use Rattle.step_laws.specs.Fits.{Fits}
use Rattle.call_form.specs.declared.Call.{Call}
use Rattle.service_core.specs.declared.requests.Request.{Request}
use Rattle.service_core.specs.Sheets.{◌>>=◌, interface_named, rule_named}
use Rattle.service_core.specs.Places.{place_of}

-- the place of the rule of the method that a word names
abbrev pub called : Contents → Bytes → Option ℕ
called sheet word = do
  names ← at_last_dot word
  home ← interface_named sheet names.0
  rule ← rule_named sheet home.0 names.1
  Some rule.0

-- the rule at a place, with the interface and the bodies of its method, can come to this
pub record MayCome (sheet : Contents) (place : ℕ) (done : Done) : Type 0 where
  pub rule : Rule
  pub home : Interface
  pub input : Body
  pub output : Body
  pub rule_is : slice_get sheet.rules place ≡ Some rule
  pub home_is : slice_get sheet.interfaces rule.interface ≡ Some home
  pub method_is : method_named rule.method home ≡ Some (input, output)
  pub fits : Fits home output rule done

-- the call asks for a step of a rule that can come to this
pub record IsComeTo (sheet : Contents) (call : Call) (done : Done) : Type 0 where
  pub request : Request
  pub asks : place_of sheet call ≡ Ok request
  pub comes : MayCome sheet request.rule done
