-- What a request may come to, by the kind of its rule and the reply that its method declares.
use Rattle.std.specs.Prelude.{◌≡◌, ◌≤◌, true, false, List, length, Some, None}
use Rattle.std.specs.List.{list_all}
use Rattle.call_form.specs.declared.Raw.{Raw}
use Rattle.idl_tree.specs.Faults.{error_named}
use Rattle.idl_tree.specs.Names.{Bytes}
use Rattle.idl_tree.specs.declared.trees.Interface.{Interface}
use Rattle.idl_tree.specs.declared.trees.Body.{Body}
use Rattle.typed_value.specs.OfType.{is_of_body}
use Rattle.typed_value.specs.declared.vals.Val.{Val}
use Rattle.sheet_rules.specs.declared.forms.Rule.{Rule}
use Rattle.sheet_step.specs.Levels.{is_within, are_within}
use Rattle.sheet_step.specs.Step.{qualified}
use Rattle.sheet_step.specs.declared.dones.Done.{Done}
use Rattle.sheet_step.specs.declared.dones.Done.TheVariants as outcome
use Rattle.step_laws.specs.Kinds.{raw_of, streams}

-- replies never come from an upgrade; there is at least one, and exactly one unless the rule streams; each is of the
-- method's reply, and none has too many levels
pub record RepliesFit (home : Interface) (output : Body) (rule : Rule) (replies : List Val) : Type 0 where
  pub no_upgrade : raw_of rule ≡ None
  pub not_none : 1 ≤ length replies
  pub one : streams rule ≡ false → length replies ≡ 1
  pub typed : list_all (is_of_body home output) replies ≡ true
  pub within : are_within replies ≡ true

-- an upgrade comes from an upgrade rule, with its use of raw bytes, and its reply is of the method's
pub record UpgradeFits (home : Interface) (output : Body) (rule : Rule) (raw : Raw) (reply : Val) : Type 0 where
  pub raw_is : raw_of rule ≡ Some raw
  pub typed : is_of_body home output reply ≡ true
  pub within : is_within reply ≡ true

-- a refusal names an error that the interface declares, and has that error's parameters
pub record RefusalFits (home : Interface) (error : Bytes) (parameters : Val) : Type 0 where
  pub name : Bytes
  pub body : Body
  pub is : error ≡ qualified home.name name
  pub declared : error_named name home ≡ Some body
  pub typed : is_of_body home body parameters ≡ true
  pub within : is_within parameters ≡ true

-- too many levels may come of each rule
abbrev pub Fits : Interface → Body → Rule → Done → Type 0
Fits home output rule (outcome.Replies replies) = RepliesFit home output rule replies
Fits home output rule (outcome.Refused error parameters) = RefusalFits home error parameters
Fits home output rule (outcome.Upgrade raw reply) = UpgradeFits home output rule raw reply
Fits home output rule outcome.TooDeep = Unit {0}
