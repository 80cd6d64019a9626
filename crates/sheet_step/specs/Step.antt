-- What one request does: a rule's branch is taken, its guards are tried, its steps are done, and its outcome is made.
use Rattle.std.specs.Prelude.{Bool, true, ◌&&◌, List, [], ◌∷◌, ◌++◌, codes, Option, Some, None, option_map, if◌then◌else◌}
use Rattle.idl_tree.specs.Names.{Bytes}
use Rattle.typed_value.specs.declared.vals.Val.{Val}
use Rattle.sheet_rules.specs.declared.forms.Expr.{Expr}
use Rattle.sheet_rules.specs.declared.forms.Ref.{Ref}
use Rattle.sheet_rules.specs.declared.forms.Cond.{Cond}
use Rattle.sheet_rules.specs.declared.forms.Guard.{Guard}
use Rattle.sheet_rules.specs.declared.forms.Branch.{Branch}
use Rattle.sheet_rules.specs.declared.forms.Ending.{Ending}
use Rattle.sheet_rules.specs.declared.forms.Ending.TheVariants as ending
use Rattle.rule_values.specs.Parts.{items_of}
use Rattle.rule_values.specs.Meanings.{Env, ◌>>=◌, found, meaning}
use Rattle.rule_values.specs.Conditions.{truth}
use Rattle.sheet_step.specs.Registers.{seen, after_steps}
use Rattle.sheet_step.specs.Levels.{is_within, are_within}
use Rattle.sheet_step.specs.declared.dones.Done.{Done}
use Rattle.sheet_step.specs.declared.dones.Done.TheVariants as outcome

-- the first branch that has no condition, or whose condition holds
abbrev pub is_taken : Option Cond → Env → Option Bool
is_taken None e = Some true
is_taken (Some cond) e = truth cond e

abbrev pub taken : List Branch → Env → Option Branch
taken [] e = None
taken (branch ∷ branches) e = do
  holds ← is_taken branch.when e
  if holds then Some branch else taken branches e

-- the first guard whose condition does not hold, if there is one
abbrev pub refusing : List Guard → Env → Option (Option Guard)
refusing [] e = Some None
refusing (guard ∷ guards) e = do
  holds ← truth guard.need e
  if holds then refusing guards e else Some (Some guard)

-- what a call is answered with; of a stream, a reply for each item of the array, and then the last one
abbrev pub with_item : Env → Val → Env
with_item e item = record { registers = e.registers; parameters = e.parameters; item = Some item }

abbrev pub each_reply : Expr → Env → List Val → Option (List Val)
each_reply each e [] = Some []
each_reply each e (item ∷ items) = do
  v ← meaning each (with_item e item)
  vs ← each_reply each e items
  Some (v ∷ vs)

abbrev pub items_found : Ref → Env → Option (List Val)
items_found over e = found e over >>= items_of

abbrev pub stream_replies : List Val → Expr → Expr → Env → Option (List Val)
stream_replies items each last e = do
  vs ← each_reply each e items
  v ← meaning last e
  Some (vs ++ v ∷ [])

abbrev pub answer : Ending → Env → Option Done
answer (ending.Reply expr) e = do
  v ← meaning expr e
  Some (outcome.Replies (v ∷ []))
answer (ending.Stream over each last) e = do
  items ← items_found over e
  vs ← stream_replies items each last e
  Some (outcome.Replies vs)
answer (ending.Upgrade raw expr) e = do
  v ← meaning expr e
  Some (outcome.Upgrade raw v)

abbrev pub done_is_within : Done → Bool
done_is_within (outcome.Replies vs) = are_within vs
done_is_within (outcome.Refused error v) = is_within v
done_is_within (outcome.Upgrade raw v) = is_within v
done_is_within outcome.TooDeep = true

-- the levels are tested in the end: where one has too many, nothing changes
abbrev pub leveled : List Val → Done × List Val → Done × List Val
leveled before (done, after) = if are_within after && done_is_within done then (done, after) else (outcome.TooDeep, before)

-- the qualified name of an error of an interface
abbrev pub qualified : Bytes → Bytes → Bytes
qualified interface error = interface ++ codes "." ++ error

-- a refusal has the guard's error and parameters, and changes nothing; else the steps are done, and the outcome sees
-- the registers after all of them
abbrev pub refused : Bytes → Guard → Env → Option Done
refused interface guard e = do
  v ← meaning guard.with e
  Some (outcome.Refused (qualified interface guard.error) v)

abbrev pub ran : Branch → Val → List Val → Option (Done × List Val)
ran branch parameters rs = do
  after ← after_steps parameters branch.steps rs
  result ← answer branch.outcome (seen parameters after)
  Some (result, after)

abbrev pub went : Bytes → Branch → Val → List Val → Option Guard → Option (Done × List Val)
went interface branch parameters rs (Some guard) = option_map (λ result. (result, rs)) (refused interface guard (seen parameters rs))
went interface branch parameters rs None = ran branch parameters rs

-- one branch on one request
abbrev pub step_of : Bytes → Branch → Val → List Val → Option (Done × List Val)
step_of interface branch parameters rs = do
  refusal ← refusing branch.guards (seen parameters rs)
  result ← went interface branch parameters rs refusal
  Some (leveled rs result)

-- one rule on one request: the rule's interface and its branches, the parameters and the registers
abbrev pub step : Bytes → List Branch → Val → List Val → Option (Done × List Val)
step interface branches parameters rs = do
  branch ← taken branches (seen parameters rs)
  step_of interface branch parameters rs
