-- What the types of a sheet's rules say comes about, where registers and parameters are values of their types.
use Rattle.std.specs.Prelude.{◌≡◌, ℕ, Bool, true, List, [], ◌∷◌, map, Some, None, IsSome, slice_get}
use Rattle.std.specs.List.{list_all}
use Rattle.idl_tree.specs.Names.{Bytes}
use Rattle.idl_tree.specs.declared.trees.Interface.{Interface}
use Rattle.idl_tree.specs.declared.trees.Body.{Body}
use Rattle.typed_value.specs.OfType.{is_of_body}
use Rattle.typed_value.specs.declared.vals.Val.{Val}
use Rattle.sheet_rules.specs.Types.{Typ, type_in, fits_typ, is_of_typ}
use Rattle.sheet_rules.specs.Settings.{Setting, path_typ, ref_typ}
use Rattle.sheet_rules.specs.Gives.{gives}
use Rattle.sheet_rules.specs.Conditions.{cond_is_typed}
use Rattle.sheet_rules.specs.Steps.{step_is_typed}
use Rattle.sheet_rules.specs.declared.forms.Register.{Register}
use Rattle.sheet_rules.specs.declared.forms.Branch.{Branch}
use Rattle.sheet_rules.specs.declared.forms.Rule.{Rule}
use Rattle.sheet_rules.specs.declared.forms.Ref.{Ref}
use Rattle.sheet_rules.specs.declared.forms.Expr.{Expr}
use Rattle.sheet_rules.specs.declared.forms.Cond.{Cond}
use Rattle.sheet_rules.specs.declared.forms.Action.{Action}
use Rattle.rule_values.specs.Parts.{at_path}
use Rattle.rule_values.specs.Meanings.{Env, found, meaning}
use Rattle.rule_values.specs.Conditions.{truth}
use Rattle.sheet_step.specs.Levels.{are_within}
use Rattle.sheet_step.specs.Registers.{seen, after_steps}
use Rattle.sheet_step.specs.Step.{step_of, step}
use Rattle.sheet_step.specs.declared.dones.Done.{Done}
use Rattle.step_laws.specs.Fits.{Fits}
use Rattle.step_laws.specs.Given.{ThereIs, IsGiven, InPlace}
use Rattle.step_laws.specs.Ready.{are_of_types, IsRuleOf}

-- a path leads to a value where it leads to a type
abbrev pub LeadsToValues : Type 0
LeadsToValues = (interfaces : List Interface) (path : List ℕ) (t u : Typ) (v : Val) → path_typ interfaces path t ≡ Some u
    → is_of_typ interfaces t v ≡ true → IsGiven interfaces u (at_path path v)

-- so does a reference
abbrev pub RefersToValues : Type 0
RefersToValues = (s : Setting) (e : Env) → InPlace s e → (r : Ref) (t : Typ) → ref_typ s r ≡ Some t → IsGiven s.interfaces t (found e r)

-- a value of a type is a value of each that the type fits, whose interface is there
abbrev pub FitsValues : Type 0
FitsValues = (interfaces : List Interface) (t u : Typ) (v : Val) → fits_typ t u ≡ true → IsSome (slice_get interfaces u.scope)
    → is_of_typ interfaces t v ≡ true → is_of_typ interfaces u v ≡ true

-- an expression has a value of each type that it gives
abbrev pub GivesValues : Type 0
GivesValues = (s : Setting) (e : Env) → InPlace s e → (expr : Expr) (t : Typ) → IsSome (slice_get s.interfaces t.scope)
    → gives s expr t ≡ true → IsGiven s.interfaces t (meaning expr e)

-- a typed condition holds or does not
abbrev pub TellsConditions : Type 0
TellsConditions = (s : Setting) (e : Env) → InPlace s e → (cond : Cond) → cond_is_typed s cond ≡ true → IsSome (truth cond e)

-- typed steps can be done, and each register has a value of its type after them
abbrev pub StepsKeepTypes : Type 0
StepsKeepTypes = (s : Setting) (parameters : Val) (values : List Val) → InPlace s (seen parameters values)
    → (steps : List Action) → list_all (step_is_typed s) steps ≡ true
    → ThereIs (after_steps parameters steps values) (λ after. are_of_types s.interfaces s.registers after ≡ true)

-- a register's initial value is of its type
abbrev pub begins_typed : List Interface → Register → Bool
begins_typed interfaces register = is_of_typ interfaces (type_in register.scope register.of) register.initial

-- where that is so of all, they are values of the registers' types
abbrev pub BeginsOfTypes : Type 0
BeginsOfTypes = (interfaces : List Interface) (registers : List Register) → list_all (begins_typed interfaces) registers ≡ true
    → are_of_types interfaces registers (map (λ (register : Register). register.initial) registers) ≡ true

-- a rule of one branch without condition does what the branch does
abbrev pub DoesAsBranch : Type 0
DoesAsBranch = (interface : Bytes) (branch : Branch) (parameters : Val) (values : List Val) → branch.when ≡ None
    → step interface (branch ∷ []) parameters values ≡ step_of interface branch parameters values

-- a rule has a result
abbrev pub Runs : Type 0
Runs = (interfaces : List Interface) (registers : List Register) (rule : Rule) (home : Interface) (input output : Body)
    → IsRuleOf interfaces registers rule home input output
    → (parameters : Val) (values : List Val) → is_of_body home input parameters ≡ true → are_of_types interfaces registers values ≡ true
    → IsSome (step home.name rule.branches parameters values)

-- after it each register has a value of its type
abbrev pub KeepsTypes : Type 0
KeepsTypes = (interfaces : List Interface) (registers : List Register) (rule : Rule) (home : Interface) (input output : Body)
    → IsRuleOf interfaces registers rule home input output
    → (parameters : Val) (values : List Val) → is_of_body home input parameters ≡ true → are_of_types interfaces registers values ≡ true
    → (done : Done) (after : List Val) → step home.name rule.branches parameters values ≡ Some (done, after)
    → are_of_types interfaces registers after ≡ true

-- and none has more levels than it may
abbrev pub KeepsLevels : Type 0
KeepsLevels = (interfaces : List Interface) (registers : List Register) (rule : Rule) (home : Interface) (input output : Body)
    → IsRuleOf interfaces registers rule home input output
    → (parameters : Val) (values : List Val) → is_of_body home input parameters ≡ true → are_of_types interfaces registers values ≡ true
    → (done : Done) (after : List Val) → step home.name rule.branches parameters values ≡ Some (done, after)
    → are_within values ≡ true → are_within after ≡ true

-- what it comes to fits the rule
abbrev pub ComesToFit : Type 0
ComesToFit = (interfaces : List Interface) (registers : List Register) (rule : Rule) (home : Interface) (input output : Body)
    → IsRuleOf interfaces registers rule home input output
    → (parameters : Val) (values : List Val) → is_of_body home input parameters ≡ true → are_of_types interfaces registers values ≡ true
    → (done : Done) (after : List Val) → step home.name rule.branches parameters values ≡ Some (done, after)
    → Fits home output rule done
