-- What holds of every service.
use Rattle.std.specs.Prelude.{◌≡◌, true, false, ⊤, List, [], ◌∷◌, codes, Option, Some, None, is_some}
use Rattle.std.specs.List.{AllByRecursion, list_all}
use Rattle.idl_tree.specs.Names.{Bytes}
use Rattle.idl_tree.specs.declared.trees.Interface.{Interface}
use Rattle.serde_json.specs.Data.{string}
use Rattle.serde_json.specs.Find.{get}
use Rattle.call_form.specs.declared.Call.{Call}
use Rattle.call_form.specs.declared.Outcome.{Outcome}
use Rattle.call_form.specs.declared.StdError.TheVariants.{InterfaceNotFound}
use Rattle.call_form.specs.StdErrors.{standard_of}
use Rattle.sheet_form.specs.Kept.{goes_one_way, begins_typed}
use Rattle.sheet_form.specs.Rules.{AreTyped}
use Rattle.sheet_form.specs.declared.sheets.Contents.{Contents}
use Rattle.session_core.specs.Tells.{tale_of}
use Rattle.service_core.specs.Descriptions.{description_of}
use Rattle.service_core.specs.Places.{one, with_text}
use Rattle.service_core.specs.Runs.{IsTyped}
use Rattle.service_core.specs.Served.{IsServed}
use Rattle.service_core.specs.States.{State}
use Rattle.service_core.specs.Tells.{started, tell_of}
use Rattle.service_laws.specs.Declared.{is_declared, ends_well}
use Rattle.service_laws.specs.Trees.{tree_named, IsTextOf}

-- a service has a description of each of its interfaces, and of nothing else
abbrev pub DescriptionsAreAccepted : Type 0
DescriptionsAreAccepted = (sheet : Contents) → AllByRecursion IsServed sheet.interfaces
    → (name : Bytes) → IsTextOf (tree_named sheet name) (description_of sheet name)

-- a call for the description of the interface of that name
pub record AsksFor (name : Bytes) (call : Call) : Type 0 where
  pub method : call.method ≡ codes "org.varlink.service.GetInterfaceDescription"
  pub interface : get (codes "interface") call.parameters ≡ Some (string name)
  pub upgrade : call.upgrade ≡ false

-- it has one reply, with a text that is accepted as that tree and no other; or it tells that there is none
abbrev pub IsToldOf : Bytes → Option Interface → Outcome → Type 0
IsToldOf name (Some tree) outcome =
    (text : Bytes) × (outcome ≡ one (with_text (codes "description") text)) × IsTextOf (Some tree) (Some text)
IsToldOf name None outcome = outcome ≡ one (standard_of (InterfaceNotFound name))

abbrev pub DescriptionsAreTold : Type 0
DescriptionsAreTold = (state : State) → AllByRecursion IsServed state.sheet.interfaces
    → (name : Bytes) (call : Call) → AsksFor name call
    → IsToldOf name (tree_named state.sheet name) (tell_of state call).outcome

-- what is so of a service and its registers: each interface is served, each rule is typed and has one way, and each
-- register has a value of its type
pub record IsKept (state : State) : Type 0 where
  pub served : AllByRecursion IsServed state.sheet.interfaces
  pub typed : AreTyped state.sheet.interfaces state.sheet.registers state.sheet.rules
  pub one_way : list_all goes_one_way state.sheet.rules ≡ true
  pub registers : IsTyped state

-- it stays so, and each reply keeps to what is declared
abbrev pub RepliesAreDeclared : Type 0
RepliesAreDeclared = (state : State) → IsKept state → (call : Call)
    → IsKept (tell_of state call).state
    × (list_all (is_declared state.sheet call) (tell_of state call).outcome.replies ≡ true)

-- raw bytes follow an asked upgrade exactly where the last reply is no error
abbrev pub UpgradesAreAccepted : Type 0
UpgradesAreAccepted = (state : State) → IsKept state → (call : Call) → call.upgrade ≡ true
    → is_some (tell_of state call).outcome.raw ≡ ends_well (tell_of state call).outcome.replies

-- a sheet with the registers that it begins with: each begins with a value of its type
abbrev pub BeginsKept : Type 0
BeginsKept = (sheet : Contents) → AllByRecursion IsServed sheet.interfaces
    → AreTyped sheet.interfaces sheet.registers sheet.rules → list_all goes_one_way sheet.rules ≡ true
    → list_all (begins_typed sheet.interfaces) sheet.registers ≡ true → IsKept (started sheet)

-- the replies to calls in a row, each by the call at its place
abbrev pub AllDeclared : Contents → List Call → List Outcome → Type 0
AllDeclared sheet [] [] = ⊤
AllDeclared sheet (call ∷ calls) (outcome ∷ outcomes) =
    (list_all (is_declared sheet call) outcome.replies ≡ true) × AllDeclared sheet calls outcomes
AllDeclared sheet calls outcomes = ⊥

abbrev pub SessionsAreDeclared : Type 0
SessionsAreDeclared = BeginsKept × ((state : State) → IsKept state → (calls : List Call)
    → AllDeclared state.sheet calls (tale_of tell_of state calls).outcomes)
