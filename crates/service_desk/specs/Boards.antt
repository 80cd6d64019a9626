-- A service's registers as the object of a desk: what is asked of them is one step of a rule.
use Rattle.std.specs.Prelude.{◌≡◌, ℕ, ◌+◌, ◌^◌, min, List, Option, Some, None}
use Rattle.typed_value.specs.Sizes.{weight_of}
use Rattle.typed_value.specs.declared.vals.Val.{Val}
use Rattle.sheet_step.specs.declared.dones.Done.{Done}
use Rattle.sheet_step.specs.declared.dones.Done.TheVariants.{TooDeep}
use Rattle.sheet_form.specs.declared.sheets.Contents.{Contents}
use Rattle.turn_desk.specs.Passes.{DeskView}
use Rattle.service_core.specs.declared.requests.Request.{Request}
use Rattle.service_core.specs.Runs.{IsGood, IsTyped}
use Rattle.service_core.specs.States.{State}
use Rattle.service_core.specs.Tells.{stepped}

-- a good request on registers of their types always comes to something
abbrev pub done_in : Option (Done × List Val) → Done
done_in (Some found) = found.0
done_in None = TooDeep

abbrev pub registers_in : List Val → Option (Done × List Val) → List Val
registers_in before (Some found) = found.1
registers_in before None = before

-- what a request comes to in a state
abbrev pub answer_of : State → Request → Done
answer_of state request = done_in (stepped state request)

-- and the state after it, which has the same sheet
abbrev pub state_after : State → Request → State
state_after state request = record { sheet = state.sheet; registers = registers_in state.registers (stepped state request) }

-- a request is good for a board where it is good for its sheet
abbrev pub IsGoodFor : State → Request → Type 0
IsGoodFor state request = IsGood state.sheet request

-- what an entry weighs before its parameters, and the most that it is counted as
abbrev pub entry_weight : ℕ
entry_weight = 64

abbrev pub greatest_weight : ℕ
greatest_weight = 2 ^ 63

abbrev pub weigh : Request → ℕ
weigh request = min (entry_weight + weight_of request.parameters) greatest_weight

-- the desk was started with a board of this sheet, whose registers were of their types
pub record IsDeskOf (sheet : Contents) (desk : DeskView State) : Type 0 where
  pub sheet_is : desk.start.sheet ≡ sheet
  pub typed : IsTyped desk.start
