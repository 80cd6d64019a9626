-- A connection's seat at the desk of a service, and what a call makes of it.
use Rattle.std.specs.Prelude.{◌≡◌, ℕ, ◌+◌, ◌<◌, ◌≤◌, ◌⊎◌, Ok, Err}
use Rattle.sheet_step.specs.declared.dones.Done.{Done}
use Rattle.sheet_form.specs.declared.sheets.Contents.{Contents}
use Rattle.call_form.specs.declared.Call.{Call}
use Rattle.call_form.specs.declared.Outcome.{Outcome}
use Rattle.turn_desk.specs.declared.faults.AskFault.{AskFault}
use Rattle.turn_desk.specs.declared.faults.AskFault.TheVariants as fault
use Rattle.turn_desk.specs.Asks.{SeesOwn, SeesOthers}
use Rattle.turn_desk.specs.Histories.{IsReply, AllGood, weight_of}
use Rattle.turn_desk.specs.Passes.{DeskView, PassView, IsSamePass}
use Rattle.service_core.specs.declared.requests.Request.{Request}
use Rattle.service_core.specs.declared.renderings.Rendering.{Rendering}
use Rattle.service_core.specs.Outcomes.{outcome_of}
use Rattle.service_core.specs.Places.{Way, place_of, one}
use Rattle.service_core.specs.Renders.{IsGiven, Renders}
use Rattle.service_core.specs.States.{State}
use Rattle.service_desk.specs.Boards.{IsGoodFor, answer_of, state_after, weigh}

-- the sheet of the service, the desk, the pass of the seat, and how many entries the seat has put into the history
pub record Seat : Type 0 where
  pub sheet : Contents
  pub desk : DeskView State
  pub pass : PassView State Request
  pub made : ℕ

-- the same service, desk and pass
abbrev pub IsSameSeat : Seat → Seat → Type 0
IsSameSeat before after =
    (after.sheet ≡ before.sheet)
    × (after.desk ≡ before.desk)
    × IsSamePass before.pass after.pass

-- one ask was spent
abbrev pub SpendsOne : Seat → Seat → Type 0
SpendsOne before after =
    (before.pass.left ≡ after.pass.left + 1) × (after.pass.asked ≡ before.pass.asked + 1)

-- what the pass has seen holds good requests, by the object that the desk was started with
abbrev pub HasGood : Seat → Type 0
HasGood seat = AllGood IsGoodFor seat.desk.start seat.pass.seen

-- the request was put into the history as one entry of this pass, behind entries of other ones, and came to this there
pub record Asked (before : Seat) (request : Request) (done : Done) (after : Seat) : Type 0 where
  pub same : IsSameSeat before after
  pub entry : SeesOwn before.pass request after.pass
  pub reply : IsReply state_after answer_of before.desk.start after.pass.seen done
  pub within : weight_of weigh after.pass.seen ≤ before.desk.limit
  pub made : after.made ≡ before.made + 1
  pub spent : SpendsOne before after
  pub good : HasGood after

-- an ask was spent, and no entry was put: the pass has seen at most entries of other ones
pub record PutNone (before after : Seat) : Type 0 where
  pub same : IsSameSeat before after
  pub others : SeesOthers before.pass after.pass
  pub made : after.made ≡ before.made
  pub spent : SpendsOne before after
  pub good : HasGood after

-- the history weighs so much, and would be past the desk's limit with the request
abbrev pub IsFull : Seat → Request → ℕ → Type 0
IsFull seat request bytes =
    (bytes ≡ weight_of weigh seat.pass.seen) × (seat.desk.limit < bytes + weigh request)

-- a call that is placed so has this outcome, and leaves that seat: one that asks for no step leaves it as it was, and
-- one that asks for a step has the outcome of what its request came to in the history
abbrev pub HearsPlaced : Seat → Way Request → Outcome → Seat → Type 0
HearsPlaced before (Err reply) outcome after = (outcome ≡ one reply) × (after ≡ before)
HearsPlaced before (Ok request) outcome after =
    (done : Done) × (outcome ≡ outcome_of before.sheet request.rule done) × Asked before request done after

abbrev pub Hears : Seat → Call → Outcome → Seat → Type 0
Hears before call outcome after = HearsPlaced before (place_of before.sheet call) outcome after

-- the replies are still to be made exactly where a step was asked for and came to replies
abbrev pub RendersPlaced : Seat → Way Request → Rendering → Seat → Type 0
RendersPlaced before (Err reply) rendering after = IsGiven rendering
RendersPlaced before (Ok request) rendering after =
    (done : Done) × IsReply state_after answer_of before.desk.start after.pass.seen done
    × Renders before.sheet request.rule done rendering

-- what a step that was asked for leaves where it has no outcome. After want of memory there is no entry, or exactly
-- that of the request
abbrev pub LeavesAsked : Seat → Request → AskFault → Seat → Type 0
LeavesAsked before request fault.Worn after = (before.pass.left ≡ 0) × (after ≡ before)
LeavesAsked before request (fault.Full bytes) after = PutNone before after × IsFull after request bytes
LeavesAsked before request fault.Memory after =
    (after ≡ before) ⊎ (PutNone before after ⊎ ((done : Done) × Asked before request done after))

-- a call that is placed so is refused so, and leaves that seat
abbrev pub MissesPlaced : Seat → Way Request → AskFault → Seat → Type 0
MissesPlaced before (Err reply) why after = (why ≡ fault.Memory) × (after ≡ before)
MissesPlaced before (Ok request) why after = LeavesAsked before request why after

abbrev pub Misses : Seat → Call → AskFault → Seat → Type 0
Misses before call why after = MissesPlaced before (place_of before.sheet call) why after
