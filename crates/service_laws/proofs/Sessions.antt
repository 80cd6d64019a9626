-- each reply of a session is declared
use Rattle.std.proofs.Common.{◌≡◌, List, [], ◌∷◌, Option, Some, None, Ok, Err, refl, subst}
use Rattle.typed_value.specs.declared.vals.Val.{Val}
use Rattle.sheet_step.specs.declared.dones.Done.{Done}
use Rattle.sheet_form.specs.declared.sheets.Contents.{Contents}
use Rattle.call_form.specs.declared.Call.{Call}
use Rattle.session_core.specs.Tells.{tale_of}
use Rattle.step_laws.proofs.Steps.{begin_of_types}
use Rattle.service_core.specs.declared.requests.Request.{Request}
use Rattle.service_core.specs.Places.{Way, place_of}
use Rattle.service_core.specs.States.{State}
use Rattle.service_core.specs.Tells.{stepped, tell_done, tell_placed, tell_of}
use Rattle.service_laws.specs.Laws.{IsKept, BeginsKept, AllDeclared, SessionsAreDeclared}
use Rattle.service_laws.proofs.Declaring.{replies-are-declared}

-- what is served stays
done_same : (state : State) (request : Request) (o : Option (Done × List Val)) → (tell_done state request o).state.sheet ≡ state.sheet
done_same state request (Some (done, after)) = refl
done_same state request None = refl

way_same : (state : State) (way : Way Request) → (tell_placed state way).state.sheet ≡ state.sheet
way_same state (Err reply) = refl
way_same state (Ok request) = done_same state request (stepped state request)

sheet_same : (state : State) (call : Call) → (tell_of state call).state.sheet ≡ state.sheet
unfolding tell_of
sheet_same state call = way_same state (place_of state.sheet call)

begins_kept : BeginsKept
begins_kept sheet served typed one_way begins = record {
  served = served;
  typed = typed;
  one_way = one_way;
  registers = begin_of_types sheet.interfaces sheet.registers begins;
}

all_declared : (calls : List Call) (state : State) → IsKept state → AllDeclared state.sheet calls (tale_of tell_of state calls).outcomes
all_declared [] state kept = tt
all_declared (call ∷ calls) state kept =
    let told = replies-are-declared state kept call in
    let after = (tell_of state call).state in (
      told.1,
      subst (λ (sheet : Contents). AllDeclared sheet calls (tale_of tell_of after calls).outcomes) (sheet_same state call)
          (all_declared calls after told.0),
    )

pub sessions-are-declared : SessionsAreDeclared
sessions-are-declared = (begins_kept, λ state kept calls. all_declared calls state kept)
