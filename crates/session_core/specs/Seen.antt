-- What contracts see of a session, and the run on from it.
use Rattle.std.specs.Prelude.{◌≡◌, ℕ, ◌+◌, ◌≤◌, Bool, List, [], ◌∷◌, ◌++◌, length, None}
use Rattle.call_form.specs.declared.Call.{Call}
use Rattle.call_form.specs.declared.Outcome.{Outcome}
use Rattle.session_core.specs.declared.phases.Phase.{Phase}
use Rattle.session_core.specs.declared.phases.Phase.TheVariants.{Calls, Waiting, Raw, Stopped}
use Rattle.session_core.specs.Limits.{most_bytes}
use Rattle.session_core.specs.Run.{Ran, Later, stopped, after, texts, goes_on, run_on, raw_run}

-- the greatest length of a call, what comes next, the index of the next message, the number of bytes taken,
-- and the bytes held
pub record Seen : Type 0 where
  pub limit : ℕ
  pub phase : Phase
  pub index : ℕ
  pub taken : ℕ
  pub held : List ℕ

-- a session that has taken nothing
abbrev pub fresh : ℕ → Seen
fresh limit = record { limit = limit; phase = Calls; index = 0; taken = 0; held = [] }

-- what follows the messages handled so far, where these bytes come
abbrev pub later_of : Seen → List ℕ → Later
later_of seen bytes = record {
  calls = run_on seen.limit (seen.taken + length bytes) seen.index (seen.held ++ bytes);
  raw = λ raw. raw_run (seen.taken + length bytes) raw (seen.held ++ bytes);
}

-- a call that was read and waits takes the next outcome
abbrev pub replied : Bool → Later → List Outcome → Ran
replied oneway later [] = record { calls = []; out = []; stop = None }
replied oneway later (outcome ∷ outcomes) = after [] (texts oneway outcome) (goes_on later outcome.raw outcomes)

abbrev pub run_in : Phase → Later → List Outcome → Ran
run_in Calls later outcomes = later.calls outcomes
run_in (Waiting oneway) later outcomes = replied oneway later outcomes
run_in (Raw raw) later outcomes = later.raw raw
run_in (Stopped stop) later outcomes = stopped stop

-- the run gone on from a session, through the bytes that it holds and then these. A call that waits was read already:
-- its replies are still to be written
abbrev pub run_from : Seen → List ℕ → List Outcome → Ran
run_from seen bytes outcomes = run_in seen.phase (later_of seen bytes) outcomes

-- one step or more: these bytes went in, these outcomes were given, these calls came out, and these bytes were
-- written. What is left to run is what was, without them
pub record Moves (old new : Seen) (fed : List ℕ) (outcomes : List Outcome) (calls : List Call) (out : List ℕ) : Type 0 where
  pub counted : new.taken ≡ old.taken + length fed
  pub limit : new.limit ≡ old.limit
  pub on : (bytes : List ℕ) (more : List Outcome) → new.taken + length bytes ≤ most_bytes →
      run_from old (fed ++ bytes) (outcomes ++ more) ≡ after calls out (run_from new bytes more)
