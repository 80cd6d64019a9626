-- The run on from a session, through each step.
use Rattle.std.proofs.Common.{◌≡◌, ℕ, ◌+◌, ◌<◌, ◌≤◌, List, [], ◌∷◌, ◌++◌, length, true, false, nat_lt, Ok, Err, refl, sym, ◌∙◌, ap, subst, arith, append_assoc, length-append, add-zero, rules}
use Rattle.std.proofs.lemmas.List.{append-nil}
use Rattle.std.proofs.lemmas.Bool.Decides.{nat_tests}
use Rattle.std.specs.List.{flat_map}
use Rattle.message_frame.specs.Pieces.{NoNul, ended, pieces}
use Rattle.message_frame.proofs.PieceLemmas.{pieces-ended, pieces-no_nul, led_all, pieces-led_all, ArePieces-pieces}
use Rattle.call_form.specs.declared.Call.{Call}
use Rattle.call_form.specs.declared.CallFault.{CallFault}
use Rattle.call_form.specs.declared.Outcome.{Outcome}
use Rattle.call_form.specs.declared.Raw.{Raw}
use Rattle.call_form.specs.declared.Raw.TheVariants.{Echo, Discard}
use Rattle.call_form.specs.CallOf.{call_of}
use Rattle.session_core.specs.declared.stops.Stop.{Stop}
use Rattle.session_core.specs.declared.stops.Stop.TheVariants.{NotCall, TooLong}
use Rattle.session_core.specs.Run.{Later, stopped, after, answered, run_messages, run_on, raw_run, at_end, end_of, echoed}
use Rattle.session_core.specs.declared.phases.Phase.{Phase}
use Rattle.session_core.specs.declared.phases.Phase.TheVariants as phase
use Rattle.session_core.specs.declared.sessions.Turn.{Turn}
use Rattle.session_core.specs.declared.sessions.Turn.TheVariants as turn
use Rattle.session_core.specs.declared.stops.Stop.TheVariants as stop
use Rattle.session_core.specs.Limits.{most_bytes}
use Rattle.session_core.specs.Seen.{Seen, Moves, replied, later_of, run_in, run_from}
use Rattle.session_core.specs.Steps.{StopsAt, StopsIn, Turns, RunsOn, IsPaused, ended_in}

-- what follows a message, said of the bytes behind it
abbrev pub later_on : ℕ → ℕ → ℕ → List ℕ → Later
later_on limit total index bytes = record { calls = run_on limit total index bytes; raw = λ raw. raw_run total raw bytes }

pub later-whole : (limit total index : ℕ) (bytes : List ℕ) →
    (record { calls = run_on limit total index bytes; raw = λ raw. raw_run total raw (flat_map ended (pieces bytes).payloads ++ (pieces bytes).rest) })
    ≡ later_on limit total index bytes
later-whole limit total index bytes =
    let whole = sym (ArePieces-pieces bytes).whole in
    ap (λ (all : List ℕ). record { calls = run_on limit total index bytes; raw = λ raw. raw_run total raw all }) whole

pub not_longer : (limit n : ℕ) → n ≤ limit → nat_lt limit n ≡ false
not_longer limit n short = search (rules, arith)

pub run_on-call : (limit total index : ℕ) (payload bytes : List ℕ) (call : Call) (outcomes : List Outcome) →
    NoNul payload → length payload ≤ limit → call_of payload ≡ Ok call →
    run_on limit total index (ended payload ++ bytes) outcomes ≡ answered call (later_on limit total (index + 1) bytes) outcomes
unfolding run_messages
run_on-call limit total index payload bytes call outcomes no_nul short is =
    let fits = not_longer limit (length payload) short in
    rw (pieces-ended payload bytes no_nul, fits, is, later-whole limit total (index + 1) bytes) refl

pub run_on-fault : (limit total index : ℕ) (payload bytes : List ℕ) (fault : CallFault) (outcomes : List Outcome) →
    NoNul payload → length payload ≤ limit → call_of payload ≡ Err fault →
    run_on limit total index (ended payload ++ bytes) outcomes ≡ stopped (NotCall index fault)
unfolding run_messages
run_on-fault limit total index payload bytes fault outcomes no_nul short is =
    let fits = not_longer limit (length payload) short in
    rw (pieces-ended payload bytes no_nul, fits, is) refl

pub longer : (limit n : ℕ) → limit < n → nat_lt limit n ≡ true
longer limit n long = search (rules, arith)

too_long-led : (limit total index : ℕ) (held : List ℕ) (payloads : List (List ℕ)) (rest : List ℕ) (outcomes : List Outcome) →
    limit < length held →
    run_messages limit total index (led_all held payloads rest).payloads (led_all held payloads rest).rest outcomes ≡ stopped (TooLong index)
unfolding run_messages
too_long-led limit total index held [] rest outcomes long =
    let more : limit < length (held ++ rest) = omega (arith, length-append held rest) in
    rw (longer limit (length (held ++ rest)) more) refl
too_long-led limit total index held (payload ∷ payloads) rest outcomes long =
    let more : limit < length (held ++ payload) = omega (arith, length-append held payload) in
    rw (longer limit (length (held ++ payload)) more) refl

pub run_on-too_long : (limit total index : ℕ) (held bytes : List ℕ) (outcomes : List Outcome) →
    NoNul held → limit < length held → run_on limit total index (held ++ bytes) outcomes ≡ stopped (TooLong index)
run_on-too_long limit total index held bytes outcomes no_nul long =
    rw (pieces-led_all held bytes no_nul) (too_long-led limit total index held (pieces bytes).payloads (pieces bytes).rest outcomes long)

-- where no whole message is left, the run stops
pub run_on-open : (limit total index : ℕ) (held : List ℕ) (outcomes : List Outcome) →
    NoNul held → length held ≤ limit → run_on limit total index held outcomes ≡ stopped (at_end total (end_of held))
unfolding run_messages
run_on-open limit total index held outcomes no_nul short =
    let fits = not_longer limit (length held) short in
    rw (pieces-no_nul held no_nul, fits) refl

-- a call that is answered was read first
pub answered-replied : (call : Call) (later : Later) (outcomes : List Outcome) →
    answered call later outcomes ≡ after (call ∷ []) [] (replied call.oneway later outcomes)
answered-replied call later [] = refl
answered-replied call later (outcome ∷ outcomes) = refl

-- ---- the steps of a session

pub Moves-same : (seen : Seen) → Moves seen seen [] [] [] []
Moves-same seen = record { counted = omega arith; limit = refl; on = λ bytes more bound. refl }

Moves-kept : (old new : Seen) → new ≡ old → Moves old new [] [] [] []
Moves-kept old new e = subst (λ (seen : Seen). Moves old seen [] [] [] []) (sym e) (Moves-same old)

-- a session stops as its run does
Moves-stopped : (old new : Seen) (why : Stop) → new.taken ≡ old.taken → new.limit ≡ old.limit → new.phase ≡ phase.Stopped why →
    ((bytes : List ℕ) (more : List Outcome) → old.taken + length bytes ≤ most_bytes → run_from old bytes more ≡ stopped why) →
    Moves old new [] [] [] []
Moves-stopped old new why taken limit is stops = record {
  counted = omega arith;
  limit = limit;
  on = λ bytes more bound. let fits : old.taken + length bytes ≤ most_bytes = omega arith in rw is (stops bytes more fits);
}

RunsOn-moves : (old new : Seen) (why : Stop) → Moves old new [] [] [] [] → RunsOn old (turn.Stop why) new
RunsOn-moves old new stop.Memory moves = tt
RunsOn-moves old new why moves = moves

at_most-end : (why : Stop) → at_end most_bytes why ≡ stop.Long
at_most-end why = refl

-- where as many bytes were taken as a session takes, no more come
no_more : (taken : ℕ) (bytes : List ℕ) → taken ≡ most_bytes → taken + length bytes ≤ most_bytes → bytes ≡ []
no_more taken [] full bound = refl
no_more taken (b ∷ bytes) full bound = absurd (omega arith)

stop-in_calls : (old new : Seen) (why : Stop) → old.phase ≡ phase.Calls → StopsAt old why →
    new.taken ≡ old.taken → new.limit ≡ old.limit → new.phase ≡ phase.Stopped why → RunsOn old (turn.Stop why) new
stop-in_calls old new (stop.NotCall index fault) calls t taken limit is =
    Moves-stopped old new (stop.NotCall index fault) taken limit is
    (λ bytes more bound. rw (calls, t.2.front, append_assoc (ended t.0) t.1 bytes, t.3)
    (run_on-fault old.limit (old.taken + length bytes) old.index t.0 (t.1 ++ bytes) fault more t.2.no_nul t.2.short t.4))
stop-in_calls old new (stop.TooLong index) calls t taken limit is =
    Moves-stopped old new (stop.TooLong index) taken limit is
    (λ bytes more bound. rw (calls, t.2) (run_on-too_long old.limit (old.taken + length bytes) old.index old.held bytes more t.0 t.1))
stop-in_calls old new stop.Long calls t taken limit is =
    Moves-stopped old new stop.Long taken limit is
    (λ bytes more bound.
    let none = no_more old.taken bytes t.1 bound in
    rw (calls, none, append-nil, t.1) (run_on-open old.limit (most_bytes + 0) old.index old.held more t.0.no_nul t.0.short))
stop-in_calls old new stop.Memory calls t taken limit is = tt
stop-in_calls old new why calls t taken limit is = absurd t

echoed-nil : (raw : Raw) → echoed raw [] ≡ []
echoed-nil Echo = refl
echoed-nil Discard = refl

stop-run : (here : Phase) (old new : Seen) (why : Stop) → old.phase ≡ here → StopsIn here old why new → RunsOn old (turn.Stop why) new
stop-run phase.Calls old new why e t =
    stop-in_calls old new why e t.0 (ap (λ (s : Seen). s.taken) t.1) (ap (λ (s : Seen). s.limit) t.1) (ap (λ (s : Seen). s.phase) t.1)
stop-run (phase.Waiting oneway) old new why e t = absurd t
stop-run (phase.Raw raw) old new why e t =
    RunsOn-moves old new why (Moves-stopped old new why (ap (λ (s : Seen). s.taken) t.3) (ap (λ (s : Seen). s.limit) t.3) (ap (λ (s : Seen). s.phase) t.3)
    (λ bytes more bound.
    let none = no_more old.taken bytes t.1 bound in
    rw (e, none, t.2, t.1, t.0, echoed-nil raw) refl))
stop-run (phase.Stopped before) old new why e t = RunsOn-moves old new why (Moves-kept old new t.1)

pub next-run : (old : Seen) (turn : Turn) (new : Seen) → Turns old turn new → RunsOn old turn new
next-run old (turn.Call call) new t =
    let taken : new.taken ≡ old.taken = ap (λ (s : Seen). s.taken) t.5 in
    let index : new.index ≡ old.index + 1 = ap (λ (s : Seen). s.index) t.5 in
    let limit : new.limit ≡ old.limit = ap (λ (s : Seen). s.limit) t.5 in
    let phase : new.phase ≡ phase.Waiting call.oneway = ap (λ (s : Seen). s.phase) t.5 in
    record {
      counted = omega arith;
      limit = limit;
      on = λ bytes more bound.
          rw (t.1, t.2.front, append_assoc (ended t.0) new.held bytes, phase, taken, index, limit)
          (run_on-call old.limit (old.taken + length bytes) old.index t.0 (new.held ++ bytes) call more t.2.no_nul t.2.short t.3
          ∙ answered-replied call (later_on old.limit (old.taken + length bytes) (old.index + 1) (new.held ++ bytes)) more);
    }
next-run old turn.NeedMore new t = Moves-kept old new t.3
next-run old (turn.Raw raw) new t = Moves-kept old new t.2
next-run old (turn.Stop why) new t = stop-run old.phase old new why refl t

-- fewer bytes were taken than a session takes
pub not_full : (taken : ℕ) (why : Stop) → taken < most_bytes → at_end taken why ≡ why
not_full taken why fewer = grind (arith, nat_tests)

end-in : (here : Phase) (seen : Seen) (outcomes : List Outcome) → IsPaused here seen →
    run_in here (later_of seen []) outcomes ≡ stopped (ended_in here seen)
end-in phase.Calls seen outcomes paused =
    rw (append-nil seen.held, add-zero)
    (run_on-open seen.limit seen.taken seen.index seen.held outcomes paused.0.no_nul paused.0.short
    ∙ ap stopped (not_full seen.taken (end_of seen.held) paused.1))
end-in (phase.Waiting oneway) seen outcomes paused = absurd paused
end-in (phase.Raw raw) seen outcomes paused = rw (paused, echoed-nil raw, add-zero) refl
end-in (phase.Stopped why) seen outcomes paused = refl

pub end-run : (seen : Seen) (outcomes : List Outcome) → IsPaused seen.phase seen →
    run_from seen [] outcomes ≡ stopped (ended_in seen.phase seen)
end-run seen outcomes paused = end-in seen.phase seen outcomes paused
