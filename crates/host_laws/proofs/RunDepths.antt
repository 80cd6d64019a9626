-- The calls of a run nest no deeper than calls do.
use Rattle.std.proofs.Common.{◌≡◌, ℕ, ◌+◌, Bool, true, false, cond, nat_lt, List, [], ◌∷◌, ◌++◌, length, Option, Some, None, Ok, Err, Result, refl, subst}
use Rattle.std.specs.Prelude.{All}
use Rattle.std.specs.List.{flat_map}
use Rattle.std.proofs.lemmas.List.Elements.{All-nil, All-cons}
use Rattle.message_frame.specs.Pieces.{ended, pieces}
use Rattle.call_form.specs.declared.Call.{Call}
use Rattle.call_form.specs.declared.CallFault.{CallFault}
use Rattle.call_form.specs.declared.Outcome.{Outcome}
use Rattle.call_form.specs.declared.Raw.{Raw}
use Rattle.call_form.specs.CallOf.{call_of}
use Rattle.session_core.specs.Run.{Ran, Later, run, run_messages, raw_run, by_call, goes_on, answered}
use Rattle.host_laws.proofs.CallDepths.{IsShallowCall, call_depth}

abbrev pub AreShallow : Ran → Type 0
AreShallow ran = All IsShallowCall ran.calls

picked : (b : Bool) (x y : Ran) → AreShallow x → AreShallow y → AreShallow (cond b x y)
picked true x y p q = p
picked false x y p q = q

went : (later : Later) (raw : Option Raw) (outcomes : List Outcome) → ((os : List Outcome) → AreShallow (later.calls os)) → ((r : Raw) → AreShallow (later.raw r))
    → AreShallow (goes_on later raw outcomes)
went later None outcomes p q = p outcomes
went later (Some raw) outcomes p q = q raw

called : (index : ℕ) (r : Result Call CallFault) (later : Later) (outcomes : List Outcome) → ((call : Call) → r ≡ Ok call → IsShallowCall call)
    → ((os : List Outcome) → AreShallow (later.calls os)) → ((raw : Raw) → AreShallow (later.raw raw)) → AreShallow (by_call index r later outcomes)
called index (Err fault) later outcomes low p q = All-nil IsShallowCall
called index (Ok call) later [] low p q = All-cons IsShallowCall call [] (low call refl) (All-nil IsShallowCall)
called index (Ok call) later (outcome ∷ outcomes) low p q =
    All-cons IsShallowCall call (goes_on later outcome.raw outcomes).calls (low call refl) (went later outcome.raw outcomes p q)

messages_depth : (limit total index : ℕ) (payloads : List (List ℕ)) (rest : List ℕ) (outcomes : List Outcome) → AreShallow (run_messages limit total index payloads rest outcomes)
unfolding run_messages
messages_depth limit total index [] rest outcomes = All-nil IsShallowCall
messages_depth limit total index (payload ∷ payloads) rest outcomes =
    picked (nat_lt limit (length payload)) _ _ (All-nil IsShallowCall)
    (called index (call_of payload)
    (record {
      calls = run_messages limit total (index + 1) payloads rest;
      raw = λ raw. raw_run total raw (flat_map ended payloads ++ rest);
    })
    outcomes (call_depth payload) (λ os. messages_depth limit total (index + 1) payloads rest os) (λ raw. All-nil IsShallowCall))

pub run_depth : (limit : ℕ) (bytes : List ℕ) (outcomes : List Outcome) → AreShallow (run limit bytes outcomes)
run_depth limit bytes outcomes = messages_depth limit (length bytes) 0 (pieces bytes).payloads (pieces bytes).rest outcomes
