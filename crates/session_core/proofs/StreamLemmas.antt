-- Runs over more bytes.
use Rattle.std.proofs.Common.{◌≡◌, ℕ, ◌+◌, ◌<◌, List, [], ◌∷◌, ◌++◌, length, Bool, true, false, cond, ◌==◌, nat_lt, Option, Some, None, Result, Ok, Err, refl, sym, ◌∙◌, ap, subst, append_assoc, arith, rules}
use Rattle.std.proofs.lemmas.List.{append-nil}
use Rattle.std.proofs.lemmas.Grind.{flat_map-append}
use Rattle.std.specs.List.{flat_map}
use Rattle.message_frame.specs.Pieces.{NoNul, ended, pieces, Pieces}
use Rattle.message_frame.proofs.PieceLemmas.{pieces-flat_map, ArePieces-pieces}
use Rattle.call_form.specs.declared.Call.{Call}
use Rattle.call_form.specs.declared.CallFault.{CallFault}
use Rattle.call_form.specs.declared.Outcome.{Outcome}
use Rattle.call_form.specs.declared.Raw.{Raw}
use Rattle.call_form.specs.declared.Raw.TheVariants.{Echo, Discard}
use Rattle.call_form.specs.CallOf.{call_of}
use Rattle.session_core.specs.declared.stops.Stop.{Stop}
use Rattle.session_core.specs.declared.stops.Stop.TheVariants as stop
use Rattle.session_core.specs.Limits.{most_bytes}
use Rattle.session_core.specs.Run.{Ran, Later, stopped, after, by_call, goes_on, texts, run, run_messages, run_on, raw_run, at_end, end_of}
use Rattle.session_core.specs.Streams.{IsAtMessage, LooksNoFurther, OnlyAdds}
use Rattle.session_core.proofs.RunLemmas.{run_on-too_long}

-- what the run over more bytes is to the run over fewer: the same, where that stopped at a message, and it only adds
record Extends (fewer more : Ran) : Type 0 where
  same : IsAtMessage fewer.stop → more ≡ fewer
  added : List ℕ
  adds : more.out ≡ fewer.out ++ added

extends-same : (ran : Ran) → Extends ran ran
extends-same ran = record { same = λ _. refl; added = []; adds = sym (append-nil ran.out) }

extends-after : (calls : List Call) (out : List ℕ) (fewer more : Ran) → Extends fewer more → Extends (after calls out fewer) (after calls out more)
extends-after calls out fewer more e = record {
  same = λ at. ap (λ (ran : Ran). after calls out ran) (e.same at);
  added = e.added;
  adds = ap (λ (bytes : List ℕ). out ++ bytes) e.adds ∙ sym (append_assoc out fewer.out e.added);
}

-- at the end of the input a run stopped at no message, unless its stop is that of one
end-no_message : (full : Bool) (why : Stop) → IsAtMessage (Some (cond full stop.Long why)) → IsAtMessage (Some why)
end-no_message true why at = absurd at
end-no_message false why at = at

end_of-no_message : (rest : List ℕ) → ¬ IsAtMessage (Some (end_of rest))
end_of-no_message [] at = at
end_of-no_message (b ∷ rest) at = at

-- the bytes after the last whole message, and more
extends-rest : (limit total total' index : ℕ) (rest more : List ℕ) (outcomes : List Outcome) (long : Bool) → nat_lt limit (length rest) ≡ long → NoNul rest →
    Extends (stopped (cond long (stop.TooLong index) (at_end total (end_of rest)))) (run_on limit total' index (rest ++ more) outcomes)
extends-rest limit total total' index rest more outcomes true is no_nul =
    let longer : limit < length rest = search (rules, arith) in
    subst (λ (ran : Ran). Extends (stopped (stop.TooLong index)) ran)
    (sym (run_on-too_long limit total' index rest more outcomes no_nul longer)) (extends-same (stopped (stop.TooLong index)))
extends-rest limit total total' index rest more outcomes false is no_nul = record {
  same = λ at. absurd (end_of-no_message rest (end-no_message (total == most_bytes) (end_of rest) at));
  added = (run_on limit total' index (rest ++ more) outcomes).out;
  adds = refl;
}

-- raw bytes, and more
extends-raw : (total total' : ℕ) (raw : Raw) (bytes more all : List ℕ) → all ≡ bytes ++ more → Extends (raw_run total raw bytes) (raw_run total' raw all)
extends-raw total total' Echo bytes more all is = record {
  same = λ at. absurd (end-no_message (total == most_bytes) stop.Upgraded at);
  added = more;
  adds = is;
}
extends-raw total total' Discard bytes more all is = record {
  same = λ at. absurd (end-no_message (total == most_bytes) stop.Upgraded at);
  added = [];
  adds = refl;
}

-- one message
extends-call : (index : ℕ) (called : Result Call CallFault) (fewer more : Later) (outcomes : List Outcome) →
    ((os : List Outcome) → Extends (fewer.calls os) (more.calls os)) → ((raw : Raw) → Extends (fewer.raw raw) (more.raw raw)) →
    Extends (by_call index called fewer outcomes) (by_call index called more outcomes)
extends-call index (Err fault) fewer more outcomes calls raws = extends-same (stopped (stop.NotCall index fault))
extends-call index (Ok call) fewer more [] calls raws = extends-same (record { calls = call ∷ []; out = []; stop = None })
extends-call index (Ok call) fewer more (outcome ∷ outcomes) calls raws =
    extends-after (call ∷ []) (texts call.oneway outcome) _ _ (extends-on outcome.raw) where
      extends-on : (raw : Option Raw) → Extends (goes_on fewer raw outcomes) (goes_on more raw outcomes)
      extends-on None = calls outcomes
      extends-on (Some raw) = raws raw

extends-message : (long : Bool) (index : ℕ) (called : Result Call CallFault) (fewer more : Later) (outcomes : List Outcome) →
    ((os : List Outcome) → Extends (fewer.calls os) (more.calls os)) → ((raw : Raw) → Extends (fewer.raw raw) (more.raw raw)) →
    Extends (cond long (stopped (stop.TooLong index)) (by_call index called fewer outcomes)) (cond long (stopped (stop.TooLong index)) (by_call index called more outcomes))
extends-message true index called fewer more outcomes calls raws = extends-same (stopped (stop.TooLong index))
extends-message false index called fewer more outcomes calls raws = extends-call index called fewer more outcomes calls raws

-- whole messages
extends-messages : (limit total total' : ℕ) (payloads : List (List ℕ)) (rest more : List ℕ) → NoNul rest → (index : ℕ) (outcomes : List Outcome) →
    Extends (run_messages limit total index payloads rest outcomes)
    (run_messages limit total' index (payloads ++ (pieces (rest ++ more)).payloads) (pieces (rest ++ more)).rest outcomes)
unfolding run_messages
extends-messages limit total total' [] rest more no_nul index outcomes =
    extends-rest limit total total' index rest more outcomes (nat_lt limit (length rest)) refl no_nul
extends-messages limit total total' (payload ∷ payloads) rest more no_nul index outcomes =
    let behind = pieces (rest ++ more) in
    extends-message (nat_lt limit (length payload)) index (call_of payload)
    (record { calls = run_messages limit total (index + 1) payloads rest; raw = λ raw. raw_run total raw (flat_map ended payloads ++ rest) })
    (record { calls = run_messages limit total' (index + 1) (payloads ++ behind.payloads) behind.rest; raw = λ raw. raw_run total' raw (flat_map ended (payloads ++ behind.payloads) ++ behind.rest) })
    outcomes
    (λ os. extends-messages limit total total' payloads rest more no_nul (index + 1) os)
    (λ raw. extends-raw total total' raw (flat_map ended payloads ++ rest) more (flat_map ended (payloads ++ behind.payloads) ++ behind.rest)
    (ap (λ (bytes : List ℕ). bytes ++ behind.rest) (flat_map-append ended payloads behind.payloads)
    ∙ append_assoc (flat_map ended payloads) (flat_map ended behind.payloads) behind.rest
    ∙ ap (λ (bytes : List ℕ). flat_map ended payloads ++ bytes) (sym (ArePieces-pieces (rest ++ more)).whole)
    ∙ sym (append_assoc (flat_map ended payloads) rest more)))

extends-run : (limit : ℕ) (bytes more : List ℕ) (outcomes : List Outcome) → Extends (run limit bytes outcomes) (run limit (bytes ++ more) outcomes)
extends-run limit bytes more outcomes =
    let cut = ArePieces-pieces bytes in
    let split : pieces (bytes ++ more) ≡ record {
      payloads = (pieces bytes).payloads ++ (pieces ((pieces bytes).rest ++ more)).payloads;
      rest = (pieces ((pieces bytes).rest ++ more)).rest;
    } =
    ap (λ (all : List ℕ). pieces (all ++ more)) cut.whole
    ∙ ap pieces (append_assoc (flat_map ended (pieces bytes).payloads) (pieces bytes).rest more)
    ∙ pieces-flat_map (pieces bytes).payloads ((pieces bytes).rest ++ more) cut.each in
    subst (λ (p : Pieces). Extends (run limit bytes outcomes) (run_messages limit (length (bytes ++ more)) 0 p.payloads p.rest outcomes)) (sym split)
    (extends-messages limit (length bytes) (length (bytes ++ more)) (pieces bytes).payloads (pieces bytes).rest more cut.open_end 0 outcomes)

pub looks_no_further : LooksNoFurther
looks_no_further limit bytes more outcomes at = (extends-run limit bytes more outcomes).same at

pub only_adds : OnlyAdds
only_adds limit bytes more outcomes = ((extends-run limit bytes more outcomes).added, (extends-run limit bytes more outcomes).adds)
