-- Whole steps of a connection, put one behind the other.
use Rattle.std.proofs.Common.{◌≡◌, ℕ, ◌+◌, ◌≤◌, List, [], ◌∷◌, ◌++◌, length, Option, None, Some, refl, sym, ◌∙◌, ap, subst, append_assoc, length-append, arith, inl, inr, ◌⊎◌, IfNone, IfSome}
use Rattle.std.specs.Prelude.{⊤}
use Rattle.std.proofs.lemmas.List.{append-nil}
use Rattle.call_form.specs.declared.Call.{Call}
use Rattle.call_form.specs.declared.Outcome.{Outcome}
use Rattle.session_core.specs.declared.phases.Phase.{Phase}
use Rattle.session_core.specs.declared.phases.Phase.TheVariants as phase
use Rattle.session_core.specs.declared.sessions.Turn.{Turn}
use Rattle.session_core.specs.declared.sessions.Turn.TheVariants as turn
use Rattle.session_core.specs.declared.stops.Stop.{Stop}
use Rattle.session_core.specs.declared.stops.Stop.TheVariants as stop
use Rattle.session_core.specs.Limits.{most_bytes}
use Rattle.call_form.specs.declared.Raw.{Raw}
use Rattle.call_form.specs.declared.Raw.TheVariants.{Echo, Discard}
use Rattle.session_core.specs.Outcomes.{AllFit}
use Rattle.session_core.specs.Run.{Ran, stopped, after, texts, echoed, at_end, goes_on}
use Rattle.session_core.specs.Seen.{Seen, Moves, run_from, later_of, run_in}
use Rattle.session_core.specs.Steps.{Turns, RunsOn, StopsIn, StopsAt, IsRaw, echoed_in, replied_phase}
use Rattle.session_core.specs.Sent.{Sent, Sends, SendsFront}
use Rattle.session_core.specs.Served.{Told, Reaches, ComesTo, Leaves, WriteFaults}
use Rattle.session_core.specs.Heard.{Closes, EndsBy, IsRefusal, unanswered}
use Rattle.session_core.specs.Went.{Went, Halts, Answered, BrokeOff, Turned, IsHalt, IsBreak, IsCut, IsRunning, Passed, PassedUntil}
use Rattle.session_core.proofs.RunLemmas.{Moves-same}
use Rattle.session_core.proofs.SentLemmas.{Sends-nil, Sends-trans, Sends-same}

after-after : (calls more : List Call) (out wrote : List ℕ) (ran : Ran) →
    after calls out (after more wrote ran) ≡ after (calls ++ more) (out ++ wrote) ran
after-after calls more out wrote ran =
    λ i. record { calls = sym (append_assoc calls more ran.calls) i; out = sym (append_assoc out wrote ran.out) i; stop = ran.stop }

pub Moves-trans : (one two three : Seen) (fed more : List ℕ) (outcomes later : List Outcome) (calls others : List Call) (out wrote : List ℕ) →
    Moves one two fed outcomes calls out → Moves two three more later others wrote →
    Moves one three (fed ++ more) (outcomes ++ later) (calls ++ others) (out ++ wrote)
Moves-trans one two three fed more outcomes later calls others out wrote first second = record {
  counted = omega (arith, length-append fed more, first.counted, second.counted);
  limit = second.limit ∙ first.limit;
  on = λ bytes rest bound.
      let room : two.taken + length (more ++ bytes) ≤ most_bytes = omega (arith, length-append more bytes, second.counted) in
      rw (append_assoc fed more bytes, append_assoc outcomes later rest)
      (first.on (more ++ bytes) (later ++ rest) room
      ∙ ap (λ (ran : Ran). after calls out ran) (second.on bytes rest bound)
      ∙ after-after calls others out wrote (run_from three bytes rest));
}

Reaches-after : (ran later : Ran) (calls others : List Call) (out wrote : List ℕ) (Left : List ℕ → Ran → Type 0) →
    ran ≡ after calls out later → Reaches later others wrote Left → Reaches ran (calls ++ others) (out ++ wrote) Left
Reaches-after ran later calls others out wrote Left e comes = record {
  unwritten = comes.unwritten;
  later = comes.later;
  is = e ∙ ap (λ (r : Ran). after calls out r) comes.is ∙ after-after calls others out (wrote ++ comes.unwritten) comes.later
      ∙ ap (λ (bytes : List ℕ). after (calls ++ others) bytes comes.later) (sym (append_assoc out wrote comes.unwritten));
  leaves = comes.leaves;
}

pub AllFit-append : (calls others : List Call) (outcomes later : List Outcome) → AllFit calls outcomes → AllFit others later →
    AllFit (calls ++ others) (outcomes ++ later)
AllFit-append [] others [] later first second = second
AllFit-append [] others (outcome ∷ outcomes) later first second = absurd first
AllFit-append (call ∷ calls) others [] later first second = absurd first
AllFit-append (call ∷ calls) others (outcome ∷ outcomes) later first second =
    (first.0, AllFit-append calls others outcomes later first.1 second)

module _ {A : Type 0} (tells : A → Call → Outcome → A → Type 0) where
  pub Told-append : (a b c : A) (calls others : List Call) (outcomes later : List Outcome) →
      Told tells a calls outcomes b → Told tells b others later c → Told tells a (calls ++ others) (outcomes ++ later) c
  Told-append a b c [] others [] later first second = subst (λ (from : A). Told tells from others later c) first second
  Told-append a b c [] others (outcome ∷ outcomes) later first second = absurd first
  Told-append a b c (call ∷ calls) others [] later first second = absurd first
  Told-append a b c (call ∷ calls) others (outcome ∷ outcomes) later first second =
      (first.0, first.1, Told-append first.0 b c calls others outcomes later first.2 second)

  pub Went-same : (seen : Seen) (a : A) (written : Sent) → Went tells seen seen [] a a written written
  Went-same seen a written = record { calls = []; outcomes = []; out = []; told = refl; fits = tt; sends = Sends-nil written; moves = Moves-same seen }

  pub Went-trans : (one two three : Seen) (fed more : List ℕ) (a b c : A) (k l m : Sent) →
      Went tells one two fed a b k l → Went tells two three more b c l m → Went tells one three (fed ++ more) a c k m
  Went-trans one two three fed more a b c k l m first second = record {
    calls = first.calls ++ second.calls;
    outcomes = first.outcomes ++ second.outcomes;
    out = first.out ++ second.out;
    told = Told-append a b c first.calls second.calls first.outcomes second.outcomes first.told second.told;
    fits = AllFit-append first.calls second.calls first.outcomes second.outcomes first.fits second.fits;
    sends = Sends-trans k l m first.out second.out first.sends second.sends;
    moves = Moves-trans one two three fed more first.outcomes second.outcomes first.calls second.calls first.out second.out first.moves second.moves;
  }

  -- bytes that went in, and nothing else yet
  pub Went-fed : (old new : Seen) (fed : List ℕ) (a : A) (written : Sent) → Moves old new fed [] [] [] → Went tells old new fed a a written written
  Went-fed old new fed a written moves = record { calls = []; outcomes = []; out = []; told = refl; fits = tt; sends = Sends-nil written; moves = moves }

module _ {A : Type 0} (tells : A → Call → Outcome → A → Type 0) (refuses : A → Call → Stop → A → Type 0) where
  pub Went-Halts : (one two : Seen) (fed more : List ℕ) (a b c : A) (k l m : Sent) (why : Stop) →
      Went tells one two fed a b k l → Halts tells refuses two more b c l m why → Halts tells refuses one (fed ++ more) a c k m why
  Went-Halts one two fed more a b c k l m why first second = record {
    calls = first.calls ++ second.calls;
    outcomes = first.outcomes ++ second.outcomes;
    out = first.out ++ second.out;
    last = second.last;
    told = Told-append tells a b second.last first.calls second.calls first.outcomes second.outcomes first.told second.told;
    fits = AllFit-append first.calls second.calls first.outcomes second.outcomes first.fits second.fits;
    sends = Sends-trans k l m first.out second.out first.sends second.sends;
    on = λ bytes bound.
        let room : two.taken + length (more ++ bytes) ≤ most_bytes =
        omega (arith, first.moves.counted, length-append fed more, length-append (fed ++ more) bytes, length-append more bytes) in
        rw (append_assoc fed more bytes)
        (Reaches-after _ (run_from two (more ++ bytes) second.outcomes) first.calls second.calls first.out second.out
        (Closes refuses second.last c why) (first.moves.on (more ++ bytes) second.outcomes room) (second.on bytes room));
  }

  -- whatever more bytes come
  pub Halts-more : (old : Seen) (fed more : List ℕ) (a b : A) (k l : Sent) (why : Stop) →
      Halts tells refuses old fed a b k l why → Halts tells refuses old (fed ++ more) a b k l why
  Halts-more old fed more a b k l why halts = record {
    calls = halts.calls;
    outcomes = halts.outcomes;
    out = halts.out;
    last = halts.last;
    told = halts.told;
    fits = halts.fits;
    sends = halts.sends;
    on = λ bytes bound. rw (append_assoc fed more bytes)
        (halts.on (more ++ bytes) (rw (sym (append_assoc fed more bytes)) bound));
  }

  -- all that waited was put, where the session had stopped
  pub Halts-flushed : (old : Seen) (fed : List ℕ) (a b : A) (k l m : Sent) (why : Stop) →
      Halts tells refuses old fed a b k l why → Sends l m [] → Halts tells refuses old fed a b k m why
  Halts-flushed old fed a b k l m why halts flushed = record {
    calls = halts.calls;
    outcomes = halts.outcomes;
    out = halts.out;
    last = halts.last;
    told = halts.told;
    fits = halts.fits;
    sends = subst (λ (all : List ℕ). Sends k m all) (append-nil halts.out) (Sends-trans k l m halts.out [] halts.sends flushed);
    on = halts.on;
  }

  -- the sink failed after that stop
  pub Closes-fault : (a b : A) (why : Stop) (unwritten more : List ℕ) (later : Ran) → Closes refuses a b why unwritten later →
      Closes refuses a b stop.WriteFault more later
  Closes-fault a b why unwritten more later (inl stays) = inl (stays.0, tt)
  Closes-fault a b why unwritten more later (inr refused) =
      inr (record { call = refused.call; refusal = refused.refusal; refused = refused.refused; next = refused.next; ends = tt })

  pub Halts-fault : (old : Seen) (fed : List ℕ) (a b : A) (k l : Sent) (why : Stop) →
      Halts tells refuses old fed a b k l why → Halts tells refuses old fed a b k l stop.WriteFault
  Halts-fault old fed a b k l why halts = record {
    calls = halts.calls;
    outcomes = halts.outcomes;
    out = halts.out;
    last = halts.last;
    told = halts.told;
    fits = halts.fits;
    sends = halts.sends;
    on = λ bytes bound.
        let comes = halts.on bytes bound in
        record {
          unwritten = comes.unwritten;
          later = comes.later;
          is = comes.is;
          leaves = Closes-fault halts.last b why comes.unwritten comes.unwritten comes.later comes.leaves;
        };
  }

  -- the sink failed where nothing had stopped the session
  pub Halts-broke : (old new : Seen) (fed : List ℕ) (a b : A) (k l m : Sent) →
      Went tells old new fed a b k l → Sends l m [] → Halts tells refuses old fed a b k m stop.WriteFault
  Halts-broke old new fed a b k l m went flushed = record {
    calls = went.calls;
    outcomes = went.outcomes;
    out = went.out;
    last = b;
    told = went.told;
    fits = went.fits;
    sends = subst (λ (all : List ℕ). Sends k m all) (append-nil went.out) (Sends-trans k l m went.out [] went.sends flushed);
    on = λ bytes bound.
        let room : new.taken + length bytes ≤ most_bytes = omega (arith, went.moves.counted, length-append fed bytes) in
        record {
          unwritten = [];
          later = run_from new bytes [];
          is = subst (λ (all : List Outcome). run_from old (fed ++ bytes) all ≡ after went.calls went.out (run_from new bytes []))
              (append-nil went.outcomes) (went.moves.on bytes [] room)
              ∙ ap (λ (all : List ℕ). after went.calls all (run_from new bytes [])) (sym (append-nil went.out));
          leaves = inl (refl, tt);
        };
  }

  -- the session stopped, and all that waited was put, or the sink failed at that
  pub Halts-put : (old : Seen) (fed : List ℕ) (a b : A) (k l m : Sent) (why now : Stop) → (now ≡ why) ⊎ (now ≡ stop.WriteFault) →
      Halts tells refuses old fed a b k l why → Sends l m [] → Halts tells refuses old fed a b k m now
  Halts-put old fed a b k l m why now (inl is) halts flushed =
      subst (λ (w : Stop). Halts tells refuses old fed a b k m w) (sym is) (Halts-flushed old fed a b k l m why halts flushed)
  Halts-put old fed a b k l m why now (inr is) halts flushed =
      subst (λ (w : Stop). Halts tells refuses old fed a b k m w) (sym is)
      (Halts-fault old fed a b k m why (Halts-flushed old fed a b k l m why halts flushed))

  pub Went-flushed : (old new : Seen) (fed : List ℕ) (a b : A) (k l m : Sent) →
      Went tells old new fed a b k l → Sends l m [] → Went tells old new fed a b k m
  Went-flushed old new fed a b k l m went flushed = record {
    calls = went.calls;
    outcomes = went.outcomes;
    out = went.out;
    told = went.told;
    fits = went.fits;
    sends = subst (λ (all : List ℕ). Sends k m all) (append-nil went.out) (Sends-trans k l m went.out [] went.sends flushed);
    moves = went.moves;
  }

  -- the hearer stays as it is
  pub Reaches-stays : (ran : Ran) (calls : List Call) (out : List ℕ) (a : A) (why : Stop) → ComesTo ran calls out why →
      Reaches ran calls out (Closes refuses a a why)
  Reaches-stays ran calls out a why comes =
      record { unwritten = comes.unwritten; later = comes.later; is = comes.is; leaves = inl (refl, comes.leaves) }

-- ---- the stops of a session

-- the stops that come between whole messages
abbrev IsBetween : Stop → Type 0
IsBetween (stop.NotCall index fault) = ⊤
IsBetween (stop.TooLong index) = ⊤
IsBetween stop.Long = ⊤
IsBetween stop.Memory = ⊤
IsBetween _ = ⊥

halt-between : (why : Stop) → IsBetween why → IsHalt why
halt-between (stop.NotCall index fault) is = tt
halt-between (stop.TooLong index) is = tt
halt-between stop.Long is = tt
halt-between stop.Memory is = tt
halt-between why is = absurd is

stops-halt : (seen : Seen) (why : Stop) → StopsAt seen why → IsBetween why
stops-halt seen (stop.NotCall index fault) t = tt
stops-halt seen (stop.TooLong index) t = tt
stops-halt seen stop.Long t = tt
stops-halt seen stop.Memory t = tt
stops-halt seen why t = absurd t

halt-in : (here : Phase) (old new : Seen) (why : Stop) → IsRunning here → StopsIn here old why new → IsBetween why
halt-in phase.Calls old new why running t = stops-halt old why t.0
halt-in (phase.Waiting oneway) old new why running t = absurd running
halt-in (phase.Raw raw) old new why running t = rw t.0 tt
halt-in (phase.Stopped before) old new why running t = absurd running

pub halt-of : (old new : Seen) (why : Stop) → IsRunning old.phase → StopsIn old.phase old why new → IsHalt why
halt-of old new why running t = halt-between why (halt-in old.phase old new why running t)

stopped-in : (here : Phase) (old new : Seen) (why : Stop) → IsRunning here → StopsIn here old why new → new.phase ≡ phase.Stopped why
stopped-in phase.Calls old new why running t = ap (λ (s : Seen). s.phase) t.1
stopped-in (phase.Waiting oneway) old new why running t = absurd running
stopped-in (phase.Raw raw) old new why running t = ap (λ (s : Seen). s.phase) t.3
stopped-in (phase.Stopped before) old new why running t = absurd running

comes-stopped : (old new : Seen) (why : Stop) → new.phase ≡ phase.Stopped why → Moves old new [] [] [] [] →
    (bytes : List ℕ) → old.taken + length bytes ≤ most_bytes → run_from old bytes [] ≡ stopped why
comes-stopped old new why is moves bytes bound =
    let room : new.taken + length bytes ≤ most_bytes = omega (arith, moves.counted) in
    moves.on bytes [] room ∙ rw is refl

comes-halt : (old new : Seen) (why : Stop) → IsBetween why → new.phase ≡ phase.Stopped why → RunsOn old (turn.Stop why) new →
    (bytes : List ℕ) → old.taken + length bytes ≤ most_bytes → ComesTo (run_from old bytes []) [] [] why
comes-halt old new (stop.NotCall index fault) halt is runs bytes bound =
    record { unwritten = []; later = stopped (stop.NotCall index fault); is = comes-stopped old new _ is runs bytes bound; leaves = (refl, refl) }
comes-halt old new (stop.TooLong index) halt is runs bytes bound =
    record { unwritten = []; later = stopped (stop.TooLong index); is = comes-stopped old new _ is runs bytes bound; leaves = (refl, refl) }
comes-halt old new stop.Long halt is runs bytes bound =
    record { unwritten = []; later = stopped stop.Long; is = comes-stopped old new _ is runs bytes bound; leaves = (refl, refl) }
comes-halt old new stop.Memory halt is runs bytes bound =
    record { unwritten = []; later = run_from old bytes []; is = refl; leaves = tt }
comes-halt old new why halt is runs bytes bound = absurd halt

pub comes-stop : (old new : Seen) (why : Stop) → IsRunning old.phase → StopsIn old.phase old why new → RunsOn old (turn.Stop why) new →
    (bytes : List ℕ) → old.taken + length bytes ≤ most_bytes → ComesTo (run_from old bytes []) [] [] why
comes-stop old new why running t runs =
    comes-halt old new why (halt-in old.phase old new why running t) (stopped-in old.phase old new why running t) runs

-- ---- raw bytes

echoed-append : (raw : Raw) (bytes more : List ℕ) → echoed raw (bytes ++ more) ≡ echoed raw bytes ++ echoed raw more
echoed-append Echo bytes more = refl
echoed-append Discard bytes more = refl

broke-in : (here : Phase) (old : Seen) (k l : Sent) → old.phase ≡ here → IsRaw here → SendsFront k l (echoed_in here old.held) →
    PassedUntil old k l stop.WriteFault
broke-in phase.Calls old k l is raw part = absurd raw
broke-in (phase.Waiting oneway) old k l is raw part = absurd raw
broke-in (phase.Raw raw) old k l is _ part = record {
  out = part.front;
  sends = part.sends;
  on = λ bytes bound. record {
    unwritten = part.rest ++ echoed raw bytes;
    later = record { calls = []; out = []; stop = Some (at_end (old.taken + length bytes) stop.Upgraded) };
    is = rw is (ap (λ (out : List ℕ). record { calls = []; out = out; stop = Some (at_end (old.taken + length bytes) stop.Upgraded) })
        (echoed-append raw old.held bytes ∙ ap (λ (out : List ℕ). out ++ echoed raw bytes) part.whole ∙ append_assoc part.front part.rest (echoed raw bytes)
        ∙ sym (append-nil (part.front ++ (part.rest ++ echoed raw bytes)))));
    leaves = tt;
  };
}
broke-in (phase.Stopped why) old k l is raw part = absurd raw

-- the sink failed while bytes were passed on
pub PassedUntil-broke : (old : Seen) (k l : Sent) → IsRaw old.phase → SendsFront k l (echoed_in old.phase old.held) →
    PassedUntil old k l stop.WriteFault
PassedUntil-broke old k l raw part = broke-in old.phase old k l refl raw part

-- as many bytes were taken as a session takes
pub PassedUntil-full : (old mid new : Seen) (k l : Sent) (out : List ℕ) (why : Stop) → Sends k l out → Moves old mid [] [] [] out →
    IsRunning mid.phase → StopsIn mid.phase mid why new → RunsOn mid (turn.Stop why) new → PassedUntil old k l why
PassedUntil-full old mid new k l out why sends moves running t runs = record {
  out = out;
  sends = sends;
  on = λ bytes bound.
      let room : mid.taken + length bytes ≤ most_bytes = omega (arith, moves.counted) in
      subst (λ (all : List ℕ). ComesTo (run_from old bytes []) [] all why) (append-nil out)
      (Reaches-after _ (run_from mid bytes []) [] [] out [] (Leaves why) (moves.on bytes [] room) (comes-stop mid new why running t runs bytes room));
}

-- ---- the steps of one loop over the calls held

module _ {A : Type 0} (tells : A → Call → Outcome → A → Type 0) where
  -- a call was read, and answered
  pub Went-call : (one two three : Seen) (call : Call) (a b c : A) (k l m : Sent) → Went tells one two [] a b k l →
      (mid : Seen) → Moves two mid [] [] (call ∷ []) [] → Answered tells mid three call b c l m → Went tells one three [] a c k m
  Went-call one two three call a b c k l m went mid read answered =
      Went-trans tells one two three [] [] a b c k l m went (record {
        calls = call ∷ [];
        outcomes = answered.outcome ∷ [];
        out = texts call.oneway answered.outcome;
        told = (c, answered.told, refl);
        fits = (answered.fits, tt);
        sends = answered.sends;
        moves = Moves-trans two mid three [] [] [] (answered.outcome ∷ []) (call ∷ []) [] [] (texts call.oneway answered.outcome) read answered.moves;
      })

  -- raw bytes were passed on
  pub Went-passed : (one two three : Seen) (a b : A) (k l m : Sent) → Went tells one two [] a b k l → Passed two three l m →
      Went tells one three [] a b k m
  Went-passed one two three a b k l m went passed =
      Went-trans tells one two three [] [] a b b k l m went (record {
        calls = [];
        outcomes = [];
        out = passed.out;
        told = refl;
        fits = tt;
        sends = passed.sends;
        moves = passed.moves;
      })

  pub Went-passed_if : (one two three : Seen) (a b : A) (k l m : Sent) (result : Option Stop) → Went tells one two [] a b k l →
      IfNone result (Passed two three l m) → IfNone result (Went tells one three [] a b k m)
  Went-passed_if one two three a b k l m None went passed = Went-passed one two three a b k l m went passed
  Went-passed_if one two three a b k l m (Some why) went passed = tt

module _ {A : Type 0} (tells : A → Call → Outcome → A → Type 0) (refuses : A → Call → Stop → A → Type 0) where
  -- the session stopped between two calls
  pub Halts-stop : (one two new : Seen) (a b : A) (k l : Sent) (why : Stop) → Went tells one two [] a b k l →
      IsRunning two.phase → StopsIn two.phase two why new → RunsOn two (turn.Stop why) new → Halts tells refuses one [] a b k l why
  Halts-stop one two new a b k l why went running t runs =
      Went-Halts tells refuses one two [] [] a b b k l l why went (record {
        calls = [];
        outcomes = [];
        out = [];
        last = b;
        told = refl;
        fits = tt;
        sends = Sends-nil l;
        on = λ bytes bound. Reaches-stays tells refuses _ [] [] b why (comes-stop two new why running t runs bytes bound);
      })

  pub Halts-passed : (one two : Seen) (a b : A) (k l m : Sent) (why : Stop) → Went tells one two [] a b k l → PassedUntil two l m why →
      Halts tells refuses one [] a b k m why
  Halts-passed one two a b k l m why went until =
      Went-Halts tells refuses one two [] [] a b b k l m why went (record {
        calls = [];
        outcomes = [];
        out = until.out;
        last = b;
        told = refl;
        fits = tt;
        sends = until.sends;
        on = λ bytes bound. Reaches-stays tells refuses _ [] until.out b why (until.on bytes bound);
      })

  pub Halts-passed_if : (one two : Seen) (a b : A) (k l m : Sent) (result : Option Stop) → Went tells one two [] a b k l →
      IfSome result (PassedUntil two l m) → IfSome result (Halts tells refuses one [] a b k m)
  Halts-passed_if one two a b k l m None went until = tt
  Halts-passed_if one two a b k l m (Some why) went until = Halts-passed one two a b k l m why went until

  leaves-cut : (why : Stop) (unwritten : List ℕ) (later : Ran) → IsCut why → Leaves why unwritten later
  leaves-cut stop.WriteFault unwritten later is = tt
  leaves-cut stop.Memory unwritten later is = tt
  leaves-cut why unwritten later is = absurd is

  broke-off : (two mid : Seen) (call : Call) (b c : A) (l m : Sent) (why : Stop) → Moves two mid [] [] (call ∷ []) [] →
      mid.phase ≡ phase.Waiting call.oneway → BrokeOff tells call b c l m why → Halts tells refuses two [] b c l m why
  broke-off two mid call b c l m why read waits broke = record {
    calls = call ∷ [];
    outcomes = broke.outcome ∷ [];
    out = broke.part.front;
    last = c;
    told = (c, broke.told, refl);
    fits = (broke.fits, tt);
    sends = broke.part.sends;
    on = λ bytes bound.
        let room : mid.taken + length bytes ≤ most_bytes = omega (arith, read.counted) in
        let later = goes_on (later_of mid bytes) broke.outcome.raw [] in
        record {
          unwritten = broke.part.rest;
          later = later;
          is = read.on bytes (broke.outcome ∷ []) room
              ∙ ap (λ (here : Phase). after (call ∷ []) [] (run_in here (later_of mid bytes) (broke.outcome ∷ []))) waits
              ∙ ap (λ (out : List ℕ). after (call ∷ []) out later) broke.part.whole;
          leaves = inl (refl, leaves-cut why _ _ broke.cut);
        };
  }

  ends-refused : (why : Stop) → EndsBy why why []
  ends-refused stop.WriteFault = tt
  ends-refused why = (refl, refl)

  turned : (two mid : Seen) (call : Call) (b c : A) (l m : Sent) (why : Stop) → Moves two mid [] [] (call ∷ []) [] →
      mid.phase ≡ phase.Waiting call.oneway → Turned refuses call b c l m why → Halts tells refuses two [] b c l m why
  turned two mid call b c l m why read waits none = record {
    calls = [];
    outcomes = [];
    out = [];
    last = b;
    told = refl;
    fits = tt;
    sends = Sends-same l m none.1;
    on = λ bytes bound.
        let room : mid.taken + length bytes ≤ most_bytes = omega (arith, read.counted) in
        record {
          unwritten = [];
          later = unanswered call;
          is = read.on bytes [] room
              ∙ ap (λ (here : Phase). after (call ∷ []) [] (run_in here (later_of mid bytes) [])) waits;
          leaves = inr (record { call = call; refusal = why; refused = none.0; next = refl; ends = ends-refused why });
        };
  }

  -- a call was read, and refused, or its replies not all written
  pub Halts-call : (one two mid : Seen) (call : Call) (a b c : A) (k l m : Sent) (why : Stop) → Went tells one two [] a b k l →
      Moves two mid [] [] (call ∷ []) [] → mid.phase ≡ phase.Waiting call.oneway →
      BrokeOff tells call b c l m why ⊎ Turned refuses call b c l m why → Halts tells refuses one [] a c k m why
  Halts-call one two mid call a b c k l m why went read waits (inl broke) =
      Went-Halts tells refuses one two [] [] a b c k l m why went (broke-off two mid call b c l m why read waits broke)
  Halts-call one two mid call a b c k l m why went read waits (inr none) =
      Went-Halts tells refuses one two [] [] a b c k l m why went (turned two mid call b c l m why read waits none)

pub running-replied : (raw : Option Raw) → IsRunning (replied_phase raw)
running-replied None = tt
running-replied (Some raw) = tt

-- ---- refusals

pub break-refusal : (why : Stop) → IsRefusal why → IsBreak why
break-refusal (stop.Full bytes) is = tt
break-refusal stop.Worn is = tt
break-refusal stop.Memory is = tt
break-refusal why is = absurd is

pub faults-refusal : (why : Stop) (faults : ℕ) → IsRefusal why → WriteFaults why faults faults
faults-refusal (stop.Full bytes) faults is = refl
faults-refusal stop.Worn faults is = refl
faults-refusal stop.Memory faults is = refl
faults-refusal why faults is = absurd is

pub break-cut : (why : Stop) → IsCut why → IsBreak why
break-cut stop.WriteFault is = tt
break-cut stop.Memory is = tt
break-cut why is = absurd is

pub halt-break : (why : Stop) → IsBreak why → IsHalt why
halt-break (stop.Full bytes) is = tt
halt-break stop.Worn is = tt
halt-break stop.WriteFault is = tt
halt-break stop.Memory is = tt
halt-break why is = absurd is

pub running-raw : (here : Phase) → IsRaw here → IsRunning here
running-raw phase.Calls raw = absurd raw
running-raw (phase.Waiting oneway) raw = absurd raw
running-raw (phase.Raw kind) raw = tt
running-raw (phase.Stopped why) raw = absurd raw

-- where raw bytes are passed on, a turn that is no stop leaves the session as it is
pub next-raw : (mid new : Seen) (next : Turn) → IsRaw mid.phase → ((why : Stop) → next ≡ turn.Stop why → ⊥) → Turns mid next new → new ≡ mid
next-raw mid new (turn.Call call) raw other t = absurd (subst (λ (here : Phase). IsRaw here) t.1 raw)
next-raw mid new turn.NeedMore raw other t = absurd (subst (λ (here : Phase). IsRaw here) t.0 raw)
next-raw mid new (turn.Raw kind) raw other t = t.2
next-raw mid new (turn.Stop why) raw other t = absurd (other why refl)
