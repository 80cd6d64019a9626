-- A session that is served piece by piece, to its stop.
use Rattle.std.proofs.Common.{◌≡◌, ℕ, ◌+◌, ◌-◌, ◌<◌, ◌≤◌, ◌↔◌, List, [], ◌∷◌, ◌++◌, length, take, drop, Option, None, Some, IfSome, refl, sym, ◌∙◌, ap, subst, length-append, zero-add, arith, append_assoc, inl, inr}
use Rattle.std.proofs.lemmas.List.{append-nil, take-append-drop, take_rest}
use Rattle.std.proofs.Math.Seq.{take-add}
use Rattle.std.proofs.KnownBytes.{Appends-nil, Consumes-trans, Consumes-nil}
use Rattle.std.specs.Io.KnownBytes.{Consumes}
use Rattle.call_form.specs.declared.Call.{Call}
use Rattle.call_form.specs.declared.Outcome.{Outcome}
use Rattle.session_core.specs.declared.phases.Phase.{Phase}
use Rattle.session_core.specs.declared.phases.Phase.TheVariants as phase
use Rattle.session_core.specs.declared.stops.Stop.{Stop}
use Rattle.session_core.specs.declared.stops.Stop.TheVariants as stop
use Rattle.session_core.specs.Limits.{most_bytes}
use Rattle.session_core.specs.Run.{Ran, stopped, after, run, run_on, end_of}
use Rattle.session_core.specs.Seen.{Seen, Moves, fresh, run_from}
use Rattle.session_core.specs.Steps.{IsPaused, ended_in}
use Rattle.session_core.specs.Sent.{Sent, Sends}
use Rattle.session_core.specs.Served.{Told, Reaches, Leaves, IsOfEnd, TakesAll, Served}
use Rattle.session_core.specs.Heard.{Closes, EndsBy, Heard, refuses_by}
use Rattle.session_core.specs.Went.{Went, Halts, IsHalt, IsReady, IsReadyIn, EmptyUnlessFault}
use Rattle.session_core.proofs.RunLemmas.{end-run, not_full}
use Rattle.session_core.proofs.WentLemmas.{Went-trans, Went-fed, Went-Halts, Halts-more, Closes-fault}
use Rattle.session_core.proofs.SentLemmas.{Sends-whole}

-- the part of a piece that goes in next
abbrev pub part_of : List ℕ → ℕ → ℕ → List ℕ
part_of piece done n = take n (take (length piece - done) (drop done piece))

pub part-next : (piece : List ℕ) (done n : ℕ) → take done piece ++ (part_of piece done n ++ []) ≡ take (done + n) piece
part-next piece done n =
    ap (λ (part : List ℕ). take done piece ++ part) (append-nil (part_of piece done n) ∙ ap (λ (rest : List ℕ). take n rest) (take_rest piece done))
    ∙ sym (take-add done n piece)

run-fresh : (limit : ℕ) (bytes : List ℕ) (outcomes : List Outcome) → run limit bytes outcomes ≡ run_from (fresh limit) bytes outcomes
run-fresh limit bytes outcomes = ap (λ (total : ℕ). run_on limit total 0 bytes outcomes) (sym (zero-add (length bytes)))

-- ---- where a session is ready for more

paused-in : (here : Phase) (seen : Seen) → IsReadyIn here seen → seen.taken < most_bytes → IsPaused here seen
paused-in phase.Calls seen handled more = (handled, more)
paused-in (phase.Waiting oneway) seen handled more = absurd handled
paused-in (phase.Raw raw) seen handled more = handled
paused-in (phase.Stopped why) seen handled more = absurd handled

pub paused-ready : (seen : Seen) → IsReady seen → IsPaused seen.phase seen
paused-ready seen ready = paused-in seen.phase seen ready.handled ready.more

end_of-end : (held : List ℕ) → IsOfEnd (end_of held)
end_of-end [] = tt
end_of-end (b ∷ held) = tt

ended-in : (here : Phase) (seen : Seen) → IsReadyIn here seen → seen.taken < most_bytes → IsOfEnd (ended_in here seen)
ended-in phase.Calls seen handled more = end_of-end seen.held
ended-in (phase.Waiting oneway) seen handled more = absurd handled
ended-in (phase.Raw raw) seen handled more = rw (not_full seen.taken stop.Upgraded more) tt
ended-in (phase.Stopped why) seen handled more = absurd handled

pub ended-ready : (seen : Seen) → IsReady seen → IsOfEnd (ended_in seen.phase seen)
ended-ready seen ready = ended-in seen.phase seen ready.handled ready.more

leaves-end : (why : Stop) → IsOfEnd why → Leaves why [] (stopped why)
leaves-end stop.End is = (refl, refl)
leaves-end (stop.Cut bytes) is = (refl, refl)
leaves-end stop.Upgraded is = (refl, refl)
leaves-end why is = absurd is

-- all that was left was taken, where a take gave nothing
pub takes-all : (why : Stop) (left mid : Option (List ℕ)) (fed : List ℕ) (n : ℕ) → n ≡ 0 → Consumes left mid fed →
    IfSome mid (λ bytes. (n ≡ 0) ↔ (bytes ≡ [])) → TakesAll why left fed
takes-all why left mid fed n none consumed ends = all-of why (whole left mid fed consumed ends) where
  whole : (left mid : Option (List ℕ)) (fed : List ℕ) → Consumes left mid fed → IfSome mid (λ bytes. (n ≡ 0) ↔ (bytes ≡ [])) → IfSome left (λ bytes. fed ≡ bytes)
  whole None mid fed consumed ends = tt
  whole (Some xs) None fed consumed ends = absurd consumed
  whole (Some xs) (Some ys) fed consumed ends = sym (append-nil fed) ∙ ap (λ (rest : List ℕ). fed ++ rest) (sym (ends.0 none)) ∙ sym consumed

  all-of : (why : Stop) → IfSome left (λ bytes. fed ≡ bytes) → TakesAll why left fed
  all-of stop.End all = all
  all-of (stop.Cut bytes) all = all
  all-of stop.Upgraded all = all
  all-of why all = tt

-- a take of no byte leaves all
pub consumes-none : (left mid now : Option (List ℕ)) (fed into : List ℕ) (n : ℕ) → n ≡ 0 → Consumes left mid fed → Consumes mid now (take n into) → Consumes left now fed
consumes-none left mid now fed into n none consumed more =
    subst (λ (all : List ℕ). Consumes left now all) (append-nil fed)
    (Consumes-trans left mid now fed [] consumed (subst (λ (k : ℕ). Consumes mid now (take k into)) none more))

module _ {A : Type 0} (tells : A → Call → Outcome → A → Type 0) where
  pub Went-part : (one two mid three : Seen) (piece : List ℕ) (done n : ℕ) (a b c : A) (k l m : Sent) →
      Went tells one two (take done piece) a b k l → Moves two mid (part_of piece done n) [] [] [] → Went tells mid three [] b c l m →
      Went tells one three (take (done + n) piece) a c k m
  Went-part one two mid three piece done n a b c k l m went moves more =
      subst (λ (fed : List ℕ). Went tells one three fed a c k m) (part-next piece done n)
      (Went-trans tells one two three (take done piece) (part_of piece done n ++ []) a b c k l m went
      (Went-trans tells two mid three (part_of piece done n) [] b b c l l m (Went-fed tells two mid (part_of piece done n) b l moves) more))

  -- the run over all that went in, where the session is ready for more
  went-run : (limit : ℕ) (now : Seen) (fed : List ℕ) (outcomes : List Outcome) (calls : List Call) (out : List ℕ) → Moves (fresh limit) now fed outcomes calls out →
      now.taken < most_bytes → run limit fed outcomes ≡ after calls out (run_from now [] [])
  went-run limit now fed outcomes calls out moves more =
      let room : now.taken + 0 ≤ most_bytes = omega arith in
      run-fresh limit fed outcomes
      ∙ subst (λ (bytes : List ℕ). run_from (fresh limit) bytes outcomes ≡ after calls out (run_from now [] [])) (append-nil fed)
      (subst (λ (all : List Outcome). run_from (fresh limit) (fed ++ []) all ≡ after calls out (run_from now [] [])) (append-nil outcomes) (moves.on [] [] room))

module _ {A : Type 0} (tells : A → Call → Outcome → A → Type 0) (refuses : A → Call → Stop → A → Type 0) where
  pub Halts-part : (one two mid : Seen) (piece : List ℕ) (done n : ℕ) (a b c : A) (k l m : Sent) (why : Stop) →
      Went tells one two (take done piece) a b k l → Moves two mid (part_of piece done n) [] [] [] → Halts tells refuses mid [] b c l m why →
      Halts tells refuses one piece a c k m why
  Halts-part one two mid piece done n a b c k l m why went moves more =
      subst (λ (fed : List ℕ). Halts tells refuses one fed a c k m why) (take-append-drop (done + n) piece)
      (Halts-more tells refuses one (take (done + n) piece) (drop (done + n) piece) a c k m why
      (subst (λ (fed : List ℕ). Halts tells refuses one fed a c k m why) (part-next piece done n)
      (Went-Halts tells refuses one two (take done piece) (part_of piece done n ++ []) a b c k l m why went
      (Went-Halts tells refuses two mid (part_of piece done n) [] b b c l l m why (Went-fed tells two mid (part_of piece done n) b l moves) more))))

  comes-ended : (limit : ℕ) (now : Seen) (fed : List ℕ) (outcomes : List Outcome) (calls : List Call) (out put : List ℕ) (b : A) (why end : Stop) →
      Moves (fresh limit) now fed outcomes calls out → out ≡ put → now.taken < most_bytes → run_from now [] [] ≡ stopped end → Leaves why [] (stopped end) →
      Reaches (run limit fed outcomes) calls put (Closes refuses b b why)
  comes-ended limit now fed outcomes calls out put b why end moves all more ends leaves = record {
    unwritten = [];
    later = stopped end;
    is = went-run tells limit now fed outcomes calls out moves more ∙ ap (λ (ran : Ran). after calls out ran) ends
        ∙ ap (λ (bytes : List ℕ). after calls bytes (stopped end)) (all ∙ sym (append-nil put));
    leaves = inl (refl, leaves);
  }

  most-fed : (limit : ℕ) (now : Seen) (fed : List ℕ) (outcomes : List Outcome) (calls : List Call) (out : List ℕ) → Moves (fresh limit) now fed outcomes calls out →
      now.taken < most_bytes → length fed ≤ most_bytes
  most-fed limit now fed outcomes calls out moves more = omega (arith, moves.counted)

  put-all : (k l : Sent) (out : List ℕ) → k.waiting ≡ [] → l.waiting ≡ [] → (sends : Sends k l out) → out ≡ sends.put
  put-all k l out none empty sends =
      Sends-whole k l out none sends ∙ ap (λ (rest : List ℕ). sends.put ++ rest) empty ∙ append-nil sends.put

  -- the input ended, or the source failed
  heard-ended : (limit : ℕ) (now : Seen) (fed : List ℕ) (a b : A) (left left' : Option (List ℕ)) (k l : Sent) (why : Stop) →
      Went tells (fresh limit) now fed a b k l → IsReady now → k.waiting ≡ [] → l.waiting ≡ [] → Consumes left left' fed →
      Leaves why [] (stopped (ended_in now.phase now)) → TakesAll why left fed →
      Heard tells refuses limit a b left left' k.written l.written why
  heard-ended limit now fed a b left left' k l why went ready none empty consumed leaves all = record {
    taken = fed;
    calls = went.calls;
    outcomes = went.outcomes;
    out = went.sends.put;
    last = b;
    consumed = consumed;
    most = most-fed limit now fed went.outcomes went.calls went.out went.moves ready.more;
    told = went.told;
    fits = went.fits;
    wrote = went.sends.wrote;
    comes = comes-ended limit now fed went.outcomes went.calls went.out went.sends.put b why (ended_in now.phase now) went.moves
        (put-all k l went.out none empty went.sends) ready.more (end-run now [] (paused-ready now ready)) leaves;
    all = all;
  }

  -- the input ended
  pub Heard-end : (limit : ℕ) (now : Seen) (fed : List ℕ) (a b : A) (left left' : Option (List ℕ)) (k l : Sent) (why : Stop) →
      Went tells (fresh limit) now fed a b k l → IsReady now → k.waiting ≡ [] → l.waiting ≡ [] → Consumes left left' fed →
      why ≡ ended_in now.phase now → TakesAll why left fed → Heard tells refuses limit a b left left' k.written l.written why
  Heard-end limit now fed a b left left' k l why went ready none empty consumed is all =
      heard-ended limit now fed a b left left' k l why went ready none empty consumed
      (subst (λ (end : Stop). Leaves why [] (stopped end)) is (leaves-end why (subst IsOfEnd (sym is) (ended-ready now ready)))) all

  -- the source failed
  pub Heard-read : (limit : ℕ) (now : Seen) (fed : List ℕ) (a b : A) (left left' : Option (List ℕ)) (k l : Sent) →
      Went tells (fresh limit) now fed a b k l → IsReady now → k.waiting ≡ [] → l.waiting ≡ [] → Consumes left left' fed →
      Heard tells refuses limit a b left left' k.written l.written stop.ReadFault
  Heard-read limit now fed a b left left' k l went ready none empty consumed =
      heard-ended limit now fed a b left left' k l stop.ReadFault went ready none empty consumed
      (refl, (ended_in now.phase now, ended-ready now ready, refl)) tt

  halt-all : (why : Stop) (left : Option (List ℕ)) (taken : List ℕ) → IsHalt why → TakesAll why left taken
  halt-all stop.End left taken halt = absurd halt
  halt-all (stop.Cut bytes) left taken halt = absurd halt
  halt-all stop.Upgraded left taken halt = absurd halt
  halt-all why left taken halt = tt

  -- what waits where the sink failed was not written
  closes-put : (a b : A) (why : Stop) (waiting unwritten : List ℕ) (later : Ran) → EmptyUnlessFault why waiting →
      Closes refuses a b why unwritten later → Closes refuses a b why (waiting ++ unwritten) later
  closes-put a b stop.WriteFault waiting unwritten later empty closes =
      Closes-fault tells refuses a b stop.WriteFault unwritten (waiting ++ unwritten) later closes
  closes-put a b why waiting unwritten later empty closes =
      subst (λ (before : List ℕ). Closes refuses a b why (before ++ unwritten) later) (sym empty) closes

  reaches-put : (ran : Ran) (calls : List Call) (out put waiting : List ℕ) (a b : A) (why : Stop) → out ≡ put ++ waiting → EmptyUnlessFault why waiting →
      Reaches ran calls out (Closes refuses a b why) → Reaches ran calls put (Closes refuses a b why)
  reaches-put ran calls out put waiting a b why whole empty comes = record {
    unwritten = waiting ++ comes.unwritten;
    later = comes.later;
    is = comes.is ∙ ap (λ (all : List ℕ). after calls all comes.later)
        (ap (λ (all : List ℕ). all ++ comes.unwritten) whole ∙ append_assoc put waiting comes.unwritten);
    leaves = closes-put a b why waiting comes.unwritten comes.later empty comes.leaves;
  }

  -- the session stopped
  pub Heard-halt : (limit : ℕ) (now : Seen) (fed piece : List ℕ) (a b c : A) (left mid left' : Option (List ℕ)) (k l m : Sent) (why : Stop) →
      Went tells (fresh limit) now fed a b k l → Halts tells refuses now piece b c l m why → IsHalt why → k.waiting ≡ [] → EmptyUnlessFault why m.waiting →
      Consumes left mid fed → Consumes mid left' piece →
      now.taken + length piece ≤ most_bytes → Heard tells refuses limit a c left left' k.written m.written why
  Heard-halt limit now fed piece a b c left mid left' k l m why went halts halt none empty consumed more room =
      let whole = Went-Halts tells refuses (fresh limit) now fed piece a b c k l m why went halts in
      let counted : length (fed ++ piece) ≤ most_bytes = omega (arith, went.moves.counted, length-append fed piece) in
      let bound : 0 + length ((fed ++ piece) ++ []) ≤ most_bytes = rw (append-nil (fed ++ piece), zero-add (length (fed ++ piece))) counted in
      record {
        taken = fed ++ piece;
        calls = whole.calls;
        outcomes = whole.outcomes;
        out = whole.sends.put;
        last = whole.last;
        consumed = Consumes-trans left mid left' fed piece consumed more;
        most = counted;
        told = whole.told;
        fits = whole.fits;
        wrote = whole.sends.wrote;
        comes = reaches-put _ whole.calls whole.out whole.sends.put m.waiting whole.last c why (Sends-whole k m whole.out none whole.sends) empty
            (subst (λ (ran : Ran). Reaches ran whole.calls whole.out (Closes refuses whole.last c why)) (sym (run-fresh limit (fed ++ piece) whole.outcomes))
            (subst (λ (bytes : List ℕ). Reaches (run_from (fresh limit) bytes whole.outcomes) whole.calls whole.out (Closes refuses whole.last c why)) (append-nil (fed ++ piece))
            (whole.on [] bound)));
        all = halt-all why left (fed ++ piece) halt;
      }

  -- memory ran out before the first byte
  pub Heard-nothing : (limit : ℕ) (a : A) (left k : Option (List ℕ)) → Heard tells refuses limit a a left left k k stop.Memory
  Heard-nothing limit a left k = record {
    taken = [];
    calls = [];
    outcomes = [];
    out = [];
    last = a;
    consumed = Consumes-nil left;
    most = omega arith;
    told = refl;
    fits = tt;
    wrote = Appends-nil k;
    comes = record { unwritten = []; later = run limit [] []; is = refl; leaves = inl (refl, tt) };
    all = tt;
  }

-- ---- a hearer that refuses for want of memory alone, and then stays as it is

module _ {A : Type 0} (R : Type 0) (tells : A → Call → Outcome → A → Type 0) where
  abbrev pub stays : A → Call → R → A → Type 0
  stays a call refusal b = b ≡ a

  abbrev pub refuses_alone : A → Call → Stop → A → Type 0
  refuses_alone = refuses_by stays (λ (refusal : R). stop.Memory)

  leaves-alone : (a b : A) (why : Stop) (unwritten : List ℕ) (later : Ran) (call : Call) (refusal : Stop) → refuses_alone a call refusal b →
      EndsBy why refusal unwritten → Leaves why unwritten later
  leaves-alone a b stop.WriteFault unwritten later call refusal refused ends = tt
  leaves-alone a b stop.Memory unwritten later call refusal refused ends = tt
  leaves-alone a b why unwritten later call refusal refused ends = let no : why ≡ stop.Memory = ends.0 ∙ refused.1 in absurd (cc)

  closes-alone : (a b : A) (why : Stop) (unwritten : List ℕ) (later : Ran) → Closes refuses_alone a b why unwritten later → (b ≡ a) × Leaves why unwritten later
  closes-alone a b why unwritten later (inl same) = same
  closes-alone a b why unwritten later (inr refused) =
      (refused.refused.2, leaves-alone a b why unwritten later refused.call refused.refusal refused.refused refused.ends)

  pub Served-heard : (limit : ℕ) (a b : A) (left left' written written' : Option (List ℕ)) (why : Stop) →
      Heard tells refuses_alone limit a b left left' written written' why → Served tells limit a b left left' written written' why
  Served-heard limit a b left left' written written' why heard =
      let closed = closes-alone heard.last b why heard.comes.unwritten heard.comes.later heard.comes.leaves in
      record {
        taken = heard.taken;
        calls = heard.calls;
        outcomes = heard.outcomes;
        out = heard.out;
        consumed = heard.consumed;
        most = heard.most;
        told = subst (λ (last : A). Told tells a heard.calls heard.outcomes last) (sym closed.0) heard.told;
        fits = heard.fits;
        wrote = heard.wrote;
        comes = record { unwritten = heard.comes.unwritten; later = heard.comes.later; is = heard.comes.is; leaves = closed.1 };
        all = heard.all;
      }

  pub Served-nothing : (limit : ℕ) (a : A) (left k : Option (List ℕ)) → Served tells limit a a left left k k stop.Memory
  Served-nothing limit a left k =
      Served-heard limit a a left left k k stop.Memory (Heard-nothing tells refuses_alone limit a left k)

pub ready-fresh : (limit : ℕ) → IsReady (fresh limit)
ready-fresh limit = record { handled = record { no_nul = tt; short = omega arith }; more = omega arith }
