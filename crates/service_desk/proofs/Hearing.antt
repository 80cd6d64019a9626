-- What a seat gains over calls.
use Rattle.std.proofs.Common.{◌≡◌, ◌≢◌, ◌+◌, [], ◌∷◌, ◌++◌, length, Ok, Err, refl, sym, ap, ◌∙◌, subst, arith, append_assoc, append-nil}
use Rattle.std.specs.Prelude.{All, Contains}
use Rattle.std.proofs.lemmas.List.Elements.{All-weaker}
use Rattle.std.proofs.lemmas.List.{length-append}
use Rattle.sheet_step.specs.declared.dones.Done.{Done}
use Rattle.call_form.specs.declared.Call.{Call}
use Rattle.call_form.specs.declared.Outcome.{Outcome}
use Rattle.turn_desk.specs.declared.objects.Entry.{Entry}
use Rattle.turn_desk.specs.Histories.{requests_of, state_of}
use Rattle.turn_desk.specs.Passes.{carried}
use Rattle.turn_desk.proofs.Lists.{state_more, requests_more, requests_one}
use Rattle.service_core.specs.declared.requests.Request.{Request}
use Rattle.service_core.specs.Outcomes.{outcome_of}
use Rattle.service_core.specs.Places.{Way, place_of}
use Rattle.service_desk.specs.Boards.{answer_of, state_after}
use Rattle.service_desk.specs.Gains.{Gains, GainsInARow, GainsWhatItHears, state_at}
use Rattle.service_desk.specs.Hearing.{asked_first, asked_by, heard_first, heard, dones_at}
use Rattle.service_desk.specs.Seats.{Seat, IsSameSeat, HearsPlaced, Asked}
use Rattle.service_desk.proofs.Rows.{asked_more, dones_more, dones_none, dones_last, dones_count, heard_more}
use Rattle.service_desk.proofs.Stepping.{last_done}

same_self : (a : Seat) → IsSameSeat a a
same_self a = (refl, refl, (refl, refl, refl, refl))

pub same_on : (a b c : Seat) → IsSameSeat a b → IsSameSeat b c → IsSameSeat a c
same_on a b c s t = (
  t.0 ∙ s.0,
  t.1 ∙ s.1,
  (t.2.0 ∙ s.2.0, t.2.1 ∙ s.2.1, t.2.2 ∙ s.2.2, t.2.3 ∙ s.2.3),
)

gains_none : (a : Seat) → Gains a a [] []
gains_none a = record {
  fresh = [];
  grew = sym (append-nil a.pass.seen);
  own = refl;
  hears = refl;
  made = omega arith;
  same = same_self a;
}

pub gains_on : GainsInARow
gains_on a b c calls more outcomes others g h =
    let number : b.pass.number ≡ a.pass.number = g.same.2.2 in
    let sheet = g.same.0 in
    let state : state_at b ≡ state_of state_after (state_at a) g.fresh =
    (λ j. state_of state_after (g.same.1 j).start (g.grew j)) ∙ state_more state_after a.desk.start a.pass.seen g.fresh in
    let own : requests_of a.pass.number h.fresh ≡ asked_by a.sheet more =
    ap (λ n. requests_of n h.fresh) (sym number) ∙ h.own ∙ ap (λ s. asked_by s more) sheet in
    let count : length (dones_at a.pass.number (state_at a) g.fresh) ≡ length (asked_by a.sheet calls) =
    dones_count a.pass.number (state_at a) g.fresh ∙ ap length g.own in
    let hears : others ≡ heard a.sheet more (dones_at a.pass.number (state_of state_after (state_at a) g.fresh) h.fresh) =
    h.hears ∙ (λ j. heard (sheet j) more (dones_at (number j) (state j) h.fresh)) in
    let all = asked_more a.sheet calls more in
    let others_asked : length (asked_by b.sheet more) ≡ length (asked_by a.sheet more) = ap (λ s. length (asked_by s more)) sheet in
    let sum : length (asked_by a.sheet (calls ++ more)) ≡ length (asked_by a.sheet calls) + length (asked_by a.sheet more) =
    ap length all ∙ length-append (asked_by a.sheet calls) (asked_by a.sheet more) in
    let first = g.made in
    let second = h.made in
    record {
      fresh = g.fresh ++ h.fresh;
      grew = h.grew ∙ (ap (λ l. l ++ h.fresh) g.grew ∙ append_assoc a.pass.seen g.fresh h.fresh);
      own = requests_more a.pass.number g.fresh h.fresh ∙ ((λ j. g.own j ++ own j) ∙ sym all);
      hears = (λ j. g.hears j ++ hears j)
          ∙ (sym (heard_more a.sheet calls more (dones_at a.pass.number (state_at a) g.fresh)
          (dones_at a.pass.number (state_of state_after (state_at a) g.fresh) h.fresh) count)
          ∙ ap (heard a.sheet (calls ++ more)) (sym (dones_more a.pass.number (state_at a) g.fresh h.fresh)));
      made = omega arith;
      same = same_on a b c g.same h.same;
    }

-- the one entry of a request
gains_asked : (a b : Seat) (call : Call) (outcome : Outcome) (request : Request) (done : Done) → place_of a.sheet call ≡ Ok request
    → outcome ≡ outcome_of a.sheet request.rule done → Asked a request done b → Gains a b (call ∷ []) (outcome ∷ [])
gains_asked a b call outcome request done place is asked =
    let entry : Entry Request = record { pass = a.pass.number; request = request } in
    let between = asked.entry.0 in
    let others : All (λ (e : Entry Request). e.pass ≢ a.pass.number) between =
    All-weaker (λ (e : Entry Request). ¬ Contains (carried a.pass) e.pass) (λ (e : Entry Request). e.pass ≢ a.pass.number)
    (λ e apart same. apart (0, omega arith, sym same)) between asked.entry.2 in
    let state : state_of state_after a.desk.start (a.pass.seen ++ between) ≡ state_of state_after (state_at a) between =
    state_more state_after a.desk.start a.pass.seen between in
    let came : answer_of (state_of state_after (state_at a) between) request ≡ done =
    ap (λ s. answer_of s request) (sym state) ∙ last_done a.desk.start b.pass.seen (a.pass.seen ++ between) entry done asked.entry.1 asked.reply in
    let dones : dones_at a.pass.number (state_at a) (between ++ entry ∷ []) ≡ done ∷ [] =
    dones_more a.pass.number (state_at a) between (entry ∷ [])
    ∙ ((λ j. dones_none a.pass.number (state_at a) between others j ++ dones_last (state_of state_after (state_at a) between) entry j)
    ∙ ap (λ d. d ∷ []) came) in
    let requests : asked_by a.sheet (call ∷ []) ≡ request ∷ [] = ap (λ w. asked_first w []) place in
    let made = asked.made in
    let counted : length (asked_by a.sheet (call ∷ [])) ≡ 1 = ap length requests in
    record {
      fresh = between ++ entry ∷ [];
      grew = asked.entry.1 ∙ append_assoc a.pass.seen between (entry ∷ []);
      own = requests_one a.pass.joined [] (between ++ entry ∷ []) entry (between, refl, asked.entry.2) ∙ sym requests;
      hears = ap (λ o. o ∷ []) is
          ∙ (ap (λ w. heard_first a.sheet w (heard a.sheet []) (done ∷ [])) (sym place)
          ∙ ap (heard a.sheet (call ∷ [])) (sym dones));
      made = omega arith;
      same = asked.same;
    }

gains_placed : (a b : Seat) (call : Call) (outcome : Outcome) (way : Way Request) → place_of a.sheet call ≡ way → HearsPlaced a way outcome b
    → Gains a b (call ∷ []) (outcome ∷ [])
gains_placed a b call outcome (Ok request) place hears = gains_asked a b call outcome request hears.0 place hears.1 hears.2
gains_placed a b call outcome (Err reply) place hears =
    let requests : asked_by a.sheet (call ∷ []) ≡ [] = ap (λ w. asked_first w []) place in
    let counted : length (asked_by a.sheet (call ∷ [])) ≡ 0 = ap length requests in
    subst (λ x. Gains a x (call ∷ []) (outcome ∷ [])) (sym hears.1) (record {
      fresh = [];
      grew = sym (append-nil a.pass.seen);
      own = sym requests;
      hears = ap (λ o. o ∷ []) hears.0 ∙ ap (λ w. heard_first a.sheet w (heard a.sheet []) []) (sym place);
      made = omega arith;
      same = same_self a;
    })

pub gains_heard : GainsWhatItHears
gains_heard a b [] [] told = subst (λ x. Gains a x [] []) (sym told) (gains_none a)
gains_heard a b [] (outcome ∷ outcomes) told = absurd told
gains_heard a b (call ∷ calls) [] told = absurd told
gains_heard a b (call ∷ calls) (outcome ∷ outcomes) told =
    gains_on a told.0 b (call ∷ []) calls (outcome ∷ []) outcomes
    (gains_placed a told.0 call outcome (place_of a.sheet call) refl told.1)
    (gains_heard told.0 b calls outcomes told.2)
