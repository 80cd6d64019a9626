-- How a seat goes on over calls.
use Rattle.std.proofs.Common.{◌≡◌, ◌≢◌, ℕ, ◌+◌, List, [], ◌∷◌, ◌++◌, length, Option, Ok, Err, inl, inr, refl, sym, ap, ◌∙◌, subst, arith, append_assoc, append-nil}
use Rattle.std.specs.Prelude.{All, Contains}
use Rattle.std.proofs.lemmas.List.Elements.{All-weaker}
use Rattle.std.proofs.lemmas.List.{length-append}
use Rattle.turn_desk.specs.declared.objects.Entry.{Entry}
use Rattle.turn_desk.specs.declared.faults.AskFault.{AskFault}
use Rattle.turn_desk.specs.declared.faults.AskFault.TheVariants as fault
use Rattle.turn_desk.specs.Histories.{requests_of}
use Rattle.turn_desk.specs.Passes.{all_asks, carried}
use Rattle.turn_desk.proofs.Lists.{requests_more, requests_one, requests_none}
use Rattle.call_form.specs.declared.Call.{Call}
use Rattle.call_form.specs.declared.Outcome.{Outcome}
use Rattle.call_form.specs.declared.TheConstants.{CALL_LIMIT}
use Rattle.session_core.specs.declared.stops.Stop.{Stop}
use Rattle.session_core.specs.Heard.{Heard, Closes, refuses_by}
use Rattle.session_core.specs.Run.{Ran}
use Rattle.session_core.specs.Served.{Told}
use Rattle.sheet_step.specs.declared.dones.Done.{Done}
use Rattle.service_core.specs.declared.requests.Request.{Request}
use Rattle.service_core.specs.Places.{Way, place_of}
use Rattle.service_desk.specs.Seats.{Seat, IsSameSeat, Asked, PutNone, Hears, HearsPlaced, LeavesAsked, Misses, MissesPlaced}
use Rattle.service_desk.proofs.Hearing.{gains_heard}
use Rattle.door_serving.specs.Conversations.{Conversation, GoesOn}
use Rattle.door_serving.specs.Stops.{stop_of}

same_seat_on : (a b c : Seat) → IsSameSeat a b → IsSameSeat b c → IsSameSeat a c
same_seat_on a b c s t = (
  t.0 ∙ s.0,
  t.1 ∙ s.1,
  (t.2.0 ∙ s.2.0, t.2.1 ∙ s.2.1, t.2.2 ∙ s.2.2, t.2.3 ∙ s.2.3),
)

pub goes_nowhere : (a : Seat) → GoesOn a a
goes_nowhere a = record {
  same = (refl, refl, (refl, refl, refl, refl));
  asks = refl;
  fresh = [];
  grew = sym (append-nil a.pass.seen);
  counted = omega arith;
}

pub goes_on : (a b c : Seat) → GoesOn a b → GoesOn b c → GoesOn a c
goes_on a b c g h =
    let number : b.pass.number ≡ a.pass.number = g.same.2.2 in
    let own : requests_of b.pass.number h.fresh ≡ requests_of a.pass.number h.fresh = ap (λ n. requests_of n h.fresh) number in
    let more : length (requests_of b.pass.number h.fresh) ≡ length (requests_of a.pass.number h.fresh) = ap length own in
    let sum : length (requests_of a.pass.number (g.fresh ++ h.fresh)) ≡ length (requests_of a.pass.number g.fresh) + length (requests_of a.pass.number h.fresh) =
    ap length (requests_more a.pass.number g.fresh h.fresh) ∙ length-append (requests_of a.pass.number g.fresh) (requests_of a.pass.number h.fresh) in
    let first = g.counted in
    let second = h.counted in
    record {
      same = same_seat_on a b c g.same h.same;
      asks = h.asks ∙ g.asks;
      fresh = g.fresh ++ h.fresh;
      grew = h.grew ∙ (ap (λ l. l ++ h.fresh) g.grew ∙ append_assoc a.pass.seen g.fresh h.fresh);
      counted = omega arith;
    }

-- what was asked by a call is one entry of the seat's own
asked_goes : (a b : Seat) (request : Request) (done : Done) → all_asks b.pass ≡ all_asks a.pass → Asked a request done b → GoesOn a b
asked_goes a b request done asks asked =
    let entry : Entry Request = record { pass = a.pass.number; request = request } in
    let between = asked.entry.0 in
    let own : requests_of a.pass.number (between ++ entry ∷ []) ≡ request ∷ [] =
    requests_one a.pass.joined [] (between ++ entry ∷ []) entry (between, refl, asked.entry.2) in
    let one : length (requests_of a.pass.number (between ++ entry ∷ [])) ≡ 1 = ap length own in
    let made = asked.made in
    record {
      same = asked.same;
      asks = asks;
      fresh = between ++ entry ∷ [];
      grew = asked.entry.1 ∙ append_assoc a.pass.seen between (entry ∷ []);
      counted = omega arith;
    }

none_goes : (a b : Seat) → all_asks b.pass ≡ all_asks a.pass → PutNone a b → GoesOn a b
none_goes a b asks none =
    let others : All (λ (e : Entry Request). e.pass ≢ a.pass.number) none.others.0 =
    All-weaker (λ (e : Entry Request). ¬ Contains (carried a.pass) e.pass) (λ (e : Entry Request). e.pass ≢ a.pass.number)
    (λ e apart same. apart (0, omega arith, sym same)) none.others.0 none.others.2 in
    let own : length (requests_of a.pass.number none.others.0) ≡ 0 = ap length (requests_none a.pass.number none.others.0 others) in
    let made = none.made in
    record {
      same = none.same;
      asks = asks;
      fresh = none.others.0;
      grew = none.others.1;
      counted = omega arith;
    }

stays_goes : (a b : Seat) → b ≡ a → GoesOn a b
stays_goes a b same = subst (GoesOn a) (sym same) (goes_nowhere a)

hears_placed : (a b : Seat) (outcome : Outcome) (way : Way Request) → all_asks b.pass ≡ all_asks a.pass → HearsPlaced a way outcome b → GoesOn a b
hears_placed a b outcome (Ok request) asks hears = asked_goes a b request hears.0 asks hears.2
hears_placed a b outcome (Err reply) asks hears = stays_goes a b hears.1

pub hears_goes : (a b : Seat) (call : Call) (outcome : Outcome) → all_asks b.pass ≡ all_asks a.pass → Hears a call outcome b → GoesOn a b
hears_goes a b call outcome asks hears = hears_placed a b outcome (place_of a.sheet call) asks hears

leaves_asked : (a b : Seat) (request : Request) (why : AskFault) → all_asks b.pass ≡ all_asks a.pass → LeavesAsked a request why b → GoesOn a b
leaves_asked a b request fault.Worn asks leaves = stays_goes a b leaves.1
leaves_asked a b request (fault.Full bytes) asks leaves = none_goes a b asks leaves.0
leaves_asked a b request fault.Memory asks (inl same) = stays_goes a b same
leaves_asked a b request fault.Memory asks (inr (inl none)) = none_goes a b asks none
leaves_asked a b request fault.Memory asks (inr (inr asked)) = asked_goes a b request asked.0 asks asked.1

misses_placed : (a b : Seat) (why : AskFault) (way : Way Request) → all_asks b.pass ≡ all_asks a.pass → MissesPlaced a way why b → GoesOn a b
misses_placed a b why (Ok request) asks misses = leaves_asked a b request why asks misses
misses_placed a b why (Err reply) asks misses = stays_goes a b misses.1

pub misses_goes : (a b : Seat) (call : Call) (why : AskFault) → all_asks b.pass ≡ all_asks a.pass → Misses a call why b → GoesOn a b
misses_goes a b call why asks misses = misses_placed a b why (place_of a.sheet call) asks misses

-- a session that a seat hears is a conversation of the seat, whatever else the hearer has
module _ {A : Type 0} (f : A → Seat) where
  told_through : (a b : A) (calls : List Call) (outcomes : List Outcome) → Told (λ x call outcome y. Hears (f x) call outcome (f y)) a calls outcomes b
      → Told Hears (f a) calls outcomes (f b)
  told_through a b [] [] told = ap f told
  told_through a b [] (outcome ∷ outcomes) told = absurd told
  told_through a b (call ∷ calls) [] told = absurd told
  told_through a b (call ∷ calls) (outcome ∷ outcomes) told = (f told.0, told.1, told_through told.0 b calls outcomes told.2)

  abbrev misses_through : A → Call → AskFault → A → Type 0
  misses_through a call why b = Misses (f a) call why (f b)

  closes_through : (a b : A) (why : Stop) (unwritten : List ℕ) (later : Ran) → Closes (refuses_by misses_through stop_of) a b why unwritten later
      → Closes (refuses_by Misses stop_of) (f a) (f b) why unwritten later
  closes_through a b why unwritten later (inl same) = inl (ap f same.0, same.1)
  closes_through a b why unwritten later (inr refused) = inr (record {
    call = refused.call;
    refusal = refused.refusal;
    refused = refused.refused;
    next = refused.next;
    ends = refused.ends;
  })

  pub conversation : (a b : A) (left left' written written' : Option (List ℕ)) (why : Stop)
      → Heard (λ x call outcome y. Hears (f x) call outcome (f y)) (refuses_by misses_through stop_of) CALL_LIMIT a b left left' written written' why
      → Conversation (f a) (f b) left left' written written' why
  conversation a b left left' written written' why heard = record {
    taken = heard.taken;
    calls = heard.calls;
    outcomes = heard.outcomes;
    out = heard.out;
    last = f heard.last;
    consumed = heard.consumed;
    most = heard.most;
    gains = gains_heard (f a) (f heard.last) heard.calls heard.outcomes (told_through a heard.last heard.calls heard.outcomes heard.told);
    fits = heard.fits;
    wrote = heard.wrote;
    comes = record {
      unwritten = heard.comes.unwritten;
      later = heard.comes.later;
      is = heard.comes.is;
      leaves = closes_through heard.last b why heard.comes.unwritten heard.comes.later heard.comes.leaves;
    };
    all = heard.all;
  }
