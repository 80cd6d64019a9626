-- The requests of a seat's own pass have no more levels than requests of calls have.
use Rattle.std.proofs.Common.{◌≡◌, ◌⊎◌, ℕ, List, [], ◌∷◌, ◌++◌, Option, Ok, Err, refl, sym, ap, ◌∙◌, subst, inl, inr}
use Rattle.std.specs.Prelude.{All}
use Rattle.std.proofs.lemmas.List.Elements.{All-nil, All-cons, All-head, All-tail, All-push, All-append}
use Rattle.turn_desk.specs.declared.objects.Entry.{Entry}
use Rattle.turn_desk.specs.declared.faults.AskFault.{AskFault}
use Rattle.turn_desk.specs.declared.faults.AskFault.TheVariants as fault
use Rattle.turn_desk.specs.Asks.{EndsWith}
use Rattle.turn_desk.specs.Histories.{GoesOn, requests_of}
use Rattle.turn_desk.proofs.Lists.{requests_more, requests_one, requests_same}
use Rattle.sheet_step.specs.declared.dones.Done.{Done}
use Rattle.call_form.specs.declared.Call.{Call}
use Rattle.call_form.specs.declared.Outcome.{Outcome}
use Rattle.call_form.specs.declared.TheConstants.{CALL_LIMIT}
use Rattle.session_core.specs.declared.stops.Stop.{Stop}
use Rattle.session_core.specs.Run.{Ran}
use Rattle.service_core.specs.declared.requests.Request.{Request}
use Rattle.service_core.specs.Places.{Way, place_of}
use Rattle.service_desk.specs.Gains.{Gains}
use Rattle.service_desk.specs.Seats.{Seat, Asked, PutNone, MissesPlaced}
use Rattle.link_doors.specs.Visits.{Visit}
use Rattle.door_serving.specs.Attended.{AttendedInOrder, AttendsSeat}
use Rattle.door_serving.specs.Conversations.{Conversation}
use Rattle.host_laws.specs.Laws.{IsShallow}
use Rattle.host_laws.proofs.CallDepths.{IsShallowCall}
use Rattle.host_laws.proofs.PlaceDepths.{asked_shallow, request_shallow}
use Rattle.host_laws.proofs.RunDepths.{run_depth}

-- a seat of the pass of this number, whose own requests are shallow
abbrev pub ShallowAt : ℕ → Seat → Type 0
ShallowAt n seat = (seat.pass.number ≡ n) × All IsShallow (requests_of n seat.pass.seen)

module _ {A : Type 0} (P : A → Type 0) where
  parted : (xs ys : List A) → All P (xs ++ ys) → All P xs × All P ys
  parted [] ys all = (All-nil P, all)
  parted (x ∷ xs) ys all =
      let rest = parted xs ys (All-tail P x (xs ++ ys) all) in
      (All-cons P x xs (All-head P x (xs ++ ys) all) rest.0, rest.1)

module _ (n : ℕ) (a b : Seat) where
  stays : b ≡ a → ShallowAt n a → ShallowAt n b
  stays is low = subst (ShallowAt n) (sym is) low

  others : PutNone a b → ShallowAt n a → ShallowAt n b
  others put low = (
    put.same.2.2 ∙ low.0,
    subst (All IsShallow) (sym (requests_same n a.pass.joined a.pass.seen b.pass.seen (subst (λ (m : ℕ). GoesOn a.pass.seen (m ∷ a.pass.joined) b.pass.seen) low.0 put.others))) low.1,
  )

  one_more : (request : Request) (done : Done) → Asked a request done b → IsShallow request → ShallowAt n a → ShallowAt n b
  one_more request done asked here low =
      let entry : EndsWith a.pass.seen (n ∷ a.pass.joined) (record { pass = n; request = request }) b.pass.seen =
      subst (λ (m : ℕ). EndsWith a.pass.seen (m ∷ a.pass.joined) (record { pass = m; request = request }) b.pass.seen) low.0 asked.entry in (
        asked.same.2.2 ∙ low.0,
        subst (All IsShallow) (sym (requests_one a.pass.joined a.pass.seen b.pass.seen (record { pass = n; request = request }) entry))
            (All-push IsShallow (requests_of n a.pass.seen) request low.1 here),
      )

  missed : (call : Call) (way : Way Request) (why : AskFault) → place_of a.sheet call ≡ way → IsShallowCall call → MissesPlaced a way why b → ShallowAt n a → ShallowAt n b
  missed call (Err reply) why is here m low = stays m.1 low
  missed call (Ok request) fault.Worn is here m low = stays m.1 low
  missed call (Ok request) (fault.Full bytes) is here m low = others m.0 low
  missed call (Ok request) fault.Memory is here m low = elim m [
    | inl same ↦ stays same low
    | inr more ↦ elim more [
      | inl put ↦ others put low
      | inr asked ↦ one_more request asked.0 asked.1 (request_shallow a.sheet call request is here) low
    ]
  ]

  gained : (calls : List Call) (outcomes : List Outcome) → Gains a b calls outcomes → All IsShallowCall calls → ShallowAt n a → ShallowAt n b
  gained calls outcomes g here low =
      let own : requests_of n g.fresh ≡ requests_of a.pass.number g.fresh = ap (λ (m : ℕ). requests_of m g.fresh) (sym low.0) in
      let all : requests_of n b.pass.seen ≡ requests_of n a.pass.seen ++ requests_of n g.fresh = ap (requests_of n) g.grew ∙ requests_more n a.pass.seen g.fresh in (
        g.same.2.2 ∙ low.0,
        subst (All IsShallow) (sym all)
            (All-append IsShallow (requests_of n a.pass.seen) (requests_of n g.fresh) low.1 (subst (All IsShallow) (sym (own ∙ g.own)) (asked_shallow a.sheet calls here))),
      )

conversed : (n : ℕ) (a b : Seat) (left left' written written' : Option (List ℕ)) (why : Stop) → Conversation a b left left' written written' why → ShallowAt n a → ShallowAt n b
conversed n a b left left' written written' why c low =
    let all : All IsShallowCall (c.calls ++ c.comes.later.calls) = subst (All IsShallowCall) (ap (λ (r : Ran). r.calls) c.comes.is) (run_depth CALL_LIMIT c.taken c.outcomes) in
    let parts = parted IsShallowCall c.calls c.comes.later.calls all in
    let last : ShallowAt n c.last = gained n a c.last c.calls c.outcomes c.gains parts.0 low in
    elim c.comes.leaves [
      | inl done ↦ stays n c.last b done.0 last
      | inr r ↦ missed n c.last b r.call (place_of c.last.sheet r.call) r.refused.0 refl
          (All-head IsShallowCall r.call [] (subst (All IsShallowCall) (ap (λ (l : Ran). l.calls) r.next) parts.1)) r.refused.2 last
    ]

module _ {C : Type 0} (left written : C → Option (List ℕ)) (n : ℕ) where
  pub attended : (a b : Seat) (conns : List C) (visits : List Visit) → AttendedInOrder AttendsSeat left written a conns visits b → ShallowAt n a → ShallowAt n b
  attended a b [] [] all low = stays n a b all low
  attended a b [] (visit ∷ visits) all low = absurd all
  attended a b (conn ∷ conns) [] all low = absurd all
  attended a b (conn ∷ conns) (visit ∷ visits) all low =
      attended all.0 b conns visits all.2
      (conversed n a all.0 (left conn) visit.left (written conn) visit.written all.1.why all.1.session.0 low)
