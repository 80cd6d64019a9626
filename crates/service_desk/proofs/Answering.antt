-- What the desk's answer to a request makes of the seat.
use Rattle.std.proofs.Common.{◌≡◌, ◌↔◌, ℕ, zero, suc, ◌+◌, ◌-◌, ◌<◌, ◌≤◌, ◌++◌, Result, Ok, Err, IfOk, IfErr, OnOk, OnErr, inl, inr, refl, sym, ap, ◌∙◌, subst, arith}
use Rattle.std.specs.Prelude.{IsErr, IsErrAnd}
use Rattle.sheet_step.specs.declared.dones.Done.{Done}
use Rattle.sheet_form.specs.declared.sheets.Contents.{Contents}
use Rattle.call_form.specs.declared.Call.{Call}
use Rattle.call_form.specs.declared.Outcome.{Outcome}
use Rattle.turn_desk.specs.declared.faults.AskFault.{AskFault}
use Rattle.turn_desk.specs.declared.faults.AskFault.TheVariants as fault
use Rattle.turn_desk.specs.Asks.{SeesOwn, SeesOthers}
use Rattle.turn_desk.specs.Histories.{IsReply, AllGood, weight_of}
use Rattle.turn_desk.specs.Passes.{DeskView, PassView, IsSamePass, all_asks}
use Rattle.service_core.specs.declared.requests.Request.{Request}
use Rattle.service_core.specs.declared.requests.Placed.TheVariants.{Answered, Ask}
use Rattle.service_core.specs.declared.renderings.Rendering.{Rendering}
use Rattle.service_core.specs.declared.renderings.Rendering.TheVariants as rendering
use Rattle.service_core.specs.Comes.{MayCome, IsComeTo}
use Rattle.service_core.specs.Outcomes.{outcome_of}
use Rattle.service_core.specs.Places.{Way, place_of, placed}
use Rattle.service_core.specs.Renders.{Renders}
use Rattle.service_core.specs.Runs.{IsGood, IsTyped}
use Rattle.service_core.specs.States.{State}
use Rattle.service_desk.specs.Boards.{IsDeskOf, IsGoodFor, answer_of, state_after, weigh}
use Rattle.service_desk.specs.Seats.{Seat, Asked, PutNone, SpendsOne, LeavesAsked, HearsPlaced, Hears, MissesPlaced, Misses, RendersPlaced}
use Rattle.service_desk.proofs.Stepping.{may_come}

-- how the call was placed
pub asks_step : (request : Request) (way : Way Request) → Ask request ≡ placed way → way ≡ Ok request
asks_step request (Ok other) is = let same : other ≡ request = (cc) in ap Ok same
asks_step request (Err reply) is = absurd (cc)

pub answered_by : (outcome : Outcome) (way : Way Request) (seat : Seat) → Answered outcome ≡ placed way → HearsPlaced seat way outcome seat
answered_by outcome (Ok request) seat is = absurd (cc)
answered_by outcome (Err reply) seat is = ((cc), refl)

pub missed_before : (seat : Seat) (way : Way Request) → MissesPlaced seat way fault.Memory seat
missed_before seat (Ok request) = inl refl
missed_before seat (Err reply) = (refl, refl)

pub good_here : (sheet : Contents) (desk : DeskView State) (request : Request) → IsDeskOf sheet desk → IsGood sheet request → IsGoodFor desk.start request
good_here sheet desk request d g = subst (λ (s : Contents). IsGood s request) (sym d.sheet_is) g

pub answered_renders : (outcome given : Outcome) (way : Way Request) (before after : Seat) → Answered outcome ≡ placed way
    → RendersPlaced before way (rendering.Given given) after
answered_renders outcome given (Ok request) before after is = absurd (cc)
answered_renders outcome given (Err reply) before after is = tt

abbrev seat_of : Contents → DeskView State → PassView State Request → ℕ → Seat
seat_of sheet desk pass made = record { sheet = sheet; desk = desk; pass = pass; made = made }

module _ (sheet : Contents) (desk : DeskView State) (old new : PassView State Request) (made : ℕ) (request : Request) (result : Result Done AskFault)
    (same : IsSamePass old new)
    (left : new.left ≡ old.left - 1)
    (asks : all_asks new ≡ all_asks old)
    (worn : (result ≡ Err fault.Worn) ↔ (old.left ≡ 0))
    (good : AllGood IsGoodFor desk.start new.seen) where
  not_worn : (f : Result Done AskFault) → result ≡ f → (f ≡ Err fault.Worn → ⊥) → old.left ≡ 0 → ⊥
  not_worn f is other none = other (sym is ∙ worn.1 none)

  spends : (n : ℕ) → old.left ≡ n → (old.left ≡ 0 → ⊥) → SpendsOne (seat_of sheet desk old made) (seat_of sheet desk new made)
  spends zero is some = absurd (some is)
  spends (suc n) is some = (omega (arith, is, left, asks), omega (arith, is, left, asks))

  pub asked_of : (done : Done) → result ≡ Ok done
      → OnOk result (SeesOwn old request new)
      → IfOk result (IsReply state_after answer_of desk.start new.seen)
      → OnOk result (weight_of weigh new.seen ≤ desk.limit)
      → Asked (seat_of sheet desk old made) request done (seat_of sheet desk new (made + 1))
  asked_of done is entry reply within =
      let some = not_worn (Ok done) is (λ no. absurd (cc)) in
      let spent = spends old.left refl some in
      record {
        same = (refl, refl, same);
        entry = subst (λ (r : Result Done AskFault). OnOk r (SeesOwn old request new)) is entry;
        reply = subst (λ (r : Result Done AskFault). IfOk r (IsReply state_after answer_of desk.start new.seen)) is reply;
        within = subst (λ (r : Result Done AskFault). OnOk r (weight_of weigh new.seen ≤ desk.limit)) is within;
        made = refl;
        spent = spent;
        good = good;
      }

  put_none : (f : AskFault) → result ≡ Err f → (◌≡◌ {A = Result Done AskFault} (Err f) (Err fault.Worn) → ⊥) → OnErr result (SeesOthers old new)
      → PutNone (seat_of sheet desk old made) (seat_of sheet desk new made)
  put_none f is other others = record {
    same = (refl, refl, same);
    others = subst (λ (r : Result Done AskFault). OnErr r (SeesOthers old new)) is others;
    made = refl;
    spent = spends old.left refl (not_worn (Err f) is other);
    good = good;
  }

  pub missed_of : (f : AskFault) → result ≡ Err f → OnErr result (SeesOthers old new)
      → (result ≡ Err fault.Worn → new ≡ old)
      → ((n : ℕ) → result ≡ Err (fault.Full n) → n ≡ weight_of weigh new.seen)
      → ((n : ℕ) → result ≡ Err (fault.Full n) → desk.limit < n + weigh request)
      → LeavesAsked (seat_of sheet desk old made) request f (seat_of sheet desk new made)
  missed_of fault.Worn is others stays bytes full = (worn.0 is, ap (λ (p : PassView State Request). seat_of sheet desk p made) (stays is))
  missed_of (fault.Full n) is others stays bytes full = (put_none (fault.Full n) is (λ no. absurd (cc)) others, (bytes n is, full n is))
  missed_of fault.Memory is others stays bytes full = inr (inl (put_none fault.Memory is (λ no. absurd (cc)) others))

-- the step can come to what the desk answered
pub is_come_to : (sheet : Contents) (desk : DeskView State) (a b : Seat) (call : Call) (request : Request) (done : Done) → a.sheet ≡ sheet → a.desk ≡ desk → IsDeskOf sheet desk
    → place_of sheet call ≡ Ok request → Asked a request done b → IsComeTo sheet call done
is_come_to sheet desk a b call request done sheet_is desk_is d place asked =
    let start = ap (λ (x : DeskView State). x.start) desk_is in
    record {
      request = request;
      asks = place;
      comes = subst (λ (s : Contents). MayCome s request.rule done) (ap (λ (s : State). s.sheet) start ∙ d.sheet_is)
          (may_come a.desk.start b.pass.seen (a.pass.seen ++ asked.entry.0) (record { pass = a.pass.number; request = request }) done asked.entry.1
          (subst IsTyped (sym start) d.typed)
          (subst (λ (x : DeskView State). AllGood IsGoodFor x.start b.pass.seen) asked.same.1 asked.good) asked.reply);
    }

-- the same of the seat as it is called
pub err_told : {T E : Type 0} (r : Result T E) (e : E) (P : E → Type 0) → IsErr r × IsErrAnd r (λ y. y ≡ e) → P e → IfErr r P
err_told (Ok x) e P is p = tt
err_told (Err y) e P is p = subst P (sym is.1) p

module _ (now before after : Seat) (call : Call) (request : Request) (is : before ≡ now) (place : place_of now.sheet call ≡ Ok request) where
  pub told_misses : (f : AskFault) → LeavesAsked before request f after → Misses now call f after
  told_misses f leaves =
      let here : MissesPlaced now (Ok request) f after = subst (λ (s : Seat). LeavesAsked s request f after) is leaves in
      subst (λ (w : Way Request). MissesPlaced now w f after) (sym place) here

  pub told_hears : (done : Done) (outcome : Outcome) → outcome ≡ outcome_of before.sheet request.rule done → Asked before request done after
      → Hears now call outcome after
  told_hears done outcome eq asked =
      let here : HearsPlaced now (Ok request) outcome after = subst (λ (s : Seat). HearsPlaced s (Ok request) outcome after) is (done, eq, asked) in
      subst (λ (w : Way Request). HearsPlaced now w outcome after) (sym place) here

  pub told_renders : (done : Done) (rendering : Rendering) → Renders before.sheet request.rule done rendering → Asked before request done after
      → RendersPlaced now (place_of now.sheet call) rendering after
  told_renders done rendering renders asked =
      let here : RendersPlaced now (Ok request) rendering after =
      subst (λ (s : Seat). RendersPlaced s (Ok request) rendering after) is (done, asked.reply, renders) in
      subst (λ (w : Way Request). RendersPlaced now w rendering after) (sym place) here
