-- What a seat knows stays true over the steps of the others.
use Rattle.std.proofs.Common.{◌≡◌, ◌≢◌, ℕ, ◌<◌, ◌≤◌, List, ◌++◌, set, sym, ap, ◌∙◌, subst, ⊎_elim, arith}
use Rattle.std.specs.Prelude.{All, Contains}
use Rattle.std.proofs.lemmas.List.Elements.{All-append, All-weaker}
use mathlib.Core.Logic.{dite}
use mathlib.Core.Option.{some, some-injective}
use native.Mathlib.Decide.{ℕ_discrete}
use lib.ListN.{get_elem?}
use Rattle.atomic_table.proofs.Lists.{at_set, set_here, set_else}
use Rattle.turn_desk.specs.declared.objects.Entry.{Entry}
use Rattle.turn_desk.specs.declared.views.Stage.{Stage}
use Rattle.turn_desk.specs.declared.views.Stage.TheVariants.{Gone, Idle, Waits, Has, Numbered, Joined}
use Rattle.turn_desk.specs.declared.views.View.{View}
use Rattle.turn_desk.specs.Histories.{NoneOf, GoesOn}
use Rattle.turn_desk.specs.Turns.{Moment, numbers_of, Lives, Queues, Fresh, Both, KnowsAt, Knows, Signed, HasTicket, Held}
use Rattle.turn_desk.proofs.Lists.{goes_on_more, at_below}

-- from one moment to the next, nothing that concerns this seat has changed
pub record Still {R : Type 0} (now next : Moment R) (seat : ℕ) : Type 0 where
  pub more : List (Entry R)
  pub log : next.log ≡ now.log ++ more
  pub theirs : All (λ e. now.holder e.pass ≢ seat) more
  pub tickets : (t : ℕ) → now.owner t ≡ seat → now.serving ≤ t → t < now.drawn → (next.serving ≤ t) × (t < next.drawn) × (next.owner t ≡ seat)
  pub turn : now.owner now.serving ≡ seat → now.serving < now.drawn → (next.serving ≡ now.serving) × (next.log ≡ now.log)
  pub carried : (n : ℕ) → now.holder n ≡ seat → n < now.numbers → (n < next.numbers) × (next.holder n ≡ seat)

module _ {O R : Type 0} (now next : Moment R) (seat : ℕ) (v : View O R) (still : Still now next seat) where
  none_of : (numbers : List ℕ) → ((n : ℕ) → Contains numbers n → now.holder n ≡ seat) → NoneOf numbers still.more
  none_of numbers held = All-weaker (λ (e : Entry R). now.holder e.pass ≢ seat) (λ (e : Entry R). ¬ Contains numbers e.pass) (λ e other inside. other (held e.pass inside)) still.more still.theirs

  front_stays : (seen : List (Entry R)) (numbers : List ℕ) → ((n : ℕ) → Contains numbers n → now.holder n ≡ seat) → GoesOn seen numbers now.log → GoesOn seen numbers next.log
  front_stays seen numbers held g = subst (GoesOn seen numbers) (sym still.log) (goes_on_more seen numbers now.log still.more g (none_of numbers held))

  pub lives_stays : (start : O) → Lives start now seat v → Lives start next seat v
  lives_stays start k = record {
    begun = k.begun;
    carried = λ n inside. let c = k.carried n inside in still.carried n c.1 c.0;
    front = front_stays v.seen (numbers_of v) (λ n inside. (k.carried n inside).1) k.front;
  }

  queue_stays : (t : ℕ) → Queues now seat v t → Queues next seat v t
  queue_stays t k = let q = still.tickets t k.mine k.ahead k.below in record { ahead = q.0; below = q.1; mine = q.2; paid = k.paid }

  fresh_stays : (n : ℕ) → Fresh now seat v n → Fresh next seat v n
  fresh_stays n k = let c = still.carried n k.mine k.below in record {
    below = c.0;
    mine = c.1;
    other = k.other;
    unused = subst (λ l. All (λ e. e.pass ≢ n) l) (sym still.log)
        (All-append (λ (e : Entry R). e.pass ≢ n) now.log still.more k.unused
        (All-weaker (λ (e : Entry R). now.holder e.pass ≢ seat) (λ (e : Entry R). e.pass ≢ n) (λ e other is. other (ap now.holder is ∙ k.mine)) still.more still.theirs));
  }

  both_stays : (start : O) (one other : List (Entry R)) (numbers others : List ℕ) → Lives start now seat v → Both now v one other numbers others → Both next v one other numbers others
  both_stays start one other numbers others l k = record {
    within = k.within;
    within_too = k.within_too;
    longest = k.longest;
    first = front_stays one numbers (λ n inside. (l.carried n (k.within n inside)).1) k.first;
    second = front_stays other others (λ n inside. (l.carried n (k.within_too n inside)).1) k.second;
    apart = k.apart;
  }

  knows_stays : (start : O) (stage : Stage R) → KnowsAt start now seat v stage → KnowsAt start next seat v stage
  knows_stays start Gone k = k
  knows_stays start Idle k = lives_stays start k
  knows_stays start (Waits t) k = (lives_stays start k.0, queue_stays t k.1)
  knows_stays start (Has t log) k =
      let q = k.1 in let t_is = k.2 in
      let low : now.serving < now.drawn = let below = q.below in omega arith in
      let same = still.turn (ap now.owner (sym t_is) ∙ q.mine) low in
      (lives_stays start k.0, queue_stays t q, t_is ∙ sym same.0, k.3 ∙ sym same.1)
  knows_stays start (Numbered n) k = (lives_stays start k.0, fresh_stays n k.1)
  knows_stays start (Joined one other numbers others) k = (lives_stays start k.0, both_stays start one other numbers others k.0 k.1)

  pub others_know : (start : O) → Knows start now seat v → Knows start next seat v
  others_know start = knows_stays start v.stage

module _ {O R : Type 0} where
  -- after a change of one view, each seat knows what it should
  pub all_know : (start : O) (now next : Moment R) (views : List (View O R)) (id : ℕ) (w : View O R)
      → ((seat : ℕ) (v : View O R) → get_elem? views seat ≡ some v → Knows start now seat v) → Knows start next id w → ((seat : ℕ) → seat ≢ id → Still now next seat)
      → (seat : ℕ) (v : View O R) → get_elem? (set views id w) seat ≡ some v → Knows start next seat v
  all_know start now next views id w each mine still seat v at =
      ⊎_elim (λ (t : (seat ≡ id) × (w ≡ v)). subst (λ (z : ℕ × View O R). Knows start next z.0 z.1) (λ i. (sym t.0 i, t.1 i)) mine)
      (λ (t : (seat ≢ id) × (get_elem? views seat ≡ some v)). others_know now next seat v (still seat t.0) start (each seat v t.1)) (at_set views id seat w v at)

  -- a signature stays where the view that changed keeps its numbers and what it has spent
  pub signed_stays : (views : List (View O R)) (id : ℕ) (v w : View O R) → get_elem? views id ≡ some v → ((n : ℕ) → Contains (numbers_of v) n → Contains (numbers_of w) n) → v.spent ≤ w.spent
      → (seat n : ℕ) → Signed views seat n → Signed (set views id w) seat n
  signed_stays views id v w at keeps spends seat n s =
      dite (ℕ_discrete seat id)
      (λ same.
      let is : s.0 ≡ v = some-injective s.0 v (sym s.1 ∙ (ap (get_elem? views) same ∙ at)) in
      let paid = ap (λ (z : View O R). z.spent) is in
      let before = s.3 in (
        w,
        ap (get_elem? (set views id w)) same ∙ set_here views id w (at_below views id v at),
        keeps n (subst (λ (z : View O R). Contains (numbers_of z) n) is s.2),
        omega arith,
      ))
      (λ other. (s.0, set_else views id seat w other ∙ s.1, s.2, s.3))

  -- a ticket stays in hand where the view that changed keeps it
  pub held_stays : (views : List (View O R)) (id : ℕ) (v w : View O R) → get_elem? views id ≡ some v → (seat t : ℕ) → (HasTicket v.stage t → HasTicket w.stage t) → Held views seat t → Held (set views id w) seat t
  held_stays views id v w at seat t keeps h =
      dite (ℕ_discrete seat id)
      (λ same.
      let is : h.0 ≡ v = some-injective h.0 v (sym h.1 ∙ (ap (get_elem? views) same ∙ at)) in
      (w, ap (get_elem? (set views id w)) same ∙ set_here views id w (at_below views id v at), keeps (subst (λ (z : View O R). HasTicket z.stage t) is h.2)))
      (λ other. (h.0, set_else views id seat w other ∙ h.1, h.2))
