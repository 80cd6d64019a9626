-- Drawing a ticket, looking, passing on and drawing a number keep the rule.
use Rattle.std.proofs.Common.{◌≡◌, ◌≢◌, ◌⊎◌, ℕ, ◌+◌, ◌-◌, ◌%◌, ◌^◌, ◌<◌, ◌≤◌, List, [], ◌∷◌, ◌++◌, get_or, set, sym, refl, ap, ◌∙◌, subst, inl, inr, ⊎_elim, arith, append-nil, Option, Some}
use Rattle.std.specs.Prelude.{All, Contains}
use Rattle.std.proofs.lemmas.List.Elements.{All-nil, All-append, All-weaker}
use mathlib.Core.Logic.{dite}
use mathlib.Core.Option.{none, some, some-injective}
use mathlib.Core.Option as maybe
use native.Mathlib.Decide.{ℕ_discrete}
use lib.ListN.{get_elem?}
use Rattle.atomic_table.specs.Table.{State, step, Act, keeps, takes, gives, Valid, homes_after, carried_after, Allows}
use Rattle.atomic_table.proofs.Lists.{set_here, set_else}
use Rattle.turn_desk.specs.declared.objects.Entry.{Entry}
use Rattle.turn_desk.specs.declared.views.Book.{Book}
use Rattle.turn_desk.specs.declared.views.Stage.{Stage}
use Rattle.turn_desk.specs.declared.views.Stage.TheVariants.{Gone, Idle, Waits, Has, Numbered, Joined}
use Rattle.turn_desk.specs.declared.views.View.{View}
use Rattle.turn_desk.specs.Histories.{AllGood, GoesOn}
use Rattle.turn_desk.specs.Turns.{Moment, Lives, Queues, Sat, total, asks_of, numbers_of, spent_of, InTurn, HasTicket, ticket_in, history_in, entries_in, SettledAt, KnowsAt, Signed, Held, BookOf, Holds, back_from, KnowsGood, drew, Taken, looked, Adds, history_with, passed, numbered, settled, recalled}
use Rattle.turn_desk.proofs.Lists.{put, put_here, put_else, total_set, total_one, total_less, at_below, all_left, goes_on_same, united}
use Rattle.turn_desk.proofs.Moments.{Still, all_know, signed_stays, held_stays}

module _ {R : Type 0} where
  pub nothing_new : (now : Moment R) (seat : ℕ) → Still now now seat
  nothing_new now seat = record {
    more = [];
    log = sym (append-nil now.log);
    theirs = All-nil (λ (e : Entry R). now.holder e.pass ≢ seat);
    tickets = λ t m a b. (a, b, m);
    turn = λ _ _. (refl, refl);
    carried = λ n h b. (b, h);
  }

  drawn_by : (now : Moment R) (id seat : ℕ) → seat ≢ id → Still now (record now { drawn = now.drawn + 1; owner = put now.owner now.drawn id }) seat
  drawn_by now id seat other = record {
    more = [];
    log = sym (append-nil now.log);
    theirs = All-nil (λ (e : Entry R). now.holder e.pass ≢ seat);
    tickets = λ t m a b. (a, omega arith, put_else now.owner now.drawn id t (λ e. omega arith) ∙ m);
    turn = λ _ _. (refl, refl);
    carried = λ n h b. (b, h);
  }

  numbered_by : (now : Moment R) (id seat : ℕ) → seat ≢ id → Still now (record now { numbers = now.numbers + 1; holder = put now.holder now.numbers id }) seat
  numbered_by now id seat other = record {
    more = [];
    log = sym (append-nil now.log);
    theirs = All-nil (λ (e : Entry R). now.holder e.pass ≢ seat);
    tickets = λ t m a b. (a, b, m);
    turn = λ _ _. (refl, refl);
    carried = λ n h b. (omega arith, put_else now.holder now.numbers id n (λ e. omega arith) ∙ h);
  }

  pub passed_by : (now : Moment R) (id seat n : ℕ) (more : List (Entry R)) → seat ≢ id → now.owner now.serving ≡ id → now.holder n ≡ id → All (λ e. e.pass ≡ n) more
      → Still now (record now { log = now.log ++ more; serving = now.serving + 1 }) seat
  passed_by now id seat n more other turn held mine = record {
    more = more;
    log = refl;
    theirs = All-weaker (λ (e : Entry R). e.pass ≡ n) (λ (e : Entry R). now.holder e.pass ≢ seat) (λ e is h. other (sym h ∙ (ap now.holder is ∙ held))) more mine;
    tickets = λ t m a b.
        let later : t ≢ now.serving = λ e. other (sym m ∙ (ap now.owner e ∙ turn)) in
        (omega arith, b, m);
    turn = λ m _. absurd (other (sym m ∙ turn));
    carried = λ n h b. (b, h);
  }

module _ {O L R : Type 0} (good : O → R → Type 0) (after : O → R → O) (weigh : R → ℕ) (stands : L → List (Entry R) → Type 0) (start : O) where
  abbrev pub Rule : State (Option (Book O L R)) (View O R) → Type 0
  Rule = Holds good after weigh stands start

  abbrev pub Homes : Type 0
  Homes = List (maybe.Option (Option (Book O L R)))

  -- the book of this history is home
  abbrev pub Home : Homes → List (Entry R) → Type 0
  Home homes log = (b : Book O L R) × (get_elem? homes 0 ≡ some (some (Some b))) × BookOf after weigh stands start log b

  -- where the book is
  abbrev pub Place : Homes → List (View O R) → Moment R → Type 0
  Place homes views now = Home homes now.log ⊎ ((v : View O R) × (get_elem? views (now.owner now.serving) ≡ some v) × InTurn v.stage)

  turn_low : (now : Moment R) (seat : ℕ) (v : View O R) (stage : Stage R) → InTurn stage → KnowsAt start now seat v stage → now.serving < now.drawn
  turn_low now seat v Gone t k = absurd t
  turn_low now seat v Idle t k = absurd t
  turn_low now seat v (Waits _) t k = absurd t
  turn_low now seat v (Has n b) t k = let below = k.1.below in let is = k.2 in omega arith
  turn_low now seat v (Numbered _) t k = absurd t
  turn_low now seat v (Joined _ _ _ _) t k = absurd t

  -- the seat that changes is not in turn, and what is served stays
  pub place_stays : (s : State (Option (Book O L R)) (View O R)) (k : Rule s) (next : Moment R) (id : ℕ) (v w : View O R) → get_elem? s.views id ≡ some v → ¬ InTurn v.stage
      → next.log ≡ k.now.log → next.serving ≡ k.now.serving → (k.now.serving < k.now.drawn → next.owner k.now.serving ≡ k.now.owner k.now.serving)
      → Place s.homes (set s.views id w) next
  place_stays s k next id v w at idle log serving owner =
      let now = k.now in
      ⊎_elim (λ (home : Home s.homes now.log). inl (subst (Home s.homes) (sym log) home))
      (λ (away : (u : View O R) × (get_elem? s.views (now.owner now.serving) ≡ some u) × InTurn u.stage).
      let low = turn_low now (now.owner now.serving) away.0 away.0.stage away.2 (k.each (now.owner now.serving) away.0 away.1) in
      let same : next.owner next.serving ≡ now.owner now.serving = ap next.owner serving ∙ owner low in
      let other : now.owner now.serving ≢ id = λ e. idle (subst (λ (z : View O R). InTurn z.stage) (some-injective away.0 v (sym away.1 ∙ (ap (get_elem? s.views) e ∙ at))) away.2) in
      inr (away.0, ap (get_elem? (set s.views id w)) same ∙ (set_else s.views id (now.owner now.serving) w other ∙ away.1), away.2))
      k.place

  pub signed_all : (s : State (Option (Book O L R)) (View O R)) (k : Rule s) (id : ℕ) (v w : View O R) → get_elem? s.views id ≡ some v → ((n : ℕ) → Contains (numbers_of v) n → Contains (numbers_of w) n) → v.spent ≤ w.spent
      → All (λ e. Signed (set s.views id w) (k.now.holder e.pass) e.pass) k.now.log
  signed_all s k id v w at stays spends = let now = k.now in
      All-weaker (λ (e : Entry R). Signed s.views (now.holder e.pass) e.pass) (λ (e : Entry R). Signed (set s.views id w) (now.holder e.pass) e.pass)
      (λ e. signed_stays s.views id v w at stays spends (now.holder e.pass) e.pass) now.log k.signed

  pub spent_below : (s : State (Option (Book O L R)) (View O R)) → Rule s → total spent_of s.views ≤ 2 ^ 62
  spent_below s k = let l = total_less spent_of asks_of s.views (λ v. omega arith) in let a = k.asks in omega arith

  -- the seat that changes has no ticket in hand
  pub held_all : (s : State (Option (Book O L R)) (View O R)) (k : Rule s) (id : ℕ) (v w : View O R) → get_elem? s.views id ≡ some v → ((t : ℕ) → ¬ HasTicket v.stage t)
      → (t : ℕ) → k.now.serving ≤ t → t < k.now.drawn → Held (set s.views id w) (k.now.owner t) t
  held_all s k id v w at empty t a b = held_stays s.views id v w at (k.now.owner t) t (λ h. absurd (empty t h)) (k.held t a b)

  -- the seat changes nothing
  held_same : (s : State (Option (Book O L R)) (View O R)) (k : Rule s) (id : ℕ) (v : View O R) → get_elem? s.views id ≡ some v
      → (t : ℕ) → k.now.serving ≤ t → t < k.now.drawn → Held (set s.views id v) (k.now.owner t) t
  held_same s k id v at t a b = held_stays s.views id v v at (k.now.owner t) t (λ h. h) (k.held t a b)

  pub idle_has_none : (stage : Stage R) → stage ≡ Idle → (t : ℕ) → ¬ HasTicket stage t
  idle_has_none stage is t h = subst (λ z. HasTicket z t) is h

  -- what a pass has seen is good
  pub good_seen : (s : State (Option (Book O L R)) (View O R)) (k : Rule s) (id : ℕ) (v : View O R) → Lives start k.now id v → KnowsGood good v
  good_seen s k id v known start' is =
      let same : start ≡ start' = (let e : Some start ≡ Some start' = sym known.begun ∙ is in cc) in
      let all : AllGood good start v.seen = all_left (λ (e : Entry R). good start e.request) v.seen known.front.0 (subst (AllGood good start) known.front.1 k.good_all) in
      subst (λ z. AllGood good z v.seen) same all

  not_waiting : (n : ℕ) (stage : Stage R) → stage ≡ Waits n → ¬ InTurn stage
  not_waiting n stage is t = subst InTurn is t

  pub not_idle : (stage : Stage R) → stage ≡ Idle → ¬ InTurn stage
  not_idle stage is t = subst InTurn is t

  pub draws : (slots id : ℕ) (me : Sat O L R) → me.0.stage ≡ Idle → 0 < me.0.left → Allows Rule slots id me 0 (λ n. (n + 1) % 2 ^ 64) (drew (step slots 0 1 0 none) me)
  draws slots id me idle some_left s k deep at fits =
      let now = k.now in
      let v : View O R = me.0 in
      let w : View O R = record v { stage = Waits now.drawn; left = v.left - 1; spent = v.spent + 1 } in
      let next : Moment R = record now { drawn = now.drawn + 1; owner = put now.owner now.drawn id } in
      let known : Lives start now id v = subst (KnowsAt start now id v) idle (k.each id v at) in
      let asks = total_set asks_of s.views id v w at in
      let spent = total_set spent_of s.views id v w at in
      let a = k.asks in
      let r = k.room in
      let low = k.behind in
      let below = spent_below s k in
      let small : (now.drawn + 1) % 18446744073709551616 ≡ now.drawn + 1 = omega arith in
      let rule : Rule record { words = (now.drawn + 1) % 18446744073709551616 ∷ now.serving ∷ now.numbers ∷ []; homes = s.homes; views = set s.views id w } = record {
        now = next;
        words = ap (λ n. n ∷ now.serving ∷ now.numbers ∷ []) small;
        good_all = k.good_all;
        named = k.named;
        signed = signed_all s k id v w at (λ n c. c) (omega arith);
        asks = omega arith;
        room = omega arith;
        behind = omega arith;
        held = λ t a b. dite (ℕ_discrete t now.drawn)
            (λ is. subst (λ (u : ℕ). Held (set s.views id w) (put now.owner now.drawn id u) u) (sym is)
            (w, ap (get_elem? (set s.views id w)) (put_here now.owner now.drawn id) ∙ set_here s.views id w (at_below s.views id v at), refl))
            (λ not. subst (λ (seat : ℕ). Held (set s.views id w) seat t) (sym (put_else now.owner now.drawn id t not)) (held_all s k id v w at (idle_has_none v.stage idle) t a (omega arith)));
        place = place_stays s k next id v w at (not_idle v.stage idle) refl refl (λ l. put_else now.owner now.drawn id now.serving (λ e. omega arith));
        each = all_know start now next s.views id w k.each
            (record { begun = known.begun; carried = known.carried; front = known.front }, record { ahead = low; below = omega arith; mine = put_here now.owner now.drawn id; paid = omega arith })
            (λ seat other. drawn_by now id seat other);
      } in
      let P : List ℕ → Type 0 = λ ws. (w' : View O R) × (act : Act (Option (Book O L R))) × Valid s.homes me.1 act
      × Rule record { words = set ws 0 ((get_or ws 0 0 + 1) % 18446744073709551616); homes = homes_after s.homes me.1 act; views = set s.views id w' }
      × drew (step slots 0 1 0 none) me (get_or ws 0 0) (w', carried_after me.1 act) in
      subst P (sym k.words) (w, keeps, tt, rule, (refl, refl))

  taken_from : (now : Moment R) (id : ℕ) (v : View O R) (b : Book O L R) (start' : O) → Lives start now id v → AllGood good start now.log → BookOf after weigh stands start now.log b → v.start ≡ Some start'
      → Taken good after weigh stands start' v b now.log
  taken_from now id v b start' known all book is =
      let same : start ≡ start' = (let e : Some start ≡ Some start' = sym known.begun ∙ is in cc) in
      subst (λ z. Taken good after weigh stands z v b now.log) same record { front = known.front; good_all = all; book = book }

  pub looks : (slots id t : ℕ) (me : Sat O L R) → me.0.stage ≡ Waits t → me.1 ≡ [] → Allows Rule slots id me 1 (λ n. n) (looked good after weigh stands (step slots 1 0 0 none) me)
  looks slots id t me waits bare s k deep at fits =
      let now = k.now in
      let v : View O R = me.0 in
      let known : Lives start now id v × Queues now id v t = subst (KnowsAt start now id v) waits (k.each id v at) in
      let ticket : ticket_in v.stage ≡ t = ap ticket_in waits in
      let P : List ℕ → Type 0 = λ ws. (w' : View O R) × (act : Act (Option (Book O L R))) × Valid s.homes me.1 act
      × Rule record { words = set ws 1 (get_or ws 1 0); homes = homes_after s.homes me.1 act; views = set s.views id w' }
      × looked good after weigh stands (step slots 1 0 0 none) me (get_or ws 1 0) (w', carried_after me.1 act) in
      let words : List ℕ = now.drawn ∷ now.serving ∷ now.numbers ∷ [] in
      let miss : now.serving ≢ t → P words = λ not. (
        v,
        keeps,
        tt,
        record {
          now = now;
          words = refl;
          good_all = k.good_all;
          named = k.named;
          signed = signed_all s k id v v at (λ n c. c) (omega arith);
          asks = (let e = total_set asks_of s.views id v v at in let a = k.asks in omega arith);
          room = (let e = total_set spent_of s.views id v v at in let r = k.room in omega arith);
          behind = k.behind;
          held = held_same s k id v at;
          place = place_stays s k now id v v at (not_waiting t v.stage waits) refl refl (λ _. refl);
          each = all_know start now now s.views id v k.each (k.each id v at) (λ seat other. nothing_new now seat);
        },
        λ start' is. ((λ hit. absurd (not (hit ∙ ticket))), λ _. refl),
      ) in
      let hit : now.serving ≡ t → Home s.homes now.log → P words = λ here home.
      let b : Book O L R = home.0 in
      let w : View O R = record v { stage = Has now.serving now.log } in (
        w,
        takes 0 (Some b),
        home.1,
        record {
          now = now;
          words = refl;
          good_all = k.good_all;
          named = k.named;
          signed = signed_all s k id v w at (λ n c. c) (omega arith);
          asks = (let e = total_set asks_of s.views id v w at in let a = k.asks in omega arith);
          room = (let e = total_set spent_of s.views id v w at in let r = k.room in omega arith);
          behind = k.behind;
          held = λ u a below. held_stays s.views id v w at (now.owner u) u (λ h. here ∙ subst (λ z. HasTicket z u) waits h) (k.held u a below);
          place = inr (w, ap (get_elem? (set s.views id w)) (ap now.owner here ∙ known.1.mine) ∙ set_here s.views id w (at_below s.views id v at), tt);
          each = all_know start now now s.views id w k.each (
            record { begun = known.0.begun; carried = known.0.carried; front = known.0.front },
            subst (Queues now id w) (sym here) record { ahead = known.1.ahead; below = known.1.below; mine = known.1.mine; paid = known.1.paid },
            refl,
            refl,
          )
              (λ seat other. nothing_new now seat);
        },
        λ start' is.
            ((λ _. (b, now.log, refl, ap (λ (l : List (ℕ × Option (Book O L R))). (0, Some b) ∷ l) bare, taken_from now id v b start' known.0 k.good_all home.2 is)), λ not. absurd (not (here ∙ sym ticket))),
      ) in
      let away : now.serving ≡ t → (u : View O R) × (get_elem? s.views (now.owner now.serving) ≡ some u) × InTurn u.stage → P words = λ here u.
      let is : u.0 ≡ v = some-injective u.0 v (sym u.1 ∙ (ap (get_elem? s.views) (ap now.owner here ∙ known.1.mine) ∙ at)) in
      absurd (not_waiting t v.stage waits (subst (λ (z : View O R). InTurn z.stage) is u.2)) in
      subst P (sym k.words) (dite (ℕ_discrete now.serving t) (λ here. ⊎_elim (hit here) (away here) k.place) miss)

  abbrev book_in : Book O L R → List (ℕ × Option (Book O L R)) → Book O L R
  book_in d ((n, Some c) ∷ xs) = c
  book_in d xs = d

  abbrev held : Book O L R → List (ℕ × Option (Book O L R))
  held c = (0, Some c) ∷ []

  one_book : (c d : Book O L R) → held c ≡ held d → c ≡ d
  one_book c d is = ap (book_in c) is

  pub passes_at : (slots id t : ℕ) (v : View O R) (log : List (Entry R)) (c : Book O L R) → 0 < slots → v.stage ≡ Has t log → Adds good after weigh stands start v.number log c
      → Allows Rule slots id (v, (0, Some c) ∷ []) 1 (λ n. (n + 1) % 2 ^ 64) (passed (step slots 1 1 0 none) (v, (0, Some c) ∷ []))
  passes_at slots id t v log c some_slot has adds s k deep at fits =
      let now = k.now in
      let w : View O R = back_from (history_with v c) v in
      let known : Lives start now id v × Queues now id v t × (t ≡ now.serving) × (log ≡ now.log) = subst (KnowsAt start now id v) has (k.each id v at) in
      let l = known.0 in
      let q = known.1 in
      let more : List (Entry R) = entries_in c.added in
      let turn : now.owner now.serving ≡ id = ap now.owner (sym known.2) ∙ q.mine in
      let own : Contains (numbers_of v) v.number = (0, omega arith, refl) in
      let held = l.carried v.number own in
      let next : Moment R = record now { log = now.log ++ more; serving = now.serving + 1 } in
      let seen : history_with v c ≡ now.log ++ more = ap (λ z. history_in z ++ more) has ∙ ap (λ z. z ++ more) known.3 in
      let book : BookOf after weigh stands start (now.log ++ more) c = subst (λ z. BookOf after weigh stands start (z ++ more) c) known.3 adds.book in
      let asks = total_set asks_of s.views id v w at in
      let spent = total_set spent_of s.views id v w at in
      let a = k.asks in
      let r = k.room in
      let low = k.behind in
      let waiting = q.below in
      let same = known.2 in
      let below = spent_below s k in
      let small : (now.serving + 1) % 18446744073709551616 ≡ now.serving + 1 = omega arith in
      let sign : Signed (set s.views id w) (now.holder v.number) v.number = (
        w,
        ap (get_elem? (set s.views id w)) held.1 ∙ set_here s.views id w (at_below s.views id v at),
        own,
        q.paid,
      ) in
      let P : List ℕ → Type 0 = λ ws. (w' : View O R) × (act : Act (Option (Book O L R))) × Valid s.homes ((0, Some c) ∷ []) act
      × Rule record { words = set ws 1 ((get_or ws 1 0 + 1) % 18446744073709551616); homes = homes_after s.homes ((0, Some c) ∷ []) act; views = set s.views id w' }
      × passed (step slots 1 1 0 none) (v, (0, Some c) ∷ []) (get_or ws 1 0) (w', carried_after ((0, Some c) ∷ []) act) in
      subst P (sym k.words) (
        w,
        gives,
        tt,
        record {
          now = next;
          words = ap (λ n. now.drawn ∷ n ∷ now.numbers ∷ []) small;
          good_all = All-append (λ (e : Entry R). good start e.request) now.log more k.good_all adds.good_more;
          named = All-append (λ (e : Entry R). e.pass < now.numbers) now.log more k.named
              (All-weaker (λ (e : Entry R). e.pass ≡ v.number) (λ (e : Entry R). e.pass < now.numbers) (λ e is. let h = held.0 in omega arith) more adds.mine);
          signed = All-append (λ (e : Entry R). Signed (set s.views id w) (now.holder e.pass) e.pass) now.log more (signed_all s k id v w at (λ n x. x) (omega arith))
              (All-weaker (λ (e : Entry R). e.pass ≡ v.number) (λ (e : Entry R). Signed (set s.views id w) (now.holder e.pass) e.pass)
              (λ e is. subst (λ n. Signed (set s.views id w) (now.holder n) n) (sym is) sign) more adds.mine);
          asks = omega arith;
          room = omega arith;
          behind = omega arith;
          held = λ u later below'. held_stays s.views id v w at (now.owner u) u (λ h. let mine : t ≡ u = subst (λ z. HasTicket z u) has h in absurd (omega arith)) (k.held u (omega arith) below');
          place = inl (c, set_here s.homes 0 (some (Some c)) (omega arith), book);
          each = all_know start now next s.views id w k.each
              record { begun = l.begun; carried = l.carried; front = subst (λ z. GoesOn z (numbers_of v) (now.log ++ more)) (sym seen) (goes_on_same (now.log ++ more) (numbers_of v)) }
              (λ seat other. passed_by now id seat v.number more other turn held.1 adds.mine);
        },
        λ d is. (refl, (let same : c ≡ d = one_book c d is in ap (λ (z : Book O L R). back_from (history_with v z) v) same)),
      )

  pub passes : (slots id t : ℕ) (me : Sat O L R) (log : List (Entry R)) (c : Book O L R) → 0 < slots → me.0.stage ≡ Has t log → me.1 ≡ (0, Some c) ∷ [] → Adds good after weigh stands start me.0.number log c
      → Allows Rule slots id me 1 (λ n. (n + 1) % 2 ^ 64) (passed (step slots 1 1 0 none) me)
  passes slots id t me log c some_slot has carried adds =
      subst (λ l. Allows Rule slots id (me.0, l) 1 (λ n. (n + 1) % 2 ^ 64) (passed (step slots 1 1 0 none) (me.0, l))) (sym carried) (passes_at slots id t me.0 log c some_slot has adds)

  pub numbers : (slots id : ℕ) (me : Sat O L R) → me.0.stage ≡ Idle → 0 < me.0.left → Allows Rule slots id me 2 (λ n. (n + 1) % 2 ^ 64) (numbered good (step slots 2 1 0 none) me)
  numbers slots id me idle some_left s k deep at fits =
      let now = k.now in
      let n : ℕ = now.numbers in
      let v : View O R = me.0 in
      let w : View O R = record v { stage = Numbered n; left = v.left - 1; spent = v.spent + 1 } in
      let next : Moment R = record now { numbers = n + 1; holder = put now.holder n id } in
      let known : Lives start now id v = subst (KnowsAt start now id v) idle (k.each id v at) in
      let asks = total_set asks_of s.views id v w at in
      let spent = total_set spent_of s.views id v w at in
      let a = k.asks in
      let r = k.room in
      let low = k.behind in
      let fresh : ¬ Contains (numbers_of v) n = λ inside. (let c = known.carried n inside in let l = c.0 in absurd (omega arith)) in
      let whole = total_less spent_of asks_of (set s.views id w) (λ u. omega arith) in
      let small : (n + 1) % 18446744073709551616 ≡ n + 1 = omega arith in
      let signed = signed_all s k id v w at (λ m c. c) (omega arith) in
      let P : List ℕ → Type 0 = λ ws. (w' : View O R) × (act : Act (Option (Book O L R))) × Valid s.homes me.1 act
      × Rule record { words = set ws 2 ((get_or ws 2 0 + 1) % 18446744073709551616); homes = homes_after s.homes me.1 act; views = set s.views id w' }
      × numbered good (step slots 2 1 0 none) me (get_or ws 2 0) (w', carried_after me.1 act) in
      subst P (sym k.words) (
        w,
        keeps,
        tt,
        record {
          now = next;
          words = ap (λ m. now.drawn ∷ now.serving ∷ m ∷ []) small;
          good_all = k.good_all;
          named = All-weaker (λ (e : Entry R). e.pass < n) (λ (e : Entry R). e.pass < n + 1) (λ e l. omega arith) now.log k.named;
          signed = λ i d l.
              let e : Entry R = get_or now.log i d in
              let apart : e.pass < n = k.named i d l in
              subst (λ (seat : ℕ). Signed (set s.views id w) seat e.pass) (sym (put_else now.holder n id e.pass (λ is. omega arith))) (signed i d l);
          asks = omega arith;
          room = omega arith;
          behind = k.behind;
          held = held_all s k id v w at (idle_has_none v.stage idle);
          place = place_stays s k next id v w at (not_idle v.stage idle) refl refl (λ _. refl);
          each = all_know start now next s.views id w k.each (
            record {
              begun = known.begun;
              carried = λ m inside. let c = known.carried m inside in let l = c.0 in (omega arith, put_else now.holder n id m (λ e. omega arith) ∙ c.1);
              front = known.front;
            },
            record {
              below = omega arith;
              mine = put_here now.holder n id;
              other = fresh;
              unused = All-weaker (λ (e : Entry R). e.pass < n) (λ (e : Entry R). e.pass ≢ n) (λ e l is. omega arith) now.log k.named;
            },
          )
              (λ seat other. numbered_by now id seat other);
        },
        (refl, refl, omega arith, fresh, all_left (λ (e : Entry R). e.pass ≢ n) v.seen known.front.0 (subst (λ z. All (λ e. e.pass ≢ n) z) known.front.1 (All-weaker (λ (e : Entry R). e.pass < n) (λ (e : Entry R). e.pass ≢ n) (λ e l is. omega arith) now.log k.named)), good_seen s k id v known),
      )

  settled_here : (now : Moment R) (id : ℕ) (v : View O R) (stage : Stage R) → KnowsAt start now id v stage → SettledAt stage
  settled_here now id v Gone k = tt
  settled_here now id v Idle k = tt
  settled_here now id v (Waits _) k = tt
  settled_here now id v (Has _ _) k = tt
  settled_here now id v (Numbered _) k = tt
  settled_here now id v (Joined one other p q) k = let u = united one other p q now.log k.1.first k.1.second in record { first = u.0; second = u.1; apart = k.1.apart }

  pub settles : (slots id : ℕ) (me : Sat O L R) (one other : List (Entry R)) (p q : List ℕ) → me.0.stage ≡ Joined one other p q → Allows Rule slots id me 0 (λ n. n) (settled good (step slots 0 0 0 none) me)
  settles slots id me one other p q both s k deep at fits =
      let now = k.now in
      let v : View O R = me.0 in
      let w : View O R = record v { stage = Idle } in
      let known = subst (KnowsAt start now id v) both (k.each id v at) in
      let l : Lives start now id v = known.0 in
      let P : List ℕ → Type 0 = λ ws. (w' : View O R) × (act : Act (Option (Book O L R))) × Valid s.homes me.1 act
      × Rule record { words = set ws 0 (get_or ws 0 0); homes = homes_after s.homes me.1 act; views = set s.views id w' }
      × settled good (step slots 0 0 0 none) me (get_or ws 0 0) (w', carried_after me.1 act) in
      subst P (sym k.words) (
        w,
        keeps,
        tt,
        record {
          now = now;
          words = refl;
          good_all = k.good_all;
          named = k.named;
          signed = signed_all s k id v w at (λ n c. c) (omega arith);
          asks = (let e = total_set asks_of s.views id v w at in let a = k.asks in omega arith);
          room = (let e = total_set spent_of s.views id v w at in let r = k.room in omega arith);
          behind = k.behind;
          held = held_all s k id v w at (λ t h. subst (λ z. HasTicket z t) both h);
          place = place_stays s k now id v w at (λ t. subst InTurn both t) refl refl (λ _. refl);
          each = all_know start now now s.views id w k.each record { begun = l.begun; carried = l.carried; front = l.front } (λ seat other'. nothing_new now seat);
        },
        (refl, refl, settled_here now id v v.stage (k.each id v at), (let t = total_one asks_of s.views id v at in let a = k.asks in omega arith), good_seen s k id v l),
      )

  pub recalls : (slots id : ℕ) (me : Sat O L R) → me.0.stage ≡ Idle → Allows Rule slots id me 1 (λ n. n) (recalled good (step slots 1 0 0 none) me)
  recalls slots id me idle s k deep at fits =
      let now = k.now in
      let v : View O R = me.0 in
      let known : Lives start now id v = subst (KnowsAt start now id v) idle (k.each id v at) in
      let P : List ℕ → Type 0 = λ ws. (w' : View O R) × (act : Act (Option (Book O L R))) × Valid s.homes me.1 act
      × Rule record { words = set ws 1 (get_or ws 1 0); homes = homes_after s.homes me.1 act; views = set s.views id w' }
      × recalled good (step slots 1 0 0 none) me (get_or ws 1 0) (w', carried_after me.1 act) in
      subst P (sym k.words) (
        v,
        keeps,
        tt,
        record {
          now = now;
          words = refl;
          good_all = k.good_all;
          named = k.named;
          signed = signed_all s k id v v at (λ n c. c) (omega arith);
          asks = (let e = total_set asks_of s.views id v v at in let a = k.asks in omega arith);
          room = (let e = total_set spent_of s.views id v v at in let r = k.room in omega arith);
          behind = k.behind;
          held = held_same s k id v at;
          place = place_stays s k now id v v at (not_idle v.stage idle) refl refl (λ _. refl);
          each = all_know start now now s.views id v k.each (k.each id v at) (λ seat other. nothing_new now seat);
        },
        (refl, good_seen s k id v known),
      )
