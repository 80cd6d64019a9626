-- The start, a split and a join keep the rule, and what the end shows.
use Rattle.std.proofs.Common.{◌≡◌, ◌≢◌, ◌⊎◌, ℕ, ◌+◌, ◌-◌, ◌^◌, ◌<◌, ◌≤◌, List, [], ◌∷◌, ◌++◌, length, get_or, set, sym, refl, ap, ◌∙◌, subst, inl, inr, ⊎_elim, arith, append-nil, Option, Some, None}
use Rattle.std.specs.Prelude.{All, Contains}
use Rattle.std.proofs.lemmas.List.Elements.{All-nil, All-weaker, Contains-append_left, Contains-append_right, Contains-append_cases}
use mathlib.Core.Logic.{dite}
use mathlib.Core.Option.{some, some-injective, some-ne-none}
use native.Mathlib.Decide.{ℕ_discrete}
use lib.ListN.{get_elem?}
use Rattle.atomic_table.specs.Table.{opening, Splits, Joins, Final, Seen}
use Rattle.atomic_table.proofs.Lists.{at_set, set_here, set_else, at_longer}
use Rattle.turn_desk.specs.declared.objects.Entry.{Entry}
use Rattle.turn_desk.specs.declared.views.Book.{Book}
use Rattle.turn_desk.specs.declared.views.Stage.{Stage}
use Rattle.turn_desk.specs.declared.views.Stage.TheVariants.{Gone, Idle, Waits, Has, Numbered, Joined}
use Rattle.turn_desk.specs.declared.views.View.{View}
use Rattle.turn_desk.specs.Histories.{AllGood, NoneOf}
use Rattle.turn_desk.specs.Turns.{Moment, Lives, Fresh, Both, asks_of, numbers_of, spent_of, InTurn, HasTicket, KnowsAt, Knows, Signed, BookOf, first_view, number_in, split_kept, split_given, joined, gone}
use Rattle.turn_desk.proofs.Lists.{put, put_here, put_else, moved, moved_there, moved_else, total_set, total_snoc, total_two, at_end, at_below, all_right, goes_on_same, middle, united}
use Rattle.turn_desk.proofs.Moments.{Still, others_know, all_know, signed_stays, held_stays}
use Rattle.turn_desk.proofs.Steps.{Rule, Home, place_stays, signed_all, held_all, idle_has_none, not_idle}

contains_one : (n m : ℕ) → Contains (n ∷ []) m → n ≡ m
contains_one n m c = ⊎_elim (λ (i : c.0 ≡ 0). sym (ap (λ k. get_or (n ∷ []) k m) i) ∙ c.2) (λ (i : 0 < c.0). (let l = c.1 in absurd (omega arith))) (zero_or c.0)
  where
    zero_or : (k : ℕ) → (k ≡ 0) ⊎ (0 < k)
    zero_or k = dite (ℕ_discrete k 0) (λ e. inl e) (λ e. inr (omega arith))

module _ {R : Type 0} where
  handed_by : (now : Moment R) (id seat n at : ℕ) → seat ≢ id → now.holder n ≡ id → Still now (record now { holder = put now.holder n at }) seat
  handed_by now id seat n at other held = record {
    more = [];
    log = sym (append-nil now.log);
    theirs = All-nil (λ (e : Entry R). now.holder e.pass ≢ seat);
    tickets = λ t m a b. (a, b, m);
    turn = λ _ _. (refl, refl);
    carried = λ m h b. (b, put_else now.holder n at m (λ e. other (sym h ∙ (ap now.holder e ∙ held))) ∙ h);
  }

  moved_by : (now : Moment R) (id other seat : ℕ) → seat ≢ other → Still now (record now { holder = moved now.holder other id }) seat
  moved_by now id other seat apart = record {
    more = [];
    log = sym (append-nil now.log);
    theirs = All-nil (λ (e : Entry R). now.holder e.pass ≢ seat);
    tickets = λ t m a b. (a, b, m);
    turn = λ _ _. (refl, refl);
    carried = λ m h b. (b, moved_else now.holder other id m (λ e. apart (sym h ∙ e)) ∙ h);
  }

module _ {R : Type 0} where
  abbrev opening_moment : Moment R
  opening_moment = record { log = []; drawn = 0; serving = 0; numbers = 1; owner = λ _. 0; holder = λ _. 0 }

module _ {O L R : Type 0} (good : O → R → Type 0) (after : O → R → O) (weigh : R → ℕ) (stands : L → List (Entry R) → Type 0) (start : O) where
  abbrev pub new_book : L → Book O L R
  new_book ledger = record { object = start; ledger = ledger; weight = 0; added = None }

  pub starts : (ledger : L) → stands ledger [] → Rule good after weigh stands start (opening (0 ∷ 0 ∷ 1 ∷ []) (Some (new_book ledger) ∷ []) (first_view start))
  starts ledger empty = record {
    now = opening_moment;
    words = refl;
    good_all = All-nil (λ (e : Entry R). good start e.request);
    named = All-nil (λ (e : Entry R). e.pass < 1);
    signed = All-nil (λ (e : Entry R). Signed (first_view start ∷ []) 0 e.pass);
    asks = refl;
    room = omega arith;
    behind = omega arith;
    held = λ t a below. absurd (omega arith);
    place = inl (new_book ledger, refl, record { object = refl; ledger = empty; weight = refl });
    each = only;
  }
    where
      only : (seat : ℕ) (v : View O R) → get_elem? (first_view start ∷ []) seat ≡ some v → Knows start opening_moment seat v
      only Rattle.std.proofs.Common.zero v e = subst (Knows start opening_moment 0) (some-injective (first_view start) v e)
          record { begun = refl; carried = λ n inside. (let is = contains_one 0 n inside in omega arith, refl); front = goes_on_same [] (0 ∷ []) }
      only (Rattle.std.proofs.Common.suc k) v e = absurd (some-ne-none v (sym e))

  pub splits : (id n amount : ℕ) (v : View O R) → v.stage ≡ Numbered n → amount ≤ v.left → Splits (Rule good after weigh stands start) id v (split_kept amount v) (split_given amount v)
  splits id n amount v stage enough s k at =
      let now = k.now in
      let m : ℕ = number_in v.stage in
      let m_is : m ≡ n = ap number_in stage in
      let w : View O R = split_kept amount v in
      let u : View O R = split_given amount v in
      let views : List (View O R) = set s.views id w in
      let last : ℕ = length views in
      let known : Lives start now id v × Fresh now id v n = subst (KnowsAt start now id v) stage (k.each id v at) in
      let l = known.0 in
      let f = known.1 in
      let next : Moment R = record now { holder = put now.holder n last } in
      let asks = total_set asks_of s.views id v w at in
      let spent = total_set spent_of s.views id v w at in
      let asks' = total_snoc asks_of views u in
      let spent' = total_snoc spent_of views u in
      let a = k.asks in
      let r = k.room in
      let signed = signed_all good after weigh stands start s k id v w at (λ i c. c) (omega arith) in
      let unused : All (λ e. e.pass ≢ n) now.log = f.unused in
      let place = place_stays good after weigh stands start s k next id v w at (λ t. subst InTurn stage t) refl refl (λ _. refl) in
      let each = all_know start now next s.views id w k.each
      record { begun = l.begun; carried = λ i inside. let c = l.carried i inside in (c.0, put_else now.holder n last i (λ e. f.other (subst (Contains (numbers_of v)) e inside)) ∙ c.1); front = l.front }
      (λ seat other. handed_by now id seat n last other f.mine) in
      let g = l.front in
      let new : Lives start next last u = record {
        begun = l.begun;
        carried = λ i inside. let is : i ≡ n = sym (contains_one m i inside) ∙ m_is in let b = f.below in (omega arith, ap (put now.holder n last) is ∙ put_here now.holder n last);
        front = (
          g.0,
          g.1,
          All-weaker (λ (e : Entry R). e.pass ≢ n) (λ (e : Entry R). ¬ Contains (m ∷ []) e.pass) (λ e other inside. other (sym (contains_one m e.pass inside) ∙ m_is)) g.0
              (all_right (λ (e : Entry R). e.pass ≢ n) v.seen g.0 (subst (λ z. All (λ e. e.pass ≢ n) z) g.1 unused)),
        );
      } in record {
        now = next;
        words = k.words;
        good_all = k.good_all;
        named = k.named;
        signed = λ i d b.
            let e : Entry R = get_or now.log i d in
            let old : Signed views (now.holder e.pass) e.pass = signed i d b in
            subst (λ (seat : ℕ). Signed (views ++ u ∷ []) seat e.pass) (sym (put_else now.holder n last e.pass (unused i d b)))
            (old.0, at_longer views (u ∷ []) (now.holder e.pass) old.0 old.1, old.2, old.3);
        asks = omega arith;
        room = omega arith;
        behind = k.behind;
        held = λ t a below.
            let h = held_all good after weigh stands start s k id v w at (λ t h. subst (λ z. HasTicket z t) stage h) t a below in
            (h.0, at_longer views (u ∷ []) (now.owner t) h.0 h.1, h.2);
        place = ⊎_elim (λ (home : Home good after weigh stands start s.homes now.log). inl home)
            (λ (away : (x : View O R) × (get_elem? views (now.owner now.serving) ≡ some x) × InTurn x.stage). inr (away.0, at_longer views (u ∷ []) (now.owner now.serving) away.0 away.1, away.2)) place;
        each = λ seat x e. ⊎_elim (each seat x)
            (λ (t : (seat ≡ last) × (u ≡ x)). subst (λ (z : ℕ × View O R). Knows start next z.0 z.1) (λ i. (sym t.0 i, t.1 i)) new) (at_end views u x seat e);
      }

  pub joins : (id : ℕ) (v : View O R) (other : ℕ) (w : View O R) → v.stage ≡ Idle → w.stage ≡ Idle → Joins (Rule good after weigh stands start) id v other w (joined v w) gone
  joins id v other w idle idle' s k at apart there' =
      let now = k.now in
      let b : View O R = joined v w in
      let views : List (View O R) = set s.views id b in
      let there : get_elem? s.views other ≡ some w = sym (set_else s.views id other b apart) ∙ there' in
      let l : Lives start now id v = subst (KnowsAt start now id v) idle (k.each id v at) in
      let l' : Lives start now other w = subst (KnowsAt start now other w) idle' (k.each other w there) in
      let next : Moment R = record now { holder = moved now.holder other id } in
      let asks = total_set asks_of s.views id v b at in
      let spent = total_set spent_of s.views id v b at in
      let asks' = total_set asks_of views other w gone there' in
      let spent' = total_set spent_of views other w gone there' in
      let a = k.asks in
      let r = k.room in
      let one = united v.seen w.seen (numbers_of v) (numbers_of w) now.log l.front l'.front in
      let carried : (n : ℕ) → Contains ((numbers_of v) ++ (numbers_of w)) n → (n < now.numbers) × (next.holder n ≡ id) = λ n inside. ⊎_elim
      (λ (x : Contains (numbers_of v) n). let c = l.carried n x in (c.0, moved_else now.holder other id n (λ e. apart (sym e ∙ c.1)) ∙ c.1))
      (λ (x : Contains (numbers_of w) n). let c = l'.carried n x in (c.0, moved_there now.holder other id n c.1)) (Contains-append_cases (numbers_of v) (numbers_of w) n inside) in
      let mine : Lives start next id b = record { begun = l.begun; carried = carried; front = one.2 } in
      let both : Both next b v.seen w.seen (numbers_of v) (numbers_of w) = record {
        within = λ n c. Contains-append_left (numbers_of v) (numbers_of w) n c;
        within_too = λ n c. Contains-append_right (numbers_of v) (numbers_of w) n c;
        longest = refl;
        first = l.front;
        second = l'.front;
        apart = λ n x y. apart (sym (l'.carried n y).1 ∙ (l.carried n x).1);
      } in
      let low = k.behind in record {
        now = next;
        words = k.words;
        good_all = k.good_all;
        named = k.named;
        signed = λ i d within.
            let e : Entry R = get_or now.log i d in
            let old : Signed s.views (now.holder e.pass) e.pass = k.signed i d within in
            dite (ℕ_discrete (now.holder e.pass) other)
            (λ is.
            let same : old.0 ≡ w = some-injective old.0 w (sym old.1 ∙ (ap (get_elem? s.views) is ∙ there)) in
            let paid = ap (λ (z : View O R). z.spent) same in
            let before = old.3 in
            subst (λ (seat : ℕ). Signed (set views other gone) seat e.pass) (sym (moved_there now.holder other id e.pass is)) (
              b,
              set_else views other id gone (λ z. apart (sym z)) ∙ set_here s.views id b (at_below s.views id v at),
              Contains-append_right (numbers_of v) (numbers_of w) e.pass (subst (λ (z : View O R). Contains (numbers_of z) e.pass) same old.2),
              omega arith,
            ))
            (λ not.
            let mid : Signed views (now.holder e.pass) e.pass = signed_stays s.views id v b at (λ n c. Contains-append_left (numbers_of v) (numbers_of w) n c) (omega arith) (now.holder e.pass) e.pass old in
            subst (λ (seat : ℕ). Signed (set views other gone) seat e.pass) (sym (moved_else now.holder other id e.pass not))
            (mid.0, set_else views other (now.holder e.pass) gone not ∙ mid.1, mid.2, mid.3));
        asks = omega arith;
        room = omega arith;
        behind = k.behind;
        held = λ t a below.
            let h = held_all good after weigh stands start s k id v b at (idle_has_none good after weigh stands start v.stage idle) t a below in
            held_stays views other w gone there' (now.owner t) t (λ h. absurd (idle_has_none good after weigh stands start w.stage idle' t h)) h;
        place = ⊎_elim (λ (home : Home good after weigh stands start s.homes now.log). inl home)
            (λ (away : (x : View O R) × (get_elem? s.views (now.owner now.serving) ≡ some x) × InTurn x.stage).
            let turn : ℕ = now.owner now.serving in
            let off : (j : ℕ) (x : View O R) → get_elem? s.views j ≡ some x → x.stage ≡ Idle → turn ≢ j = λ j x e is z.
            not_idle good after weigh stands start x.stage is (subst (λ (y : View O R). InTurn y.stage) (some-injective away.0 x (sym away.1 ∙ (ap (get_elem? s.views) z ∙ e))) away.2) in
            inr (away.0, set_else views other turn gone (off other w there idle') ∙ (set_else s.views id turn b (off id v at idle) ∙ away.1), away.2)) k.place;
        each = λ seat x e. ⊎_elim (λ (t : (seat ≡ other) × (gone ≡ x)). subst (λ (z : View O R). Knows start next seat z) t.1 (refl, refl))
            (λ (t : (seat ≢ other) × (get_elem? views seat ≡ some x)). ⊎_elim
            (λ (y : (seat ≡ id) × (b ≡ x)). subst (λ (z : ℕ × View O R). Knows start next z.0 z.1) (λ i. (sym y.0 i, y.1 i)) (mine, both))
            (λ (y : (seat ≢ id) × (get_elem? s.views seat ≡ some x)). others_know now next seat x (moved_by now id other seat t.0) start (k.each seat x y.1)) (at_set s.views id seat b x t.1))
            (at_set views other seat gone x e);
      }

  -- what the end shows where one pass has all asks
  pub record Ended (v : View O R) (slots : List (Option (Book O L R))) : Type 0 where
    pub home : Book O L R
    pub there : get_elem? slots 0 ≡ some (Some home)
    pub book : BookOf after weigh stands start v.seen home
    pub good_all : AllGood good start v.seen
    pub signed : All (λ e. Contains (numbers_of v) e.pass) v.seen

  pub ends : (id : ℕ) (v : View O R) (words : List ℕ) (slots : List (Option (Book O L R))) → v.stage ≡ Idle → v.left + v.spent ≡ 2 ^ 62 → Final (Seen (Rule good after weigh stands start) id v) words slots → Ended v slots
  ends id v words slots idle all final =
      let s = final.0 in
      let k = final.1.0 in
      let at = final.1.1 in
      let now = k.now in
      let l : Lives start now id v = subst (KnowsAt start now id v) idle (k.each id v at) in
      let none_else : (j : ℕ) (u : View O R) → get_elem? s.views j ≡ some u → 0 < u.spent → j ≡ id = λ j u e paid. dite (ℕ_discrete j id) (λ is. is)
      (λ not. let t = total_two asks_of s.views j id u v not e at in let a = k.asks in absurd (omega arith)) in
      let signed : All (λ e. Contains (numbers_of v) e.pass) now.log = All-weaker (λ (e : Entry R). Signed s.views (now.holder e.pass) e.pass) (λ (e : Entry R). Contains (numbers_of v) e.pass)
      (λ e sign. let is = none_else (now.holder e.pass) sign.0 sign.1 sign.3 in
      let same : sign.0 ≡ v = some-injective sign.0 v (sym sign.1 ∙ (ap (get_elem? s.views) is ∙ at)) in subst (λ (z : View O R). Contains (numbers_of z) e.pass) same sign.2) now.log k.signed in
      let whole : now.log ≡ v.seen = nothing_after v.seen now.log (numbers_of v) l.front.0 l.front.1 l.front.2 signed in
      let home : Home good after weigh stands start s.homes now.log = ⊎_elim (λ h. h)
      (λ (away : (x : View O R) × (get_elem? s.views (now.owner now.serving) ≡ some x) × InTurn x.stage).
      let paid = turn_paid now (now.owner now.serving) away.0 away.0.stage away.2 (k.each (now.owner now.serving) away.0 away.1) in
      let is = none_else (now.owner now.serving) away.0 away.1 paid in
      let same : away.0 ≡ v = some-injective away.0 v (sym away.1 ∙ (ap (get_elem? s.views) is ∙ at)) in
      absurd (not_idle good after weigh stands start v.stage idle (subst (λ (z : View O R). InTurn z.stage) same away.2))) k.place in record {
        home = home.0;
        there = final.4 0 (Some home.0) home.1;
        book = subst (λ z. BookOf after weigh stands start z home.0) whole home.2;
        good_all = subst (AllGood good start) whole k.good_all;
        signed = subst (λ z. All (λ e. Contains (numbers_of v) e.pass) z) whole signed;
      }
    where
      turn_paid : (now : Moment R) (seat : ℕ) (v : View O R) (stage : Stage R) → InTurn stage → KnowsAt start now seat v stage → 0 < v.spent
      turn_paid now seat v Gone t k = absurd t
      turn_paid now seat v Idle t k = absurd t
      turn_paid now seat v (Waits _) t k = absurd t
      turn_paid now seat v (Has n b) t k = k.1.paid
      turn_paid now seat v (Numbered _) t k = absurd t
      turn_paid now seat v (Joined _ _ _ _) t k = absurd t

      nothing_after : (seen log : List (Entry R)) (numbers : List ℕ) (rest : List (Entry R)) → log ≡ seen ++ rest → NoneOf numbers rest → All (λ e. Contains numbers e.pass) log → log ≡ seen
      nothing_after seen log numbers [] is absent signed = is ∙ append-nil seen
      nothing_after seen log numbers (e ∷ es) is absent signed =
          absurd (absent 0 e (omega arith) (middle (λ (x : Entry R). Contains numbers x.pass) seen e es (subst (λ z. All (λ x. Contains numbers x.pass) z) is signed)))
