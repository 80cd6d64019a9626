-- Lists of views, and histories.
use Rattle.std.proofs.Common.{Bool, true, false, cond, leb, ◌≡◌, ◌≢◌, ◌⊎◌, ℕ, zero, suc, ◌+◌, ◌<◌, ◌≤◌, List, [], ◌∷◌, ◌++◌, length, set, sym, refl, ap, ◌∙◌, subst, inl, inr, arith, append_assoc, append-nil, ⊎_elim, ne_eqb, eq-eqb, Some}
use Rattle.std.specs.Prelude.{All, Contains, eqb, map, filter}
use Rattle.std.proofs.lemmas.List.Elements.{All-nil, All-cons, All-head, All-tail, All-append, All-weaker, Contains-append_cases, filter-append}
use Rattle.std.proofs.lemmas.List.Sums.{sum_by-append}
use Rattle.std.proofs.lemmas.Bool.Decides.{nat_tests}
use mathlib.Core.Option.{some, some-injective, some-ne-none}
use native.Mathlib.Decide.{ℕ_discrete}
use lib.ListN.{get_elem?}
use Rattle.turn_desk.specs.declared.objects.Entry.{Entry}
use Rattle.turn_desk.specs.Histories.{state_of, reply_at, weight_of, AllGood, NoneOf, GoesOn, longer, requests_of}
use mathlib.Core.List.{map-append}
use Rattle.turn_desk.specs.Asks.{EndsWith}
use Rattle.turn_desk.specs.Turns.{total}

abbrev pick : {P : Type 0} → Dec P → ℕ → ℕ → ℕ
pick (yes _) a b = a
pick (no _) a b = b

-- f, but c at i
pub put : (ℕ → ℕ) → ℕ → ℕ → ℕ → ℕ
put f i c j = pick (ℕ_discrete j i) c (f j)

pub put_here : (f : ℕ → ℕ) (i c : ℕ) → put f i c i ≡ c
unfolding put
put_here f i c = go (ℕ_discrete i i)
  where
    go : (d : Dec (i ≡ i)) → pick d c (f i) ≡ c
    go (yes _) = refl
    go (no n) = absurd (n refl)

pub put_else : (f : ℕ → ℕ) (i c j : ℕ) → j ≢ i → put f i c j ≡ f j
unfolding put
put_else f i c j other = go (ℕ_discrete j i)
  where
    go : (d : Dec (j ≡ i)) → pick d c (f j) ≡ f j
    go (yes e) = absurd (other e)
    go (no _) = refl

-- f, but c wherever it is i
pub moved : (ℕ → ℕ) → ℕ → ℕ → ℕ → ℕ
moved f i c j = pick (ℕ_discrete (f j) i) c (f j)

pub moved_there : (f : ℕ → ℕ) (i c j : ℕ) → f j ≡ i → moved f i c j ≡ c
unfolding moved
moved_there f i c j there = go (ℕ_discrete (f j) i)
  where
    go : (d : Dec (f j ≡ i)) → pick d c (f j) ≡ c
    go (yes _) = refl
    go (no n) = absurd (n there)

pub moved_else : (f : ℕ → ℕ) (i c j : ℕ) → f j ≢ i → moved f i c j ≡ f j
unfolding moved
moved_else f i c j other = go (ℕ_discrete (f j) i)
  where
    go : (d : Dec (f j ≡ i)) → pick d c (f j) ≡ f j
    go (yes e) = absurd (other e)
    go (no _) = refl

module _ {V : Type 0} where
  pub total_set : (f : V → ℕ) (vs : List V) (j : ℕ) (v w : V) → get_elem? vs j ≡ some v → total f (set vs j w) + f v ≡ total f vs + f w
  total_set f [] j v w e = absurd (some-ne-none v (sym e))
  total_set f (x ∷ xs) zero v w e = let s = ap f (some-injective x v e) in omega arith
  total_set f (x ∷ xs) (suc j) v w e = let s = total_set f xs j v w e in omega arith

  pub total_snoc : (f : V → ℕ) (vs : List V) (w : V) → total f (vs ++ w ∷ []) ≡ total f vs + f w
  total_snoc f [] w = omega arith
  total_snoc f (x ∷ xs) w = let s = total_snoc f xs w in omega arith

  pub total_one : (f : V → ℕ) (vs : List V) (j : ℕ) (v : V) → get_elem? vs j ≡ some v → f v ≤ total f vs
  total_one f [] j v e = absurd (some-ne-none v (sym e))
  total_one f (x ∷ xs) zero v e = let s = ap f (some-injective x v e) in omega arith
  total_one f (x ∷ xs) (suc j) v e = let s = total_one f xs j v e in omega arith

  pub total_two : (f : V → ℕ) (vs : List V) (i j : ℕ) (v w : V) → i ≢ j → get_elem? vs i ≡ some v → get_elem? vs j ≡ some w → f v + f w ≤ total f vs
  total_two f [] i j v w other a b = absurd (some-ne-none v (sym a))
  total_two f (x ∷ xs) zero zero v w other a b = absurd (other refl)
  total_two f (x ∷ xs) zero (suc j) v w other a b = let s = ap f (some-injective x v a) in let t = total_one f xs j w b in omega arith
  total_two f (x ∷ xs) (suc i) zero v w other a b = let s = ap f (some-injective x w b) in let t = total_one f xs i v a in omega arith
  total_two f (x ∷ xs) (suc i) (suc j) v w other a b = let s = total_two f xs i j v w (λ e. other (ap suc e)) a b in omega arith

  pub total_less : (f g : V → ℕ) (vs : List V) → ((v : V) → f v ≤ g v) → total f vs ≤ total g vs
  total_less f g [] below = omega arith
  total_less f g (x ∷ xs) below = let s = total_less f g xs below in let t = below x in omega arith

  -- the element at a place of a list with one more at its end
  pub at_end : (l : List V) (a b : V) (j : ℕ) → get_elem? (l ++ a ∷ []) j ≡ some b → (get_elem? l j ≡ some b) ⊎ ((j ≡ length l) × (a ≡ b))
  at_end [] a b zero e = inr (refl, some-injective a b e)
  at_end [] a b (suc j) e = absurd (some-ne-none b (sym e))
  at_end (x ∷ xs) a b zero e = inl e
  at_end (x ∷ xs) a b (suc j) e = ⊎_elim (λ t. inl t) (λ t. let s = t.0 in inr (omega arith, t.1)) (at_end xs a b j e)

  pub at_below : (l : List V) (j : ℕ) (a : V) → get_elem? l j ≡ some a → j < length l
  at_below [] j a e = absurd (some-ne-none a (sym e))
  at_below (x ∷ xs) zero a e = omega arith
  at_below (x ∷ xs) (suc j) a e = let s = at_below xs j a e in omega arith

  pub middle : (P : V → Type 0) (xs : List V) (e : V) (es : List V) → All P (xs ++ e ∷ es) → P e
  middle P [] e es a = All-head P e es a
  middle P (x ∷ xs) e es a = middle P xs e es (All-tail P x (xs ++ e ∷ es) a)

module _ {R : Type 0} where
  pub goes_on_same : (seen : List (Entry R)) (numbers : List ℕ) → GoesOn seen numbers seen
  goes_on_same seen numbers = ([], sym (append-nil seen), All-nil (λ (e : Entry R). ¬ Contains numbers e.pass))

  pub goes_on_more : (seen : List (Entry R)) (numbers : List ℕ) (log more : List (Entry R)) → GoesOn seen numbers log → NoneOf numbers more → GoesOn seen numbers (log ++ more)
  goes_on_more seen numbers log more g none = (
    g.0 ++ more,
    ap (λ l. l ++ more) g.1 ∙ append_assoc seen g.0 more,
    All-append (λ (e : Entry R). ¬ Contains numbers e.pass) g.0 more g.2 none,
  )

  pub weight_more : (weigh : R → ℕ) (xs ys : List (Entry R)) → weight_of weigh (xs ++ ys) ≡ weight_of weigh xs + weight_of weigh ys
  weight_more weigh xs ys = sum_by-append (λ (e : Entry R). weigh e.request) xs ys

module _ {O R : Type 0} where
  pub state_more : (after : O → R → O) (start : O) (xs ys : List (Entry R)) → state_of after start (xs ++ ys) ≡ state_of after (state_of after start xs) ys
  state_more after start [] ys = refl
  state_more after start (x ∷ xs) ys = state_more after (after start x.request) xs ys

  pub reply_last : {A : Type 0} (after : O → R → O) (answer : O → R → A) (start : O) (xs : List (Entry R)) (e : Entry R)
      → reply_at after answer start (xs ++ e ∷ []) ≡ Some (answer (state_of after start xs) e.request)
  reply_last after answer start [] e = refl
  reply_last after answer start (x ∷ []) e = refl
  reply_last after answer start (x ∷ y ∷ xs) e = reply_last after answer (after start x.request) (y ∷ xs) e

  -- a request that is good at the start is good after good requests
  pub good_at : (good : O → R → Type 0) (after : O → R → O) → ((s : O) (q r : R) → good s q → (good s r → good (after s q) r)) → (start : O) (log : List (Entry R)) (r : R)
      → AllGood good start log → good start r → good (state_of after start log) r
  good_at good after lasting start [] r all g = g
  good_at good after lasting start (e ∷ es) r all g =
      let first : good start e.request = All-head (λ (x : Entry R). good start x.request) e es all in
      good_at good after lasting (after start e.request) es r
      (All-weaker (λ (x : Entry R). good start x.request) (λ (x : Entry R). good (after start e.request) x.request) (λ x. lasting start e.request x.request first) es
      (All-tail (λ (x : Entry R). good start x.request) e es all))
      (lasting start e.request r first g)

module _ {V : Type 0} where
  pub all_right : (P : V → Type 0) (xs ys : List V) → All P (xs ++ ys) → All P ys
  all_right P [] ys a = a
  all_right P (x ∷ xs) ys a = all_right P xs ys (All-tail P x (xs ++ ys) a)

  pub all_left : (P : V → Type 0) (xs ys : List V) → All P (xs ++ ys) → All P xs
  all_left P [] ys a = All-nil P
  all_left P (x ∷ xs) ys a = All-cons P x xs (All-head P x (xs ++ ys) a) (all_left P xs ys (All-tail P x (xs ++ ys) a))

  -- of two fronts of one list the shorter is a front of the longer
  pub fronts : (a b r t : List V) → a ++ r ≡ b ++ t → length a ≤ length b → (mid : List V) × (b ≡ a ++ mid) × (r ≡ mid ++ t)
  fronts [] b r t e le = (b, refl, e)
  fronts (x ∷ xs) [] r t e le = absurd (omega arith)
  fronts (x ∷ xs) (y ∷ ys) r t e le =
      let head : x ≡ y = cc in
      let tail : xs ++ r ≡ ys ++ t = cc in
      let f = fronts xs ys r t tail (omega arith) in
      (f.0, (λ i. sym head i ∷ f.1 i), f.2)

  abbrev longer_of : List V → List V → Bool → List V
  longer_of a b c = cond c b a

module _ {R : Type 0} where
  pub none_of_both : (p q : List ℕ) (log : List (Entry R)) → NoneOf p log → NoneOf q log → NoneOf (p ++ q) log
  none_of_both p q log a b k d l inside = ⊎_elim (a k d l) (b k d l) (Contains-append_cases p q _ inside)

  -- what became of two histories that are fronts of one
  pub united : (a b : List (Entry R)) (p q : List ℕ) (log : List (Entry R)) → GoesOn a p log → GoesOn b q log
      → GoesOn a p (longer a b) × GoesOn b q (longer a b) × GoesOn (longer a b) (p ++ q) log
  united a b p q log g h = go (leb (length a) (length b)) refl
    where
      go : (c : Bool) → leb (length a) (length b) ≡ c → GoesOn a p (longer_of a b c) × GoesOn b q (longer_of a b c) × GoesOn (longer_of a b c) (p ++ q) log
      go true is =
          let f = fronts a b g.0 h.0 (sym g.1 ∙ h.1) (grind (arith, nat_tests)) in
          let both : NoneOf p (f.0 ++ h.0) = subst (NoneOf p) f.2 g.2 in (
            (f.0, f.1, all_left (λ (e : Entry R). ¬ Contains p e.pass) f.0 h.0 both),
            goes_on_same b q,
            (h.0, h.1, none_of_both p q h.0 (all_right (λ (e : Entry R). ¬ Contains p e.pass) f.0 h.0 both) h.2),
          )
      go false is =
          let f = fronts b a h.0 g.0 (sym h.1 ∙ g.1) (grind (arith, nat_tests)) in
          let both : NoneOf q (f.0 ++ g.0) = subst (NoneOf q) f.2 h.2 in (
            goes_on_same a p,
            (f.0, f.1, all_left (λ (e : Entry R). ¬ Contains q e.pass) f.0 g.0 both),
            (g.0, g.1, none_of_both p q g.0 g.2 (all_right (λ (e : Entry R). ¬ Contains q e.pass) f.0 g.0 both)),
          )

module _ {R : Type 0} where
  pub requests_none : (n : ℕ) (log : List (Entry R)) → All (λ e. e.pass ≢ n) log → requests_of n log ≡ []
  requests_none n [] a = refl
  requests_none n (e ∷ es) a =
      let other : eqb e.pass n ≡ false = ne_eqb e.pass n (All-head (λ (x : Entry R). x.pass ≢ n) e es a) in
      ap (λ b. map (λ x. x.request) (cond b (e ∷ filter (λ x. eqb x.pass n) es) (filter (λ x. eqb x.pass n) es))) other ∙ requests_none n es (All-tail (λ (x : Entry R). x.pass ≢ n) e es a)

  pub requests_more : (n : ℕ) (xs ys : List (Entry R)) → requests_of n (xs ++ ys) ≡ requests_of n xs ++ requests_of n ys
  requests_more n xs ys = ap (map (λ x. x.request)) (filter-append (λ (x : Entry R). eqb x.pass n) xs ys) ∙ map-append (λ (x : Entry R). x.request) (filter (λ x. eqb x.pass n) xs) (filter (λ x. eqb x.pass n) ys)

  requests_last : (n : ℕ) (e : Entry R) → e.pass ≡ n → requests_of n (e ∷ []) ≡ e.request ∷ []
  requests_last n e is = ap (λ b. map (λ (x : Entry R). x.request) (cond b (e ∷ []) [])) (eq-eqb e.pass n is)

  -- entries of other passes change nothing of a pass's own requests
  pub requests_same : (n : ℕ) (numbers : List ℕ) (before seen : List (Entry R)) → GoesOn before (n ∷ numbers) seen → requests_of n seen ≡ requests_of n before
  requests_same n numbers before seen g =
      ap (requests_of n) g.1 ∙ (requests_more n before g.0
      ∙ (ap (λ l. requests_of n before ++ l) (requests_none n g.0 (All-weaker (λ (e : Entry R). ¬ Contains (n ∷ numbers) e.pass) (λ (e : Entry R). e.pass ≢ n) (λ e apart is. apart (0, omega arith, sym is)) g.0 g.2))
      ∙ append-nil (requests_of n before)))

  pub requests_one : (numbers : List ℕ) (before seen : List (Entry R)) (e : Entry R) → EndsWith before (e.pass ∷ numbers) e seen → requests_of e.pass seen ≡ requests_of e.pass before ++ e.request ∷ []
  requests_one numbers before seen e g =
      ap (requests_of e.pass) g.1 ∙ (requests_more e.pass (before ++ g.0) (e ∷ [])
      ∙ λ i. requests_same e.pass numbers before (before ++ g.0) (g.0, refl, g.2) i ++ requests_last e.pass e refl i)
