-- What workers leave, put together from what each did.
use Rattle.std.proofs.Common.{◌≡◌, ◌≢◌, ℕ, ◌+◌, ◌<◌, List, [], ◌∷◌, ◌++◌, length, Some, refl, sym, ap, ◌∙◌, subst, arith, ⊎_elim, append_assoc, append-nil}
use Rattle.std.specs.Prelude.{All, Contains, map, slice_index_or}
use Rattle.std.specs.List.{AllZip}
use Rattle.std.proofs.lemmas.List.{map-append}
use Rattle.std.proofs.lemmas.List.Elements.{All-nil, All-cons, All-head, All-tail, All-push, All-append, All-weaker}
use Rattle.turn_desk.specs.declared.objects.Entry.{Entry}
use Rattle.turn_desk.specs.Histories.{requests_of, NoneOf}
use Rattle.turn_desk.specs.Histories as histories
use Rattle.turn_desk.specs.Passes.{DeskView, PassView, IsOf, all_asks, carried}
use Rattle.turn_desk.specs.Turns.{total}
use Rattle.turn_desk.proofs.Lists.{requests_more, requests_none, all_right}
use Rattle.sheet_form.specs.declared.sheets.Contents.{Contents}
use Rattle.service_core.specs.declared.requests.Request.{Request}
use Rattle.service_core.specs.States.{State}
use Rattle.service_core.specs.Tells.{started}
use Rattle.service_desk.specs.Seats.{Seat}
use Rattle.door_serving.specs.declared.doors.WorkerEnd.{WorkerEnd}
use Rattle.door_serving.specs.Conversations.{GoesOn}
use Rattle.door_host.specs.Doors.{DoorKind, Worked}
use Rattle.door_host.specs.Hosts.{AllServedOver, AreDistinct, BeginsAt, Hosted, IsNumbered, ServedOver, passes_of}
use Rattle.door_host.specs.Rounds.{Gathered, IsBegun, IsSeated, IsWhole, MayLeave, from_last, own_entries}
use Rattle.door_host.proofs.Counting.{counted, total_map}
use Rattle.door_host.proofs.Lists.{contains_nothing, contains_first, contains_cases, from_last_push, total_from_last, all_from_last}

module _ {R : Type 0} where
  -- fewer numbers
  pub fewer : (number : ℕ) (numbers : List ℕ) (more : List (Entry R)) → Contains numbers number → NoneOf numbers more → NoneOf (number ∷ []) more
  fewer number numbers more within none = All-weaker (λ (e : Entry R). ¬ Contains numbers e.pass) (λ (e : Entry R). ¬ Contains (number ∷ []) e.pass)
      (λ e apart c. ⊎_elim (λ is. apart (subst (Contains numbers) is within)) (λ gone. contains_nothing e.pass gone) (contains_cases number e.pass [] c))
      more none

  -- a history that goes on twice
  pub on_and_on : (number : ℕ) (numbers : List ℕ) (one two three : List (Entry R)) → Contains numbers number
      → histories.GoesOn one (number ∷ []) two → histories.GoesOn two numbers three → histories.GoesOn one (number ∷ []) three
  on_and_on number numbers one two three within g h = (
    g.0 ++ h.0,
    h.1 ∙ (ap (λ l. l ++ h.0) g.1 ∙ append_assoc one g.0 h.0),
    All-append (λ (e : Entry R). ¬ Contains (number ∷ []) e.pass) g.0 h.0 g.2 (fewer number numbers h.0 within h.2),
  )

  -- the requests of a pass stay the same where a history goes on by others
  pub own_stay : (number : ℕ) (seen history : List (Entry R)) → histories.GoesOn seen (number ∷ []) history → requests_of number history ≡ requests_of number seen
  own_stay number seen history g =
      ap (requests_of number) g.1 ∙ (requests_more number seen g.0
      ∙ (ap (λ l. requests_of number seen ++ l) (requests_none number g.0 (All-weaker (λ (e : Entry R). ¬ Contains (number ∷ []) e.pass) (λ (e : Entry R). e.pass ≢ number)
      (λ e apart is. apart (contains_first number e.pass [] (sym is))) g.0 g.2))
      ∙ append-nil (requests_of number seen)))

module _ {D C : Type 0} (kind : DoorKind D C) (sheet : Contents) (limit : ℕ) (history : List (Entry Request)) where
  served_push : (befores afters : List D) (ends : List WorkerEnd) (before after : D) (end : WorkerEnd)
      → AllServedOver kind sheet limit history befores afters ends → ServedOver kind sheet limit history before after end
      → AllServedOver kind sheet limit history (befores ++ before ∷ []) (afters ++ after ∷ []) (ends ++ end ∷ [])
  served_push [] [] [] before after end all one = (one, tt)
  served_push (b ∷ bs) (a ∷ as') (e ∷ es) before after end all one = (all.0, served_push bs as' es before after end all.1 one)
  served_push _ _ _ before after end all one = absurd all

module _ {D C W : Type 0} (kind : DoorKind D C) (door : W → D) (seat : W → Seat) (end : W → WorkerEnd) (sheet : Contents) (desk : DeskView State) where
  abbrev pub Works : W → W → Type 0
  Works before after = Worked kind (seat before) (seat after) (door before) (door after) (end after) × GoesOn (seat before) (seat after)

  abbrev pub Sits : W → Type 0
  Sits w = IsSeated sheet desk (seat w)

  abbrev pub Leaves : W → Type 0
  Leaves w = MayLeave desk (seat w)

  abbrev pub Within : List (Entry Request) → W → Type 0
  Within history w = histories.GoesOn (seat w).pass.seen ((seat w).pass.number ∷ []) history

  pub may_leave : (ws xs : List W) → All Sits ws → AllZip Works ws xs → All Leaves xs
  may_leave [] [] sit z = All-nil Leaves
  may_leave [] (x ∷ xs) sit z = absurd z
  may_leave (w ∷ ws) [] sit z = absurd z
  may_leave (w ∷ ws) (x ∷ xs) sit z =
      let sits = All-head Sits w ws sit in
      let same = z.0.1.same.2 in
      let leaves : Leaves x = ((same.0 ∙ sits.of_desk.0, same.1 ∙ sits.of_desk.1), same.3 ∙ sits.joined) in
      All-cons Leaves x xs leaves (may_leave ws xs (All-tail Sits w ws sit) z.1)

  pub same_asks : (ws xs : List W) → AllZip Works ws xs → total (λ w. all_asks (seat w).pass) xs ≡ total (λ w. all_asks (seat w).pass) ws
  same_asks [] [] z = refl
  same_asks [] (x ∷ xs) z = absurd z
  same_asks (w ∷ ws) [] z = absurd z
  same_asks (w ∷ ws) (x ∷ xs) z =
      let here : all_asks (seat x).pass ≡ all_asks (seat w).pass = z.0.1.asks in
      let rest = same_asks ws xs z.1 in
      λ i. here i + rest i

  module _ (history : List (Entry Request)) where
    one_served : IsBegun sheet desk → (w x : W) → Sits w → Works w x → Within history x → ServedOver kind sheet desk.limit history (door w) (door x) (end x)
    one_served begun w x sits works within = record {
      first = seat w;
      last = seat x;
      begins = record {
        sheet_is = sits.sheet_is;
        start = ap (λ (d : DeskView State). d.start) sits.desk_is ∙ begun;
        limit_is = ap (λ (d : DeskView State). d.limit) sits.desk_is;
        left = sits.left;
        asked = sits.asked;
        seen = sits.seen;
        made = sits.made;
      };
      worked = works.0;
      others = subst (λ n. histories.GoesOn (seat x).pass.seen (n ∷ []) history) (works.1.same.2.2 ∙ sym works.0.pass) within;
    }

    pub all_served : IsBegun sheet desk → (ws xs : List W) → All Sits ws → AllZip Works ws xs → All (Within history) xs
        → AllServedOver kind sheet desk.limit history (from_last door ws) (from_last door xs) (from_last end xs)
    all_served begun [] [] sit z within = tt
    all_served begun [] (x ∷ xs) sit z within = absurd z
    all_served begun (w ∷ ws) [] sit z within = absurd z
    all_served begun (w ∷ ws) (x ∷ xs) sit z within =
        served_push kind sheet desk.limit history (from_last door ws) (from_last door xs) (from_last end xs) (door w) (door x) (end x)
        (all_served begun ws xs (All-tail Sits w ws sit) z.1 (All-tail (Within history) x xs within))
        (one_served begun w x (All-head Sits w ws sit) z.0 (All-head (Within history) x xs within))

    one_counted : (w x : W) → Sits w → Works w x → Within history x → (seat x).made ≡ own_entries history (end x)
    one_counted w x sits works within =
        let on = works.1 in
        let number : (seat x).pass.number ≡ (seat w).pass.number = on.same.2.2 in
        let seen : (seat x).pass.seen ≡ on.fresh = on.grew ∙ ap (λ l. l ++ on.fresh) sits.seen in
        let made : (seat x).made ≡ length (requests_of (seat w).pass.number on.fresh) = let counted = on.counted in let none = sits.made in omega arith in
        let stay : requests_of (seat x).pass.number history ≡ requests_of (seat x).pass.number (seat x).pass.seen = own_stay (seat x).pass.number (seat x).pass.seen history within in
        made ∙ (ap length ((λ i. requests_of (sym number i) (sym seen i)) ∙ sym stay) ∙ ap (λ n. length (requests_of n history)) (number ∙ sym works.0.pass))

    pub all_counted : (ws xs : List W) → All Sits ws → AllZip Works ws xs → All (Within history) xs
        → total (λ w. (seat w).made) xs ≡ total (own_entries history) (from_last end xs)
    all_counted ws xs sit z within = go ws xs sit z within ∙ sym (total_from_last end (own_entries history) xs)
      where
        go : (ws xs : List W) → All Sits ws → AllZip Works ws xs → All (Within history) xs → total (λ w. (seat w).made) xs ≡ total (λ w. own_entries history (end w)) xs
        go [] [] sit z within = refl
        go [] (x ∷ xs) sit z within = absurd z
        go (w ∷ ws) [] sit z within = absurd z
        go (w ∷ ws) (x ∷ xs) sit z within =
            let here = one_counted w x (All-head Sits w ws sit) z.0 (All-head (Within history) x xs within) in
            let rest = go ws xs (All-tail Sits w ws sit) z.1 (All-tail (Within history) x xs within) in
            λ i. here i + rest i

  abbrev Numbered : W → Type 0
  Numbered w = IsNumbered (end w)

  pub all_numbered : (ws xs : List W) → All Sits ws → AllZip Works ws xs → All IsNumbered (from_last end xs)
  all_numbered ws xs sit z = all_from_last end IsNumbered xs (go ws xs sit z)
    where
      go : (ws xs : List W) → All Sits ws → AllZip Works ws xs → All Numbered xs
      go [] [] sit z = All-nil Numbered
      go [] (x ∷ xs) sit z = absurd z
      go (w ∷ ws) [] sit z = absurd z
      go (w ∷ ws) (x ∷ xs) sit z =
          let sits = All-head Sits w ws sit in
          let pass = z.0.0.pass in
          let above = sits.above in
          let below = sits.below in
          let here : Numbered x = (omega arith, omega arith) in
          All-cons Numbered x xs here (go ws xs (All-tail Sits w ws sit) z.1)

  pub all_passes : (ws xs : List W) → AllZip Works ws xs → from_last (λ w. (seat w).pass.number) xs ≡ passes_of (from_last end xs)
  all_passes [] [] z = refl
  all_passes [] (x ∷ xs) z = absurd z
  all_passes (w ∷ ws) [] z = absurd z
  all_passes (w ∷ ws) (x ∷ xs) z =
      let here : (seat x).pass.number ≡ (end x).pass = z.0.1.same.2.2 ∙ sym z.0.0.pass in
      let rest = all_passes ws xs z.1 in
      (λ i. rest i ++ here i ∷ []) ∙ sym (map-append (λ (e : WorkerEnd). e.pass) (from_last end xs) (end x ∷ []))

  pub all_gathered : (pass : PassView State Request) (entries : ℕ) (before after : List D) (ends : List WorkerEnd) (ws xs : List W)
      → IsBegun sheet desk → All Sits ws → AllZip Works ws xs → All (Within pass.seen) xs
      → before ≡ from_last door ws → after ≡ from_last door xs → ends ≡ from_last end xs
      → IsWhole desk pass (from_last (λ w. (seat w).pass.number) xs) → entries ≡ total (λ w. (seat w).made) xs
      → Gathered kind sheet desk before after pass entries ends
  all_gathered pass entries before after ends ws xs begun sit z within befores afters ends_are whole count =
      let served = all_served pass.seen begun ws xs sit z within in
      let passes = all_passes ws xs z in
      let made : Gathered kind sheet desk (from_last door ws) (from_last door xs) pass entries (from_last end xs) = record {
        whole = subst (IsWhole desk pass) passes whole;
        numbered = all_numbered ws xs sit z;
        count = count ∙ all_counted pass.seen ws xs sit z within;
        doors = served;
      } in
      let P : List D → List D → List WorkerEnd → Type 0 = λ b a e. Gathered kind sheet desk b a pass entries e in
      subst (λ b. P b after ends) (sym befores) (subst (λ a. P (from_last door ws) a ends) (sym afters) (subst (λ e. P (from_last door ws) (from_last door xs) e) (sym ends_are) made))

-- what was gathered, once it is known that each entry is of a pass that was joined
pub hosted : {D C : Type 0} (kind : DoorKind D C) (sheet : Contents) (desk : DeskView State) (before after : List D) (pass : PassView State Request) (entries : ℕ) (ends : List WorkerEnd)
    → Gathered kind sheet desk before after pass entries ends → All (λ e. Contains (carried pass) e.pass) pass.seen
    → Hosted kind sheet desk.limit pass.seen before after entries ends
hosted kind sheet desk before after pass entries ends g numbers =
    let all = g.whole.numbers_are in
    let owned : All (λ (e : Entry Request). Contains (passes_of ends) e.pass) pass.seen =
    λ k d low. ⊎_elim (λ is. absurd (g.whole.none k d low (contains_first 0 (slice_index_or pass.seen k d).pass [] is))) (λ c. c)
    (contains_cases 0 (slice_index_or pass.seen k d).pass (passes_of ends) (subst (λ l. Contains l (slice_index_or pass.seen k d).pass) all (numbers k d low))) in
    let distinct = g.whole.distinct.1 in
    record {
      count = g.count ∙ (sym (total_map (λ n. length (requests_of n pass.seen)) (λ (e : WorkerEnd). e.pass) ends) ∙ counted (passes_of ends) pass.seen distinct owned);
      owned = owned;
      distinct = distinct;
      numbered = g.numbered;
      doors = g.doors;
    }
