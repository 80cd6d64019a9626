-- What an answer in a turn makes of the book, and of the history.
use Rattle.std.proofs.Common.{◌≡◌, ℕ, List, [], ◌∷◌, ◌++◌, sym, ap, ◌∙◌, subst, ◌+◌, ◌≤◌, arith, append-nil, Some, Result, Ok, Err, IfOk, IfErr, OnOk, OnErr}
use Rattle.std.specs.Prelude.{All}
use Rattle.std.proofs.lemmas.List.Elements.{All-nil, All-push}
use Rattle.turn_desk.specs.declared.objects.Entry.{Entry}
use Rattle.turn_desk.specs.declared.views.Book.{Book}
use Rattle.turn_desk.specs.declared.faults.AskFault.{AskFault}
use Rattle.turn_desk.specs.Asks.{EndsWith}
use Rattle.turn_desk.specs.Faults.{NotMade}
use Rattle.turn_desk.specs.Histories.{reply_at, weight_of, AllGood, GoesOn, requests_of}
use Rattle.turn_desk.specs.Turns.{BookOf, Grown, Unmoved, Taken, Adds, entries_in}
use Rattle.turn_desk.specs.declared.views.View.{View}
use Rattle.turn_desk.proofs.Lists.{state_more, weight_more, reply_last, good_at, requests_same, requests_one}

pub front_of : {R : Type 0} (seen before log : List (Entry R)) (carried numbers : List ℕ) → seen ≡ before → carried ≡ numbers → GoesOn seen carried log → GoesOn before numbers log
front_of seen before log carried numbers p q g = subst (λ (z : List (Entry _)). GoesOn z numbers log) p (subst (λ (z : List ℕ). GoesOn seen z log) q g)

module _ {O L R : Type 0} (good : O → R → Type 0) (after : O → R → O) (weigh : R → ℕ) (stands : L → List (Entry R) → Type 0) (start : O) where
  abbrev Adding : ℕ → List (Entry R) → Book O L R → List (Entry R) → Type 0
  Adding n log c more = All (λ e. e.pass ≡ n) more × AllGood good start more × BookOf after weigh stands start (log ++ more) c

  adding : (n : ℕ) (log : List (Entry R)) (c : Book O L R) → Adding n log c (entries_in c.added) → Adds good after weigh stands start n log c
  adding n log c a = record { mine = a.0; good_more = a.1; book = a.2 }

  -- the book of a history, one entry later
  grown_book : (log : List (Entry R)) (b c : Book O L R) (e : Entry R) → BookOf after weigh stands start log b → Grown after weigh stands b e c → BookOf after weigh stands start (log ++ e ∷ []) c
  grown_book log b c e book g = record {
    object = g.object ∙ (ap (λ s. after s e.request) book.object ∙ sym (state_more after start log (e ∷ [])));
    ledger = g.ledger log book.ledger;
    weight = (let w = g.weight in let v = book.weight in let m = weight_more weigh log (e ∷ []) in omega arith);
  }

  same_book : (log : List (Entry R)) (b c : Book O L R) → BookOf after weigh stands start log b → Unmoved stands b c → BookOf after weigh stands start log c
  same_book log b c book u = record { object = u.object ∙ book.object; ledger = u.ledger log book.ledger; weight = u.weight ∙ book.weight }

  pub good_here : ((s : O) (q r : R) → good s q → (good s r → good (after s q) r)) → (v : View O R) (b : Book O L R) (log : List (Entry R)) (r : R) → Taken good after weigh stands start v b log → good start r → good b.object r
  good_here lasting v b log r taken g = subst (λ z. good z r) (sym taken.book.object) (good_at good after lasting start log r taken.good_all g)

module _ {O L R A : Type 0} (good : O → R → Type 0) (after : O → R → O) (weigh : R → ℕ) (stands : L → List (Entry R) → Type 0) (start : O) where
  pub adds : (log : List (Entry R)) (b c : Book O L R) (e : Entry R) (n : ℕ) (r : Result A AskFault) → BookOf after weigh stands start log b → e.pass ≡ n → good start e.request
      → OnOk r (Grown after weigh stands b e c) → OnErr r (Unmoved stands b c) → Adds good after weigh stands start n log c
  adds log b c e n (Ok x) book is g ok same = adding good after weigh stands start n log c
      (subst (Adding good after weigh stands start n log c) (sym ok.added) (
        All-push (λ (x : Entry R). x.pass ≡ n) [] e (All-nil (λ (x : Entry R). x.pass ≡ n)) is,
        All-push (λ (x : Entry R). good start x.request) [] e (All-nil (λ (x : Entry R). good start x.request)) g,
        grown_book good after weigh stands start log b c e book ok,
      ))
  adds log b c e n (Err f) book is g ok same = adding good after weigh stands start n log c
      (subst (Adding good after weigh stands start n log c) (sym same.added) (
        All-nil (λ (x : Entry R). x.pass ≡ n),
        All-nil (λ (x : Entry R). good start x.request),
        subst (λ z. BookOf after weigh stands start z c) (sym (append-nil log)) (same_book good after weigh stands start log b c book same),
      ))

  -- the history after the turn: with the entry, or as it was
  abbrev Ends : List (Entry R) → Entry R → Result A AskFault → List (Entry R) → Type 0
  Ends log e r seen = OnOk r (seen ≡ log ++ e ∷ []) × OnErr r (seen ≡ log)

  pub ends : (log : List (Entry R)) (b c : Book O L R) (e : Entry R) (r : Result A AskFault) (seen : List (Entry R)) → seen ≡ log ++ entries_in c.added
      → OnOk r (Grown after weigh stands b e c) → OnErr r (Unmoved stands b c) → Ends log e r seen
  ends log b c e (Ok x) seen is ok same = (is ∙ ap (λ z. log ++ z) ok.added, tt)
  ends log b c e (Err f) seen is ok same = (tt, is ∙ (ap (λ z. log ++ z) same.added ∙ append-nil log))

  pub all_good : (log : List (Entry R)) (e : Entry R) (r : Result A AskFault) (seen : List (Entry R)) → AllGood good start log → good start e.request → Ends log e r seen → AllGood good start seen
  all_good log e (Ok x) seen all g ends = subst (AllGood good start) (sym ends.0) (All-push (λ (y : Entry R). good start y.request) log e all g)
  all_good log e (Err f) seen all g ends = subst (AllGood good start) (sym ends.1) all

  pub ends_with : (log : List (Entry R)) (e : Entry R) (r : Result A AskFault) (seen before : List (Entry R)) (numbers : List ℕ) → GoesOn before numbers log → Ends log e r seen → OnOk r (EndsWith before numbers e seen)
  ends_with log e (Ok x) seen before numbers g ends = (g.0, ends.0 ∙ ap (λ l. l ++ e ∷ []) g.1, g.2)
  ends_with log e (Err f) seen before numbers g ends = tt

  pub goes_on : (log : List (Entry R)) (e : Entry R) (r : Result A AskFault) (seen before : List (Entry R)) (numbers : List ℕ) → GoesOn before numbers log → Ends log e r seen → OnErr r (GoesOn before numbers seen)
  goes_on log e (Ok x) seen before numbers g ends = tt
  goes_on log e (Err f) seen before numbers g ends = subst (GoesOn before numbers) (sym ends.1) g

  pub replies : (answer : O → R → A) (log : List (Entry R)) (b : Book O L R) (e : Entry R) (r : Result A AskFault) (seen : List (Entry R)) → BookOf after weigh stands start log b → IfOk r (λ x. x ≡ answer b.object e.request)
      → Ends log e r seen → IfOk r (λ x. reply_at after answer start seen ≡ Some x)
  replies answer log b e (Ok x) seen book is ends =
      ap (reply_at after answer start) ends.0 ∙ (reply_last after answer start log e ∙ ap (λ z. Some z) (ap (λ s. answer s e.request) (sym book.object) ∙ sym is))
  replies answer log b e (Err f) seen book is ends = tt

  pub stays_within : (limit : ℕ) (log : List (Entry R)) (b : Book O L R) (e : Entry R) (r : Result A AskFault) (seen : List (Entry R)) → BookOf after weigh stands start log b → OnOk r (b.weight + weigh e.request ≤ limit)
      → Ends log e r seen → OnOk r (weight_of weigh seen ≤ limit)
  stays_within limit log b e (Ok x) seen book within ends =
      let w = book.weight in let s = ap (weight_of weigh) ends.0 in let m = weight_more weigh log (e ∷ []) in omega arith
  stays_within limit log b e (Err f) seen book within ends = tt

  pub not_made : (limit : ℕ) (log : List (Entry R)) (b : Book O L R) (e : Entry R) (r : Result A AskFault) (seen : List (Entry R)) → BookOf after weigh stands start log b → IfErr r (NotMade limit b.weight (weigh e.request))
      → Ends log e r seen → IfErr r (NotMade limit (weight_of weigh seen) (weigh e.request))
  not_made limit log b e (Ok x) seen book fault ends = tt
  not_made limit log b e (Err f) seen book fault ends = subst (λ w. NotMade limit w (weigh e.request) f) (book.weight ∙ sym (ap (weight_of weigh) ends.1)) fault

module _ {R A : Type 0} where
  -- the pass's own requests are as before, with this one where it was answered
  pub own_more : (e : Entry R) (joined : List ℕ) (before seen : List (Entry R)) (r : Result A AskFault) → OnOk r (EndsWith before (e.pass ∷ joined) e seen)
      → OnOk r (requests_of e.pass seen ≡ requests_of e.pass before ++ e.request ∷ [])
  own_more e joined before seen (Ok x) one = requests_one joined before seen e one
  own_more e joined before seen (Err f) one = tt

  pub own_same : (number : ℕ) (joined : List ℕ) (before seen : List (Entry R)) (r : Result A AskFault) → OnErr r (GoesOn before (number ∷ joined) seen)
      → OnErr r (requests_of number seen ≡ requests_of number before)
  own_same number joined before seen (Ok x) others = tt
  own_same number joined before seen (Err f) others = requests_same number joined before seen others
