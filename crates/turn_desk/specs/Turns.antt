-- The rule of the table: what holds between any two steps, and what each step tells the one that takes it.
-- Word 0 is the next ticket, word 1 the ticket that is served, and word 2 the next number of a pass. Slot 0 is the place of the book.
use Rattle.std.specs.Prelude.{◌≡◌, ◌≢◌, ◌⊎◌, ℕ, ◌+◌, ◌-◌, ◌^◌, ◌<◌, ◌≤◌, List, [], ◌∷◌, ◌++◌, All, Contains, Option, Some, None}
use Rattle.std.specs.declared.snapshot.Snapshot.{Snapshot}
use mathlib.Core.Option.{some}
use lib.ListN.{get_elem?}
use Rattle.atomic_table.specs.Table.{State, Me, Step}
use Rattle.turn_desk.specs.declared.objects.Entry.{Entry}
use Rattle.turn_desk.specs.declared.views.Book.{Book}
use Rattle.turn_desk.specs.declared.views.Stage.{Stage}
use Rattle.turn_desk.specs.declared.views.Stage.TheVariants.{Gone, Idle, Waits, Has, Numbered, Joined}
use Rattle.turn_desk.specs.declared.views.View.{View}
use Rattle.turn_desk.specs.Histories.{state_of, weight_of, AllGood, GoesOn, longer, Apart}

-- what all views have of something, added up
abbrev pub total : {V : Type 0} → (V → ℕ) → List V → ℕ
total f [] = 0
total f (v ∷ vs) = f v + total f vs

-- The history that all have made so far, the three words, the seat that drew each ticket, and the seat that carries each number.
pub record Moment (R : Type 0) : Type 0 where
  pub log : List (Entry R)
  pub drawn : ℕ
  pub serving : ℕ
  pub numbers : ℕ
  pub owner : ℕ → ℕ
  pub holder : ℕ → ℕ

abbrev pub Sat : Type 0 → Type 0 → Type 0 → Type 0
Sat O L R = Me (Option (Book O L R)) (View O R)

abbrev pub At : Type 0 → Type 0 → Type 0 → Type 0
At O L R = Step (Option (Book O L R))

-- what became of two passes that were joined
pub record Settled {R : Type 0} (one other : List (Entry R)) (numbers others : List ℕ) : Type 0 where
  pub first : GoesOn one numbers (longer one other)
  pub second : GoesOn other others (longer one other)
  pub apart : Apart numbers others

module _ {R : Type 0} where
  abbrev pub InTurn : Stage R → Type 0
  InTurn (Has t log) = Unit {0}
  InTurn _ = ⊥

  -- the pass drew the ticket t, and has not passed it on
  abbrev pub HasTicket : Stage R → ℕ → Type 0
  HasTicket (Waits u) t = u ≡ t
  HasTicket (Has u log) t = u ≡ t
  HasTicket _ t = ⊥

  abbrev pub ticket_in : Stage R → ℕ
  ticket_in (Waits t) = t
  ticket_in _ = 0

  abbrev pub number_in : Stage R → ℕ
  number_in (Numbered n) = n
  number_in _ = 0

  -- the history that the book had when it was taken
  abbrev pub history_in : Stage R → List (Entry R)
  history_in (Has t log) = log
  history_in _ = []

  abbrev pub SettledAt : Stage R → Type 0
  SettledAt (Joined one other numbers others) = Settled one other numbers others
  SettledAt _ = Unit {0}

  -- what a turn has added, an entry or nothing
  abbrev pub entries_in : Option (Snapshot (Entry R)) → List (Entry R)
  entries_in None = []
  entries_in (Some e) = e.value ∷ []

module _ {O R : Type 0} where
  -- its own number, and those of the passes joined into it
  abbrev pub numbers_of : View O R → List ℕ
  numbers_of v = v.number ∷ v.joined

  abbrev pub asks_of : View O R → ℕ
  asks_of v = v.left + v.spent

  abbrev pub spent_of : View O R → ℕ
  spent_of v = v.spent

  -- a pass that was not joined into another one
  pub record Lives (start : O) (now : Moment R) (seat : ℕ) (v : View O R) : Type 0 where
    pub begun : v.start ≡ Some start
    pub carried : (n : ℕ) → Contains (numbers_of v) n → (n < now.numbers) × (now.holder n ≡ seat)
    pub front : GoesOn v.seen (numbers_of v) now.log

  -- the pass drew the ticket t, which is not served yet or is served now
  pub record Queues (now : Moment R) (seat : ℕ) (v : View O R) (t : ℕ) : Type 0 where
    pub ahead : now.serving ≤ t
    pub below : t < now.drawn
    pub mine : now.owner t ≡ seat
    pub paid : 0 < v.spent

  -- no pass carries the number n yet
  pub record Fresh (now : Moment R) (seat : ℕ) (v : View O R) (n : ℕ) : Type 0 where
    pub below : n < now.numbers
    pub mine : now.holder n ≡ seat
    pub other : ¬ Contains (numbers_of v) n
    pub unused : All (λ e. e.pass ≢ n) now.log

  -- two passes that became one
  pub record Both (now : Moment R) (v : View O R) (one other : List (Entry R)) (numbers others : List ℕ) : Type 0 where
    pub within : (n : ℕ) → Contains numbers n → Contains (numbers_of v) n
    pub within_too : (n : ℕ) → Contains others n → Contains (numbers_of v) n
    pub longest : v.seen ≡ longer one other
    pub first : GoesOn one numbers now.log
    pub second : GoesOn other others now.log
    pub apart : Apart numbers others

module _ {O R : Type 0} (start : O) (now : Moment R) (seat : ℕ) (v : View O R) where
  abbrev pub KnowsAt : Stage R → Type 0
  KnowsAt Gone = (v.left ≡ 0) × (v.spent ≡ 0)
  KnowsAt Idle = Lives start now seat v
  KnowsAt (Waits t) = Lives start now seat v × Queues now seat v t
  KnowsAt (Has t log) = Lives start now seat v × Queues now seat v t × (t ≡ now.serving) × (log ≡ now.log)
  KnowsAt (Numbered n) = Lives start now seat v × Fresh now seat v n
  KnowsAt (Joined one other numbers others) = Lives start now seat v × Both now v one other numbers others

module _ {O R : Type 0} where
  abbrev pub Knows : O → Moment R → ℕ → View O R → Type 0
  Knows start now seat v = KnowsAt start now seat v v.stage

  -- a seat that carries the number n has spent an ask
  abbrev pub Signed : List (View O R) → ℕ → ℕ → Type 0
  Signed views seat n = (v : View O R) × (get_elem? views seat ≡ some v) × Contains (numbers_of v) n × (0 < v.spent)

  -- a seat has the ticket t in hand
  abbrev pub Held : List (View O R) → ℕ → ℕ → Type 0
  Held views seat t = (v : View O R) × (get_elem? views seat ≡ some v) × HasTicket v.stage t

module _ {O L R : Type 0} where
  -- the book of a history: the object in its state, a ledger that stands for the history, and its weight
  pub record BookOf (after : O → R → O) (weigh : R → ℕ) (stands : L → List (Entry R) → Type 0) (start : O) (log : List (Entry R)) (b : Book O L R) : Type 0 where
    pub object : b.object ≡ state_of after start log
    pub ledger : stands b.ledger log
    pub weight : b.weight ≡ weight_of weigh log

  -- a book after one more entry
  pub record Grown (after : O → R → O) (weigh : R → ℕ) (stands : L → List (Entry R) → Type 0) (b : Book O L R) (e : Entry R) (c : Book O L R) : Type 0 where
    pub object : c.object ≡ after b.object e.request
    pub ledger : (log : List (Entry R)) → stands b.ledger log → stands c.ledger (log ++ e ∷ [])
    pub weight : c.weight ≡ b.weight + weigh e.request
    pub added : entries_in c.added ≡ e ∷ []

  -- a book after a turn that added nothing
  pub record Unmoved (stands : L → List (Entry R) → Type 0) (b c : Book O L R) : Type 0 where
    pub object : c.object ≡ b.object
    pub ledger : (log : List (Entry R)) → stands b.ledger log → stands c.ledger log
    pub weight : c.weight ≡ b.weight
    pub added : entries_in c.added ≡ []

  -- the rule
  pub record Holds (good : O → R → Type 0) (after : O → R → O) (weigh : R → ℕ) (stands : L → List (Entry R) → Type 0) (start : O) (s : State (Option (Book O L R)) (View O R)) : Type 0 where
    pub now : Moment R
    pub words : s.words ≡ now.drawn ∷ now.serving ∷ now.numbers ∷ []
    pub good_all : AllGood good start now.log
    pub named : All (λ e. e.pass < now.numbers) now.log
    pub signed : All (λ e. Signed s.views (now.holder e.pass) e.pass) now.log
    pub asks : total asks_of s.views ≡ 2 ^ 62
    pub room : now.drawn + now.numbers ≤ total spent_of s.views + 1
    pub behind : now.serving ≤ now.drawn
    pub held : (t : ℕ) → now.serving ≤ t → t < now.drawn → Held s.views (now.owner t) t
    pub place : ((b : Book O L R) × (get_elem? s.homes 0 ≡ some (some (Some b))) × BookOf after weigh stands start now.log b)
        ⊎ ((v : View O R) × (get_elem? s.views (now.owner now.serving) ≡ some v) × InTurn v.stage)
    pub each : (seat : ℕ) (v : View O R) → get_elem? s.views seat ≡ some v → Knows start now seat v

module _ {O R : Type 0} where
  abbrev pub first_view : O → View O R
  first_view start = record { start = Some start; stage = Idle; number = 0; joined = []; left = 2 ^ 62; spent = 0; seen = [] }

  abbrev pub with_book : ℕ → List (Entry R) → View O R → View O R
  with_book t log v = record v { stage = Has t log }

  abbrev pub back_from : List (Entry R) → View O R → View O R
  back_from history v = record v { stage = Idle; seen = history }

  -- after an ask
  abbrev pub asked_once : List (Entry R) → View O R → View O R
  asked_once history v = record v { left = v.left - 1; spent = v.spent + 1; seen = history }

  -- what was seen is good
  abbrev pub KnowsGood : (O → R → Type 0) → View O R → Type 0
  KnowsGood good v = (start : O) → v.start ≡ Some start → AllGood good start v.seen

  -- a split: the number in hand goes to a new pass, with so many asks and the history that was seen
  abbrev pub split_kept : ℕ → View O R → View O R
  split_kept amount v = record v { stage = Idle; left = v.left - amount }

  abbrev pub split_given : ℕ → View O R → View O R
  split_given amount v = record {
    start = v.start;
    stage = Idle;
    number = number_in v.stage;
    joined = [];
    left = amount;
    spent = 0;
    seen = v.seen;
  }

  -- a join: the numbers and the asks of both, and the longer history
  abbrev pub joined : View O R → View O R → View O R
  joined v w = record {
    start = v.start;
    stage = Joined v.seen w.seen (numbers_of v) (numbers_of w);
    number = v.number;
    joined = v.joined ++ numbers_of w;
    left = v.left + w.left;
    spent = v.spent + w.spent;
    seen = longer v.seen w.seen;
  }

  abbrev pub gone : View O R
  gone = record { start = None; stage = Gone; number = 0; joined = []; left = 0; spent = 0; seen = [] }

module _ {O L R : Type 0} where
  -- a ticket was drawn, for one ask
  abbrev pub drew : At O L R → Sat O L R → ℕ → Sat O L R → Type 0
  drew st m t m' = (m'.1 ≡ m.1) × (m'.0 ≡ record m.0 { stage = Waits t; left = m.0.left - 1; spent = m.0.spent + 1 })

  -- the book that was taken is that of a good history, which goes on from what was seen
  pub record Taken (good : O → R → Type 0) (after : O → R → O) (weigh : R → ℕ) (stands : L → List (Entry R) → Type 0) (start : O) (v : View O R) (b : Book O L R) (log : List (Entry R)) : Type 0 where
    pub front : GoesOn v.seen (numbers_of v) log
    pub good_all : AllGood good start log
    pub book : BookOf after weigh stands start log b

  -- where the ticket is served, the book was taken, and there is its history; else nothing has changed
  abbrev pub looked : (O → R → Type 0) → (O → R → O) → (R → ℕ) → (L → List (Entry R) → Type 0) → At O L R → Sat O L R → ℕ → Sat O L R → Type 0
  looked good after weigh stands st m n m' = (start : O) → m.0.start ≡ Some start
      → (n ≡ ticket_in m.0.stage → (b : Book O L R) × (log : List (Entry R)) × (m'.0 ≡ with_book n log m.0) × (m'.1 ≡ (0, Some b) ∷ []) × Taken good after weigh stands start m.0 b log)
      × (n ≢ ticket_in m.0.stage → m' ≡ m)

  -- the book c goes on from the history by what the pass n has added
  pub record Adds (good : O → R → Type 0) (after : O → R → O) (weigh : R → ℕ) (stands : L → List (Entry R) → Type 0) (start : O) (n : ℕ) (log : List (Entry R)) (c : Book O L R) : Type 0 where
    pub mine : All (λ e. e.pass ≡ n) (entries_in c.added)
    pub good_more : AllGood good start (entries_in c.added)
    pub book : BookOf after weigh stands start (log ++ entries_in c.added) c

  -- the pass in turn may give the book c back
  abbrev pub GoesHome : (O → R → Type 0) → (O → R → O) → (R → ℕ) → (L → List (Entry R) → Type 0) → O → View O R → Book O L R → Type 0
  GoesHome good after weigh stands start v c = (t : ℕ) × (log : List (Entry R)) × (v.stage ≡ Has t log) × Adds good after weigh stands start v.number log c

  -- the history that the pass has seen once it has given the book c back
  abbrev pub history_with : View O R → Book O L R → List (Entry R)
  history_with v c = history_in v.stage ++ entries_in c.added

  -- the book went home, and its history was seen
  abbrev pub passed : At O L R → Sat O L R → ℕ → Sat O L R → Type 0
  passed st m n m' = (c : Book O L R) → m.1 ≡ (0, Some c) ∷ [] → (m'.1 ≡ []) × (m'.0 ≡ back_from (history_with m.0 c) m.0)

  -- a number was drawn, for one ask
  abbrev pub numbered : (O → R → Type 0) → At O L R → Sat O L R → ℕ → Sat O L R → Type 0
  numbered good st m n m' = (m'.1 ≡ m.1) × (m'.0 ≡ record m.0 { stage = Numbered n; left = m.0.left - 1; spent = m.0.spent + 1 }) × (n ≤ 2 ^ 62) × (¬ Contains (numbers_of m.0) n) × All (λ e. e.pass ≢ n) m.0.seen × KnowsGood good m.0

  -- the two that were joined are one
  abbrev pub settled : (O → R → Type 0) → At O L R → Sat O L R → ℕ → Sat O L R → Type 0
  settled good st m n m' = (m'.1 ≡ m.1) × (m'.0 ≡ record m.0 { stage = Idle }) × SettledAt m.0.stage × (m.0.left + m.0.spent ≤ 2 ^ 62) × KnowsGood good m.0

  -- nothing has changed
  abbrev pub recalled : (O → R → Type 0) → At O L R → Sat O L R → ℕ → Sat O L R → Type 0
  recalled good st m n m' = (m' ≡ m) × KnowsGood good m.0
