-- The history of a desk is the list of its entries, in the order of the turns.
use Rattle.std.specs.Prelude.{◌≡◌, ℕ, eqb, leb, cond, length, List, [], ◌∷◌, ◌++◌, map, filter, sum_by, All, Contains, Option, Some, None}
use Rattle.turn_desk.specs.declared.objects.Entry.{Entry}

-- the object after the requests of all entries, in order
abbrev pub state_of : {O R : Type 0} → (O → R → O) → O → List (Entry R) → O
state_of after start [] = start
state_of after start (e ∷ es) = state_of after (after start e.request) es

-- the reply to the last entry's request, in the state before it
abbrev pub reply_at : {O R A : Type 0} → (O → R → O) → (O → R → A) → O → List (Entry R) → Option A
reply_at after answer start [] = None
reply_at after answer start (e ∷ []) = Some (answer start e.request)
reply_at after answer start (e ∷ f ∷ es) = reply_at after answer (after start e.request) (f ∷ es)

-- this is the reply at the end of the history
abbrev pub IsReply : {O R A : Type 0} → (O → R → O) → (O → R → A) → O → List (Entry R) → A → Type 0
IsReply after answer start history reply = reply_at after answer start history ≡ Some reply

-- the requests of the entries of one pass, in order
abbrev pub requests_of : {R : Type 0} → ℕ → List (Entry R) → List R
requests_of number history = map (λ e. e.request) (filter (λ e. eqb e.pass number) history)

-- what all requests weigh
abbrev pub weight_of : {R : Type 0} → (R → ℕ) → List (Entry R) → ℕ
weight_of weigh history = sum_by (λ e. weigh e.request) history

-- every request is good for the object that the history begins with
abbrev pub AllGood : {O R : Type 0} → (O → R → Type 0) → O → List (Entry R) → Type 0
AllGood good start history = All (λ e. good start e.request) history

-- no entry is of one of these passes
abbrev pub NoneOf : {R : Type 0} → List ℕ → List (Entry R) → Type 0
NoneOf numbers history = All (λ e. ¬ Contains numbers e.pass) history

-- the history goes on from what was seen, by entries of other passes than these
abbrev pub GoesOn : {R : Type 0} → List (Entry R) → List ℕ → List (Entry R) → Type 0
GoesOn seen numbers history = (rest : List (Entry _)) × (history ≡ seen ++ rest) × NoneOf numbers rest

-- the longer of two histories
abbrev pub longer : {R : Type 0} → List (Entry R) → List (Entry R) → List (Entry R)
longer one other = cond (leb (length one) (length other)) other one

-- no number is in both lists
abbrev pub Apart : List ℕ → List ℕ → Type 0
Apart one other = (n : ℕ) → Contains one n → ¬ Contains other n
