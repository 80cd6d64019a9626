-- What became of the connections that a door gave, one after another.
use Rattle.std.specs.Prelude.{◌≡◌, ℕ, ◌+◌, Bool, true, false, List, [], ◌∷◌, ◌++◌, length, Option, Some, IfSome, option_map}
use Rattle.link_port.specs.Faults.{Rises}
use Rattle.session_core.specs.declared.stops.Stop.{Stop}
use Rattle.link_doors.specs.Accepts.{Takes}
use Rattle.link_doors.specs.Visits.{Visit, with_visit}
use Rattle.service_desk.specs.Seats.{Seat}
use Rattle.door_serving.specs.Conversations.{Conversation}
use Rattle.door_serving.specs.Stops.{leave_of}

-- how the session of one connection takes what answers it from one state to another: the bytes left on the connection
-- before and after, those written, its stop, and the number of entries that it made in a history
abbrev pub Attends : Type 0 → Type 1
Attends A = A → A → Option (List ℕ) → Option (List ℕ) → Option (List ℕ) → Option (List ℕ) → Stop → ℕ → Type 0

-- a connection was given with these bytes left and written, its session stopped so, and it was given back so
pub record Attended {A : Type 0} (attends : Attends A) (a b : A) (left written : Option (List ℕ)) (visit : Visit) : Type 0 where
  pub why : Stop
  pub session : attends a b left visit.left written visit.written why visit.entries
  pub how : visit.how ≡ leave_of why

-- these connections were attended one after another, and each was given back once its session had stopped
abbrev pub AttendedInOrder : {A C : Type 0} → Attends A → (C → Option (List ℕ)) → (C → Option (List ℕ)) → A → List C → List Visit → A → Type 0
AttendedInOrder attends left written a [] [] b = b ≡ a
AttendedInOrder attends left written a [] (visit ∷ visits) b = ⊥
AttendedInOrder attends left written a (conn ∷ conns) [] b = ⊥
AttendedInOrder {A} attends left written a (conn ∷ conns) (visit ∷ visits) b =
    (mid : A) × Attended attends a mid (left conn) (written conn) visit × AttendedInOrder attends left written mid conns visits b

-- a door gave these connections one after another: each was the first of those still to come, where these were told
abbrev pub GaveInOrder : {C : Type 0} → Option (List C) → List C → Option (List C) → Type 0
GaveInOrder coming [] coming' = coming' ≡ coming
GaveInOrder {C} coming (conn ∷ conns) coming' =
    (mid : Option (List C)) × IfSome coming (λ all. Takes all mid (Some conn)) × GaveInOrder mid conns coming'

-- a door gave so many connections, all of which were attended and given back, and stand behind those given back before,
-- where these are told
pub record ServedDoor {A C : Type 0} (attends : Attends A) (left written : C → Option (List ℕ)) (a b : A)
    (coming coming' : Option (List C)) (back back' : Option (List Visit)) (number : ℕ) : Type 0 where
  pub conns : List C
  pub visits : List Visit
  pub last : Option (List C)
  pub count : length conns ≡ number
  pub gave : GaveInOrder coming conns last
  pub rest : IfSome last (λ later. coming' ≡ Some later)
  pub returned : back' ≡ option_map (λ (before : List Visit). before ++ visits) back
  pub attended : AttendedInOrder attends left written a conns visits b

-- a worker ends where all connections that its door states were given, or where its door failed
abbrev pub Ended : Bool → Option ℕ → ℕ → ℕ → ℕ → Type 0
Ended true stated given faults faults' = Rises faults faults'
Ended false stated given faults faults' = (stated ≡ Some given) × (faults' ≡ faults)

-- a seat attends a connection by answering its calls, and makes so many entries
abbrev pub AttendsSeat : Attends Seat
AttendsSeat a b left left' written written' why entries = Conversation a b left left' written written' why × (b.made ≡ a.made + entries)

-- one connection was attended and given back: it stands behind those given back before, where these are told
pub record AttendedAndBack {A : Type 0} (attends : Attends A) (a b : A) (left written : Option (List ℕ)) (back back' : Option (List Visit)) : Type 0 where
  pub visit : Visit
  pub attended : Attended attends a b left written visit
  pub returned : back' ≡ with_visit back visit
