-- One call on an open link: what is sent, taken and passed on, and how it ends.
use Rattle.std.specs.Prelude.{◌≡◌, ◌⊎◌, ℕ, ◌+◌, ◌-◌, ◌<◌, ◌≤◌, true, List, [], ◌∷◌, ◌++◌, length, map, take, ⊤, Option, None, Some, IfSome}
use Rattle.std.specs.Io.KnownBytes.{Appends, Consumes}
use Rattle.std.specs.List.{flat_map, concat}
use Rattle.message_frame.specs.Pieces.{ended}
use Rattle.link_reach.specs.declared.deeds.Deed.{Deed}
use Rattle.link_reach.specs.declared.deeds.Deed.TheVariants as deed
use Rattle.link_reach.specs.Deeds.{Gains}
use Rattle.link_reach.specs.Worlds.{Said, Spot, sends}
use Rattle.link_exchange.specs.Asked.{Asked}
use Rattle.link_exchange.specs.declared.ends.AskEnd.{AskEnd}
use Rattle.link_exchange.specs.declared.ends.AskEnd.TheVariants.{Ended, Long, LinkFault, WriteFault, Memory}
use Rattle.link_exchange.specs.Limits.{most_of_link}
use Rattle.link_exchange.specs.Gathering.{IsLast}
use Rattle.link_exchange.specs.Passing.{AwaitsMore, Prints}
use Rattle.link_exchange.specs.Stands.{Unread, Stand}
use Rattle.link_exchange.specs.Taken.{takes, taken, taken_on, lines}

-- these pieces were sent on the link, one after another
abbrev pub sends_on : ℕ → List (List ℕ) → List Deed
sends_on link pieces = map (λ (piece : List ℕ). deed.Sent link piece) pieces

-- these were taken from it
abbrev pub takes_on : ℕ → List (List ℕ) → List Deed
takes_on link pieces = map (λ (piece : List ℕ). deed.Took link piece) pieces

-- the end of the link was found exactly where the call ended with it
abbrev pub found_end : ℕ → AskEnd → List Deed
found_end link (Ended index) = deed.Ended link ∷ []
found_end link _ = []

-- where the link ended, all that was left on it was taken
abbrev pub TakesAll : AskEnd → Option (List ℕ) → List ℕ → Type 0
TakesAll (Ended index) left fed = IfSome left (λ bytes. fed ≡ bytes)
TakesAll _ left fed = ⊤

-- where the link is too long, as many bytes were taken from it as are taken from one link
abbrev pub IsFull : AskEnd → ℕ → Type 0
IsFull Long total = total ≡ most_of_link
IsFull _ total = ⊤

-- each piece was needed: what was held, and taken before the last piece, awaits more
abbrev pub AreNeeded : Asked → Unread → List (List ℕ) → Type 0
AreNeeded asking inbox fed = (earlier : List (List ℕ)) (last : List ℕ) → fed ≡ earlier ++ last ∷ []
    → AwaitsMore (taken_on asking (inbox.taken + length (concat earlier)) 0 (inbox.held ++ concat earlier)).end

-- so far these pieces were taken from the link, and these payloads passed on; the message of this index comes next
pub record Taking (asking : Asked) (link index : ℕ) (old new : Stand) : Type 0 where
  pub fed : List (List ℕ)
  pub payloads : List (List ℕ)
  pub log : Gains old.log new.log (takes_on link fed)
  pub consumed : Consumes old.left new.left (concat fed)
  pub needed : AreNeeded asking old.inbox fed
  pub counted : new.inbox.taken ≡ old.inbox.taken + length (concat fed)
  pub most : new.inbox.taken ≤ most_of_link
  pub below : index + length new.inbox.held ≤ new.inbox.taken
  pub wrote : Appends old.written new.written (lines asking.mark payloads)
  pub whole : old.inbox.held ++ concat fed ≡ flat_map ended payloads ++ new.inbox.held
  pub on : (total : ℕ) (bytes : List ℕ)
      → taken_on asking total 0 ((old.inbox.held ++ concat fed) ++ bytes) ≡ takes payloads (taken_on asking total index (new.inbox.held ++ bytes))

-- replies were taken on an open link, behind what was held: these pieces were taken from the link, and what was passed
-- on and the end are those of what is held and taken
pub record Took (asking : Asked) (link : ℕ) (old new : Stand) (end : AskEnd) : Type 0 where
  pub fed : List (List ℕ)
  pub printed : List ℕ
  pub log : Gains old.log new.log (takes_on link fed ++ found_end link end)
  pub consumed : Consumes old.left new.left (concat fed)
  pub needed : AreNeeded asking old.inbox fed
  pub counted : new.inbox.taken ≡ old.inbox.taken + length (concat fed)
  pub most : new.inbox.taken ≤ most_of_link
  pub wrote : Appends old.written new.written printed
  pub prints : Prints asking.mark end printed (taken_on asking new.inbox.taken 0 (old.inbox.held ++ concat fed))
  pub behind : IsLast end → old.inbox.held ++ concat fed
      ≡ flat_map ended (taken_on asking new.inbox.taken 0 (old.inbox.held ++ concat fed)).payloads ++ new.inbox.held
  pub all : TakesAll end old.left (concat fed)
  pub full : IsFull end new.inbox.taken

-- the reach failed, or memory was wanting
abbrev pub IsBroken : AskEnd → Type 0
IsBroken LinkFault = ⊤
IsBroken Memory = ⊤
IsBroken _ = ⊥

-- the text was sent whole, and what was passed on and the end are those of what is taken of these bytes
pub record CameTo (asking : Asked) (unsent bytes : List ℕ) (total : ℕ) (printed held' : List ℕ) (end : AskEnd) : Type 0 where
  pub whole : unsent ≡ []
  pub prints : Prints asking.mark end printed (taken asking total bytes)
  pub behind : IsLast end → bytes ≡ flat_map ended (taken asking total bytes).payloads ++ held'

-- a part of the text could not be sent; then nothing was taken or passed on
pub record BrokeOff (unsent : List ℕ) (fed : List (List ℕ)) (printed : List ℕ) (end : AskEnd) : Type 0 where
  pub part : 0 < length unsent
  pub none_taken : fed ≡ []
  pub none_passed : printed ≡ []
  pub why : IsBroken end

-- one call was made on an open link: its text was sent once, these pieces were taken from the link, as many as were needed,
-- and nothing else was done; a `oneway` call takes nothing. What was passed on and the end are those of what is held and taken, as `taken` has
-- them, unless a part of the text could not be sent
pub record Exchanged (asking : Asked) (text : List ℕ) (link : ℕ) (old new : Stand) (end : AskEnd) : Type 0 where
  pub sent : List (List ℕ)
  pub unsent : List ℕ
  pub fed : List (List ℕ)
  pub printed : List ℕ
  pub text_is : text ≡ concat sent ++ unsent
  pub log : Gains old.log new.log (sends_on link sent ++ (takes_on link fed ++ found_end link end))
  pub silent : asking.oneway ≡ true → fed ≡ []
  pub needed : AreNeeded asking old.inbox fed
  pub counted : new.inbox.taken ≡ old.inbox.taken + length (concat fed)
  pub wrote : Appends old.written new.written printed
  pub comes : CameTo asking unsent (old.inbox.held ++ concat fed) new.inbox.taken printed new.inbox.held end
      ⊎ BrokeOff unsent fed printed end

-- the end tells what peers said: nothing failed, and memory sufficed
abbrev pub IsTold : AskEnd → Type 0
IsTold LinkFault = ⊥
IsTold WriteFault = ⊥
IsTold Memory = ⊥
IsTold _ = ⊤

-- what is taken at most of the bytes left on a link from which so many were taken already
abbrev pub within_most : ℕ → List ℕ → List ℕ
within_most taken left = take (most_of_link - taken) left

-- what was passed on, and the end, are those of what is held and left on the link
abbrev pub TakesLeft : Asked → Unread → List ℕ → Option (List ℕ) → Option (List ℕ) → AskEnd → Type 0
TakesLeft asking inbox left written written' end =
    let bytes = within_most inbox.taken left in
    let there = taken asking (inbox.taken + length bytes) (inbox.held ++ bytes) in
    Appends written written' (lines asking.mark there.payloads) × (end ≡ there.end)

-- where the world is told: it is the world behind the text, and what was passed on and the end are those of what its
-- peer says to the text
abbrev pub ExchangedIn : {W : Type 0} → (W → List ℕ → List ℕ → Said W) → Asked → List ℕ → Unread → Option (Spot W) → Option W
    → Option (List ℕ) → Option (List ℕ) → AskEnd → Type 0
ExchangedIn says asking text inbox None world' written written' end = ⊤
ExchangedIn says asking text inbox (Some at) world' written written' end =
    (world' ≡ Some (sends says text at).world) × TakesLeft asking inbox (sends says text at).link.left written written' end
