-- What is passed on of the bytes held, what is taken from the link, and what of its text a call sends.
use Rattle.std.specs.Prelude.{◌≡◌, ◌⊎◌, ℕ, ◌+◌, ◌<◌, ◌≤◌, List, [], ◌∷◌, ◌++◌, length, map, ⊤, Option, Some, Result, Ok, Err}
use Rattle.std.specs.Io.KnownBytes.{Appends, Consumes, IsAtEnd}
use Rattle.std.specs.List.{flat_map, concat}
use Rattle.link_port.specs.Faults.{Rises}
use Rattle.message_frame.specs.Held.{Held}
use Rattle.message_frame.specs.Pieces.{ended}
use Rattle.link_reach.specs.declared.deeds.Deed.{Deed}
use Rattle.link_reach.specs.declared.deeds.Deed.TheVariants as deed
use Rattle.link_reach.specs.declared.deeds.DialFault.{DialFault}
use Rattle.link_reach.specs.declared.deeds.DialFault.TheVariants as dial_fault
use Rattle.link_reach.specs.Deeds.{Gains}
use Rattle.link_exchange.specs.Asked.{Asked}
use Rattle.link_exchange.specs.declared.ends.AskEnd.{AskEnd}
use Rattle.link_exchange.specs.declared.ends.AskEnd.TheVariants.{Ended, Long, LinkFault, WriteFault, Memory}
use Rattle.link_exchange.specs.Limits.{most_of_reply, most_of_take, most_of_link}
use Rattle.link_exchange.specs.Gathering.{IsLast, IsSettled}
use Rattle.link_exchange.specs.Stands.{Unread, Stand}
use Rattle.link_exchange.specs.Taken.{Taken, takes, taken_on, lines}

-- what an inbox keeps true: its frames hold a reply and one take more, and what is held was taken
pub record IsKept (frames : Held) (buffer : ℕ) (taken : ℕ) : Type 0 where
  pub limit : frames.limit ≡ most_of_reply + most_of_take
  pub room : buffer ≡ most_of_take
  pub counted : length frames.bytes ≤ taken
  pub most : taken ≤ most_of_link

-- a front of all
abbrev pub IsFront : List ℕ → List ℕ → Type 0
IsFront part all = (rest : List ℕ) × (all ≡ part ++ rest)

-- no message that was taken ended the call
abbrev pub AwaitsMore : AskEnd → Type 0
AwaitsMore (Ended index) = ⊤
AwaitsMore Long = ⊤
AwaitsMore _ = ⊥

-- what was passed on, and the end, are those of what is taken. After a fault of the reach it is all that is passed on,
-- and no message ended the call; after a fault of the sink, or where memory was wanting, it is a front of that
abbrev pub Prints : ℕ → AskEnd → List ℕ → Taken → Type 0
Prints mark LinkFault printed there = (printed ≡ lines mark there.payloads) × AwaitsMore there.end
Prints mark WriteFault printed there = IsFront printed (lines mark there.payloads)
Prints mark Memory printed there = IsFront printed (lines mark there.payloads)
Prints mark end printed there = (printed ≡ lines mark there.payloads) × (end ≡ there.end)

-- an end that the bytes held bring, or the sink, or want of memory
abbrev pub IsOwn : AskEnd → Type 0
IsOwn (Ended index) = ⊥
IsOwn Long = ⊥
IsOwn LinkFault = ⊥
IsOwn _ = ⊤

-- a count of faults rose exactly where the end is that fault
abbrev pub LinkFaults : AskEnd → ℕ → ℕ → Type 0
LinkFaults LinkFault before now = Rises before now
LinkFaults _ before now = now ≡ before

abbrev pub WriteFaults : AskEnd → ℕ → ℕ → Type 0
WriteFaults WriteFault before now = Rises before now
WriteFaults _ before now = now ≡ before

-- the lines gathered were put whole, and the call ends as it was found to end
pub record LinesPut (end : Option AskEnd) (all : List ℕ) (written written' : Option (List ℕ)) (faults faults' : ℕ) (result : Option AskEnd) : Type 0 where
  pub same : result ≡ end
  pub wrote : Appends written written' all
  pub sound : faults' ≡ faults

-- the sink failed, and a front of them was put
pub record LinesBroke (all : List ℕ) (written written' : Option (List ℕ)) (faults faults' : ℕ) (result : Option AskEnd) : Type 0 where
  pub front : List ℕ
  pub is : result ≡ Some WriteFault
  pub part : IsFront front all
  pub wrote : Appends written written' front
  pub fault : Rises faults faults'

abbrev pub PutsLines : Option AskEnd → List ℕ → Option (List ℕ) → Option (List ℕ) → ℕ → ℕ → Option AskEnd → Type 0
PutsLines end all written written' faults faults' result =
    LinesPut end all written written' faults faults' result ⊎ LinesBroke all written written' faults faults' result

-- all whole messages held were passed on, and the call goes on
pub record PassesOn (asking : Asked) (index index' : ℕ) (old new : Unread) (written written' : Option (List ℕ)) : Type 0 where
  pub payloads : List (List ℕ)
  pub wrote : Appends written written' (lines asking.mark payloads)
  pub whole : old.held ≡ flat_map ended payloads ++ new.held
  pub counted : index' + length new.held ≤ index + length old.held
  pub same : new.taken ≡ old.taken
  pub settled : IsSettled new.held
  pub on : (total : ℕ) (bytes : List ℕ)
      → taken_on asking total index (old.held ++ bytes) ≡ takes payloads (taken_on asking total index' (new.held ++ bytes))

-- the call ended with what is held
pub record PassEnds (asking : Asked) (index : ℕ) (old new : Unread) (written written' : Option (List ℕ)) (end : AskEnd) : Type 0 where
  pub printed : List ℕ
  pub wrote : Appends written written' printed
  pub same : new.taken ≡ old.taken
  pub prints : (total : ℕ) (bytes : List ℕ) → Prints asking.mark end printed (taken_on asking total index (old.held ++ bytes))
  pub behind : IsLast end → (total : ℕ) (bytes : List ℕ)
      → old.held ≡ flat_map ended (taken_on asking total index (old.held ++ bytes)).payloads ++ new.held
  pub own : IsOwn end

-- more was taken from the link and is held
pub record TakesMore (link : ℕ) (old new : Stand) : Type 0 where
  pub piece : List ℕ
  pub some : 0 < length piece
  pub log : Gains old.log new.log (deed.Took link piece ∷ [])
  pub consumed : Consumes old.left new.left piece
  pub inbox : new.inbox ≡ record { held = old.inbox.held ++ piece; taken = old.inbox.taken + length piece }
  pub most : new.inbox.taken ≤ most_of_link

-- nothing was taken
pub record TookNone (old new : Stand) (gained : List Deed) : Type 0 where
  pub log : Gains old.log new.log gained
  pub inbox : new.inbox ≡ old.inbox

-- nothing more was taken from the link, for this reason
abbrev pub TakesNoMore : ℕ → ℕ → Stand → Stand → AskEnd → Type 0
TakesNoMore link index old new (Ended at) =
    (at ≡ index) × (old.inbox.taken < most_of_link) × IsAtEnd old.left × Consumes old.left new.left [] × TookNone old new (deed.Ended link ∷ [])
TakesNoMore link index old new Long = (old.inbox.taken ≡ most_of_link) × (new.left ≡ old.left) × TookNone old new []
TakesNoMore link index old new LinkFault = (old.inbox.taken < most_of_link) × (new.left ≡ old.left) × TookNone old new []
TakesNoMore link index old new Memory = (new.left ≡ old.left) × TookNone old new []
TakesNoMore link index old new _ = ⊥

-- how a call ends where a call of the reach did not do its work
abbrev pub link_end : DialFault → AskEnd
link_end dial_fault.Failed = LinkFault
link_end dial_fault.Memory = Memory

-- these pieces of the text were sent on the link, one after another, and nothing else was done
pub record SendsPieces (link : ℕ) (text : List ℕ) (before now : Option (List Deed)) (unsent : List ℕ) : Type 0 where
  pub sent : List (List ℕ)
  pub whole : text ≡ concat sent ++ unsent
  pub log : Gains before now (map (λ (piece : List ℕ). deed.Sent link piece) sent)

-- the text was sent whole, or a part of it was left
abbrev pub SendsAll : ℕ → List ℕ → Option (List Deed) → Option (List Deed) → Result (Unit {0}) DialFault → Type 0
SendsAll link text log log' (Ok done) = SendsPieces link text log log' []
SendsAll link text log log' (Err fault) = (unsent : List ℕ) × (0 < length unsent) × SendsPieces link text log log' unsent
