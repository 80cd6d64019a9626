-- A reach in memory, and what each of its calls does, exactly.
use Rattle.std.specs.Prelude.{◌≡◌, ◌<◌, ℕ, ◌+◌, ◌==◌, Bool, true, false, if◌then◌else◌, List, [], ◌∷◌, ◌++◌, length, take, drop, min}
use Rattle.std.specs.Prelude.{Option, Some, None, IsSome, slice_get, slice_set, Result, Ok, Err}
use Rattle.link_port.specs.Planned.{Calls, is_failing, after_call}
use Rattle.link_port.specs.InMemory.{SourceInMemory, SinkInMemory}
use Rattle.link_reach.specs.declared.deeds.Deed.{Deed}
use Rattle.link_reach.specs.declared.deeds.Deed.TheVariants as deed
use Rattle.link_reach.specs.declared.deeds.DialFault.{DialFault}
use Rattle.link_reach.specs.declared.deeds.DialFault.TheVariants.{Failed, Memory}
use Rattle.link_reach.specs.declared.deeds.LinkNo.{LinkNo}
use Rattle.link_reach.specs.declared.deeds.LinkState.{LinkState}
use Rattle.link_reach.specs.declared.deeds.LinkState.TheVariants as state
use Rattle.link_reach.specs.declared.mem_links.MemLink.{MemLink}
use Rattle.link_reach.specs.declared.mem_links.MemLink.TheVariants as mem
use Rattle.link_reach.specs.Worlds.{Link}

pub record ReachInMemory : Type 0 where
  -- what the peers of the links still to be opened say
  pub coming : List (List ℕ)
  -- the links that were opened, by number
  pub links : List MemLink
  -- its calls that can fail
  pub calls : Calls
  -- what was done
  pub log : List Deed
  -- the two ends last given back
  pub freed : Option (SinkInMemory × SourceInMemory)

-- the state of a link
abbrev pub state_of : Option MemLink → LinkState
state_of None = state.Unopened
state_of (Some (mem.Open left)) = state.Open
state_of (Some mem.Closed) = state.Closed
state_of (Some mem.Halved) = state.Halved

-- what is told of a link: what is left on it while it is open
abbrev pub link_of : Option MemLink → Option Link
link_of (Some (mem.Open left)) = Some (record { address = []; part = []; left = left; reads = true })
link_of found = None

-- what the peer of the next link says, unless the call is one that fails
abbrev pub next_says : ReachInMemory → Option (List ℕ)
next_says reach = if is_failing reach.calls then None else slice_get reach.coming 0

-- behind a dial that this deed tells of
abbrev pub after_dial : Deed → Option (List ℕ) → ReachInMemory → ReachInMemory
after_dial deed (Some says) reach = record {
  coming = drop 1 reach.coming;
  links = reach.links ++ mem.Open says ∷ [];
  calls = after_call false reach.calls;
  log = reach.log ++ deed ∷ [];
  freed = reach.freed;
}
after_dial deed None reach = record reach { calls = after_call true reach.calls; log = reach.log ++ deed ∷ [] }

-- a dial: it fails exactly where its number is listed or no link is left. Each link is given the next number
abbrev pub DialsInMemory : ReachInMemory → Deed → Result LinkNo DialFault → ReachInMemory → Type 0
DialsInMemory old deed (Ok link) new = IsSome (next_says old) × (link.0 ≡ length old.links) × (new ≡ after_dial deed (next_says old) old)
DialsInMemory old deed (Err Failed) new = (next_says old ≡ None) × (new ≡ after_dial deed None old)
DialsInMemory old deed (Err Memory) new = new ≡ old

-- a call that did not fail put a deed into the log
abbrev pub after_deed : Deed → ReachInMemory → ReachInMemory
after_deed deed reach = record reach { calls = after_call false reach.calls; log = reach.log ++ deed ∷ [] }

-- a call that failed
abbrev pub after_fault : ReachInMemory → ReachInMemory
after_fault reach = record reach { calls = after_call true reach.calls }

-- a send takes the whole piece
abbrev pub SendsInMemory : ReachInMemory → ℕ → List ℕ → Result ℕ DialFault → ReachInMemory → Type 0
SendsInMemory old link piece (Ok n) new =
    (is_failing old.calls ≡ false) × (n ≡ length piece) × (new ≡ after_deed (deed.Sent link piece) old)
SendsInMemory old link piece (Err Failed) new = (is_failing old.calls ≡ true) × (new ≡ after_fault old)
SendsInMemory old link piece (Err Memory) new = new ≡ old

-- what is left on a link
abbrev pub left_on : Option MemLink → List ℕ
left_on (Some (mem.Open left)) = left
left_on found = []

-- a take gives as many bytes as the buffer holds
abbrev pub count : List ℕ → List ℕ → ℕ
count left into = min (length into) (length left)

-- a take found these bytes, or the end
abbrev pub found : ℕ → List ℕ → Deed
found link [] = deed.Ended link
found link (b ∷ bytes) = deed.Took link (b ∷ bytes)

-- behind a take of so many bytes
abbrev pub after_take : ℕ → ℕ → ReachInMemory → ReachInMemory
after_take link n reach = record reach { links = slice_set reach.links link (mem.Open (drop n (left_on (slice_get reach.links link)))) }

abbrev pub TakesInMemory : ReachInMemory → ℕ → List ℕ → Result ℕ DialFault → ReachInMemory → List ℕ → Type 0
TakesInMemory old link into (Ok n) new into' =
    let left = left_on (slice_get old.links link) in
    (is_failing old.calls ≡ false) × (n ≡ count left into) × (into' ≡ take n left ++ drop n into)
    × (new ≡ after_take link n (after_deed (found link (take n left)) old))
TakesInMemory old link into (Err Failed) new into' = (is_failing old.calls ≡ true) × (into' ≡ into) × (new ≡ after_fault old)
TakesInMemory old link into (Err Memory) new into' = (into' ≡ into) × (new ≡ old)

-- the link of a number is this one now
abbrev pub with_link : ℕ → MemLink → ReachInMemory → ReachInMemory
with_link link now reach = record reach { links = slice_set reach.links link now }

-- a new sink, and a source of what was left on a link
abbrev pub ends_of : List ℕ → SinkInMemory × SourceInMemory
ends_of left = (
  record { written = []; room = 1048576; sizes = []; calls = record { failing = []; number = 0; faults = 0 }; finished = false },
  record { left = left; sizes = []; calls = record { failing = []; number = 0; faults = 0 } },
)

abbrev pub HalvesInMemory : ReachInMemory → ℕ → Result (SinkInMemory × SourceInMemory) DialFault → ReachInMemory → Type 0
HalvesInMemory old link (Ok ends) new = (is_failing old.calls ≡ false) × (ends ≡ ends_of (left_on (slice_get old.links link)))
    × (new ≡ with_link link mem.Halved (record old { calls = after_call false old.calls }))
HalvesInMemory old link (Err Failed) new = (is_failing old.calls ≡ true) × (new ≡ with_link link mem.Closed (after_fault old))
HalvesInMemory old link (Err Memory) new = new ≡ old
