-- Links of the system, and what became of them.
use Rattle.std.specs.Prelude.{◌≡◌, false, Option, Some, None, Result, Ok, Err, is_none}
use Rattle.link_reach.specs.declared.deeds.LinkState.{LinkState}
use Rattle.link_reach.specs.declared.deeds.LinkState.TheVariants as state
use Rattle.socket_edges.specs.declared.links.RealLink.{RealLink}
use Rattle.socket_edges.specs.declared.links.RealLink.TheVariants.{Open, Closed, Halved}
use Rattle.socket_edges.specs.declared.link_ends.RealUp.{RealUp}
use Rattle.socket_edges.specs.declared.link_ends.RealDown.{RealDown}

-- what became of a link
abbrev pub state_of : Option RealLink → LinkState
state_of None = state.Unopened
state_of (Some (Open link)) = state.Open
state_of (Some Closed) = state.Closed
state_of (Some Halved) = state.Halved

-- the two ends of a link just taken out: no call of them failed, and the first one is not finished
abbrev pub AreNew : RealUp → RealDown → Type 0
AreNew up down = (is_none up.writer ≡ false) × (up.faults.count ≡ 0) × (down.faults.count ≡ 0)

-- what becomes of a link that is taken out: it stays open where that failed
abbrev pub after_halves : {T E : Type 0} → Result T E → LinkState
after_halves (Ok ends) = state.Halved
after_halves (Err why) = state.Open
