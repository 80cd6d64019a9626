-- A call by a resolver: where it goes, what is done there, what is printed, and how it ends (varlink.org, "Resolver").
use Rattle.std.specs.Prelude.{◌≡◌, ℕ, Bool, true, false, List, Option, Result, Ok, Err}
use Rattle.call_form.specs.declared.Call.{Call}
use Rattle.caller_form.specs.CallBytes.{call_bytes}
use Rattle.link_doors.specs.declared.addresses.Address.{Address}
use Rattle.link_reach.specs.Links.{AsBefore}
use Rattle.link_reach.specs.declared.deeds.Deed.{Deed}
use Rattle.link_reach.specs.declared.deeds.Deed.TheVariants as deed
use Rattle.link_exchange.specs.Passing.{LinkFaults, WriteFaults}
use Rattle.link_exchange.specs.declared.ends.AskEnd.{AskEnd}
use Rattle.link_exchange.specs.declared.ends.AskEnd.TheVariants as ask
use Rattle.client_core.specs.Calls.{Side, CallsOver, asking_of}
use Rattle.address_finding.specs.Finding.{Links, Finds}
use Rattle.address_finding.specs.declared.ends.ResolveEnd.{ResolveEnd}
use Rattle.address_finding.specs.declared.ends.ResolveEnd.TheVariants.{Missing, Bad, LinkFault, Memory}
use Rattle.resolver_core.specs.Goals.{goal_of}
use Rattle.resolver_core.specs.declared.goals.Goal.{Goal}
use Rattle.resolver_core.specs.declared.goals.Goal.TheVariants as goes
use Rattle.typed_call.specs.TypedCalls.{TypedOver}
use Rattle.typed_call.specs.declared.ends.TypedEnd.{TypedEnd}
use Rattle.typed_call.specs.declared.ends.TypedEnd.TheVariants as typed_end
use Rattle.client_ways.specs.Unresolved.{TellsNobody}
use Rattle.client_ways.specs.declared.ends.ClientEnd.{ClientEnd}
use Rattle.client_ways.specs.declared.ends.ClientEnd.TheVariants.{Asked, NoDescription, Resolver}

-- no link was dialled, and nothing was sent or taken
pub record IsStill (before after : Side) : Type 0 where
  pub log : after.log ≡ before.log
  pub opened : after.opened ≡ before.opened
  pub state : AsBefore before.state after.state

-- nothing was done, and nothing was printed
abbrev pub IsUntouched : Side → Side → Type 0
IsUntouched before after = IsStill before after × (after.written ≡ before.written)

-- nobody has the interface: nothing was done, and the caller was told so
abbrev pub NobodyHas : List ℕ → Call → Side → Side → ClientEnd → Type 0
NobodyHas interface call before after end =
    IsStill before after × TellsNobody call.oneway interface before.written after.written end

-- the end of a typed call
abbrev pub of_typed : TypedEnd → ClientEnd
of_typed (typed_end.Asked end) = Asked end
of_typed (typed_end.NoDescription why) = NoDescription why

-- the call was made over a link of its own, which is dialled so; its replies are read first, or are passed on as they come
abbrev pub CallsBy : Deed → Call → Bool → Side → Side → ClientEnd → Type 0
CallsBy dial call true before after end = (typed : TypedEnd) × (end ≡ of_typed typed) × TypedOver dial call before after typed
CallsBy dial call false before after end =
    (asked : AskEnd) × (end ≡ Asked asked) × CallsOver dial (call_bytes call) (asking_of call) before after asked

-- the call was made at this address
abbrev pub CallsAt : Address → Call → Bool → Side → Side → ClientEnd → Type 0
CallsAt address call typed before after end = CallsBy (deed.Dialled address) call typed before after end

-- what was done for the interface after the resolver had told this
abbrev pub FollowsUp : Result Address ResolveEnd → List ℕ → Call → Bool → Side → Side → ClientEnd → Type 0
FollowsUp (Ok address) interface call typed before after end = CallsAt address call typed before after end
FollowsUp (Err Missing) interface call typed before after end = NobodyHas interface call before after end
FollowsUp (Err (Bad fault)) interface call typed before after end = (end ≡ Resolver fault) × IsUntouched before after
FollowsUp (Err LinkFault) interface call typed before after end = (end ≡ Asked ask.LinkFault) × IsUntouched before after
FollowsUp (Err Memory) interface call typed before after end = (end ≡ Asked ask.Memory) × IsUntouched before after

abbrev pub links_of : Side → Links
links_of side = record { log = side.log; opened = side.opened; state = side.state }

-- with these links, and this printed
abbrev pub side_of : Links → Option (List ℕ) → Side
side_of links written = record { log = links.log; written = written; opened = links.opened; state = links.state }

-- the resolver was asked for the interface first, and what it told was followed up; `between` is how things stood then
pub record AsksFirst (resolver : Address) (interface : List ℕ) (call : Call) (typed : Bool) (before after : Side) (end : ClientEnd) : Type 0 where
  pub between : Links
  pub told : Result Address ResolveEnd
  pub finds : Finds resolver interface (links_of before) between told
  pub follows : FollowsUp told interface call typed (side_of between before.written) after end

-- a call that goes there
abbrev pub GoesTo : Goal → Address → Call → Bool → Side → Side → ClientEnd → Type 0
GoesTo goes.Resolver resolver call typed before after end = CallsAt resolver call typed before after end
GoesTo (goes.Interface interface) resolver call typed before after end = AsksFirst resolver interface call typed before after end
GoesTo (goes.Nowhere word) resolver call typed before after end = NobodyHas word call before after end

-- a call by a resolver: it goes where its word says
abbrev pub Resolves : Address → Call → Bool → Side → Side → ClientEnd → Type 0
Resolves resolver call typed before after end = GoesTo (goal_of call) resolver call typed before after end

-- a count of faults rose exactly where the end is that fault
abbrev pub CountsLinkFaults : ClientEnd → ℕ → ℕ → Type 0
CountsLinkFaults (Asked end) before now = LinkFaults end before now
CountsLinkFaults end before now = now ≡ before

abbrev pub CountsWriteFaults : ClientEnd → ℕ → ℕ → Type 0
CountsWriteFaults (Asked end) before now = WriteFaults end before now
CountsWriteFaults end before now = now ≡ before
