-- One call over a link of its own, whose replies are read by the definition that the service gives on the same link.
use Rattle.std.specs.Prelude.{◌≡◌, ◌⊎◌, ℕ, ◌+◌, List, Option, None, Some, Result, Ok, Err}
use Rattle.call_form.specs.declared.Call.{Call}
use Rattle.caller_form.specs.CallBytes.{call_bytes}
use Rattle.resolver_core.specs.Words.{at_dot}
use Rattle.link_reach.specs.Links.{OthersAsBefore}
use Rattle.link_reach.specs.declared.deeds.Deed.{Deed}
use Rattle.link_reach.specs.declared.deeds.LinkState.TheVariants.{Closed}
use Rattle.link_exchange.specs.declared.ends.AskEnd.{AskEnd}
use Rattle.link_exchange.specs.Stands.{Stand, stand}
use Rattle.client_core.specs.Calls.{Side, DoesNothing, DialsInVain, CalledOn, behind, unread}
use Rattle.standard_calls.specs.Descriptions.{Output}
use Rattle.standard_calls.specs.declared.faults.NoDescription.TheVariants.{NoMethod}
use Rattle.typed_call.specs.Describing.{Describes}
use Rattle.typed_call.specs.Typed.{typed_of}
use Rattle.typed_call.specs.declared.ends.TypedEnd.{TypedEnd}
use Rattle.typed_call.specs.declared.ends.TypedEnd.TheVariants.{Asked, NoDescription}
use Rattle.typed_call.specs.declared.ends.Why.TheVariants.{Said}

-- a word without a dot names no method, and nothing is asked
abbrev pub NamesNothing : List ℕ → Stand → Stand → Result Output TypedEnd → Type 0
NamesNothing word old new answer = (at_dot word ≡ None) × (new ≡ old) × (answer ≡ Err (NoDescription (Said NoMethod)))

-- the definition of the interface is asked for, and what its reply says of the method
pub record AsksFirst (word : List ℕ) (link : ℕ) (old new : Stand) (answer : Result Output TypedEnd) : Type 0 where
  pub parts : List ℕ × List ℕ
  pub dot : at_dot word ≡ Some parts
  pub described : Describes parts.0 parts.1 link old new answer

-- the description of the method that a word names was asked for on a link, and this is the answer
abbrev pub DescribedFirst : List ℕ → ℕ → Stand → Stand → Result Output TypedEnd → Type 0
DescribedFirst word link old new answer = NamesNothing word old new answer ⊎ AsksFirst word link old new answer

-- the call is made where its replies can be read, and only there
abbrev pub GoesOn : Call → ℕ → Stand → Option (List Deed) → Option (List ℕ) → TypedEnd → Result Output TypedEnd → Type 0
GoesOn call link stood log written end (Ok output) =
    (asked : AskEnd) × (end ≡ Asked asked) × CalledOn (typed_of output call) (call_bytes call) link stood log written asked
GoesOn call link stood log written end (Err stop) = (end ≡ stop) × (log ≡ stood.log) × (written ≡ stood.written)

-- a call whose replies are read by a definition was made on this link, from how it stood: first the description was asked
-- for, of which nothing was passed on
pub record TypedOn (call : Call) (link : ℕ) (stood : Stand) (log : Option (List Deed)) (written : Option (List ℕ)) (end : TypedEnd) : Type 0 where
  pub mid : Stand
  pub answer : Result Output TypedEnd
  pub first : DescribedFirst call.method link stood mid answer
  pub silent : mid.written ≡ stood.written
  pub goes_on : GoesOn call link mid log written end answer

-- a link was dialled once, the call was made on it, and nothing else was done; the link was closed
pub record TypedOnOwn (dial : Deed) (call : Call) (before after : Side) (end : TypedEnd) : Type 0 where
  pub left : Option (List ℕ)
  pub called : TypedOn call before.opened (stand (behind dial before.log) left before.written unread) after.log after.written end
  pub opened : after.opened ≡ before.opened + 1
  pub closed : after.state before.opened ≡ Closed
  pub others : OthersAsBefore before.opened before.state after.state

-- no link was opened for it
pub record WithoutLink (dial : Deed) (before after : Side) (end : TypedEnd) : Type 0 where
  pub asked : AskEnd
  pub is : end ≡ Asked asked
  pub none : DoesNothing before after asked ⊎ DialsInVain dial before after asked

-- a typed call over a link of its own, which is dialled so
abbrev pub TypedOver : Deed → Call → Side → Side → TypedEnd → Type 0
TypedOver dial call before after end = WithoutLink dial before after end ⊎ TypedOnOwn dial call before after end
