-- One call over a link of its own: the link is dialled, the call is made on it, and the link is closed.
use Rattle.std.specs.Prelude.{◌≡◌, ◌⊎◌, ℕ, ◌+◌, List, [], ◌∷◌, ◌++◌, Option, option_map}
use Rattle.call_form.specs.declared.Call.{Call}
use Rattle.link_reach.specs.Links.{AsBefore, OthersAsBefore}
use Rattle.link_reach.specs.declared.deeds.Deed.{Deed}
use Rattle.link_reach.specs.declared.deeds.DialFault.{DialFault}
use Rattle.link_reach.specs.declared.deeds.DialFault.TheVariants as dial
use Rattle.link_reach.specs.declared.deeds.LinkState.{LinkState}
use Rattle.link_reach.specs.declared.deeds.LinkState.TheVariants.{Closed}
use Rattle.link_exchange.specs.Asked.{Asked, Reading, any_reads, asked}
use Rattle.link_exchange.specs.declared.asked.Asking.{Asking}
use Rattle.link_exchange.specs.declared.ends.AskEnd.{AskEnd}
use Rattle.link_exchange.specs.declared.ends.AskEnd.TheVariants.{LinkFault, Memory}
use Rattle.link_exchange.specs.Exchanges.{Exchanged}
use Rattle.link_exchange.specs.Stands.{Unread, Stand, stand}

-- each reply is passed on as a line
abbrev pub lines_of : Call → Asking
lines_of call = record { oneway = call.oneway; more = call.more; mark = 10 }

-- the replies of a call, each of which reads so
abbrev pub asked_of : Reading → Call → Asked
asked_of unread call = asked (lines_of call) unread

-- all replies of a call
abbrev pub asking_of : Call → Asked
asking_of call = asked_of any_reads call

-- nothing was taken from a link yet
abbrev pub unread : Unread
unread = record { held = []; taken = 0 }

-- how a call ends that has no link
abbrev pub end_of : DialFault → AskEnd
end_of dial.Failed = LinkFault
end_of dial.Memory = Memory

-- what a call changes: what was done, what was passed on, how many links were opened, and what became of each
pub record Side : Type 0 where
  pub log : Option (List Deed)
  pub written : Option (List ℕ)
  pub opened : ℕ
  pub state : ℕ → LinkState

-- what was done, and then this
abbrev pub behind : Deed → Option (List Deed) → Option (List Deed)
behind dial log = option_map (λ (deeds : List Deed). deeds ++ dial ∷ []) log

-- no link was opened, and nothing was passed on
pub record HasNoLink (before after : Side) : Type 0 where
  pub written : after.written ≡ before.written
  pub opened : after.opened ≡ before.opened
  pub state : AsBefore before.state after.state

-- memory was wanting before a link was opened: nothing was done
abbrev pub DoesNothing : Side → Side → AskEnd → Type 0
DoesNothing before after end = (end ≡ Memory) × (after.log ≡ before.log) × HasNoLink before after

-- the link was dialled in vain, and nothing else was done
abbrev pub DialsInVain : Deed → Side → Side → AskEnd → Type 0
DialsInVain dial before after end =
    (end ≡ LinkFault) × (after.log ≡ behind dial before.log) × HasNoLink before after

-- a call of this text was made on this link, from how it stood: what was done, what was passed on, and how it ended
pub record CalledOn (asking : Asked) (text : List ℕ) (link : ℕ) (stood : Stand) (log : Option (List Deed)) (written : Option (List ℕ)) (end : AskEnd) : Type 0 where
  pub left : Option (List ℕ)
  pub inbox : Unread
  pub exchanged : Exchanged asking text link stood (stand log left written inbox) end

-- a link was dialled once, the call was made on it, and nothing else was done; the link was closed
pub record CallsOn (dial : Deed) (text : List ℕ) (asking : Asked) (before after : Side) (end : AskEnd) : Type 0 where
  pub left : Option (List ℕ)
  pub called : CalledOn asking text before.opened (stand (behind dial before.log) left before.written unread) after.log after.written end
  pub opened : after.opened ≡ before.opened + 1
  pub closed : after.state before.opened ≡ Closed
  pub others : OthersAsBefore before.opened before.state after.state

-- a call of this text over a link of its own, which is dialled so
abbrev pub CallsOver : Deed → List ℕ → Asked → Side → Side → AskEnd → Type 0
CallsOver dial text asking before after end =
    DoesNothing before after end
    ⊎ (DialsInVain dial before after end ⊎ CallsOn dial text asking before after end)
