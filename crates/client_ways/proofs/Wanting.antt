-- a call for which memory was wanting did nothing
use Rattle.std.proofs.Common.{Bool, true, false, Err, refl, inl}
use Rattle.call_form.specs.declared.Call.{Call}
use Rattle.link_doors.specs.declared.addresses.Address.{Address}
use Rattle.link_reach.specs.declared.deeds.Deed.{Deed}
use Rattle.link_reach.specs.declared.deeds.Deed.TheVariants as deed
use Rattle.link_exchange.specs.declared.ends.AskEnd.TheVariants as ask
use Rattle.client_core.specs.Calls.{Side}
use Rattle.address_finding.specs.declared.ends.ResolveEnd.TheVariants.{Memory}
use Rattle.address_finding.proofs.NothingDone.{nothing_done}
use Rattle.resolver_core.specs.declared.goals.Goal.{Goal}
use Rattle.resolver_core.specs.declared.goals.Goal.TheVariants as goes
use Rattle.typed_call.specs.declared.ends.TypedEnd.TheVariants as typed_end
use Rattle.client_ways.specs.Ways.{IsStill, CallsBy, GoesTo, links_of}
use Rattle.client_ways.specs.declared.ends.ClientEnd.TheVariants.{Asked}

still : (side : Side) → IsStill side side
still side = record { log = refl; opened = refl; state = λ m. refl }

called : (dial : Deed) (call : Call) (typed : Bool) (side : Side) → CallsBy dial call typed side side (Asked ask.Memory)
called dial call true side = (
  typed_end.Asked ask.Memory,
  refl,
  inl (record {
    asked = ask.Memory;
    is = refl;
    none = inl (refl, refl, record { written = refl; opened = refl; state = λ m. refl });
  }),
)
called dial call false side = (ask.Memory, refl, inl (refl, refl, record { written = refl; opened = refl; state = λ m. refl }))

pub wanting : (goal : Goal) (resolver : Address) (call : Call) (typed : Bool) (side : Side) → GoesTo goal resolver call typed side side (Asked ask.Memory)
wanting goes.Resolver resolver call typed side = called (deed.Dialled resolver) call typed side
wanting (goes.Interface interface) resolver call typed side = record {
  between = links_of side;
  told = Err Memory;
  finds = nothing_done resolver interface (links_of side);
  follows = (refl, (still side, refl));
}
wanting (goes.Nowhere word) resolver call typed side = (still side, refl)
