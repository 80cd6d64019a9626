-- a question for which memory was wanting did nothing
use Rattle.std.proofs.Common.{ℕ, List, [], Err, refl, inl}
use Rattle.link_doors.specs.declared.addresses.Address.{Address}
use Rattle.link_exchange.specs.declared.ends.AskEnd.TheVariants as ask
use Rattle.address_finding.specs.Finding.{Links, Finds}
use Rattle.address_finding.specs.declared.ends.ResolveEnd.TheVariants.{Memory}

pub nothing_done : (resolver : Address) (interface : List ℕ) (links : Links) → Finds resolver interface links links (Err Memory)
nothing_done resolver interface links = record {
  end = ask.Memory;
  printed = [];
  calls = inl (refl, refl, record { written = refl; opened = refl; state = λ m. refl });
  answers = refl;
}
