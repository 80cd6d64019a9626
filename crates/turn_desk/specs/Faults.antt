-- Why an ask had no reply.
use Rattle.std.specs.Prelude.{◌≡◌, ℕ, ◌+◌, ◌<◌}
use Rattle.turn_desk.specs.declared.faults.AskFault.{AskFault}
use Rattle.turn_desk.specs.declared.faults.AskFault.TheVariants.{Worn, Full, Memory}

-- with this limit, this weight of the history and this weight of the request: the request would pass the limit, or memory was wanting
abbrev pub NotMade : ℕ → ℕ → ℕ → AskFault → Type 0
NotMade limit weight request Worn = ⊥
NotMade limit weight request (Full bytes) = (bytes ≡ weight) × (limit < weight + request)
NotMade limit weight request Memory = Unit {0}
