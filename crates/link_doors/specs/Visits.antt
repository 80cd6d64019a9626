-- What became of a connection that was given back.
use Rattle.std.specs.Prelude.{ℕ, ◌<◌, List, [], ◌∷◌, ◌++◌, Option, ⊤, option_map}
use Rattle.link_doors.specs.declared.listeners.Leave.{Leave}
use Rattle.link_doors.specs.declared.listeners.Leave.TheVariants as leave

-- the bytes left on it and those written, as far as it tells them; how its session stopped, and how many entries it made
pub record Visit : Type 0 where
  pub left : Option (List ℕ)
  pub written : Option (List ℕ)
  pub how : Leave
  pub entries : ℕ

abbrev pub visit_of : Option (List ℕ) → Option (List ℕ) → Leave → ℕ → Visit
visit_of left written how entries = record { left = left; written = written; how = how; entries = entries }

-- one visit more, where they are told
abbrev pub with_visit : Option (List Visit) → Visit → Option (List Visit)
with_visit visits visit = option_map (λ (before : List Visit). before ++ visit ∷ []) visits

-- a session is told to have stopped by a fault only where that fault was counted. A connection begins with no fault
abbrev pub LeavesFit : Leave → ℕ → ℕ → Type 0
LeavesFit leave.ReadFault read_faults write_faults = 0 < read_faults
LeavesFit leave.WriteFault read_faults write_faults = 0 < write_faults
LeavesFit _ read_faults write_faults = ⊤
