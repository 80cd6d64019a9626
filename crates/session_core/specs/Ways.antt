-- What the objects of a link have beside the link.
use Rattle.std.specs.Prelude.{ℕ, Bool, List, Option, None, false}

-- of an object that is only taken from: what was put to it; of one that is only put to: what is left of it
pub record Aside : Type 0 where
  pub written : Option (List ℕ)
  pub write_faults : ℕ
  pub finished : Bool
  pub left : Option (List ℕ)
  pub read_faults : ℕ

-- one object that is source and sink has nothing beside its link
abbrev pub nothing_aside : Aside
nothing_aside = record { written = None; write_faults = 0; finished = false; left = None; read_faults = 0 }
