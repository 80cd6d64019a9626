use Rattle.std.proofs.Common.{ap}
use Rattle.idl_rules.specs.Canon.{Canon}
use Rattle.idl_print.proofs.CanonSpells.{spells, spells_one}
use Rattle.idl_print.proofs.laws.canon_formats_once.Goals as goal

pub returns : goal.returns
returns c = λ text tree other accepts. (
  (spells tree accepts.0.0, accepts.1, accepts.2),
  λ again. ap Canon (spells_one tree accepts.0.0 other again.0),
)
