use Rattle.idl_print.proofs.CanonSpells.{spells, spells_one}
use Rattle.idl_print.proofs.laws.canon_accepted.Goals as goal

pub returns : goal.returns
returns c = λ tree form within good. ((spells tree form, within, good), λ other accepts. spells_one tree form other accepts.0)
