use Rattle.idl_print.proofs.CanonSpells.{spells, spells_one}
use Rattle.idl_print.proofs.laws.canon_spells.Goals as goal

pub returns : goal.returns
returns c = λ tree form. (spells tree form, spells_one tree form)
