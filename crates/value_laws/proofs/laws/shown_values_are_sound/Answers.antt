use Rattle.value_laws.proofs.ShownSound.{shows_sound}
use Rattle.value_laws.proofs.laws.shown_values_are_sound.Goals as goal

pub returns : goal.returns
returns c = λ scope of v fit. shows_sound scope v of.prefixes of.core fit
