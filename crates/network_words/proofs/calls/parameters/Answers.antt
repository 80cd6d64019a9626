use Rattle.std.proofs.Common.{refl, sym, subst}
use Rattle.link_port.specs.SoundTrees.{IsSound}
use Rattle.value_laws.proofs.ShownSound.{tree_sound}
use Rattle.network_words.proofs.calls.parameters.Goals as goal

pub returns-in-Ok-clause-sound : goal.returns-in-Ok-clause-sound
returns-in-Ok-clause-sound c =
    subst IsSound (sym c.of-in-Ok.ensures.tree)
    (tree_sound _ (sym c.if-has_only_ints.ensures.ints) (c.if-has_only_ints.ensures.order refl))
