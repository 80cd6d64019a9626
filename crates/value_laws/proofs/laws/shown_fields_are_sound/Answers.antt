use Rattle.std.proofs.Common.{[], subst}
use Rattle.link_port.specs.SoundTrees.{IsSound}
use Rattle.idl_tree.specs.declared.trees.Core.TheVariants.{Inline}
use Rattle.value_laws.proofs.ShownSound.{shows_sound}
use Rattle.value_laws.proofs.StructBack.{shown, shown_object}
use Rattle.value_laws.proofs.laws.shown_fields_are_sound.Goals as goal

pub returns : goal.returns
returns c = λ scope body v of_struct fit.
    (subst IsSound (shown scope body v of_struct fit) (shows_sound scope v [] (Inline body) fit), shown_object scope body v of_struct fit)
