use Rattle.std.proofs.Common.{sym, subst}
use Rattle.link_port.specs.SoundTrees.{IsSound}
use Rattle.resolver_core.proofs.Listed.{strings_sound}
use Rattle.resolver_core.proofs.infos.resolver_info.Goals as goal

pub info_with-requires : goal.info_with-requires
info_with-requires c = subst IsSound (sym c.in_ok-name_list.ensures) (strings_sound _)
