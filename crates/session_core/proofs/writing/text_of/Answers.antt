use Rattle.std.proofs.Common.{subst}
use Rattle.link_port.specs.SoundTrees.{HasUtf8}
use Rattle.link_port.proofs.Utf8Views.{view-utf8}
use Rattle.session_core.proofs.writing.text_of.Goals as goal

pub reply_text-requires : goal.reply_text-requires
reply_text-requires c = record {
  is_object = c.requires.is_object;
  is_sound = c.requires.is_sound;
  is_utf8 = subst HasUtf8 c.inner-parameters.ensures (view-utf8 c.inner-parameters.result.now);
  name_is_utf8 = c.name_in-name.ensures;
}
