use Rattle.call_form.proofs.Utf8Texts.{compact_text-utf8}
use Rattle.call_form.proofs.laws.texts_are_utf8.Goals as goal

pub returns : goal.returns
returns c = compact_text-utf8
