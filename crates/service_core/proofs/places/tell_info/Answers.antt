use Rattle.std.proofs.Common.{sym, subst}
use Rattle.call_form.specs.ReplyText.{IsWritable}
use Rattle.service_core.proofs.Told.{info_writable}
use Rattle.service_core.proofs.places.tell_info.Goals as goal

pub returns-clause-writable : goal.returns-clause-writable
returns-clause-writable c =
    subst IsWritable (sym c.plain.ensures) (info_writable c.in_ok-info.field-0 c.args.service.now c.in_ok-info.ensures.info c.in_ok-info.ensures.utf8)
