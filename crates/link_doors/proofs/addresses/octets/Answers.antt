use Rattle.std.proofs.Common.{sym, ◌∙◌, ap, Some}
use Rattle.link_doors.proofs.AddressParts.{dotted_octets, octets_none}
use Rattle.link_doors.proofs.addresses.octets.Goals as goal

pub returns-in-Ok : goal.returns-in-Ok
returns-in-Ok c = ap Some c.octets.ensures ∙ sym (dotted_octets c.args.ip.now _ c.in-Ok.ensures.value)

pub returns-in-Err : goal.returns-in-Err
returns-in-Err c = sym (octets_none c.args.ip.now (λ octets dotted. c.in-Err.ensures.value (record { octets = octets }) dotted))
