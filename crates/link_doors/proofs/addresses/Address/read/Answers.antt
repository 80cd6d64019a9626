use Rattle.std.proofs.Common.{Option, sym, subst, ◌∙◌}
use Rattle.link_doors.specs.Addresses.{GivesAddress}
use Rattle.link_doors.specs.declared.addresses.Address.{Address}
use Rattle.link_doors.proofs.AddressParts.{read_by, scheme_unix, scheme_tcp, scheme_none}
use Rattle.link_doors.proofs.addresses.Address.read.Goals as goal

pub returns-in-unix : goal.returns-in-unix
returns-in-unix c =
    let by = read_by _ _ _ _ c.parted.ensures.before c.parted-2.ensures.before c.parted-2.ensures.behind in
    subst (λ (there : Option Address). GivesAddress there c.unix.result) (sym (by ∙ scheme_unix _ c.parted-2.result.1.now c.in-unix.is)) c.unix.ensures

pub returns-in-tcp : goal.returns-in-tcp
returns-in-tcp c =
    let by = read_by _ _ _ _ c.parted.ensures.before c.parted-2.ensures.before c.parted-2.ensures.behind in
    subst (λ (there : Option Address). GivesAddress there c.tcp.result) (sym (by ∙ scheme_tcp _ c.parted-2.result.1.now c.in-tcp.is)) c.tcp.ensures

pub returns-in_default : goal.returns-in_default
returns-in_default c =
    read_by _ _ _ _ c.parted.ensures.before c.parted-2.ensures.before c.parted-2.ensures.behind
    ∙ scheme_none _ c.parted-2.result.1.now c.in_default.not-unix c.in_default.not-tcp
