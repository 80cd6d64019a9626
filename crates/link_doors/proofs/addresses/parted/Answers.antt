use Rattle.std.proofs.Common.{Some, None, sym, ap, ◌∙◌}
use Rattle.std.proofs.lemmas.Str.Pattern.{split_parts}
use Rattle.link_doors.specs.Addresses.{before, behind}
use Rattle.link_doors.proofs.AddressParts.{before-whole, behind-whole, before-split, behind-split}
use Rattle.link_doors.proofs.addresses.parted.Goals as goal

pub returns-in-Some-clause-before : goal.returns-in-Some-clause-before
returns-in-Some-clause-before c =
    let parts = split_parts c.args.mark c.args.text.now (Some c.in-Some.parts) c.in-Some.ensures.cases c.requires in
    sym (ap (before c.args.mark) parts.0 ∙ before-split c.args.mark _ _ parts.1)

pub returns-in-Some-clause-behind : goal.returns-in-Some-clause-behind
returns-in-Some-clause-behind c =
    let parts = split_parts c.args.mark c.args.text.now (Some c.in-Some.parts) c.in-Some.ensures.cases c.requires in
    sym (ap (behind c.args.mark) parts.0 ∙ behind-split c.args.mark _ _ parts.1)

pub returns-in-None-clause-before : goal.returns-in-None-clause-before
returns-in-None-clause-before c =
    sym (before-whole c.args.mark c.args.text.now (split_parts c.args.mark c.args.text.now None c.in-None.ensures.cases c.requires))

pub returns-in-None-clause-behind : goal.returns-in-None-clause-behind
returns-in-None-clause-behind c =
    sym (behind-whole c.args.mark c.args.text.now (split_parts c.args.mark c.args.text.now None c.in-None.ensures.cases c.requires))
