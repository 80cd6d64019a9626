use Rattle.std.specs.Prelude.{codes, false}
use Rattle.std.proofs.lemmas.Str.Pattern.{starts_text}
use Rattle.sheet_form.proofs.Names.{twice_told, none_told}
use Rattle.sheet_form.proofs.interfaces.name_fault.Goals as goal

pub returns-then-has : goal.returns-then-has
returns-then-has c = twice_told c.args.before.now c.args.which c.args.name.now
    (starts_text false (codes "org.varlink.") c.args.name.now c.if-starts_with.ensures.cases) c.if-has.ensures

pub returns-else-has : goal.returns-else-has
returns-else-has c = none_told c.args.before.now c.args.which c.args.name.now
    (starts_text false (codes "org.varlink.") c.args.name.now c.if-starts_with.ensures.cases) c.if-has.ensures
