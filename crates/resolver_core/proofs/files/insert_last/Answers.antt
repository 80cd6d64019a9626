use Rattle.std.proofs.Common.{ap, ◌∙◌}
use Rattle.resolver_core.specs.Held.{seen}
use Rattle.resolver_core.proofs.Reading.{insert_named, order_is}
use Rattle.resolver_core.proofs.files.insert_last.Goals as goal

pub returns-in-Ok-clause-entry : goal.returns-in-Ok-clause-entry
returns-in-Ok-clause-entry c =
    ap seen c.in-Ok.ensures.entries
    ∙ insert_named c.args.entries.now.entries c.in_ok-key.key c.args.name.now c.args.address c.in_ok-key.ensures.ok c.requires

pub returns-in-Ok-clause-order : goal.returns-in-Ok-clause-order
returns-in-Ok-clause-order c = order_is c.insert.new.self.entries c.in-Ok.ensures.ordered
