use Rattle.std.proofs.Common.{ap, ◌∙◌}
use Rattle.resolver_core.specs.Held.{seen}
use Rattle.resolver_core.proofs.Reading.{reading_start, reading_added}
use Rattle.resolver_core.proofs.files.entries_in.Goals as goal

pub loop-name-init : goal.loop-name-init
loop-name-init c =
    reading_start (seen c.new-entries.result.entries) c.into_iter-name-iterator.result c.args.members.now.entries (ap seen c.new-entries.ensures.empty)
    (c.into_iter-name-iterator.ensures.into_iter_gives ∙ c.iter-name-items.ensures.rest) c.iter-name-items.ensures.ordered

pub loop-name-preserved : goal.loop-name-preserved
loop-name-preserved c =
    reading_added (seen c.loop-name.entries.entries) (seen c.add.new.entries.entries) c.loop-name.name-iterator c.args.members.now.entries
    c.next.new.self (c.in-Some.name.now, c.in-Some.value.now) c.as_str.result.now c.in-Some.ensures.steps c.loop-name.invariant
    c.as_str.ensures.value c.in_default.ensures.entry c.in_default.ensures.order
