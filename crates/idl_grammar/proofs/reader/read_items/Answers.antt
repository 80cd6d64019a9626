use Rattle.std.proofs.Common.{[], inl, arith}
use Rattle.idl_token.specs.declared.tokens.Item.{Item}
use Rattle.idl_token.specs.declared.tokens.ItemKind.TheVariants.{Word}
use Rattle.idl_rules.specs.Reading.{Read, Strayed, TooFar}
use Rattle.idl_grammar.proofs.ItemLoop.{taken_more, stops_at, ends}
use Rattle.idl_grammar.proofs.reader.read_items.Goals as goal

abbrev none : Item
none = record { kind = Word; at = 0; text = record { ref_ptr = (0, 0); now = [] } }

pub returns-in-Err-Stray : goal.returns-in-Err-Stray
returns-in-Err-Stray c =
    let told = rw c.in-Err-Stray.field-0-is at (c.in-Err-Stray.ensures []) in
    inl (stops_at c.args.items.now c.loop-item.item-index none c.loop-item-test.true c.loop-item.progress.state c.loop-item.progress.waiting c.loop-item.invariant Strayed told)

pub returns-in-Err-Beyond : goal.returns-in-Err-Beyond
returns-in-Err-Beyond c =
    let told = rw c.in-Err-Beyond.field-0-is at (c.in-Err-Beyond.ensures []) in
    stops_at c.args.items.now c.loop-item.item-index none c.loop-item-test.true c.loop-item.progress.state c.loop-item.progress.waiting c.loop-item.invariant TooFar told

pub loop-item-preserved : goal.loop-item-preserved
loop-item-preserved c =
    taken_more c.args.items.now c.loop-item.item-index none c.loop-item-test.true c.loop-item.progress.state c.loop-item.progress.waiting c.loop-item.invariant
    (Read c.in-Ok.next.state c.in-Ok.next.waiting) (c.in-Ok.ensures [])

pub returns : goal.returns
returns c =
    ends c.args.items.now c.loop-item.item-index c.args.end c.loop-item.progress.state c.loop-item.progress.waiting c.finished.result (omega arith)
    c.loop-item.invariant c.finished.ensures
