use Rattle.std.proofs.Common.{[], inl, arith}
use Rattle.idl_token.specs.declared.tokens.Item.{Item}
use Rattle.idl_token.specs.declared.tokens.ItemKind.TheVariants.{Word}
use Rattle.idl_rules.specs.Reading.{Going, Stray, Beyond}
use Rattle.idl_grammar.proofs.TypeLoop.{type_more, type_stops, type_ends}
use Rattle.idl_grammar.proofs.types.read_type_items.Goals as goal

abbrev none : Item
none = record { kind = Word; at = 0; text = record { ref_ptr = (0, 0); now = [] } }

pub returns-in-Err-Stray : goal.returns-in-Err-Stray
returns-in-Err-Stray c =
    let told = rw c.in-Err-Stray.field-0-is at c.in-Err-Stray.ensures in
    inl (type_stops c.args.items.now c.loop-item.item-index none c.loop-item-test.true c.loop-item.state c.loop-item.invariant Stray told)

pub returns-in-Err-Beyond : goal.returns-in-Err-Beyond
returns-in-Err-Beyond c =
    let told = rw c.in-Err-Beyond.field-0-is at c.in-Err-Beyond.ensures in
    type_stops c.args.items.now c.loop-item.item-index none c.loop-item-test.true c.loop-item.state c.loop-item.invariant Beyond told

pub loop-item-preserved : goal.loop-item-preserved
loop-item-preserved c =
    type_more c.args.items.now c.loop-item.item-index none c.loop-item-test.true c.loop-item.state c.loop-item.invariant
    (Going c.in-Ok.next) c.in-Ok.ensures

pub returns : goal.returns
returns c =
    type_ends c.args.items.now c.loop-item.item-index c.args.end c.loop-item.state c.finished_type.result (omega arith)
    c.loop-item.invariant c.finished_type.ensures
