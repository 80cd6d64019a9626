use Rattle.idl_rules.specs.Canon.{named_entry}
use Rattle.idl_print.proofs.Lines.{printed_more}
use Rattle.idl_print.proofs.opened_lines.push_name_lines.Goals as goal

pub loop-place-preserved : goal.loop-place-preserved
loop-place-preserved c =
    printed_more named_entry c.args.names.now c.loop-place.place c.index-names-place.result c.args.indent c.loop-place-test.true c.index-names-place.is
    _ _ _ _ c.comma_behind-comma.ensures c.in_ok-push_name_line.ensures c.loop-place.invariant
