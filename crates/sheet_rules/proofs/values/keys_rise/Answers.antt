use Rattle.std.proofs.Common.{◌≡◌, ◌+◌, ◌-◌, ◌≤◌, true, List, drop, length, sym, ap, ◌∙◌, arith}
use Rattle.std.proofs.lemmas.List.{take_all, length-drop}
use Rattle.idl_tree.specs.Names.{Bytes}
use Rattle.typed_value.specs.declared.vals.Val.{Val}
use Rattle.sheet_rules.specs.Types.{is_before_next}
use Rattle.sheet_rules.proofs.KeysRise.{keys, order_at}
use Rattle.sheet_rules.proofs.values.keys_rise.Goals as goal

pub loop-i-preserved : goal.loop-i-preserved
loop-i-preserved c =
    let entries = c.args.entries.now in
    let rest = drop (c.loop-i.i + 1) entries in
    let fewer : length rest ≤ length entries - (c.loop-i.i + 1) = omega (arith, length-drop (c.loop-i.i + 1) entries) in
    let whole = take_all (length entries - (c.loop-i.i + 1)) rest fewer in
    let before : is_before_next c.index-entries-i.result.0 (keys rest) ≡ true =
    ap (λ (es : List (Bytes × Val)). is_before_next c.index-entries-i.result.0 (keys es)) (sym whole) ∙ sym c.if-not-is_before.ensures in
    order_at entries c.loop-i.i c.index-entries-i.result c.loop-i-test.true c.index-entries-i.is before ∙ c.loop-i.invariant
