use Rattle.std.proofs.Common.{◌≡◌, ◌&&◌}
use Rattle.typed_value.specs.Sizes.{is_whole}
use Rattle.rule_values.specs.Equal.{same_val}
use Rattle.rule_values.proofs.EqualCodes.{tells_equality, same_tests, some_where}
use Rattle.rule_values.proofs.conditions.are_same.Goals as goal

pub returns : goal.returns
returns c =
    let one = c.args.one.now in
    let other = c.args.other.now in
    some_where (is_whole one && is_whole other) (same_val one other) c.same.result c.requires
    (same_tests (same_val one other) c.same.result (one ≡ other) (tells_equality one other) c.same.ensures)
