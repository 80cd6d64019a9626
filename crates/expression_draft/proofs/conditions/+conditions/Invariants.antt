use Rattle.std.proofs.Common.{◌+◌, ◌*◌}
use Rattle.serde_json.specs.Data.{depth}
use Rattle.expression_draft.proofs.conditions.+conditions.Given as goal

abbrev pub decreases-read_cond : goal.decreases-read_cond
decreases-read_cond l = 3 * depth l.value

abbrev pub decreases-cond_by : goal.decreases-cond_by
decreases-cond_by l = 3 * depth l.value + 2

abbrev pub decreases-read_not : goal.decreases-read_not
decreases-read_not l = 3 * depth l.value + 1
