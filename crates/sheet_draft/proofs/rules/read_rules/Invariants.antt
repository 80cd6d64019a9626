use Rattle.std.proofs.Common.{◌≡◌}
use Rattle.sheet_draft.specs.Sheets.{rules_in}
use Rattle.expression_draft.proofs.Rests.{member_count}
use Rattle.sheet_draft.proofs.Rests.{behind}
use Rattle.sheet_draft.proofs.rules.read_rules.Given as goal

abbrev pub invariant-loop-name : goal.invariant-loop-name
invariant-loop-name l = behind l.rules (rules_in l.version l.members) ≡ rules_in l.version l.fn.members

abbrev pub decreases-loop-name : goal.decreases-loop-name
decreases-loop-name l = member_count l.members
