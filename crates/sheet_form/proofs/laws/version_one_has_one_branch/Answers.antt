use Rattle.sheet_form.proofs.DraftWays.{reads_its_branch}
use Rattle.sheet_form.proofs.PlainRules.{version_one_is_plain}
use Rattle.sheet_form.proofs.laws.version_one_has_one_branch.Goals as goal

pub returns-clause-plain : goal.returns-clause-plain
returns-clause-plain c = version_one_is_plain

pub returns-clause-branch : goal.returns-clause-branch
returns-clause-branch c = reads_its_branch
