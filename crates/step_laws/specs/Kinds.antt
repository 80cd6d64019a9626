-- The kind of a rule is that of its first branch's outcome: all branches of a typed rule are of one kind.
use Rattle.std.specs.Prelude.{Bool, true, false, Option, Some, None, option_map, option_and_then, slice_get}
use Rattle.call_form.specs.declared.Raw.{Raw}
use Rattle.sheet_rules.specs.Types.{passes}
use Rattle.sheet_rules.specs.declared.forms.Branch.{Branch}
use Rattle.sheet_rules.specs.declared.forms.Rule.{Rule}
use Rattle.sheet_rules.specs.declared.forms.Ending.{Ending}
use Rattle.sheet_rules.specs.declared.forms.Ending.TheVariants as ending

abbrev pub ending_raw : Ending → Option Raw
ending_raw (ending.Upgrade raw reply) = Some raw
ending_raw x = None

abbrev pub ending_streams : Ending → Bool
ending_streams (ending.Stream over each last) = true
ending_streams x = false

abbrev pub first_ending : Rule → Option Ending
first_ending rule = option_map (λ (branch : Branch). branch.outcome) (slice_get rule.branches 0)

-- what an upgrade does with raw bytes; None exactly where the rule is no upgrade
abbrev pub raw_of : Rule → Option Raw
raw_of rule = option_and_then ending_raw (first_ending rule)

-- the rule gives a stream of replies
abbrev pub streams : Rule → Bool
streams rule = passes ending_streams (first_ending rule)
