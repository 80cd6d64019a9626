use Rattle.std.proofs.Common.{◌-◌, ◌≤◌, length, take}
use Rattle.caller_form.specs.Compact.{IsPlain}
use Rattle.caller_form.proofs.compact.plain_end.Given as goal

abbrev pub invariant-bytes : goal.invariant-bytes
invariant-bytes l = (l.end ≤ length l.inside) × IsPlain (take l.end l.inside)

abbrev pub decreases-bytes : goal.decreases-bytes
decreases-bytes l = length l.inside - l.end
