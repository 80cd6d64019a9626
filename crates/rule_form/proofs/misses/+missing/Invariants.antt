use Rattle.std.proofs.Common.{◌≡◌, drop}
use Rattle.std.specs.List.{list_any}
use Rattle.rule_form.specs.Misses.{expr_misses, member_misses}
use Rattle.rule_form.proofs.misses.+missing.Given as goal

abbrev pub invariant-any_member_misses-loop-member : goal.invariant-any_member_misses-loop-member
invariant-any_member_misses-loop-member l =
    list_any (member_misses l.ground.standing.registers.now) (drop l.member-index l.members) ≡ list_any (member_misses l.ground.standing.registers.now) l.members

abbrev pub invariant-any_misses-loop-draft : goal.invariant-any_misses-loop-draft
invariant-any_misses-loop-draft l =
    list_any (expr_misses l.ground.standing.registers.now) (drop l.draft-index l.drafts) ≡ list_any (expr_misses l.ground.standing.registers.now) l.drafts
