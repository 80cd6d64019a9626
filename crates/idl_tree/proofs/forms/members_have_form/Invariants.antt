use Rattle.std.proofs.Common.{◌≡◌, drop}
use Rattle.std.specs.List.{list_all}
use Rattle.idl_tree.specs.Form.{member_form}
use Rattle.idl_tree.proofs.forms.members_have_form.Given as goal

abbrev pub invariant-loop-member : goal.invariant-loop-member
invariant-loop-member l =
    list_all member_form (drop l.member-index l.members) ≡ list_all member_form l.members
