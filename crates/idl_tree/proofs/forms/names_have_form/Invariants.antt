use Rattle.std.proofs.Common.{◌≡◌, drop}
use Rattle.std.specs.List.{list_all}
use Rattle.idl_tree.specs.Form.{named_form}
use Rattle.idl_tree.proofs.forms.names_have_form.Given as goal

abbrev pub invariant-loop-named : goal.invariant-loop-named
invariant-loop-named l =
    list_all named_form (drop l.named-index l.names) ≡ list_all named_form l.names
