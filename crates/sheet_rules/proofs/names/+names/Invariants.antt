use Rattle.std.proofs.Common.{◌≡◌, drop}
use Rattle.std.specs.List.{list_any}
use Rattle.idl_tree.specs.declared.trees.Field.{Field}
use Rattle.sheet_rules.specs.Types.{type_has_name}
use Rattle.sheet_rules.proofs.names.+names.Given as goal

abbrev pub invariant-fields_have_name-loop-field : goal.invariant-fields_have_name-loop-field
invariant-fields_have_name-loop-field l =
    list_any (λ (field : Field). type_has_name field.of) (drop l.field-index l.fields)
    ≡ list_any (λ (field : Field). type_has_name field.of) l.fields
