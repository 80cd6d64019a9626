use Rattle.std.proofs.Common.{◌≡◌, drop}
use Rattle.std.specs.List.{list_any}
use Rattle.idl_tree.specs.Floats.{type_has_float}
use Rattle.idl_tree.specs.declared.trees.Field.{Field}
use Rattle.idl_tree.proofs.floats.+floats.Given as goal

abbrev pub invariant-fields_have_float-loop-field : goal.invariant-fields_have_float-loop-field
invariant-fields_have_float-loop-field l =
    list_any (λ (field : Field). type_has_float field.of) (drop l.field-index l.fields)
    ≡ list_any (λ (field : Field). type_has_float field.of) l.fields
