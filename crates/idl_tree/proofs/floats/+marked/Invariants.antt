use Rattle.std.proofs.Common.{◌≡◌, map, drop}
use Rattle.std.specs.List.{list_any}
use Rattle.idl_tree.specs.Floats.{type_used, joined, name_marked}
use Rattle.idl_tree.specs.declared.trees.Field.{Field}
use Rattle.idl_tree.proofs.floats.+marked.Given as goal

abbrev pub invariant-fields_use_marked-loop-field : goal.invariant-fields_use_marked-loop-field
invariant-fields_use_marked-loop-field l =
    list_any (name_marked l.index l.marks) (joined (map (λ (field : Field). type_used field.of) (drop l.field-index l.fields)))
    ≡ list_any (name_marked l.index l.marks) (joined (map (λ (field : Field). type_used field.of) l.fields))
