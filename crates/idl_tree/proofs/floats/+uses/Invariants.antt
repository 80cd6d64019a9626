use Rattle.std.proofs.Common.{◌≡◌, ◌++◌, map, drop}
use Rattle.idl_tree.specs.Floats.{type_used, joined, places_of}
use Rattle.idl_tree.specs.declared.trees.Field.{Field}
use Rattle.idl_tree.proofs.floats.+uses.Given as goal

abbrev pub invariant-add_used_in_fields-loop-field : goal.invariant-add_used_in_fields-loop-field
invariant-add_used_in_fields-loop-field l =
    l.places ++ places_of l.index (joined (map (λ (field : Field). type_used field.of) (drop l.field-index l.fields)))
    ≡ l.initial.places ++ places_of l.index (joined (map (λ (field : Field). type_used field.of) l.fields))
