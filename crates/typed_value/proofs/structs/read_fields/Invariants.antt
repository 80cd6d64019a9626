use Rattle.std.proofs.Common.{◌≡◌, map, find, is_none, drop}
use Rattle.idl_tree.specs.declared.trees.Field.{Field}
use Rattle.typed_value.specs.Parts.{field_at}
use Rattle.typed_value.specs.Reads.{all_of}
use Rattle.typed_value.proofs.Rests.{after}
use Rattle.typed_value.proofs.structs.read_fields.Given as goal

abbrev pub invariant-loop-field : goal.invariant-loop-field
invariant-loop-field l =
    record {
      left : after l.values (all_of (map (field_at l.scope l.json) (drop l.field-index l.fields)))
          ≡ all_of (map (field_at l.scope l.json) l.fields);
      first : find (λ (field : Field). is_none (field_at l.scope l.json field)) (drop l.field-index l.fields)
          ≡ find (λ (field : Field). is_none (field_at l.scope l.json field)) l.fields;
    }
