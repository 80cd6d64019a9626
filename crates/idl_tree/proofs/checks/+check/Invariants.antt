use Rattle.std.proofs.Common.{◌≡◌, take, map}
use Rattle.idl_tree.specs.Names.{Bytes}
use Rattle.idl_tree.specs.Faults.{Found, is_among, type_fault}
use Rattle.idl_tree.specs.Places.{has_name, is_type}
use Rattle.idl_tree.specs.declared.places.Index.{Index}
use Rattle.idl_tree.specs.declared.trees.Field.{Field}
use Rattle.idl_tree.proofs.BracketNames.{names_of, fault_from}
use Rattle.idl_tree.proofs.checks.+check.Given as goal

abbrev pub pair_of : Index → Field → Bytes × Found
pair_of index field = (field.name, type_fault (is_type index) field.of)

abbrev pub invariant-check_fields-loop-field : goal.invariant-check_fields-loop-field
invariant-check_fields-loop-field l =
    record {
      stood : (q : Bytes) → has_name l.before q ≡ is_among (names_of (take l.field-index (map (pair_of l.index) l.fields))) q;
      left : fault_from (map (pair_of l.index) l.fields) l.field-index ≡ fault_from (map (pair_of l.index) l.fields) 0;
    }
