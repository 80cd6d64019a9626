use Rattle.std.proofs.Common.{◌≡◌, None, take, map}
use Rattle.idl_tree.specs.Names.{Bytes}
use Rattle.idl_tree.specs.Faults.{Found, is_among}
use Rattle.idl_tree.specs.Places.{has_name}
use Rattle.idl_tree.specs.declared.trees.Named.{Named}
use Rattle.idl_tree.proofs.BracketNames.{names_of, fault_from}
use Rattle.idl_tree.proofs.checks.check_names.Given as goal

abbrev pub pair_of : Named → Bytes × Found
pair_of named = (named.name, None)

abbrev pub invariant-loop-named : goal.invariant-loop-named
invariant-loop-named l =
    record {
      stood : (q : Bytes) → has_name l.before q ≡ is_among (names_of (take l.named-index (map pair_of l.names))) q;
      left : fault_from (map pair_of l.names) l.named-index ≡ fault_from (map pair_of l.names) 0;
    }
