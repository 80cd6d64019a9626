use Rattle.std.proofs.Common.{◌≡◌, ℕ, true, is_none, length}
use Rattle.idl_tree.specs.Names.{Bytes}
use Rattle.sheet_form.specs.RulePlaces.{placed}
use Rattle.sheet_form.proofs.rule_places.no_places.Given as goal

abbrev pub invariant-loop-interface : goal.invariant-loop-interface
invariant-loop-interface l =
    record {
      size : length l.maps ≡ l._interface;
      none : (interface : ℕ) (method : Bytes) → is_none (placed l.maps interface method) ≡ true;
    }
