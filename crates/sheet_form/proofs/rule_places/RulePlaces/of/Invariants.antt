use Rattle.std.proofs.Common.{◌≡◌, ◌<◌, ℕ, length, take}
use Rattle.idl_tree.specs.Names.{Bytes}
use Rattle.sheet_form.specs.RulePlaces.{placed, rule_place}
use Rattle.sheet_form.proofs.rule_places.RulePlaces.of.Given as goal

abbrev pub invariant-loop-place : goal.invariant-loop-place
invariant-loop-place l =
    record {
      size : length l.by_interface.items ≡ l.interfaces;
      puts : (interface : ℕ) (method : Bytes) → interface < length l.by_interface.items
          → placed l.by_interface.items interface method ≡ rule_place (take l.place l.rules) interface method;
    }
