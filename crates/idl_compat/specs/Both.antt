-- Two definitions that are compared, with the pairs of their bodies that were seen: for private clauses.
use Rattle.std.specs.Prelude.{◌≡◌}
use Rattle.idl_tree.specs.declared.trees.Interface.{Interface}
use Rattle.idl_compat.specs.Numbers.{IsTable}
use Rattle.idl_compat.specs.Walks.{AllWithin}
use Rattle.idl_compat.specs.declared.both.Both.{Both}

-- each pair that was seen is within: those of an old and a new body, and those of a new and an old one
pub record AreWithin (both : Both) : Type 0 where
  pub first : IsTable both.first
  pub second : IsTable both.second
  pub sent : AllWithin both.first both.second both.sent
  pub told : AllWithin both.second both.first both.told

-- they are these definitions
pub record AreOf (both : Both) (old new : Interface) : Type 0 where
  pub first : both.first.scope.now ≡ old
  pub second : both.second.scope.now ≡ new
