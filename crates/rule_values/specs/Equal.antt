-- Whether two values are equal. A value's code is a tree of numbers that no other value has.
use Rattle.std.specs.Prelude.{◌≡◌, ◌↔◌, Bool, true, false, ◌&&◌, nat_eq}
use base.Stored.{Gv, gnil, gnum, gcons}
use Rattle.typed_value.specs.declared.vals.Val.{Val}
use Rattle.typed_value.specs.contracts.vals.Val.{the_row}

abbrev pub same_code : Gv → Gv → Bool
same_code gnil gnil = true
same_code (gnum m) (gnum n) = nat_eq m n
same_code (gcons a b) (gcons c d) = same_code a c && same_code b d
same_code a b = false

abbrev pub same_val : Val → Val → Bool
same_val one other = same_code (the_row.coded.code one) (the_row.coded.code other)

-- which says true exactly where the values are equal
abbrev pub TellsEquality : Type 0
TellsEquality = (one other : Val) → (same_val one other ≡ true) ↔ (one ≡ other)
