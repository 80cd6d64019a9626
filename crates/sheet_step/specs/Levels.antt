-- Which values have no more levels than a register, a reply and a refusal may have.
use Rattle.std.specs.Prelude.{◌≡◌, ℕ, ◌==◌, Bool, true, false, nat_le, nat_lt, if◌then◌else◌, List, Some, option_map, slice_get}
use Rattle.std.specs.List.{list_all}
use Rattle.typed_value.specs.Sizes.{levels_of}
use Rattle.typed_value.specs.declared.vals.Val.{Val}
use Rattle.sheet_step.specs.declared.deeds.Deed.{Deed}
use Rattle.sheet_step.specs.declared.deeds.Deed.TheVariants as deed
use Rattle.sheet_step.specs.declared.levels.Depth.{Depth}
use Rattle.sheet_step.specs.declared.levels.Depth.TheVariants as depth
use Rattle.sheet_step.specs.declared.TheConstants.{LEVEL_LIMIT}

abbrev pub is_within : Val → Bool
is_within v = nat_le (levels_of v) LEVEL_LIMIT

abbrev pub are_within : List Val → Bool
are_within vs = list_all is_within vs

-- what is put into a register has one level less than the register may have, and what it becomes no more
abbrev pub is_small : Deed → Bool
is_small (deed.Set v) = is_within v
is_small (deed.Push v) = nat_lt (levels_of v) LEVEL_LIMIT
is_small (deed.Put key v) = nat_lt (levels_of v) LEVEL_LIMIT
is_small (deed.Drop key) = true

-- what is known of the registers
abbrev pub Told : Depth → List Val → Type 0
Told depth.Within rs = are_within rs ≡ true
Told (depth.DeepAt place) rs = option_map is_within (slice_get rs place) ≡ Some false
Told depth.Unknown rs = Unit {0}

-- what is known after a change of the register at a place by something small, or not
abbrev pub next_depth : Depth → ℕ → Bool → Depth
next_depth known place false = depth.DeepAt place
next_depth depth.Within place true = depth.Within
next_depth (depth.DeepAt deep) place true = if deep == place then depth.Unknown else depth.DeepAt deep
next_depth depth.Unknown place true = depth.Unknown
