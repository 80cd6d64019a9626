-- Where the rule of a method stands among the rules of a sheet, and what tells it.
use Rattle.std.specs.Prelude.{◌≡◌, ◌==◌, ◌&&◌, ℕ, Bool, List, Option, option_and_then, slice_get, nat_lt}
use Rattle.std.specs.List.{position_from}
use Rattle.std.specs.Str.{bytes_eq}
use Rattle.std.specs.BTreeMap.{BTreeMap, get_by_text}
use Rattle.std.specs.declared.alloc.Global.{Global}
use Rattle.std.specs.declared.string.String.{String}
use Rattle.idl_tree.specs.Names.{Bytes}
use Rattle.sheet_rules.specs.declared.forms.Rule.{Rule}

-- it is of that method of the interface of that place
abbrev pub is_rule_of : ℕ → Bytes → Rule → Bool
is_rule_of interface method rule = rule.interface == interface && bytes_eq rule.method method

-- the place of the rule of that method of the interface of that place
abbrev pub rule_place : List Rule → ℕ → Bytes → Option ℕ
rule_place rules interface method = position_from (is_rule_of interface method) 0 rules

abbrev pub ByMethod : Type 0
ByMethod = BTreeMap (String Global) ℕ

-- what the map of that interface has for that method
abbrev pub placed : List ByMethod → ℕ → Bytes → Option ℕ
placed maps interface method = option_and_then (λ (methods : ByMethod). get_by_text methods method) (slice_get maps interface)

-- the maps have each method that has a rule, with the place of its first rule
abbrev pub Tells : List ByMethod → List Rule → Type 0
Tells maps rules = (interface : ℕ) (method : Bytes) → placed maps interface method ≡ rule_place rules interface method

-- its interface is one of so many
abbrev pub is_within : ℕ → Rule → Bool
is_within interfaces rule = nat_lt rule.interface interfaces
