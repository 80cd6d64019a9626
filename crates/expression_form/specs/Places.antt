-- What the places of registers tell: where the first register of each name stands.
use Rattle.std.specs.Prelude.{◌≡◌, ℕ, List}
use Rattle.std.specs.List.{position_from}
use Rattle.std.specs.Str.{bytes_eq}
use Rattle.std.specs.declared.alloc.Global.{Global}
use Rattle.std.specs.declared.string.String.{String}
use Rattle.std.specs.BTreeMap.{BTreeMap, get_by_text}
use Rattle.idl_tree.specs.Names.{Bytes}
use Rattle.sheet_rules.specs.declared.forms.Register.{Register}

abbrev pub ByName : Type 0
ByName = BTreeMap (String Global) ℕ

-- the map has each name, with the place of the first register of that name
abbrev pub Finds : ByName → List Register → Type 0
Finds places registers = (name : Bytes) → get_by_text places name ≡ position_from (λ (register : Register). bytes_eq register.name name) 0 registers
