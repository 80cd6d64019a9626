-- What is found in a sheet by name or place.
use Rattle.std.specs.Prelude.{ℕ, [], Option, Some, codes, option_map, option_and_then, slice_get}
use Rattle.idl_tree.specs.Names.{Bytes}
use Rattle.idl_tree.specs.Faults.{method_named, error_named}
use Rattle.idl_tree.specs.declared.trees.Interface.{Interface}
use Rattle.idl_tree.specs.declared.trees.Body.{Body}
use Rattle.sheet_rules.specs.declared.forms.Rule.{Rule}
use Rattle.sheet_draft.specs.Outlines.{at_last_dot}
use Rattle.sheet_form.specs.Interfaces.{interface_placed}
use Rattle.sheet_form.specs.RulePlaces.{rule_place}
use Rattle.sheet_form.specs.declared.sheets.Contents.{Contents}

infixl 10 ◌>>=◌
abbrev pub ◌>>=◌ : {A B : Type 0} → Option A → (A → Option B) → Option B
found >>= behind = option_and_then behind found

-- the sheet of a service without interfaces of its own
abbrev pub bare_sheet : Contents
bare_sheet = record {
  info = record { vendor = codes "Varlink"; product = codes "varlink"; version = codes "1"; url = codes "https://varlink.org" };
  interfaces = [];
  registers = [];
  rules = [];
}

-- the interface of that name, with its place
abbrev pub interface_named : Contents → Bytes → Option (ℕ × Interface)
interface_named sheet name = interface_placed sheet.interfaces name

-- the rule of the method of that name of the interface at a place, with the rule's place
abbrev pub with_rule : Contents → ℕ → Option (ℕ × Rule)
with_rule sheet place = option_map (λ (rule : Rule). (place, rule)) (slice_get sheet.rules place)

abbrev pub rule_named : Contents → ℕ → Bytes → Option (ℕ × Rule)
rule_named sheet interface method = rule_place sheet.rules interface method >>= with_rule sheet

-- the interface of the rule at a place
abbrev pub home_of : Contents → ℕ → Option Interface
home_of sheet place = do
  rule ← slice_get sheet.rules place
  slice_get sheet.interfaces rule.interface

-- a body, with the interface that its type names belong to
abbrev pub Shape : Type 0
Shape = Interface × Body

-- what the method of the rule at a place replies
abbrev pub output_of : Contents → ℕ → Option Shape
output_of sheet place = do
  rule ← slice_get sheet.rules place
  home ← slice_get sheet.interfaces rule.interface
  bodies ← method_named rule.method home
  Some (home, bodies.1)

-- the parameters of an error, by its qualified name, of the interface of the rule at a place
abbrev pub error_of : Contents → ℕ → Bytes → Option Shape
error_of sheet place error = do
  home ← home_of sheet place
  names ← at_last_dot error
  body ← error_named names.1 home
  Some (home, body)
