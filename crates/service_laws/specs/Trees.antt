-- The interfaces of a service (varlink.org, "Service"): the one that every service has, and those of its sheet.
use Rattle.std.specs.Prelude.{◌≡◌, ℕ, if◌then◌else◌, Option, Some, None, ⊤, option_map}
use Rattle.std.specs.Str.{bytes_eq}
use Rattle.idl_tree.specs.Names.{Bytes}
use Rattle.idl_tree.specs.declared.trees.Interface.{Interface}
use Rattle.idl_rules.specs.Spells.{Accepts}
use Rattle.standard_interfaces.specs.Definitions.{service_tree}
use Rattle.sheet_form.specs.declared.sheets.Contents.{Contents}
use Rattle.service_core.specs.Descriptions.{service_name}
use Rattle.service_core.specs.Sheets.{interface_named}

-- the tree that a service serves under a name
abbrev pub tree_named : Contents → Bytes → Option Interface
tree_named sheet name =
    if bytes_eq name service_name then Some service_tree
    else option_map (λ (found : ℕ × Interface). found.1) (interface_named sheet name)

-- the text is there exactly where the tree is, and is accepted as that tree and no other
abbrev pub IsTextOf : Option Interface → Option Bytes → Type 0
IsTextOf (Some tree) (Some text) = Accepts text tree × ((other : Interface) → Accepts text other → other ≡ tree)
IsTextOf None None = ⊤
IsTextOf tree text = ⊥
