-- What holds of the two interfaces and of the standard's error replies.
use Rattle.std.specs.Prelude.{◌≡◌, true, ◌∷◌, ◌++◌, Some}
use Rattle.idl_tree.specs.Names.{Bytes}
use Rattle.idl_tree.specs.declared.trees.Interface.{Interface}
use Rattle.idl_rules.specs.Canon.{Canon}
use Rattle.idl_rules.specs.Spells.{Accepts}
use Rattle.call_form.specs.declared.interfaces.TheConstants.{SERVICE_TEXT, RESOLVER_TEXT}
use Rattle.call_form.specs.declared.StdError.{StdError}
use Rattle.call_form.specs.StdErrors.{standard_of}
use Rattle.standard_interfaces.specs.Definitions.{service_tree, resolver_tree}
use Rattle.standard_interfaces.specs.Readings.{reads_as_error}

-- the text is the canonical one of the tree, and is accepted as that tree and no other
abbrev pub IsTextOf : Interface → Bytes → Type 0
IsTextOf tree text = (Canon tree ≡ text) × Accepts text tree × ((other : Interface) → Accepts text other → other ≡ tree)

abbrev pub TextsAreAccepted : Type 0
TextsAreAccepted = IsTextOf service_tree SERVICE_TEXT.now × IsTextOf resolver_tree RESOLVER_TEXT.now

-- the error reply of this name, its interface in front, has parameters that read by what is declared
abbrev pub StandardErrorsRead : Type 0
StandardErrorsRead = (error : StdError) → (name : Bytes)
    × ((standard_of error).error ≡ Some (service_tree.name ++ 46 ∷ name))
    × (reads_as_error service_tree name (standard_of error).parameters ≡ true)
