-- The interfaces of a sheet: each of its definitions is a text of the grammar (varlink.org, "Interface
-- Definition"), of a name that is not reserved and that no earlier one has.
use Rattle.std.specs.Prelude.{◌≡◌, ◌≢◌, ℕ, ◌==◌, Bool, List, [], ◌∷◌, ◌++◌, length, map, codes, if◌then◌else◌, Option, Some, None, option_map, option_and_then, slice_get, Ok, Err}
use Rattle.std.specs.List.{list_any, starts_with}
use Rattle.std.specs.Str.{bytes_eq}
use Rattle.idl_tree.specs.Names.{Bytes}
use Rattle.idl_tree.specs.declared.trees.Interface.{Interface}
use Rattle.idl_rules.specs.Spells.{Accepts}
use Rattle.rule_form.specs.Rules.{interface_place}
use Rattle.idl_grammar.specs.Refuses.{Refuses}
use Rattle.idl_grammar.specs.declared.faults.IdlFault.{IdlFault}
use Rattle.idl_grammar.specs.declared.faults.IdlFault.TheVariants as idl
use Rattle.sheet_form.specs.Answers.{Reading, done, unless, ◌>>=◌}
use Rattle.sheet_form.specs.declared.faults.SheetFault.{SheetFault}
use Rattle.sheet_form.specs.declared.faults.SheetFault.TheVariants.{Idl, Reserved, TwiceInterface}

abbrev pub names_of : List Interface → List Bytes
names_of interfaces = map (λ (interface : Interface). interface.name) interfaces

-- an interface of that name is among them
abbrev pub has_interface : List Interface → Bytes → Bool
has_interface interfaces name = list_any (λ (interface : Interface). bytes_eq interface.name name) interfaces

-- the place of the interface of that name, with the interface
abbrev pub interface_placed : List Interface → Bytes → Option (ℕ × Interface)
interface_placed interfaces name = option_and_then (λ place. option_map (λ (interface : Interface). (place, interface)) (slice_get interfaces place))
    (interface_place interfaces name)

-- the interface that the text of that place defines, or why it defines none
abbrev pub definition : ℕ → Bytes → Reading Interface
definition k text (Ok interface) = Accepts text interface
definition k text (Err why) = (cause : IdlFault) × (why ≡ Idl k cause) × Refuses cause text × (cause ≢ idl.Memory)

-- it begins with `org.varlink.`
abbrev pub is_reserved : Bytes → Bool
is_reserved name = starts_with ◌==◌ name (codes "org.varlink.")

-- why the interface of that place may not have this name
abbrev pub name_fault : List Interface → ℕ → Bytes → Option SheetFault
name_fault before k name = if is_reserved name then Some (Reserved k)
    else (if has_interface before name then Some (TwiceInterface k) else None)

abbrev pub named_apart : List Interface → ℕ → Interface → Reading Interface
named_apart before k interface = unless (name_fault before k interface.name) interface

-- the interface that the text defines, behind those
abbrev pub interface_behind : List Interface → Bytes → Reading Interface
interface_behind before text = do
  interface ← definition (length before) text
  named_apart before (length before) interface

-- those and the interface that the text defines
abbrev pub more_by : List Interface → Bytes → Reading (List Interface)
more_by before text = do
  interface ← interface_behind before text
  done (before ++ interface ∷ [])

-- those and the interfaces that the texts define
abbrev pub interfaces_from : List Interface → List Bytes → Reading (List Interface)
interfaces_from before [] = done before
interfaces_from before (text ∷ texts) = do
  more ← more_by before text
  interfaces_from more texts

abbrev pub interfaces_of : List Bytes → Reading (List Interface)
interfaces_of texts = interfaces_from [] texts
