-- Steps by names, formed by the types of their registers.
use Rattle.std.specs.Prelude.{ℕ, List, Option, option_map, option_and_then}
use Rattle.idl_tree.specs.Names.{Bytes}
use Rattle.sheet_rules.specs.Types.{Typ, string_typ, array_part, map_part}
use Rattle.sheet_rules.specs.Settings.{Setting, register_typ}
use Rattle.sheet_rules.specs.declared.forms.Register.{Register}
use Rattle.sheet_rules.specs.declared.forms.Action.{Action}
use Rattle.sheet_rules.specs.declared.forms.Action.TheVariants as action
use Rattle.sheet_draft.specs.declared.drafts.ActionDraft.{ActionDraft}
use Rattle.sheet_draft.specs.declared.drafts.ActionDraft.TheVariants as draft
use Rattle.expression_form.specs.References.{register_place}
use Rattle.expression_form.specs.Expressions.{made}
use Rattle.rule_form.specs.Conditions.{joined}

-- the place and the type of the register of a name
abbrev pub placed : ℕ → Option Typ → Option (ℕ × Typ)
placed place found = option_map (λ t. (place, t)) found

abbrev pub register_named : List Register → Bytes → Option (ℕ × Typ)
register_named registers name =
    option_and_then (λ place. placed place (register_typ registers place)) (register_place registers name)

-- the same where it is an array or a map, with the type of its items or its values
abbrev pub array_named : List Register → Bytes → Option (ℕ × Typ)
array_named registers name =
    option_and_then (λ (found : ℕ × Typ). placed found.0 (array_part found.1)) (register_named registers name)

abbrev pub map_named : List Register → Bytes → Option (ℕ × Typ)
map_named registers name =
    option_and_then (λ (found : ℕ × Typ). placed found.0 (map_part found.1)) (register_named registers name)

-- the step that a draft is; nothing where it is not typed
abbrev pub step_made : Setting → ActionDraft → Option Action
step_made s (draft.Set name x) =
    option_and_then (λ (found : ℕ × Typ). option_map (action.Set found.0) (made s x found.1)) (register_named s.registers name)
step_made s (draft.Push name x) =
    option_and_then (λ (found : ℕ × Typ). option_map (action.Push found.0) (made s x found.1)) (array_named s.registers name)
step_made s (draft.Put name key x) =
    option_and_then (λ (found : ℕ × Typ). joined (action.Put found.0) (made s key (string_typ s.scope)) (made s x found.1))
    (map_named s.registers name)
step_made s (draft.Drop name key) =
    option_and_then (λ (found : ℕ × Typ). option_map (action.Drop found.0) (made s key (string_typ s.scope))) (map_named s.registers name)
