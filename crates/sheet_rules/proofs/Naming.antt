-- names in a struct are names in its fields
use Rattle.std.proofs.Common.{◌≡◌, Bool, ◌||◌, List, [], ◌∷◌, map, refl, ap, ◌∙◌}
use Rattle.std.specs.List.{list_any}
use Rattle.idl_tree.specs.Names.{Bytes}
use Rattle.idl_tree.specs.declared.trees.Field.{Field}
use Rattle.idl_tree.specs.declared.trees.Body.TheVariants.{Struct}
use Rattle.idl_tree.proofs.Opened.{struct_opens}
use Rattle.sheet_rules.specs.Types.{body_has_name, type_has_name, body_names_step, core_names_step, field_names_step, type_names_step}

any_each : (fields : List Field) → list_any (λ (named : Bool). named) (map (λ (field : Field). type_has_name field.of) fields)
    ≡ list_any (λ (field : Field). type_has_name field.of) fields
any_each [] = refl
any_each (field ∷ fields) = ap (λ (rest : Bool). type_has_name field.of || rest) (any_each fields)

pub name_in_struct : (fields : List Field) (ending : List Bytes)
    → body_has_name (Struct fields ending) ≡ list_any (λ (field : Field). type_has_name field.of) fields
name_in_struct fields ending =
    struct_opens Bool Bool Bool Bool body_names_step core_names_step field_names_step type_names_step fields ending ∙ any_each fields
