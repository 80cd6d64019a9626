use Rattle.std.proofs.Common.{◌≡◌, ◌&&◌, drop}
use Rattle.std.specs.List.{list_all}
use Rattle.idl_tree.specs.Form.{are_notes, type_form}
use Rattle.idl_tree.specs.Names.{is_field_name}
use Rattle.idl_tree.proofs.forms.+form.Given as goal

abbrev pub invariant-fields_have_form-loop-field : goal.invariant-fields_have_form-loop-field
invariant-fields_have_form-loop-field l =
    list_all (λ field. are_notes field.notes && is_field_name field.name && type_form field.of) (drop l.field-index l.fields)
    ≡ list_all (λ field. are_notes field.notes && is_field_name field.name && type_form field.of) l.fields
