use Rattle.std.proofs.Common.{◌≡◌, Bool, true, false, map, refl, sym, ap, ◌∙◌}
use Rattle.std.specs.List.{list_all}
use Rattle.std.proofs.lemmas.List.Folds.{list_all-map}
use Rattle.idl_tree.specs.Form.{body_form_step, core_form_step, field_form_step, type_form_step}
use Rattle.idl_tree.proofs.Opened.{struct_opens, field_folds}
use Rattle.idl_tree.specs.declared.trees.Field.{Field}
use Rattle.idl_tree.proofs.forms.+form.Goals as goal

abbrev form_of : Field → Bool
form_of field = field_folds Bool Bool Bool Bool body_form_step core_form_step field_form_step type_form_step field

pub body_has_form-returns-then-fields_have_form : goal.body_has_form-returns-then-fields_have_form
body_has_form-returns-then-fields_have_form t c =
    let opened = struct_opens Bool Bool Bool Bool body_form_step core_form_step field_form_step type_form_step c.in-Struct.fields c.in-Struct.ending in
    let all : list_all (λ form. form) (map form_of c.in-Struct.fields) ≡ true =
    list_all-map (λ (form : Bool). form) form_of c.in-Struct.fields ∙ ap (list_all form_of) (sym c.as_slice.ensures)
    ∙ sym c.fields_have_form.ensures ∙ c.if-fields_have_form.true in
    rw (c.are_notes.ensures, c.as_slice-then-fields_have_form.ensures, c.in-Struct.is, opened, all) refl

pub body_has_form-returns-else-fields_have_form : goal.body_has_form-returns-else-fields_have_form
body_has_form-returns-else-fields_have_form t c =
    let opened = struct_opens Bool Bool Bool Bool body_form_step core_form_step field_form_step type_form_step c.in-Struct.fields c.in-Struct.ending in
    let all : list_all (λ form. form) (map form_of c.in-Struct.fields) ≡ false =
    list_all-map (λ (form : Bool). form) form_of c.in-Struct.fields ∙ ap (list_all form_of) (sym c.as_slice.ensures)
    ∙ sym c.fields_have_form.ensures ∙ c.if-fields_have_form.false in
    rw (c.if-fields_have_form.false, c.in-Struct.is, opened, all) refl
