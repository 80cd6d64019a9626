use Rattle.std.proofs.Common.{◌≡◌, ℕ, ◌<◌, ◌||◌, List, length, get_or, map, sym, ap, ◌∙◌, arith}
use Rattle.std.specs.Str.{bytes_eq}
use Rattle.std.proofs.lemmas.List.{get_or-map, length-map}
use Rattle.idl_tree.specs.declared.places.Index.{Index}
use Rattle.idl_tree.specs.declared.trees.Field.{Field}
use Rattle.idl_tree.proofs.BracketNames.{twice_reported, type_reported, past_type, is_among_more}
use Rattle.idl_tree.proofs.checks.+check.Invariants.{pair_of}
use Rattle.idl_tree.proofs.checks.+check.Goals as goal

pair_at : (index : Index) (fields : List Field) (i : ℕ) (item : Field) → i < length fields → item ≡ get_or fields i item
    → get_or (map (pair_of index) fields) i (pair_of index item) ≡ pair_of index item
pair_at index fields i item within is =
    get_or-map (pair_of index) fields i item (pair_of index item) within ∙ ap (pair_of index) (sym is)

pub check_fields-loop-field-preserved : goal.check_fields-loop-field-preserved
check_fields-loop-field-preserved t c =
    let pairs = map (pair_of c.args.index.now) c.args.fields.now in
    let i = c.loop-field.field-index in
    let item = pair_of c.args.index.now c.field-item.result in
    let at = pair_at c.args.index.now c.args.fields.now i c.field-item.result c.loop-field-test.true c.field-item.is in
    let within : i < length pairs = omega (arith, length-map c.args.fields.now (pair_of c.args.index.now)) in
    let stood = c.loop-field.invariant.stood in
    record {
      stood = λ q. c.in_default.ensures.after q ∙ ap (λ b. bytes_eq c.field-item.result.name q || b) (stood q)
          ∙ sym (is_among_more pairs i item q within at);
      left = past_type pairs i item within at c.loop-field.invariant.left _ (stood c.field-item.result.name) c.in_default.ensures.answer c.in_default-check_type.ensures;
    }

pub check_fields-returns-in-Err : goal.check_fields-returns-in-Err
check_fields-returns-in-Err t c =
    let pairs = map (pair_of c.args.index.now) c.args.fields.now in
    let i = c.loop-field.field-index in
    let item = pair_of c.args.index.now c.field-item.result in
    let at = pair_at c.args.index.now c.args.fields.now i c.field-item.result c.loop-field-test.true c.field-item.is in
    let within : i < length pairs = omega (arith, length-map c.args.fields.now (pair_of c.args.index.now)) in
    twice_reported pairs i item within at c.loop-field.invariant.left c.in-Err.fault _
    (c.loop-field.invariant.stood c.field-item.result.name) c.in-Err.ensures.answer

pub check_fields-returns-in-Err-check_type : goal.check_fields-returns-in-Err-check_type
check_fields-returns-in-Err-check_type t c =
    let pairs = map (pair_of c.args.index.now) c.args.fields.now in
    let i = c.loop-field.field-index in
    let item = pair_of c.args.index.now c.field-item.result in
    let at = pair_at c.args.index.now c.args.fields.now i c.field-item.result c.loop-field-test.true c.field-item.is in
    let within : i < length pairs = omega (arith, length-map c.args.fields.now (pair_of c.args.index.now)) in
    type_reported pairs i item within at c.loop-field.invariant.left c.in-Err-check_type.fault _
    (c.loop-field.invariant.stood c.field-item.result.name) c.in_default.ensures.answer c.in-Err-check_type.ensures
