use Rattle.std.proofs.Common.{◌≡◌, ℕ, suc, ◌<◌, List, [], ◌∷◌, length, get_or, Option, Err, None, Some, drop, refl, sym, ap, ◌∙◌, append-nil}
use Rattle.std.proofs.Math.ListN.{drop_of_length-le}
use Rattle.idl_tree.specs.declared.trees.Body.{Body, out-Body}
use Rattle.idl_tree.specs.declared.trees.Interface.{Interface}
use Rattle.idl_tree.specs.declared.trees.Core.TheVariants.{Inline, outs-Inline}
use Rattle.idl_tree.specs.declared.trees.Field.{Field}
use Rattle.std.proofs.Math.Seq.{drop-cons}
use Rattle.idl_tree.specs.Names.{Bytes}
use Rattle.typed_value.specs.Bodies.{body_of, body_in}
use Rattle.typed_value.specs.Gives.{GivesFields, IsOfField}
use Rattle.typed_value.specs.declared.faults.FieldFault.{FieldFault}
use Rattle.typed_value.specs.declared.faults.FieldFault.TheVariants as faults
use Rattle.typed_value.specs.declared.vals.Val.{Val}
use Rattle.typed_value.specs.declared.vals.Val.TheVariants as val
use Rattle.typed_value.proofs.ReadsFit.{body_reads_fit}
use Rattle.typed_value.proofs.Readers.{body_is, first_is}
use Rattle.typed_value.proofs.structs.read_fields.Goals as goal

in_place : (scope : Interface) (body : Body) → body_of scope (Inline body) ≡ Some body
in_place scope body = ap (body_in scope) (outs-Inline body)

reported : (fault : FieldFault) (name : Bytes) (found : Option Val) (first : Option Bytes) → IsOfField fault name → found ≡ None → first ≡ Some name
    → GivesFields {A = Val} (Err fault) found first
reported (faults.First word) name found first is none here = (none, here ∙ ap Some (sym is))
reported faults.Memory name found first is none here = tt

here : (items : List Field) (i : ℕ) (item : Field) → i < length items → item ≡ get_or items i item → drop i items ≡ item ∷ drop (suc i) items
here items i item within is = drop-cons items i item within ∙ ap (λ (field : Field). field ∷ drop (suc i) items) (sym is)

pub returns-in-Err-Unfit-clause-reads : goal.returns-in-Err-Unfit-clause-reads
returns-in-Err-Unfit-clause-reads c =
    let scope = c.args.scope.now in
    let d = c.args.json.now in
    let items = c.fields_of-fields.result.now in
    let item = c.field-item.result in
    let unfit = rw (c.in-Err-Unfit.field-0-is, c.inner.ensures) at c.in-Err-Unfit.ensures in
    let at = here items c.loop-field.field-index item c.loop-field-test.true c.field-item.is in
    let left = rw (at, unfit) at c.loop-field.invariant.left in
    let first = rw (at, unfit) at c.loop-field.invariant.first in
    let read = body_is scope (out-Body c.args.body.now) d c.requires.of_struct c.requires.of_object in
    let unread = first_is scope c.args.body.now d c.requires.of_object in
    reported c.unread.result item.name _ _ c.unread.ensures
    (rw (read, ← c.fields_of-fields.ensures, ← left) refl)
    (rw (unread, ← c.fields_of-fields.ensures, ← first) refl)

pub returns-clause-reads : goal.returns-clause-reads
returns-clause-reads c =
    let scope = c.args.scope.now in
    let d = c.args.json.now in
    let items = c.fields_of-fields.result.now in
    let done : drop c.loop-field.field-index items ≡ [] = drop_of_length-le items c.loop-field-test.false in
    let left = rw (done, append-nil) at c.loop-field.invariant.left in
    let first = rw done at c.loop-field.invariant.first in
    let read = body_is scope (out-Body c.args.body.now) d c.requires.of_struct c.requires.of_object in
    let unread = first_is scope c.args.body.now d c.requires.of_object in (
      rw (read, ← c.fields_of-fields.ensures, ← left) refl,
      rw (unread, ← c.fields_of-fields.ensures, ← first) refl,
    )

pub returns-clause-of_body : goal.returns-clause-of_body
returns-clause-of_body c =
    let reads = returns-clause-reads c in
    body_reads_fit c.args.scope.now c.args.body.now (Inline c.args.body.now) c.args.json.now (val.Struct c.loop-field.values)
    (in_place c.args.scope.now c.args.body.now) reads.0
