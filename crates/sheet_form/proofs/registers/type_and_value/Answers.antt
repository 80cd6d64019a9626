use Rattle.std.proofs.Common.{ℕ, Err, refl}
use Rattle.idl_tree.specs.declared.trees.Interface.{Interface}
use Rattle.idl_tree.specs.declared.trees.TypeRef.{TypeRef}
use Rattle.typed_value.specs.declared.vals.Val.{Val}
use Rattle.sheet_draft.specs.declared.drafts.RegisterDraft.{RegisterDraft}
use Rattle.sheet_form.specs.Answers.{Reading, done, ◌>>=◌}
use Rattle.sheet_form.specs.Registers.{type_of, first_value}
use Rattle.sheet_form.proofs.Passing.{passes, follows}
use Rattle.sheet_form.proofs.registers.type_and_value.Goals as goal

abbrev both : TypeRef → Val → Reading (TypeRef × Val)
both of value = done (of, value)

abbrev behind : Interface → ℕ → RegisterDraft → TypeRef → Reading (TypeRef × Val)
behind interface k draft of = first_value interface k of draft.initial >>= both of

pub returns-in-Ok-first_value : goal.returns-in-Ok-first_value
returns-in-Ok-first_value c =
    let read = rw c.as_str.ensures at c.in-Ok.ensures in
    (c.in-Ok.of, read, (c.in-Ok-first_value.value, c.in-Ok-first_value.ensures, refl))

pub returns-in-Err-first_value : goal.returns-in-Err-first_value
returns-in-Err-first_value c =
    let read = rw c.as_str.ensures at c.in-Ok.ensures in
    follows (type_of c.args.interface.now c.args.register c.args.draft.now.of) (behind c.args.interface.now c.args.register c.args.draft.now)
    c.in-Ok.of (Err c.in-Err-first_value.fault) read
    (passes (first_value c.args.interface.now c.args.register c.in-Ok.of c.args.draft.now.initial) (both c.in-Ok.of)
    c.in-Err-first_value.fault c.in-Err-first_value.ensures)

pub returns-in-Err : goal.returns-in-Err
returns-in-Err c =
    let read = rw c.as_str.ensures at c.in-Err.ensures in
    passes (type_of c.args.interface.now c.args.register c.args.draft.now.of) (behind c.args.interface.now c.args.register c.args.draft.now)
    c.in-Err.fault read
