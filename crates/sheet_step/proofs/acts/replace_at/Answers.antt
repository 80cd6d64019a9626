use Rattle.std.proofs.Common.{◌≡◌, length, Some, refl, rules}
use Rattle.std.specs.Prelude.{slice_get}
use Rattle.std.proofs.lemmas.Option.{slice_get_read}
use Rattle.sheet_step.proofs.EntriesBack.{replace_back}
use Rattle.sheet_step.proofs.acts.replace_at.Goals as goal

pub returns : goal.returns
returns c = λ key here.
    let es = c.args.vec.now.items in
    let i = c.args.place in
    let e = c.index_mut-entry.result.now in
    let is : slice_get es i ≡ Some e = slice_get_read es (length es) i e refl (search rules) c.index_mut-entry.ensures.value in
    rw (c.replace.ensures.after, c.replace.ensures.value) (replace_back es i e c.args.new key is here)
