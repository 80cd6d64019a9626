use Rattle.std.proofs.Common.{◌≡◌, Some, sym, ap, ◌∙◌}
use Rattle.idl_tree.specs.Faults.{defines}
use Rattle.value_laws.proofs.StructBack.{struct_back}
use Rattle.value_laws.proofs.laws.shown_fields_read_back_alone.Goals as goal

pub returns : goal.returns
returns c = λ scope body v w good names h fit.
    let back = struct_back scope body (defines scope) v good names h fit in
    (λ reads. (let same : Some v ≡ Some w = sym back ∙ reads in cc), λ same. back ∙ ap Some same)
