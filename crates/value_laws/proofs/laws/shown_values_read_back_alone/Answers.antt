use Rattle.std.proofs.Common.{◌≡◌, Some, sym, ap, ◌∙◌}
use Rattle.idl_tree.specs.Faults.{defines}
use Rattle.value_laws.proofs.GoodBodies.{type_core}
use Rattle.value_laws.proofs.ReadBack.{shown_back}
use Rattle.value_laws.proofs.laws.shown_values_read_back_alone.Goals as goal

pub returns : goal.returns
returns c = λ scope of v w good names fit.
    let back = shown_back scope (defines scope) good v of.prefixes of.core (sym (type_core (defines scope) of) ∙ names) fit in
    (λ reads. (let same : Some v ≡ Some w = sym back ∙ reads in cc), λ same. back ∙ ap Some same)
