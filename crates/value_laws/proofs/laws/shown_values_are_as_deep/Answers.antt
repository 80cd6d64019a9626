use Rattle.std.proofs.Common.{ℕ, ◌≡◌, ◌≤◌, Some, sym, ◌∙◌, arith}
use Rattle.serde_json.specs.Data.{depth}
use Rattle.idl_tree.specs.Faults.{defines}
use Rattle.typed_value.specs.Shows.{Shows}
use Rattle.typed_value.specs.Sizes.{levels_of}
use Rattle.value_laws.proofs.GoodBodies.{type_core}
use Rattle.value_laws.proofs.ReadBack.{shown_back}
use Rattle.value_laws.proofs.ReadDepths.{reads_no_deeper}
use Rattle.value_laws.proofs.ShownDepths.{shows_no_deeper}
use Rattle.value_laws.proofs.laws.shown_values_are_as_deep.Goals as goal

same : (m n : ℕ) → m ≤ n → n ≤ m → m ≡ n
same m n below above = omega arith

pub returns : goal.returns
returns c = λ scope of v good names fit.
    let back = shown_back scope (defines scope) good v of.prefixes of.core (sym (type_core (defines scope) of) ∙ names) fit in
    same (depth (Shows scope of v)) (levels_of v) (shows_no_deeper scope v of.prefixes of.core)
    (reads_no_deeper scope (Shows scope of v) of.prefixes of.core v back)
