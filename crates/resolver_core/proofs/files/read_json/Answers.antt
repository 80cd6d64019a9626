use Rattle.std.proofs.Common.{Result, sym, ap, ◌∙◌, subst}
use Rattle.serde_json.specs.Data.{Data}
use Rattle.serde_json.specs.Read.{read}
use Rattle.resolver_core.specs.Registries.{found}
use Rattle.resolver_core.specs.Held.{ReadsTree}
use Rattle.resolver_core.specs.declared.faults.RegistryFault.{RegistryFault}
use Rattle.resolver_core.proofs.Reading.{tree_utf8}
use Rattle.resolver_core.proofs.files.read_json.Goals as goal

pub returns-in-Ok : goal.returns-in-Ok
returns-in-Ok c =
    let same = tree_utf8 c.args.text.now c.in-Ok.ensures.cases.1 ∙ ap (λ text. found (read text)) (sym c.in-Ok.ensures.cases.0) in
    subst (λ (there : Result Data RegistryFault). ReadsTree there c.parse.result) (sym same) c.parse.ensures
