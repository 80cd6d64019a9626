use Rattle.std.proofs.Common.{Result, sym, subst}
use Rattle.resolver_core.specs.Registries.{Entries}
use Rattle.resolver_core.specs.Held.{ReadsEntries}
use Rattle.resolver_core.specs.declared.faults.RegistryFault.{RegistryFault}
use Rattle.serde_json.specs.View.{view}
use Rattle.resolver_core.proofs.Reading.{read_found, read_refused}
use Rattle.resolver_core.proofs.files.read_entries.Goals as goal

pub returns-in-Ok-clause-entries : goal.returns-in-Ok-clause-entries
returns-in-Ok-clause-entries c =
    subst (λ (there : Result Entries RegistryFault). ReadsEntries there c.entries_of-entries.result)
    (sym (read_found c.args.text.now (view c.in-Ok.tree) c.in-Ok.ensures)) c.entries_of-entries.ensures.entries

pub returns-in-Err-clause-entries : goal.returns-in-Err-clause-entries
returns-in-Err-clause-entries c = read_refused c.args.text.now c.in-Err.fault c.in-Err.ensures
