use Rattle.std.proofs.Common.{◌≡◌, true}
use Rattle.typed_value.specs.OfType.{fits}
use Rattle.typed_value.specs.Reads.{reader}
use Rattle.typed_value.specs.declared.vals.Val.{Val}
use Rattle.typed_value.proofs.ReadsFit.{reads_fit, gives_fit}
use Rattle.typed_value.proofs.reading.read_by.Goals as goal

pub returns-clause-of_type : goal.returns-clause-of_type
returns-clause-of_type c =
    let scope = c.args.scope.now in
    let prefixes = c.args.prefixes.now in
    let core = c.args.core.now in
    let gives = rw c.inner.ensures at c.read_type.ensures in
    gives_fit c.read_type.result (reader scope c.args.json.now prefixes core) (λ (v : Val). fits scope v prefixes core ≡ true)
    (λ v here. reads_fit scope c.args.json.now prefixes core v here) gives
