use Rattle.std.proofs.Common.{◌≡◌, codes, rules}
use Rattle.caller_form.proofs.FoundLemmas.{with_continues, with_error, with_parameters, with_other}
use Rattle.caller_form.proofs.members.Found.with.Goals as goal

pub returns-then-eq : goal.returns-then-eq
returns-then-eq c ms tree are is =
    let same : c.args.name.now ≡ codes "continues" = search rules in
    with_continues c.args.name.now tree ms c.args.self c.args.kind same are is

pub returns-then-eq-2 : goal.returns-then-eq-2
returns-then-eq-2 c ms tree are is =
    let same : c.args.name.now ≡ codes "error" = search rules in
    with_error c.args.name.now tree ms c.args.self c.args.kind same are is

pub returns-then-eq-3 : goal.returns-then-eq-3
returns-then-eq-3 c ms tree are is =
    let same : c.args.name.now ≡ codes "parameters" = search rules in
    with_parameters c.args.name.now tree ms c.args.self c.args.kind same are is

pub returns-else-eq-3 : goal.returns-else-eq-3
returns-else-eq-3 c ms tree are is =
    let a : c.args.name.now ≡ codes "continues" → ⊥ = search rules in
    let b : c.args.name.now ≡ codes "error" → ⊥ = search rules in
    let d : c.args.name.now ≡ codes "parameters" → ⊥ = search rules in
    with_other c.args.name.now tree ms c.args.self a b d are
