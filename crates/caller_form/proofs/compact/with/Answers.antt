use Rattle.std.proofs.Common.{◌≡◌, codes, rules}
use Rattle.caller_form.proofs.CompactLemmas.{on_some, bare_continues, bare_error, bare_parameters, bare_other}
use Rattle.caller_form.proofs.compact.with.Goals as goal

pub returns-then-eq : goal.returns-then-eq
returns-then-eq c =
    let same : c.args.member.name.now ≡ codes "continues" = search rules in
    on_some c.flag.result _ _ c.flag.ensures (λ after is ms tree are of. bare_continues c.args.member.name.now tree ms c.args.continues are after same (is tree of))

pub returns-then-is_null : goal.returns-then-is_null
returns-then-is_null c ms tree are of =
    let same : c.args.member.name.now ≡ codes "error" = search rules in
    bare_error c.args.member.name.now tree ms c.args.continues are same (c.is_null.ensures c.if-is_null.true tree of)

pub returns-then-may_be_parameters : goal.returns-then-may_be_parameters
returns-then-may_be_parameters c ms tree are of =
    let same : c.args.member.name.now ≡ codes "parameters" = search rules in
    bare_parameters c.args.member.name.now tree ms c.args.continues are same (c.may_be_parameters.ensures c.if-may_be_parameters.true tree of)

pub returns-else-eq-3 : goal.returns-else-eq-3
returns-else-eq-3 c ms tree are of =
    let a : c.args.member.name.now ≡ codes "continues" → ⊥ = search rules in
    let b : c.args.member.name.now ≡ codes "error" → ⊥ = search rules in
    let d : c.args.member.name.now ≡ codes "parameters" → ⊥ = search rules in
    bare_other c.args.member.name.now tree ms c.args.continues are a b d
