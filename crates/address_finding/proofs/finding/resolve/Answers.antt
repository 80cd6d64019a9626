use Rattle.std.proofs.Common.{refl, rules}
use Rattle.address_finding.proofs.NothingDone.{nothing_done}
use Rattle.address_finding.proofs.OneLine.{found, called-typed}
use Rattle.address_finding.proofs.finding.resolve.Goals as goal

pub returns-in_default-clause-finds : goal.returns-in_default-clause-finds
returns-in_default-clause-finds g c = nothing_done c.args.resolver.now c.args.interface.now _

pub returns-in-Err-clause-finds : goal.returns-in-Err-clause-finds
returns-in-Err-clause-finds g c = nothing_done c.args.resolver.now c.args.interface.now _

-- the call that was made, and what its one line tells
pub returns-in-Ok-new-clause-finds : goal.returns-in-Ok-new-clause-finds
returns-in-Ok-new-clause-finds g c =
    found c.args.resolver.now c.args.interface.now _ _ c.answer_of-answer.result c.call_direct-end.result c.bytes.result.now
    (search rules) (search rules)

pub answer_of-answer-requires : goal.answer_of-answer-requires
answer_of-answer-requires g c = called-typed _ _ _ _ _ c.call_direct-end.result (λ reply. refl) c.call_direct-end.ensures.calls
