use Rattle.call_form.proofs.CallLemmas.{call_of-IsCall, IsCall-call_of}
use Rattle.call_form.proofs.laws.calls_are.Goals as goal

pub returns : goal.returns
returns c = λ payload call. (IsCall-call_of payload call, call_of-IsCall payload call)
