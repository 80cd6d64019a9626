use Rattle.idl_fronts.proofs.Completion.{front_goes, goes_front}
use Rattle.idl_fronts.proofs.laws.fronts_go_on.Goals as goal

pub returns : goal.returns
returns c = λ items good. (goes_front items, front_goes items good)
