use Rattle.step_laws.proofs.Steps.{item_none, steps_done}
use Rattle.step_laws.proofs.laws.steps_keep_types.Goals as goal

pub returns : goal.returns
returns c = λ s parameters values at steps typed.
    steps_done s (item_none s.interfaces s.item at.item) parameters at.parameters steps values at.registers typed
