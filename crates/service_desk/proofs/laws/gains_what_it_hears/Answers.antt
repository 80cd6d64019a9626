use Rattle.service_desk.proofs.Hearing.{gains_heard}
use Rattle.service_desk.proofs.laws.gains_what_it_hears.Goals as goal

pub returns : goal.returns
returns c = gains_heard
