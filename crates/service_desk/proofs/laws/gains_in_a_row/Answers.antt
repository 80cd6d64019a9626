use Rattle.service_desk.proofs.Hearing.{gains_on}
use Rattle.service_desk.proofs.laws.gains_in_a_row.Goals as goal

pub returns : goal.returns
returns c = gains_on
