use Rattle.work_sample.proofs.Served.{wanting}
use Rattle.work_sample.proofs.works.work.Goals as goal

pub returns-in-Err-work_calls : goal.returns-in-Err-work_calls
returns-in-Err-work_calls c = wanting _ _

pub returns-in-Err : goal.returns-in-Err
returns-in-Err c = wanting _ _
