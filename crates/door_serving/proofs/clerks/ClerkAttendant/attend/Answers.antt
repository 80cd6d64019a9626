use Rattle.std.proofs.Common.{refl}
use Rattle.door_serving.proofs.Registries.{resolving}
use Rattle.door_serving.proofs.clerks.ClerkAttendant.attend.Goals as goal

pub returns-clause-attends : goal.returns-clause-attends
returns-clause-attends g c = (resolving _ _ _ _ _ _ _ c.serve_link-stop.ensures.heard, refl, refl)
