use Rattle.service_core.proofs.CalledRules.{ok_map}
use Rattle.service_core.proofs.Answering.{good_there}
use Rattle.service_core.proofs.services.Service.place.Goals as goal

pub returns-clause-good : goal.returns-clause-good
returns-clause-good c =
    ok_map c.place.result _ _ (λ there is.
    good_there c.args.self.now c.sheet.result.now c.args.call.now there c.sheet.ensures.sheet c.rules-rules.ensures.typed c.rules-rules.ensures.one_way is)
    c.place.ensures.placed
