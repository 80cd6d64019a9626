use Rattle.std.proofs.Common.{inl, inr, refl}
use Rattle.session_core.proofs.WentLemmas.{break-refusal, break-cut, faults-refusal}
use Rattle.session_core.proofs.WriteLemmas.{SendsFront-asked, cut-broke, faults-broke}
use Rattle.session_core.proofs.serving.answer_one.Goals as goal

pub returns-in-Err-clause-broke : goal.returns-in-Err-clause-broke
returns-in-Err-clause-broke g c = inr ((c.in-Err.refusal, c.stop.ensures.stop, c.in-Err.ensures.missed), refl)

pub returns-in-Err-clause-why : goal.returns-in-Err-clause-why
returns-in-Err-clause-why g c = break-refusal c.stop.result c.stop.ensures.refused

pub returns-in-Err-clause-faults : goal.returns-in-Err-clause-faults
returns-in-Err-clause-faults g c = faults-refusal c.stop.result _ c.stop.ensures.refused

pub returns-in-Err-give_behind-clause-broke : goal.returns-in-Err-give_behind-clause-broke
returns-in-Err-give_behind-clause-broke g c = inl (record {
  outcome = _;
  told = c.in-Ok.ensures.told;
  fits = c.in-Ok.ensures.fits;
  part = SendsFront-asked _ c.args.call.oneway (g.H.Out.Replies.left c.in-Ok.replies) _ c.in-Err-give_behind.stop _ _ _ _ c.requires.waits c.in-Err-give_behind.ensures.part;
  cut = cut-broke _ c.in-Err-give_behind.stop _ _ _ _ c.in-Err-give_behind.ensures.part;
})

pub returns-in-Err-give_behind-clause-why : goal.returns-in-Err-give_behind-clause-why
returns-in-Err-give_behind-clause-why g c = break-cut c.in-Err-give_behind.stop (cut-broke _ c.in-Err-give_behind.stop _ _ _ _ c.in-Err-give_behind.ensures.part)

pub returns-in-Err-give_behind-clause-faults : goal.returns-in-Err-give_behind-clause-faults
returns-in-Err-give_behind-clause-faults g c = faults-broke _ c.in-Err-give_behind.stop _ _ _ _ c.in-Err-give_behind.ensures.part
