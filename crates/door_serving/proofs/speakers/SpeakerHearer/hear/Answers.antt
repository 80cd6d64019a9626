use Rattle.std.proofs.Common.{refl}
use Rattle.door_serving.proofs.Going.{goes_on, hears_goes, misses_goes}
use Rattle.door_serving.proofs.speakers.SpeakerHearer.hear.Goals as goal

pub returns-in_err-replies-clause-same : goal.returns-in_err-replies-clause-same
returns-in_err-replies-clause-same g c =
    let before = c.args.self.now.seated.now in
    let after = c.answer.new.self in (
      refl,
      λ first goes. goes_on first before after goes
          (misses_goes before after c.args.call.now _ c.answer.ensures.asks c.in_err-replies.ensures.misses),
    )

pub returns-clause-same : goal.returns-clause-same
returns-clause-same g c =
    let before = c.args.self.now.seated.now in
    let after = c.answer.new.self in (
      refl,
      λ first goes. goes_on first before after goes
          (hears_goes before after c.args.call.now _ c.answer.ensures.asks c.in_ok-replies.ensures.hears),
    )
