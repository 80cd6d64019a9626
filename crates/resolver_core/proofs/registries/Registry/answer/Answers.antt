use Rattle.std.proofs.Common.{◌≡◌, ◌++◌, ◌∷◌, [], List, None, sym, ap, ◌∙◌, subst}
use Rattle.call_form.specs.declared.Reply.{Reply}
use Rattle.session_core.specs.Outcomes.{Fits}
use Rattle.resolver_core.proofs.Lasts.{reply_last, fits_one}
use Rattle.resolver_core.proofs.registries.Registry.answer.Goals as goal

pub returns-clause-fits : goal.returns-clause-fits
returns-clause-fits c =
    let reply = c.in_ok-reply_to.field-0 in
    let replies : c.push.new.self ≡ reply ∷ [] = c.in_ok-push.ensures.ok ∙ ap (λ (l : List Reply). l ++ reply ∷ []) c.new-replies.ensures in
    subst (λ (l : List Reply). Fits c.args.call.now (record { replies = l; raw = None })) (sym replies)
    (fits_one c.args.call.now reply (ap (λ (r : Reply). r.continues) c.in_ok-reply_to.ensures.reply ∙ reply_last c.args.self.now c.args.call.now)
    c.in_ok-reply_to.ensures.writable)
