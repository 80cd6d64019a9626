-- What the session of a connection is that a registry answers.
use Rattle.std.proofs.Common.{◌≡◌, ℕ, List, [], ◌∷◌, map, Option, refl, ap, ◌∙◌, subst}
use Rattle.std.specs.Borrow.{Bor}
use Rattle.link_port.specs.declared.refusals.Memory.{Memory}
use Rattle.call_form.specs.declared.Call.{Call}
use Rattle.call_form.specs.declared.Outcome.{Outcome}
use Rattle.call_form.specs.declared.TheConstants.{CALL_LIMIT}
use Rattle.session_core.specs.declared.stops.Stop.{Stop}
use Rattle.session_core.specs.Heard.{Heard}
use Rattle.session_core.specs.Run.{run}
use Rattle.session_core.specs.Served.{Told, ComesTo}
use Rattle.session_core.specs.Tells.{tells_by}
use Rattle.session_core.proofs.ServeLemmas.{Served-heard, refuses_alone}
use Rattle.resolver_core.specs.Places.{outcome_of, tell_of}
use Rattle.resolver_core.specs.Registries.{Entries}
use Rattle.door_serving.specs.Resolving.{Resolving}

told_outcomes : (a b : Bor Entries) (calls : List Call) (outcomes : List Outcome) → Told (tells_by tell_of) a calls outcomes b
    → outcomes ≡ map (outcome_of a.now) calls
told_outcomes a b [] [] told = refl
told_outcomes a b [] (outcome ∷ outcomes) told = absurd told
told_outcomes a b (call ∷ calls) [] told = absurd told
told_outcomes a b (call ∷ calls) (outcome ∷ outcomes) told =
    let stays : told.0 ≡ a = told.1.1 in
    let later : outcomes ≡ map (outcome_of a.now) calls =
    told_outcomes told.0 b calls outcomes told.2 ∙ ap (λ (r : Bor Entries). map (outcome_of r.now) calls) stays in
    λ j. told.1.0 j ∷ later j

pub resolving : (a b : Bor Entries) (left left' written written' : Option (List ℕ)) (why : Stop)
    → Heard (tells_by tell_of) (refuses_alone Memory (tells_by tell_of)) CALL_LIMIT a b left left' written written' why
    → Resolving a.now left left' written written' why
resolving a b left left' written written' why heard =
    let served = Served-heard Memory (tells_by tell_of) CALL_LIMIT a b left left' written written' why heard in
    record {
      taken = served.taken;
      calls = served.calls;
      out = served.out;
      consumed = served.consumed;
      most = served.most;
      wrote = served.wrote;
      comes = subst (λ (outcomes : List Outcome). ComesTo (run CALL_LIMIT served.taken outcomes) served.calls served.out why)
          (told_outcomes a b served.calls served.outcomes served.told) served.comes;
      all = served.all;
    }
