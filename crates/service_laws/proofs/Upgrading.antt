-- raw bytes follow an asked upgrade exactly where the last reply is no error
use Rattle.std.proofs.Common.{◌≡◌, true, false, List, Option, Some, None, is_some, codes, bytes_eq, refl, sym, ◌∙◌, inl, inr}
use Rattle.std.proofs.lemmas.Bool.{cases_Bool}
use Rattle.serde_json.specs.Find.{get}
use Rattle.idl_tree.specs.Names.{Bytes}
use Rattle.typed_value.specs.declared.vals.Val.{Val}
use Rattle.sheet_step.specs.declared.dones.Done.{Done}
use Rattle.sheet_step.specs.declared.dones.Done.TheVariants as done
use Rattle.step_laws.specs.Fits.{Fits}
use Rattle.step_laws.specs.Kinds.{raw_of}
use Rattle.call_form.specs.declared.Call.{Call}
use Rattle.call_form.specs.declared.Outcome.{Outcome}
use Rattle.call_form.specs.declared.Reply.{Reply}
use Rattle.call_form.specs.declared.StdError.{StdError}
use Rattle.call_form.specs.declared.StdError.TheVariants.{InterfaceNotFound, MethodNotFound, MethodNotImplemented, InvalidParameter, ExpectedMore, PermissionDenied}
use Rattle.call_form.specs.StdErrors.{standard_of}
use Rattle.service_core.specs.Descriptions.{info_of}
use Rattle.service_core.specs.Outcomes.{outcome_of}
use Rattle.service_core.specs.Places.{one, plain, describes, unless_upgrade, own_reply, mistakes_upgrade, place_of}
use Rattle.service_core.specs.States.{State}
use Rattle.service_core.specs.Tells.{stepped, tell_done, tell_placed, tell_of}
use Rattle.service_laws.specs.Declared.{ends_well}
use Rattle.service_laws.specs.Laws.{IsKept, UpgradesAreAccepted}
use Rattle.service_laws.proofs.Rules.{ruled, done_fits}
use Rattle.service_laws.proofs.Ways.{Called, request_of, on_way}

abbrev IsAccepted : Outcome → Type 0
IsAccepted outcome = is_some outcome.raw ≡ ends_well outcome.replies

fault_refuses : (error : StdError) → IsAccepted (one (standard_of error))
fault_refuses (InterfaceNotFound interface) = refl
fault_refuses (MethodNotFound method) = refl
fault_refuses (MethodNotImplemented method) = refl
fault_refuses (InvalidParameter parameter) = refl
fault_refuses ExpectedMore = refl
fault_refuses PermissionDenied = refl

module _ (state : State) (kept : IsKept state) (call : Call) (asked : call.upgrade ≡ true) where
  -- no method of `org.varlink.service` takes an upgrade
  barred : (reply : Reply) → IsAccepted (one (unless_upgrade call reply))
  barred reply = rw asked refl

  own_refuses : (method : Bytes) → IsAccepted (one (own_reply state.sheet call method))
  own_refuses method = elim (cases_Bool (bytes_eq method (codes "GetInfo"))) [
    | inl info ↦ rw info (barred (plain (info_of state.sheet)))
    | inr other ↦ rw other (elim (cases_Bool (bytes_eq method (codes "GetInterfaceDescription"))) [
      | inl description ↦ rw description (barred (describes state.sheet (get (codes "interface") call.parameters)))
      | inr none ↦ rw none (fault_refuses (MethodNotFound call.method))
    ])
  ]

  module _ (a : Called state.sheet call) where
    -- a rule that is no upgrade is not asked for one
    no_replies : raw_of a.rule.1 ≡ None → ⊥
    no_replies none =
        let mistake : mistakes_upgrade call a.rule.1 ≡ true = rw (asked, none) refl in
        let no : true ≡ false = sym mistake ∙ a.upgrade in absurd (cc)

    done_accepted : (d : Done) → Fits a.home.1 (ruled state kept call a).output a.rule.1 d → IsAccepted (outcome_of state.sheet a.rule.0 d)
    done_accepted (done.Replies vs) f = absurd (no_replies f.no_upgrade)
    done_accepted (done.Refused error v) f = refl
    done_accepted (done.Upgrade raw v) f = refl
    done_accepted done.TooDeep f = refl

    step_accepted : (o : Option (Done × List Val)) → stepped state (request_of state.sheet call a) ≡ o
        → IsAccepted (tell_done state (request_of state.sheet call a) o).outcome
    step_accepted None is = refl
    step_accepted (Some (d, after)) is = done_accepted d (done_fits state kept call a d after is)

  way_accepted : IsAccepted (tell_placed state (place_of state.sheet call)).outcome
  way_accepted = on_way state.sheet call (λ way. IsAccepted (tell_placed state way).outcome)
      fault_refuses
      (λ cut at here. own_refuses cut.1)
      (λ a. step_accepted a (stepped state (request_of state.sheet call a)) refl)

pub upgrades-are-accepted : UpgradesAreAccepted
unfolding tell_of
upgrades-are-accepted state kept call asked = way_accepted state kept call asked
