-- each reply of a service is declared
use Rattle.std.proofs.Common.{◌≡◌, true, List, [], ◌∷◌, Option, Some, None, is_some, codes, bytes_eq, refl, sym, ap, ◌∙◌, subst}
use Rattle.std.specs.List.{list_all}
use Rattle.std.proofs.lemmas.Bool.{and_parts, and_from}
use Rattle.std.proofs.lemmas.Slice.Eq.{bytes_eq-Decides}
use Rattle.serde_json.specs.Data.{Data}
use Rattle.idl_tree.specs.Names.{Bytes, is_member_name}
use Rattle.idl_tree.specs.Faults.{error_named}
use Rattle.idl_tree.specs.declared.trees.Body.{Body}
use Rattle.typed_value.specs.OfType.{is_of_body}
use Rattle.typed_value.specs.Reads.{ReadsBody}
use Rattle.typed_value.specs.Shows.{ShowsFields}
use Rattle.typed_value.specs.declared.vals.Val.{Val}
use Rattle.sheet_step.specs.Step.{qualified}
use Rattle.sheet_step.specs.declared.dones.Done.{Done}
use Rattle.sheet_step.specs.declared.dones.Done.TheVariants as done
use Rattle.sheet_rules.specs.Types.{passes}
use Rattle.step_laws.specs.Fits.{RefusalFits, Fits}
use Rattle.call_form.specs.declared.Call.{Call}
use Rattle.call_form.specs.declared.Reply.{Reply}
use Rattle.call_form.specs.declared.StdError.{StdError}
use Rattle.call_form.specs.declared.StdError.TheVariants.{InvalidParameter}
use Rattle.call_form.specs.StdErrors.{standard_of}
use Rattle.service_core.specs.declared.requests.Request.{Request}
use Rattle.service_core.specs.Outcomes.{outcome_of, refusal_of, replies_of}
use Rattle.service_core.specs.Places.{Way, plain, own_reply, place_of}
use Rattle.service_core.specs.Sheets.{error_of}
use Rattle.service_core.specs.States.{State}
use Rattle.service_core.specs.Tells.{stepped, tell_done, tell_placed, tell_of}
use Rattle.service_laws.specs.Declared.{reads_error, is_declared, is_declared_by}
use Rattle.service_laws.specs.Laws.{IsKept, RepliesAreDeclared}
use Rattle.service_laws.proofs.Members.{method_sound, named_sound, shown_reads, qualified_cut}
use Rattle.service_laws.proofs.Rules.{Ruled, ruled, after_typed, done_fits, output_is}
use Rattle.service_laws.proofs.Told.{standard_declared, own_declared}
use Rattle.service_laws.proofs.Ways.{Called, request_of, on_way}

module _ (state : State) (kept : IsKept state) (call : Call) where
  abbrev AreDeclared : List Reply → Type 0
  AreDeclared replies = list_all (is_declared state.sheet call) replies ≡ true

  one_declared : (reply : Reply) → is_declared state.sheet call reply ≡ true → AreDeclared (reply ∷ [])
  one_declared reply is = and_from (is_declared state.sheet call reply) true is refl

  fault_declared : (error : StdError) → AreDeclared (standard_of error ∷ [])
  fault_declared error = one_declared (standard_of error) (standard_declared state.sheet call error)

  module _ (a : Called state.sheet call) where
    abbrev r : Ruled state.sheet call a
    r = ruled state kept call a

    -- by the method's reply
    reply_reads : (d : Data) → is_some (ReadsBody a.home.1 r.output d) ≡ true → is_declared_by state.sheet call None d ≡ true
    reply_reads d reads = rw (a.names_are, a.other, a.home_is, r.method_is) reads

    value_reads : (v : Val) → is_of_body a.home.1 r.output v ≡ true → is_declared_by state.sheet call None (ShowsFields a.home.1 r.output v) ≡ true
    value_reads v fit = reply_reads (ShowsFields a.home.1 r.output v)
        (shown_reads a.home.1 r.output v r.served (method_sound a.home.1 a.names.1 a.input r.output r.served r.method_is) fit)

    values_read : (vs : List Val) → list_all (is_of_body a.home.1 r.output) vs ≡ true → AreDeclared (replies_of (Some (a.home.1, r.output)) vs)
    values_read [] fit = refl
    values_read (v ∷ vs) fit =
        let parts = and_parts (is_of_body a.home.1 r.output v) (list_all (is_of_body a.home.1 r.output) vs) fit in
        and_from (is_declared_by state.sheet call None (ShowsFields a.home.1 r.output v)) (list_all (is_declared state.sheet call) (replies_of (Some (a.home.1, r.output)) vs))
        (value_reads v parts.0) (values_read vs parts.1)

    -- by the error's parameters
    error_reads : (name : Bytes) (body : Body) (d : Data) → error_named name a.home.1 ≡ Some body → is_some (ReadsBody a.home.1 body d) ≡ true
        → reads_error state.sheet call d (a.names.0, name) ≡ true
    error_reads name body d declared reads =
        let same : bytes_eq a.names.0 a.names.0 ≡ true = (bytes_eq-Decides a.names.0 a.names.0).1 refl in
        rw (a.other, a.names_are, same, a.home_is, declared) reads

    qualified_reads : (name : Bytes) (body : Body) (d : Data) → is_member_name name ≡ true → error_named name a.home.1 ≡ Some body
        → is_some (ReadsBody a.home.1 body d) ≡ true → is_declared_by state.sheet call (Some (qualified a.home.1.name name)) d ≡ true
    qualified_reads name body d named declared reads =
        ap (passes (reads_error state.sheet call d)) (qualified_cut a.home.1.name name named)
        ∙ ap (λ (interface : Bytes). reads_error state.sheet call d (interface, name)) r.name_is
        ∙ error_reads name body d declared reads

    error_is : (error : Bytes) (v : Val) (f : RefusalFits a.home.1 error v) → is_member_name f.name ≡ true → error_of state.sheet a.rule.0 error ≡ Some (a.home.1, f.body)
    error_is error v f named = rw (r.at, r.is.home_is, f.is, qualified_cut a.home.1.name f.name named, f.declared) refl

    refusal_reads : (error : Bytes) (v : Val) → RefusalFits a.home.1 error v → is_declared state.sheet call (refusal_of state.sheet a.rule.0 error v) ≡ true
    refusal_reads error v f =
        let sound = named_sound a.home.1 f.name f.body r.served f.declared in
        rw (error_is error v f sound.1)
        (subst (λ (word : Bytes). is_declared_by state.sheet call (Some word) (ShowsFields a.home.1 f.body v) ≡ true) (sym f.is)
        (qualified_reads f.name f.body (ShowsFields a.home.1 f.body v) sound.1 f.declared (shown_reads a.home.1 f.body v r.served sound.0 f.typed)))

    done_declared : (d : Done) → Fits a.home.1 r.output a.rule.1 d → AreDeclared (outcome_of state.sheet a.rule.0 d).replies
    done_declared (done.Replies vs) f = rw (output_is state kept call a) (values_read vs f.typed)
    done_declared (done.Refused error v) f = one_declared (refusal_of state.sheet a.rule.0 error v) (refusal_reads error v f)
    done_declared (done.Upgrade raw v) f = rw (output_is state kept call a) (one_declared (plain (ShowsFields a.home.1 r.output v)) (value_reads v f.typed))
    done_declared done.TooDeep f = fault_declared (InvalidParameter (codes "depth"))

    step_told : (o : Option (Done × List Val)) → stepped state (request_of state.sheet call a) ≡ o
        → IsKept (tell_done state (request_of state.sheet call a) o).state
        × AreDeclared (tell_done state (request_of state.sheet call a) o).outcome.replies
    step_told None is = (kept, refl)
    step_told (Some (d, after)) is = (
      record { served = kept.served; typed = kept.typed; one_way = kept.one_way; registers = after_typed state kept call a d after is },
      done_declared d (done_fits state kept call a d after is),
    )

  abbrev IsTold : Way Request → Type 0
  IsTold way = IsKept (tell_placed state way).state × AreDeclared (tell_placed state way).outcome.replies

  way_told : IsTold (place_of state.sheet call)
  way_told = on_way state.sheet call IsTold
      (λ error. (kept, fault_declared error))
      (λ cut at here. (kept, one_declared (own_reply state.sheet call cut.1) (own_declared state.sheet call cut at here)))
      (λ a. step_told a (stepped state (request_of state.sheet call a)) refl)

pub replies-are-declared : RepliesAreDeclared
unfolding tell_of
replies-are-declared state kept call = way_told state kept call
