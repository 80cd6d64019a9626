-- what a call is answered with fits it
use Rattle.std.proofs.Common.{◌≡◌, ◌≤◌, ℕ, zero, suc, Bool, true, false, ◌||◌, not, cond, List, [], ◌∷◌, length, Option, Some, None, is_some, slice_get, codes, refl, sym, ap, ◌∙◌, subst, arith, inl, inr}
use Rattle.std.specs.List.{AllByRecursion, list_all}
use Rattle.std.proofs.lemmas.Bool.{cases_Bool}
use Rattle.idl_tree.specs.Names.{Bytes}
use Rattle.idl_tree.specs.Form.{interface_form}
use Rattle.idl_tree.specs.declared.trees.Interface.{Interface}
use Rattle.idl_tree.specs.declared.trees.Body.{Body}
use Rattle.typed_value.specs.OfType.{is_of_body}
use Rattle.typed_value.specs.declared.vals.Val.{Val}
use Rattle.typed_value.proofs.ReadsFit.{some_is}
use Rattle.sheet_rules.specs.declared.forms.Rule.{Rule}
use Rattle.sheet_step.specs.declared.dones.Done.{Done}
use Rattle.sheet_step.specs.declared.dones.Done.TheVariants as done
use Rattle.sheet_form.specs.declared.sheets.Contents.{Contents}
use Rattle.step_laws.specs.Kinds.{raw_of, streams}
use Rattle.step_laws.specs.Fits.{RepliesFit, UpgradeFits, RefusalFits, Fits}
use Rattle.call_form.specs.declared.Raw.{Raw}
use Rattle.call_form.specs.declared.Call.{Call}
use Rattle.call_form.specs.declared.Reply.{Reply}
use Rattle.session_core.specs.Outcomes.{Fits as FitsCall}
use Rattle.session_core.specs.Outcomes.{HasSoundParameters, Continues}
use Rattle.service_core.specs.declared.requests.Request.{Request}
use Rattle.service_core.specs.Sheets.{Shape, output_of, error_of}
use Rattle.service_core.specs.Served.{IsServed}
use Rattle.service_core.specs.Places.{is_upgrade, mistakes_upgrade, lacks_more, one}
use Rattle.service_core.specs.Outcomes.{outcome_of, refusal_of, replies_of}
use Rattle.service_core.specs.Comes.{MayCome}
use Rattle.service_core.proofs.Members.{method_formed, error_formed, qualified_cut}
use Rattle.service_core.proofs.Ways.{Asked, rule_at}
use Rattle.service_core.proofs.Replied.{continues_of, errors_of, length_of, sound_shown, sound_replies}

-- an interface at a place of a list whose interfaces all are served
pub served_at : (interfaces : List Interface) (place : ℕ) (home : Interface) → AllByRecursion IsServed interfaces → slice_get interfaces place ≡ Some home → IsServed home
served_at [] place home all is = absurd (cc)
served_at (first ∷ interfaces) zero home all is = subst IsServed (some_is is) all.0
served_at (first ∷ interfaces) (suc place) home all is = served_at interfaces place home all.1 is

-- one reply alone fits every call
pub one_fits : (call : Call) (reply : Reply) → reply.continues ≡ false → HasSoundParameters reply → FitsCall call (one reply)
one_fits call reply last sound = record {
  continues = last;
  errors = tt;
  several = λ _. refl;
  upgrade = λ raw. (let no : false ≡ true = raw in absurd (cc));
  writable = (sound, tt);
}

-- what is shown by
pub output_is : (sheet : Contents) (place : ℕ) (d : Done) (c : MayCome sheet place d) → output_of sheet place ≡ Some (c.home, c.output)
output_is sheet place d c = rw (c.rule_is, c.home_is, c.method_is) refl

pub error_is : (sheet : Contents) (place : ℕ) (d : Done) (c : MayCome sheet place d) (error : Bytes) (parameters : Val) (r : RefusalFits c.home error parameters)
    → IsServed c.home → error_of sheet place error ≡ Some (c.home, r.body)
error_is sheet place d c error parameters r served =
    let named = error_formed c.home r.name r.body served.formed r.declared in
    rw (c.rule_is, c.home_is, r.is, qualified_cut c.home.name r.name named.1, r.declared) refl

-- the rule that may come to something is the one that the call asks for
same_rule : (sheet : Contents) (call : Call) (request : Request) (d : Done) (a : Asked sheet call request) (c : MayCome sheet request.rule d) → a.rule.1 ≡ c.rule
same_rule sheet call request d a c =
    let at = rule_at sheet a.home.0 a.names.1 a.rule a.rule_is in
    let place : a.rule.0 ≡ request.rule = ap (λ (r : Request). r.rule) a.request_is in
    some_is (sym at ∙ ap (λ (p : ℕ). slice_get sheet.rules p) place ∙ c.rule_is)

-- flags
one_of : (call : Call) (rule : Rule) → lacks_more call rule ≡ false → call.more ≡ false → streams rule ≡ false
one_of call rule lacks alone = elim (cases_Bool (streams rule)) [
  | inl flows ↦ (let none : true ≡ false = sym (rw (flows, alone) refl) ∙ lacks in absurd (cc))
  | inr stands ↦ stands
]

either_false : (a b : Bool) → (a || b) ≡ false → (a ≡ false) × (b ≡ false)
either_false true b is = (let no : true ≡ false = is in absurd (cc))
either_false false b is = (refl, is)

flags_of : (upgrade oneway more : Bool) → cond upgrade (not true || (oneway || more)) true ≡ false → (upgrade ≡ true) × (oneway ≡ false) × (more ≡ false)
flags_of true oneway more is = (refl, (either_false oneway more is).0, (either_false oneway more is).1)
flags_of false oneway more is = (let no : true ≡ false = is in absurd (cc))

upgrade_flags : (call : Call) (rule : Rule) (raw : Raw) → raw_of rule ≡ Some raw → mistakes_upgrade call rule ≡ false
    → (call.upgrade ≡ true) × (call.oneway ≡ false) × (call.more ≡ false)
upgrade_flags call rule raw is mistakes =
    flags_of call.upgrade call.oneway call.more (ap (λ (o : Option Raw). cond call.upgrade (not (is_some o) || (call.oneway || call.more)) (is_some o)) (sym is) ∙ mistakes)

not_none : (vs : List Val) → 1 ≤ length vs → (v : Val) × ((later : List Val) × (v ∷ later ≡ vs))
not_none [] h = absurd (omega (arith, h))
not_none (v ∷ later) h = (v, (later, refl))

module _ (sheet : Contents) (call : Call) (request : Request) (a : Asked sheet call request) (all : AllByRecursion IsServed sheet.interfaces) where
  replies_fit : (vs : List Val) (c : MayCome sheet request.rule (done.Replies vs)) → FitsCall call (outcome_of sheet request.rule (done.Replies vs))
  replies_fit vs c =
      let r = c.fits in
      let served = served_at sheet.interfaces c.rule.interface c.home all c.home_is in
      let structs = method_formed c.home c.rule.method c.input c.output served.formed c.method_is in
      let shape = output_is sheet request.rule (done.Replies vs) c in
      let some = not_none vs r.not_none in
      let rule = same_rule sheet call request (done.Replies vs) a c in
      record {
        continues = subst (λ (l : List Val). Continues (replies_of (output_of sheet request.rule) l)) some.1.1 (continues_of (output_of sheet request.rule) some.0 some.1.0);
        errors = errors_of (output_of sheet request.rule) vs;
        several = λ alone. length_of (output_of sheet request.rule) vs
            ∙ r.one (one_of call c.rule (subst (λ (x : Rule). lacks_more call x ≡ false) rule a.more) alone);
        upgrade = λ raw. (let no : false ≡ true = raw in absurd (cc));
        writable = rw shape (sound_replies c.home c.output vs structs.1 r.typed);
      }

  upgrade_fits : (raw : Raw) (v : Val) (c : MayCome sheet request.rule (done.Upgrade raw v)) → FitsCall call (outcome_of sheet request.rule (done.Upgrade raw v))
  upgrade_fits raw v c =
      let r = c.fits in
      let served = served_at sheet.interfaces c.rule.interface c.home all c.home_is in
      let structs = method_formed c.home c.rule.method c.input c.output served.formed c.method_is in
      let sound = sound_shown c.home c.output v structs.1 r.typed in
      let rule = same_rule sheet call request (done.Upgrade raw v) a c in
      record {
        continues = refl;
        errors = tt;
        several = λ _. refl;
        upgrade = λ _. upgrade_flags call c.rule raw r.raw_is (subst (λ (x : Rule). mistakes_upgrade call x ≡ false) rule a.upgrade);
        writable = rw (output_is sheet request.rule (done.Upgrade raw v) c) (record { is_object = sound.0; is_sound = sound.1 }, tt);
      }

  refusal_fits : (error : Bytes) (v : Val) (c : MayCome sheet request.rule (done.Refused error v)) → FitsCall call (outcome_of sheet request.rule (done.Refused error v))
  refusal_fits error v c =
      let r = c.fits in
      let served = served_at sheet.interfaces c.rule.interface c.home all c.home_is in
      let named = error_formed c.home r.name r.body served.formed r.declared in
      let sound = sound_shown c.home r.body v named.0 r.typed in
      one_fits call (refusal_of sheet request.rule error v) refl
      (rw (error_is sheet request.rule (done.Refused error v) c error v r served) (record { is_object = sound.0; is_sound = sound.1 }))

  pub done_fits : (d : Done) → MayCome sheet request.rule d → FitsCall call (outcome_of sheet request.rule d)
  done_fits (done.Replies vs) c = replies_fit vs c
  done_fits (done.Refused error v) c = refusal_fits error v c
  done_fits (done.Upgrade raw v) c = upgrade_fits raw v c
  done_fits done.TooDeep c = one_fits call _ refl (record { is_object = refl; is_sound = (tt, tt, tt) })
