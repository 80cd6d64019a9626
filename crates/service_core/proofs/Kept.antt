-- a step that refuses leaves the registers as they were
use Rattle.std.proofs.Common.{◌≡◌, Bool, true, false, ◌&&◌, cond, List, [], ◌∷◌, Option, Some, None, option_map, option_and_then, refl, sym, ap, ◌∙◌, subst}
use Rattle.std.specs.Bool.{⊤}
use Rattle.idl_tree.specs.Names.{Bytes}
use Rattle.typed_value.specs.declared.vals.Val.{Val}
use Rattle.typed_value.proofs.ReadsFit.{some_is, mapped}
use Rattle.sheet_rules.specs.declared.forms.Branch.{Branch}
use Rattle.sheet_rules.specs.declared.forms.Guard.{Guard}
use Rattle.sheet_rules.specs.declared.forms.Expr.{Expr}
use Rattle.sheet_rules.specs.declared.forms.Ending.{Ending}
use Rattle.sheet_rules.specs.declared.forms.Ending.TheVariants as ending
use Rattle.rule_values.specs.Meanings.{Env, ◌>>=◌, meaning}
use Rattle.sheet_step.specs.declared.dones.Done.{Done}
use Rattle.sheet_step.specs.declared.dones.Done.TheVariants as done
use Rattle.sheet_step.specs.Registers.{seen, after_steps}
use Rattle.sheet_step.specs.Levels.{are_within}
use Rattle.sheet_step.specs.Step.{qualified, refusing, refused, answer, items_found, stream_replies, leveled, ran, went, step_of, step, taken, done_is_within}

-- the registers changed only where the rule gave replies or an upgrade
abbrev pub KeptUnless : Done → List Val → List Val → Type 0
KeptUnless (done.Replies vs) before after = ⊤
KeptUnless (done.Upgrade raw v) before after = ⊤
KeptUnless d before after = after ≡ before

-- what an outcome gives is neither a refusal nor too deep
abbrev IsGiven : Done → Type 0
IsGiven (done.Replies vs) = ⊤
IsGiven (done.Upgrade raw v) = ⊤
IsGiven d = ⊥

bind_is : {A B : Type 0} (f : A → Option B) (o : Option A) (y : B) → (o >>= f) ≡ Some y → (x : A) × ((o ≡ Some x) × (f x ≡ Some y))
bind_is f (Some x) y is = (x, (refl, is))
bind_is f None y is = absurd (cc)

given_reply : (o : Option Val) (f : Val → Done) → ((v : Val) → IsGiven (f v)) → (d : Done) → (o >>= λ v. Some (f v)) ≡ Some d → IsGiven d
given_reply o f all d is =
    let at = bind_is (λ v. Some (f v)) o d is in
    subst IsGiven (some_is at.1.1) (all at.0)

answer_given : (e : Ending) (env : Env) (d : Done) → answer e env ≡ Some d → IsGiven d
answer_given (ending.Reply expr) env d is = given_reply (meaning expr env) (λ v. done.Replies (v ∷ [])) (λ v. tt) d is
answer_given (ending.Upgrade raw expr) env d is = given_reply (meaning expr env) (λ v. done.Upgrade raw v) (λ v. tt) d is
answer_given (ending.Stream over each last) env d is =
    let items = bind_is (λ (vs : List Val). stream_replies vs each last env >>= λ (rs : List Val). Some (done.Replies rs)) (items_found over env) d is in
    let vs = bind_is (λ (vs : List Val). Some (done.Replies vs)) (stream_replies items.0 each last env) d items.1.1 in
    subst IsGiven (some_is vs.1.1) tt

given_kept : (d : Done) (before after : List Val) → IsGiven d → KeptUnless d before after
given_kept (done.Replies vs) before after g = tt
given_kept (done.Upgrade raw v) before after g = tt
given_kept (done.Refused error v) before after g = absurd g
given_kept done.TooDeep before after g = absurd g

-- levels
by_levels : (b : Bool) (before after : List Val) (d : Done) (y : Done × List Val) → KeptUnless d before after
    → cond b (d, after) (done.TooDeep, before) ≡ y → KeptUnless y.0 before y.1
by_levels true before after d y kept is = subst (λ (x : Done × List Val). KeptUnless x.0 before x.1) is kept
by_levels false before after d y kept is = subst (λ (x : Done × List Val). KeptUnless x.0 before x.1) is refl

leveled_kept : (before : List Val) (x y : Done × List Val) → KeptUnless x.0 before x.1 → leveled before x ≡ y → KeptUnless y.0 before y.1
leveled_kept before (d, after) y kept is = by_levels (are_within after && done_is_within d) before after d y kept is

went_kept : (interface : Bytes) (branch : Branch) (parameters : Val) (rs : List Val) (refusal : Option Guard) (x : Done × List Val)
    → went interface branch parameters rs refusal ≡ Some x → KeptUnless x.0 rs x.1
went_kept interface branch parameters rs (Some guard) x is =
    let at = mapped (λ (d : Done). (d, rs)) (refused interface guard (seen parameters rs)) x is in
    let made = bind_is (λ (v : Val). Some (done.Refused (qualified interface guard.error) v)) (meaning guard.with (seen parameters rs)) at.0 at.1.0 in
    subst (λ (y : Done × List Val). KeptUnless y.0 rs y.1) at.1.1
    (subst (λ (d : Done). KeptUnless d rs rs) (some_is made.1.1) refl)
went_kept interface branch parameters rs None x is =
    let after = bind_is (λ (a : List Val). answer branch.outcome (seen parameters a) >>= λ (d : Done). Some (d, a)) (after_steps parameters branch.steps rs) x is in
    let result = bind_is (λ (d : Done). Some (d, after.0)) (answer branch.outcome (seen parameters after.0)) x after.1.1 in
    subst (λ (y : Done × List Val). KeptUnless y.0 rs y.1) (some_is result.1.1)
    (given_kept result.0 rs after.0 (answer_given branch.outcome (seen parameters after.0) result.0 result.1.0))

pub step_kept : (interface : Bytes) (branches : List Branch) (parameters : Val) (rs : List Val) (d : Done) (after : List Val)
    → step interface branches parameters rs ≡ Some (d, after) → KeptUnless d rs after
step_kept interface branches parameters rs d after is =
    let branch = bind_is (λ (b : Branch). step_of interface b parameters rs) (taken branches (seen parameters rs)) (d, after) is in
    let refusal = bind_is (λ (r : Option Guard). went interface branch.0 parameters rs r >>= λ (x : Done × List Val). Some (leveled rs x))
    (refusing branch.0.guards (seen parameters rs)) (d, after) branch.1.1 in
    let result = bind_is (λ (x : Done × List Val). Some (leveled rs x)) (went interface branch.0 parameters rs refusal.0) (d, after) refusal.1.1 in
    leveled_kept rs result.0 (d, after) (went_kept interface branch.0 parameters rs refusal.0 result.0 result.1.0) (some_is result.1.1)
