-- a typed branch comes to what its outcome says, and keeps the types of the registers
use Rattle.std.proofs.Common.{◌≡◌, ◌≤◌, ℕ, Bool, true, false, not, ◌&&◌, cond, List, [], ◌∷◌, ◌++◌, length, Option, Some, None, is_some, option_map, option_and_then, refl, sym, ap, ◌∙◌, subst, arith}
use Rattle.std.specs.Prelude.{slice_get}
use Rattle.std.specs.List.{list_all}
use Rattle.std.proofs.lemmas.Bool.{false≢true}
use Rattle.call_form.specs.declared.Raw.{Raw}
use Rattle.idl_tree.specs.Faults.{error_named}
use Rattle.idl_tree.specs.Names.{Bytes}
use Rattle.idl_tree.specs.declared.trees.Interface.{Interface}
use Rattle.idl_tree.specs.declared.trees.Body.{Body}
use Rattle.typed_value.specs.declared.vals.Val.{Val}
use Rattle.typed_value.proofs.Distinct.{first_true, second_true}
use Rattle.typed_value.proofs.EntriesBack.{both}
use Rattle.sheet_rules.specs.Types.{Typ, body_typ, array_part, is_of_typ}
use Rattle.sheet_rules.specs.Settings.{Setting, ref_typ}
use Rattle.sheet_rules.specs.Gives.{gives}
use Rattle.sheet_rules.specs.Conditions.{cond_is_typed, guard_is_typed}
use Rattle.sheet_rules.specs.Steps.{step_is_typed}
use Rattle.sheet_rules.specs.Outcomes as typing
use Rattle.sheet_rules.specs.Rules.{when_is_typed, branch_is_typed, has_one_way}
use Rattle.sheet_rules.specs.declared.forms.Ref.{Ref}
use Rattle.sheet_rules.specs.declared.forms.Expr.{Expr}
use Rattle.sheet_rules.specs.declared.forms.Cond.{Cond}
use Rattle.sheet_rules.specs.declared.forms.Guard.{Guard}
use Rattle.sheet_rules.specs.declared.forms.Branch.{Branch}
use Rattle.sheet_rules.specs.declared.forms.Ending.{Ending}
use Rattle.sheet_rules.specs.declared.forms.Ending.TheVariants as ending
use Rattle.rule_values.specs.Parts.{items_of}
use Rattle.rule_values.specs.Meanings.{Env, found, meaning}
use Rattle.sheet_step.specs.Levels.{are_within}
use Rattle.sheet_step.specs.Registers.{seen}
use Rattle.sheet_step.specs.Step.{is_taken, taken, refusing, with_item, each_reply, answer, done_is_within, leveled, qualified, refused, ran, went, step_of}
use Rattle.sheet_step.specs.declared.dones.Done.{Done}
use Rattle.sheet_step.specs.declared.dones.Done.TheVariants as outcome
use Rattle.step_laws.specs.Kinds.{ending_raw, ending_streams}
use Rattle.step_laws.specs.Given.{ThereIs, IsGiven, InPlace}
use Rattle.step_laws.proofs.Parted.{no_some, some_same, then_opened, passed}
use Rattle.step_laws.proofs.Referred.{found_given}
use Rattle.step_laws.proofs.FittingTypes.{there_some, HasScope}
use Rattle.step_laws.proofs.ValueParts.{all_of_typ, items_given}
use Rattle.step_laws.proofs.Expressions.{expr_given}
use Rattle.step_laws.proofs.Conditions.{cond_told}
use Rattle.step_laws.proofs.KeptOrder.{all_pushed}
use Rattle.step_laws.proofs.Steps.{Kept, in_place, steps_done}

module _ (s : Setting) (home : Interface) (x : Ending) where
  abbrev reply_typ : Typ
  reply_typ = body_typ s.scope s.output

  -- what an outcome comes to
  pub record RepliesCome (replies : List Val) : Type 0 where
    pub no_upgrade : ending_raw x ≡ None
    pub not_none : 1 ≤ length replies
    pub one : ending_streams x ≡ false → length replies ≡ 1
    pub typed : all_of_typ s.interfaces reply_typ replies ≡ true

  pub record UpgradeComes (raw : Raw) (reply : Val) : Type 0 where
    pub raw_is : ending_raw x ≡ Some raw
    pub typed : is_of_typ s.interfaces reply_typ reply ≡ true

  pub record RefusalComes (error : Bytes) (parameters : Val) : Type 0 where
    pub name : Bytes
    pub body : Body
    pub is : error ≡ qualified home.name name
    pub declared : error_named name home ≡ Some body
    pub typed : is_of_typ s.interfaces (body_typ s.scope body) parameters ≡ true

  abbrev pub Comes : Done → Type 0
  Comes (outcome.Replies replies) = RepliesCome replies
  Comes (outcome.Refused error parameters) = RefusalComes error parameters
  Comes (outcome.Upgrade raw reply) = UpgradeComes raw reply
  Comes outcome.TooDeep = Unit {0}

ends_once : {A : Type 0} (xs : List A) (x : A) → 1 ≤ length (xs ++ x ∷ [])
ends_once [] x = omega arith
ends_once (y ∷ xs) x = omega arith

-- what a stream comes to
stream_is : (over : Ref) (each last : Expr) (e : Env) (array : Val) (items replies : List Val) (v : Val) → found e over ≡ Some array
    → items_of array ≡ Some items → each_reply each e items ≡ Some replies → meaning last e ≡ Some v
    → answer (ending.Stream over each last) e ≡ Some (outcome.Replies (replies ++ v ∷ []))
stream_is over each last e array items replies v a b c d = rw (a, b, c, d)

-- a stream is not held to one reply
any_number : (n : ℕ) → true ≡ false → n ≡ 1
any_number n none = absurd (false≢true (sym none))

module _ (s : Setting) (home : Interface) (home_is : slice_get s.interfaces s.scope ≡ Some home) (none : s.item ≡ None) (parameters : Val)
    (of : is_of_typ s.interfaces (body_typ s.scope s.input) parameters ≡ true) (values : List Val) (kept : Kept s none parameters of values) where
  abbrev env : Env
  env = seen parameters values

  place : InPlace s env
  place = in_place s none parameters of values kept

  body_scope : (body : Body) → HasScope s.interfaces (body_typ s.scope body)
  body_scope body = there_some (slice_get s.interfaces s.scope) home home_is

  body_given : (expr : Expr) (body : Body) → gives s expr (body_typ s.scope body) ≡ true → IsGiven s.interfaces (body_typ s.scope body) (meaning expr env)
  body_given expr body h = expr_given s env place expr (body_typ s.scope body) (body_scope body) h

  -- the replies of a stream
  item_place : (t : Typ) (v : Val) → is_of_typ s.interfaces t v ≡ true → InPlace (typing.with_item s (Some t)) (with_item env v)
  item_place t v is_of = record {
    registers = kept;
    parameters = of;
    item = λ u is. record { value = v; is = refl; so = subst (λ (x : Typ). is_of_typ s.interfaces x v ≡ true) (some_same t u is) is_of };
  }

  each_given : (t : Typ) (each : Expr) (items : List Val) → gives (typing.with_item s (Some t)) each (body_typ s.scope s.output) ≡ true
      → all_of_typ s.interfaces t items ≡ true
      → ThereIs (each_reply each env items) (λ replies. all_of_typ s.interfaces (body_typ s.scope s.output) replies ≡ true)
  each_given t each [] h all = record { value = []; is = refl; so = refl }
  each_given t each (item ∷ items) h all =
      let inner = typing.with_item s (Some t) in
      let v = expr_given inner (with_item env item) (item_place t item (first_true (is_of_typ s.interfaces t item) _ all)) each
      (body_typ s.scope s.output) (body_scope s.output) h in
      let rest = each_given t each items h (second_true (is_of_typ s.interfaces t item) _ all) in
      record {
        value = v.value ∷ rest.value;
        is = rw (v.is, rest.is) refl;
        so = both (is_of_typ s.interfaces (body_typ s.scope s.output) v.value) _ v.so rest.so;
      }

  stream_given : (over : Ref) (each last : Expr) → typing.gives_each s over each ≡ true → typing.gives_reply s last ≡ true
      → ThereIs (answer (ending.Stream over each last) env) (Comes s home (ending.Stream over each last))
  stream_given over each last h k =
      let part = passed (λ (part : Typ). typing.gives_reply (typing.with_item s (Some part)) each) (option_and_then array_part (ref_typ s over)) h in
      let t = then_opened array_part (ref_typ s over) part.value part.is in
      let array = found_given s env place over t.value t.is in
      let items = items_given s.interfaces t.value part.value array.value t.so array.so in
      let replies = each_given part.value each items.value part.so items.so in
      let v = body_given last s.output k in
      record {
        value = outcome.Replies (replies.value ++ v.value ∷ []);
        is = stream_is over each last env array.value items.value replies.value v.value array.is items.is replies.is v.is;
        so = record {
          no_upgrade = refl;
          not_none = ends_once replies.value v.value;
          one = any_number (length (replies.value ++ v.value ∷ []));
          typed = all_pushed (is_of_typ s.interfaces (body_typ s.scope s.output)) replies.value v.value v.so replies.so;
        };
      }

  answer_given : (x : Ending) → typing.ending_is_typed s x ≡ true → ThereIs (answer x env) (Comes s home x)
  answer_given (ending.Reply expr) h =
      let v = body_given expr s.output h in
      record {
        value = outcome.Replies (v.value ∷ []);
        is = rw v.is refl;
        so = record {
          no_upgrade = refl;
          not_none = omega arith;
          one = λ none. refl;
          typed = both (is_of_typ s.interfaces (body_typ s.scope s.output) v.value) true v.so refl;
        };
      }
  answer_given (ending.Stream over each last) h =
      let heads = first_true (typing.is_no_item over && typing.gives_each s over each) _ h in
      stream_given over each last (second_true (typing.is_no_item over) _ heads)
      (second_true (typing.is_no_item over && typing.gives_each s over each) _ h)
  answer_given (ending.Upgrade raw expr) h =
      let v = body_given expr s.output h in
      record { value = outcome.Upgrade raw v.value; is = rw v.is refl; so = record { raw_is = refl; typed = v.so } }

  -- the guards
  abbrev IsTyped : Option Guard → Type 0
  IsTyped o = (guard : Guard) → o ≡ Some guard → guard_is_typed s guard ≡ true

  tried : (holds : Bool) (guard : Guard) (rest : Option (Option Guard)) → guard_is_typed s guard ≡ true → ThereIs rest IsTyped
      → ThereIs (cond holds rest (Some (Some guard))) IsTyped
  tried true guard rest typed there = there
  tried false guard rest typed there = record {
    value = Some guard;
    is = refl;
    so = λ other is. subst (λ (g : Guard). guard_is_typed s g ≡ true) (some_same guard other is) typed;
  }

  guards_tried : (guards : List Guard) → list_all (guard_is_typed s) guards ≡ true → ThereIs (refusing guards env) IsTyped
  guards_tried [] h = record { value = None; is = refl; so = λ guard is. absurd (no_some guard is) }
  guards_tried (guard ∷ guards) h =
      let typed = first_true (guard_is_typed s guard) _ h in
      let holds = cond_told s env place guard.need (first_true (cond_is_typed s guard.need) _ typed) in
      let next = tried holds.value guard (refusing guards env) typed (guards_tried guards (second_true (guard_is_typed s guard) _ h)) in
      record { value = next.value; is = rw holds.is next.is; so = next.so }

  refused_given : (guard : Guard) (x : Ending) → guard_is_typed s guard ≡ true → ThereIs (refused home.name guard env) (Comes s home x)
  refused_given guard x typed =
      let body = passed (λ (body : Body). gives s guard.with (body_typ s.scope body))
      (option_and_then (error_named guard.error) (slice_get s.interfaces s.scope)) (second_true (cond_is_typed s guard.need) _ typed) in
      let v = body_given guard.with body.value body.so in
      record {
        value = outcome.Refused (qualified home.name guard.error) v.value;
        is = rw v.is refl;
        so = record {
          name = guard.error;
          body = body.value;
          is = refl;
          declared = ap (option_and_then (error_named guard.error)) (sym home_is) ∙ body.is;
          typed = v.so;
        };
      }

module _ (s : Setting) (home : Interface) (home_is : slice_get s.interfaces s.scope ≡ Some home) (none : s.item ≡ None) (parameters : Val)
    (of : is_of_typ s.interfaces (body_typ s.scope s.input) parameters ≡ true) where
  abbrev pub IsKept : List Val → Type 0
  IsKept = Kept s none parameters of

  -- registers that keep their types, and what the outcome comes to
  pub record Goes (x : Ending) (result : Done × List Val) : Type 0 where
    pub comes : Comes s home x result.0
    pub kept : IsKept result.1

  ran_goes : (branch : Branch) (values : List Val) → IsKept values → list_all (step_is_typed s) branch.steps ≡ true
      → typing.ending_is_typed s branch.outcome ≡ true → ThereIs (ran branch parameters values) (Goes branch.outcome)
  ran_goes branch values kept steps typed =
      let after = steps_done s none parameters of branch.steps values kept steps in
      let done = answer_given s home home_is none parameters of after.value after.so branch.outcome typed in
      record {
        value = (done.value, after.value);
        is = rw (after.is, done.is) refl;
        so = record { comes = done.so; kept = after.so };
      }

  went_goes : (branch : Branch) (values : List Val) (refusal : Option Guard) → IsKept values → list_all (step_is_typed s) branch.steps ≡ true
      → typing.ending_is_typed s branch.outcome ≡ true → ((guard : Guard) → refusal ≡ Some guard → guard_is_typed s guard ≡ true)
      → ThereIs (went home.name branch parameters values refusal) (Goes branch.outcome)
  went_goes branch values None kept steps typed guards = ran_goes branch values kept steps typed
  went_goes branch values (Some guard) kept steps typed guards =
      let refusal = refused_given s home home_is none parameters of values kept guard branch.outcome (guards guard refl) in
      record {
        value = (refusal.value, values);
        is = ap (option_map (λ (done : Done). (done, values))) refusal.is;
        so = record { comes = refusal.so; kept = kept };
      }

  -- the same, with levels within the limit
  pub record GoesWithin (x : Ending) (before : List Val) (result : Done × List Val) : Type 0 where
    pub goes : Goes x result
    pub within : done_is_within result.0 ≡ true
    pub levels : are_within before ≡ true → are_within result.1 ≡ true

  leveled_by : (x : Ending) (before : List Val) (done : Done) (after : List Val) (b : Bool) → (are_within after && done_is_within done) ≡ b
      → IsKept before → Goes x (done, after) → GoesWithin x before (cond b (done, after) (outcome.TooDeep, before))
  leveled_by x before done after true is kept goes = record {
    goes = goes;
    within = second_true (are_within after) _ is;
    levels = λ old. first_true (are_within after) _ is;
  }
  leveled_by x before done after false is kept goes = record {
    goes = record { comes = tt; kept = kept };
    within = refl;
    levels = λ old. old;
  }

  leveled_goes : (x : Ending) (before : List Val) (result : Done × List Val) → IsKept before → Goes x result → GoesWithin x before (leveled before result)
  leveled_goes x before result kept goes = leveled_by x before result.0 result.1 (are_within result.1 && done_is_within result.0) refl kept goes

  pub branch_goes : (branch : Branch) (values : List Val) → IsKept values → branch_is_typed s branch ≡ true
      → ThereIs (step_of home.name branch parameters values) (GoesWithin branch.outcome values)
  branch_goes branch values kept typed =
      let guards_typed = list_all (guard_is_typed s) branch.guards in
      let steps_typed = list_all (step_is_typed s) branch.steps in
      let three = first_true (when_is_typed s branch.when && guards_typed && steps_typed) _ typed in
      let two = first_true (when_is_typed s branch.when && guards_typed) _ three in
      let refusal = guards_tried s home home_is none parameters of values kept branch.guards (second_true (when_is_typed s branch.when) _ two) in
      let result = went_goes branch values refusal.value kept (second_true (when_is_typed s branch.when && guards_typed) _ three)
      (second_true (when_is_typed s branch.when && guards_typed && steps_typed) _ typed) refusal.so in
      record {
        value = leveled values result.value;
        is = rw (refusal.is, result.is) refl;
        so = leveled_goes branch.outcome values result.value kept result.so;
      }

  -- one branch is taken
  abbrev pub IsOne : (Branch → Bool) → Branch → Type 0
  IsOne test branch = (branch_is_typed s branch ≡ true) × (test branch ≡ true)

  last_taken : (when : Option Cond) (e : Env) → not (is_some when) ≡ true → is_taken when e ≡ Some true
  last_taken None e h = refl
  last_taken (Some x) e h = absurd (false≢true h)

  when_told : (when : Option Cond) (values : List Val) → IsKept values → when_is_typed s when ≡ true
      → ThereIs (is_taken when (seen parameters values)) (λ b. Unit {0})
  when_told None values kept h = record { value = true; is = refl; so = tt }
  when_told (Some x) values kept h = cond_told s (seen parameters values) (in_place s none parameters of values kept) x h

  chosen : (test : Branch → Bool) (holds : Bool) (branch : Branch) (rest : Option Branch) → IsOne test branch → ThereIs rest (IsOne test)
      → ThereIs (cond holds (Some branch) rest) (IsOne test)
  chosen test true branch rest one there = record { value = branch; is = refl; so = one }
  chosen test false branch rest one there = there

  when_typed : (branch : Branch) → branch_is_typed s branch ≡ true → when_is_typed s branch.when ≡ true
  when_typed branch typed =
      let guards_typed = list_all (guard_is_typed s) branch.guards in
      let steps_typed = list_all (step_is_typed s) branch.steps in
      first_true (when_is_typed s branch.when) guards_typed
      (first_true (when_is_typed s branch.when && guards_typed) steps_typed
      (first_true (when_is_typed s branch.when && guards_typed && steps_typed) (typing.ending_is_typed s branch.outcome) typed))

  pub one_taken : (test : Branch → Bool) (branches : List Branch) (values : List Val) → IsKept values → list_all (branch_is_typed s) branches ≡ true
      → list_all test branches ≡ true → has_one_way branches ≡ true → ThereIs (taken branches (seen parameters values)) (IsOne test)
  one_taken test [] values kept typed passes_it way = absurd (false≢true way)
  one_taken test (branch ∷ []) values kept typed passes_it way = record {
    value = branch;
    is = rw (last_taken branch.when (seen parameters values) way) refl;
    so = (first_true (branch_is_typed s branch) _ typed, first_true (test branch) _ passes_it);
  }
  one_taken test (branch ∷ next ∷ branches) values kept typed passes_it way =
      let here = first_true (branch_is_typed s branch) _ typed in
      let holds = when_told branch.when values kept (when_typed branch here) in
      let rest = one_taken test (next ∷ branches) values kept (second_true (branch_is_typed s branch) _ typed)
      (second_true (test branch) _ passes_it) (second_true (is_some branch.when) _ way) in
      let one = chosen test holds.value branch (taken (next ∷ branches) (seen parameters values)) (here, first_true (test branch) _ passes_it) rest in
      record { value = one.value; is = rw holds.is one.is; so = one.so }
