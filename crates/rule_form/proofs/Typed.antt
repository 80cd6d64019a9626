-- a rule that is formed is typed
use Rattle.std.proofs.Common.{◌≡◌, ℕ, suc, Bool, true, false, ◌&&◌, not, List, [], ◌∷◌, Option, Some, None, is_some, option_map, option_and_then, slice_get, map, Result, Ok, Err, refl, sym, ap, ◌∙◌, subst}
use Rattle.std.specs.List.{list_all}
use Rattle.idl_tree.specs.Names.{Bytes}
use Rattle.idl_tree.specs.Faults.{method_named, error_named}
use Rattle.idl_tree.specs.declared.trees.Interface.{Interface}
use Rattle.idl_tree.specs.declared.trees.Body.{Body}
use Rattle.call_form.specs.declared.Raw.{Raw}
use Rattle.call_form.specs.declared.Raw.TheVariants.{Echo, Discard}
use Rattle.sheet_rules.specs.Types.{Typ, body_typ, int_typ, string_typ, array_part, map_part, maybe_part, passes}
use Rattle.sheet_rules.specs.Settings.{Setting, register_typ, ref_typ}
use Rattle.sheet_rules.specs.Gives.{gives}
use Rattle.sheet_rules.specs.Conditions.{cond_is_typed, is_given, is_maybe, is_map, gives_int, gives_string, gives_error, guard_is_typed}
use Rattle.sheet_rules.specs.Steps.{step_is_typed}
use Rattle.sheet_rules.specs.Outcomes as o
use Rattle.sheet_rules.specs.Outcomes.{with_item, is_no_item, same_raw, gives_reply, ending_is_typed}
use Rattle.sheet_rules.specs.Rules as rules
use Rattle.sheet_rules.specs.Rules.{when_is_typed, branch_is_typed, is_of_kind, one_kind, method_setting, rule_is_typed}
use Rattle.sheet_rules.specs.declared.forms.Register.{Register}
use Rattle.sheet_rules.specs.declared.forms.Ref.{Ref}
use Rattle.sheet_rules.specs.declared.forms.Ref.TheVariants as ref
use Rattle.sheet_rules.specs.declared.forms.Expr.{Expr}
use Rattle.sheet_rules.specs.declared.forms.Guard.{Guard}
use Rattle.sheet_rules.specs.declared.forms.Action.{Action}
use Rattle.sheet_rules.specs.declared.forms.Action.TheVariants as action
use Rattle.sheet_rules.specs.declared.forms.Ending.{Ending}
use Rattle.sheet_rules.specs.declared.forms.Ending.TheVariants as ending
use Rattle.sheet_rules.specs.declared.forms.Branch.{Branch}
use Rattle.sheet_rules.specs.declared.forms.Rule.{Rule}
use Rattle.sheet_rules.specs.declared.forms.Cond.{Cond}
use Rattle.sheet_rules.specs.declared.forms.Cond.TheVariants as cond
use Rattle.sheet_rules.specs.declared.forms.Cond.TheVariants.{outs-Equal, outs-Less, outs-Present, outs-Has, outs-Not}
use Rattle.sheet_rules.specs.declared.forms.Cond.TheFolds.{fold_out-Cond}
use Rattle.sheet_draft.specs.declared.places.Spot.{Spot}
use Rattle.sheet_draft.specs.declared.places.Spot.TheVariants as spot
use Rattle.expression_draft.specs.declared.drafts.RefDraft.{RefDraft}
use Rattle.expression_draft.specs.declared.drafts.RefDraft.TheVariants as ref_draft
use Rattle.expression_draft.specs.declared.drafts.ExprDraft.{ExprDraft}
use Rattle.expression_draft.specs.declared.drafts.CondDraft.{CondDraft, roll-CondDraft, map-CondDraft}
use Rattle.expression_draft.specs.declared.drafts.CondDraft.TheOpen.{CondDraft-F}
use Rattle.expression_draft.specs.declared.drafts.CondDraft.TheFolds.{ind-CondDraft, fold-roll-CondDraft}
use Rattle.sheet_draft.specs.declared.drafts.GuardDraft.{GuardDraft}
use Rattle.sheet_draft.specs.declared.drafts.ActionDraft.{ActionDraft}
use Rattle.sheet_draft.specs.declared.drafts.ActionDraft.TheVariants as step
use Rattle.sheet_draft.specs.declared.drafts.EndingDraft.{EndingDraft}
use Rattle.sheet_draft.specs.declared.drafts.EndingDraft.TheVariants as draft
use Rattle.sheet_draft.specs.declared.drafts.BranchDraft.{BranchDraft}
use Rattle.sheet_draft.specs.declared.drafts.RuleDraft.{RuleDraft}
use Rattle.expression_form.specs.References.{path_formed, register_place, with_path, refers_in, ref_formed}
use Rattle.expression_form.specs.Expressions.{made, only_if}
use Rattle.expression_form.proofs.Typed.{RefHas, ref_has}
use Rattle.expression_form.proofs.MadeGives.{made_gives}
use Rattle.rule_form.specs.Answers.{◌>>=◌, or_fault, formed_at}
use Rattle.rule_form.specs.Misses.{cond_misses, guard_misses, step_misses, ending_misses}
use Rattle.rule_form.specs.Floats.{method_floats, error_floats, guard_has_no_float, branch_has_no_float, rule_has_no_float}
use Rattle.rule_form.specs.Conditions as c
use Rattle.rule_form.specs.Conditions.{joined, with_typ, equal_made, less_made, present_made, has_made, cond_made, error_made, guard_of, guard_made}
use Rattle.rule_form.specs.Steps.{placed, register_named, array_named, map_named, step_made}
use Rattle.rule_form.specs.Outcomes.{reply_made, with_part, over_formed, stream_made, ending_made, same_kind, outcome_made}
use Rattle.rule_form.specs.Rules.{when_formed, guard_formed, step_formed, outcome_formed, each_formed, branch_formed, branches_formed, setting_at, draft_setting, interface_place, rule_of, formed_in, rule_formed, has_one_way}
use Rattle.rule_form.specs.declared.faults.RuleFault.{RuleFault}
use Rattle.rule_form.specs.declared.faults.RuleFault.TheVariants.{NoSuchMethod}

-- what holds of what is made, where something is
abbrev Made : {A : Type 0} → (A → Type 0) → Option A → Type 0
Made holds None = Unit {0}
Made holds (Some x) = holds x

abbrev Formed : {A : Type 0} → (A → Type 0) → Result A RuleFault → Type 0
Formed holds (Err fault) = Unit {0}
Formed holds (Ok x) = holds x

-- ---- expressions

abbrev Given : Setting → Typ → Expr → Type 0
Given s t x = gives s x t ≡ true

given_as : (s : Setting) (d : ExprDraft) (t : Typ) (found : Option Expr) → made s d t ≡ found → Made (Given s t) found
given_as s d t None is = tt
given_as s d t (Some x) is = made_gives s d t x is

given : (s : Setting) (d : ExprDraft) (t : Typ) → Made (Given s t) (made s d t)
given s d t = given_as s d t (made s d t) refl

-- two parts
joined_has : {A B C : Type 0} (join : A → B → C) (P : A → Type 0) (Q : B → Type 0) (R : C → Type 0)
    → ((x : A) (y : B) → P x → Q y → R (join x y)) → (one : Option A) (other : Option B) → Made P one → Made Q other → Made R (joined join one other)
joined_has join P Q R so None other h k = tt
joined_has join P Q R so (Some x) None h k = tt
joined_has join P Q R so (Some x) (Some y) h k = so x y h k

mapped_has : {A B : Type 0} (f : A → B) (P : A → Type 0) (Q : B → Type 0) → ((x : A) → P x → Q (f x)) → (found : Option A) → Made P found → Made Q (option_map f found)
mapped_has f P Q so None h = tt
mapped_has f P Q so (Some x) h = so x h

chosen_has : {A : Type 0} (P : A → Type 0) (b : Bool) (found : Option A) → (b ≡ true → Made P found) → Made P (only_if b found)
chosen_has P true found h = h refl
chosen_has P false found h = tt

-- ---- conditions

module _ (s : Setting) where
  abbrev CondTyped : Cond → Type 0
  CondTyped x = cond_is_typed s x ≡ true

  equal_opens : (r : Ref) (x : Expr) → cond_is_typed s (cond.Equal r x) ≡ is_given s r x
  equal_opens r x = rw (fold_out-Cond, outs-Equal) refl

  less_opens : (x y : Expr) → cond_is_typed s (cond.Less x y) ≡ (gives_int s x && gives_int s y)
  less_opens x y = rw (fold_out-Cond, outs-Less) refl

  present_opens : (r : Ref) → cond_is_typed s (cond.Present r) ≡ is_maybe s r
  present_opens r = rw (fold_out-Cond, outs-Present) refl

  has_opens : (r : Ref) (x : Expr) → cond_is_typed s (cond.Has r x) ≡ (is_map s r && gives_string s x)
  has_opens r x = rw (fold_out-Cond, outs-Has) refl

  not_opens : (x : Cond) → cond_is_typed s (cond.Not x) ≡ cond_is_typed s x
  not_opens x = rw (fold_out-Cond, outs-Not) refl

  by_ref : {A : Type 0} (P : A → Type 0) (make : Ref → Typ → Option A) → ((r : Ref) (t : Typ) → ref_typ s r ≡ Some t → Made P (make r t))
      → (found : Option (Ref × Typ)) → RefHas s found → Made P (with_typ found make)
  by_ref P make so None h = tt
  by_ref P make so (Some found) h = so found.0 found.1 h

  equal_typed : (x : ExprDraft) (r : Ref) (t : Typ) → ref_typ s r ≡ Some t → Made CondTyped (option_map (cond.Equal r) (made s x t))
  equal_typed x r t is =
      mapped_has (cond.Equal r) (Given s t) CondTyped (λ y h. equal_opens r y ∙ rw is h) (made s x t) (given s x t)

  less_typed : (x y : ExprDraft) → Made CondTyped (less_made s x y)
  less_typed x y = joined_has cond.Less (Given s (int_typ s.scope)) (Given s (int_typ s.scope)) CondTyped
      (λ a b h k. less_opens a b ∙ rw (h, k) refl) (made s x (int_typ s.scope)) (made s y (int_typ s.scope))
      (given s x (int_typ s.scope)) (given s y (int_typ s.scope))

  present_typed : (r : Ref) (t : Typ) → ref_typ s r ≡ Some t → Made CondTyped (only_if (is_some (maybe_part t)) (Some (cond.Present r)))
  present_typed r t is = chosen_has CondTyped (is_some (maybe_part t)) (Some (cond.Present r)) (λ h. present_opens r ∙ rw is h)

  has_typed : (key : ExprDraft) (r : Ref) (t : Typ) → ref_typ s r ≡ Some t
      → Made CondTyped (only_if (is_some (map_part t)) (option_map (cond.Has r) (made s key (string_typ s.scope))))
  has_typed key r t is = chosen_has CondTyped (is_some (map_part t)) (option_map (cond.Has r) (made s key (string_typ s.scope)))
      (λ m. mapped_has (cond.Has r) (Given s (string_typ s.scope)) CondTyped (λ y h. has_opens r y ∙ rw (is, m, h) refl)
      (made s key (string_typ s.scope)) (given s key (string_typ s.scope)))

  abbrev ProvedCond : Type 0
  ProvedCond = (d : CondDraft) × Made CondTyped (cond_made s d)

  cond_layer : (y : CondDraft-F ProvedCond)
      → Made CondTyped (c.cond_step s (map-CondDraft CondDraft (Option Cond) (cond_made s) (map-CondDraft ProvedCond CondDraft (λ item. item.0) y)))
  cond_layer (CondDraft-F.Equal d x) =
      by_ref CondTyped (λ r t. option_map (cond.Equal r) (made s x t)) (equal_typed x) (ref_formed s d) (ref_has s d)
  cond_layer (CondDraft-F.Less x y) = less_typed x y
  cond_layer (CondDraft-F.Present d) =
      by_ref CondTyped (λ r t. only_if (is_some (maybe_part t)) (Some (cond.Present r))) present_typed (ref_formed s d) (ref_has s d)
  cond_layer (CondDraft-F.Has d key) =
      by_ref CondTyped (λ r t. only_if (is_some (map_part t)) (option_map (cond.Has r) (made s key (string_typ s.scope)))) (has_typed key)
      (ref_formed s d) (ref_has s d)
  cond_layer (CondDraft-F.Not inner) =
      mapped_has cond.Not CondTyped CondTyped (λ x h. not_opens x ∙ h) (cond_made s inner.0) inner.1

  cond_typed : (d : CondDraft) → Made CondTyped (cond_made s d)
  cond_typed = ind-CondDraft (λ d. Made CondTyped (cond_made s d))
      (λ x y is. subst (λ (z : CondDraft-F CondDraft). Made CondTyped (cond_made s (roll-CondDraft z))) is
      (subst (Made CondTyped) (sym (fold-roll-CondDraft (Option Cond) (c.cond_step s) (map-CondDraft ProvedCond CondDraft (λ item. item.0) y)))
      (cond_layer y)))

  -- ---- guards

  -- a guard is typed, and its error does not reach `float`
  abbrev GuardHas : Guard → Type 0
  GuardHas x = (guard_is_typed s x ≡ true) × (guard_has_no_float s x ≡ true)

  error_in : (x : ExprDraft) (found : Option Body)
      → Made (λ y. passes (λ body. gives s y (body_typ s.scope body)) found ≡ true) (option_and_then (λ body. made s x (body_typ s.scope body)) found)
  error_in x None = tt
  error_in x (Some body) = given s x (body_typ s.scope body)

  guard_parts : (d : GuardDraft) → error_floats s d.error ≡ false → (x : Cond) (y : Expr) → CondTyped x → gives_error s d.error y ≡ true
      → GuardHas (guard_of d.error x y)
  guard_parts d is x y h k = (rw (h, k) refl, ap not is)

  guard_has : (d : GuardDraft) → error_floats s d.error ≡ false → Made GuardHas (guard_made s d)
  guard_has d is = joined_has (guard_of d.error) CondTyped (λ y. gives_error s d.error y ≡ true) GuardHas (guard_parts d is)
      (cond_made s d.need) (error_made s d.error d.with) (cond_typed d.need)
      (error_in d.with (option_and_then (error_named d.error) (slice_get s.interfaces s.scope)))

  -- ---- steps

  abbrev StepTyped : Action → Type 0
  StepTyped x = step_is_typed s x ≡ true

  abbrev Named : ℕ × Typ → Type 0
  Named found = register_typ s.registers found.0 ≡ Some found.1

  abbrev NamedArray : ℕ × Typ → Type 0
  NamedArray found = option_and_then array_part (register_typ s.registers found.0) ≡ Some found.1

  abbrev NamedMap : ℕ × Typ → Type 0
  NamedMap found = option_and_then map_part (register_typ s.registers found.0) ≡ Some found.1

  placed_has : (place : ℕ) (found : Option Typ) → register_typ s.registers place ≡ found → Made Named (placed place found)
  placed_has place None is = tt
  placed_has place (Some t) is = is

  place_has : (found : Option ℕ) → Made Named (option_and_then (λ place. placed place (register_typ s.registers place)) found)
  place_has None = tt
  place_has (Some place) = placed_has place (register_typ s.registers place) refl

  named_has : (name : Bytes) → Made Named (register_named s.registers name)
  named_has name = place_has (register_place s.registers name)

  part_placed : (part : Typ → Option Typ) (place : ℕ) (t : Typ) → register_typ s.registers place ≡ Some t → (found : Option Typ) → part t ≡ found
      → Made (λ (f : ℕ × Typ). option_and_then part (register_typ s.registers f.0) ≡ Some f.1) (placed place found)
  part_placed part place t is None h = tt
  part_placed part place t is (Some u) h = rw is h

  part_has : (part : Typ → Option Typ) (found : Option (ℕ × Typ)) → Made Named found
      → Made (λ (f : ℕ × Typ). option_and_then part (register_typ s.registers f.0) ≡ Some f.1)
      (option_and_then (λ (f : ℕ × Typ). placed f.0 (part f.1)) found)
  part_has part None h = tt
  part_has part (Some found) h = part_placed part found.0 found.1 h (part found.1) refl

  array_has : (name : Bytes) → Made NamedArray (array_named s.registers name)
  array_has name = part_has array_part (register_named s.registers name) (named_has name)

  map_has : (name : Bytes) → Made NamedMap (map_named s.registers name)
  map_has name = part_has map_part (register_named s.registers name) (named_has name)

  then_has : {A B : Type 0} (P : A → Type 0) (Q : B → Type 0) (make : A → Option B) → ((x : A) → P x → Made Q (make x))
      → (found : Option A) → Made P found → Made Q (option_and_then make found)
  then_has P Q make so None h = tt
  then_has P Q make so (Some x) h = so x h

  step_typed : (d : ActionDraft) → Made StepTyped (step_made s d)
  step_typed (step.Set name x) = then_has Named StepTyped (λ (f : ℕ × Typ). option_map (action.Set f.0) (made s x f.1))
      (λ f is. mapped_has (action.Set f.0) (Given s f.1) StepTyped (λ y h. rw is h) (made s x f.1) (given s x f.1))
      (register_named s.registers name) (named_has name)
  step_typed (step.Push name x) = then_has NamedArray StepTyped (λ (f : ℕ × Typ). option_map (action.Push f.0) (made s x f.1))
      (λ f is. mapped_has (action.Push f.0) (Given s f.1) StepTyped (λ y h. rw is h) (made s x f.1) (given s x f.1))
      (array_named s.registers name) (array_has name)
  step_typed (step.Put name key x) = then_has NamedMap StepTyped
      (λ (f : ℕ × Typ). joined (action.Put f.0) (made s key (string_typ s.scope)) (made s x f.1))
      (λ f is. joined_has (action.Put f.0) (Given s (string_typ s.scope)) (Given s f.1) StepTyped (λ k y h g. rw (is, h, g) refl)
      (made s key (string_typ s.scope)) (made s x f.1) (given s key (string_typ s.scope)) (given s x f.1))
      (map_named s.registers name) (map_has name)
  step_typed (step.Drop name key) = then_has NamedMap StepTyped (λ (f : ℕ × Typ). option_map (action.Drop f.0) (made s key (string_typ s.scope)))
      (λ f is. mapped_has (action.Drop f.0) (Given s (string_typ s.scope)) StepTyped (λ y h. rw (is, h) refl)
      (made s key (string_typ s.scope)) (given s key (string_typ s.scope)))
      (map_named s.registers name) (map_has name)

  -- ---- outcomes

  abbrev EndingTyped : Ending → Type 0
  EndingTyped x = ending_is_typed s x ≡ true

  abbrev NoItem : Ref × Typ → Type 0
  NoItem found = is_no_item found.0 ≡ true

  path_no_item : (make : List ℕ → Ref) → ((path : List ℕ) → is_no_item (make path) ≡ true)
      → (found : Option (List ℕ × Typ)) → Made NoItem (with_path make found)
  path_no_item make so None = tt
  path_no_item make so (Some found) = so found.0

  param_no_item : (names : List Bytes) → Made NoItem (ref_formed s (ref_draft.Param names))
  param_no_item [] = tt
  param_no_item (name ∷ names) = path_no_item ref.Param (λ path. refl) (path_formed s.interfaces (name ∷ names) (body_typ s.scope s.input))

  refers_no_item : (place : ℕ) (names : List Bytes) (found : Option Typ)
      → Made NoItem (option_and_then (λ t. with_path (ref.Register place) (path_formed s.interfaces names t)) found)
  refers_no_item place names None = tt
  refers_no_item place names (Some t) = path_no_item (ref.Register place) (λ path. refl) (path_formed s.interfaces names t)

  place_no_item : (names : List Bytes) (found : Option ℕ) → Made NoItem (option_and_then (λ place. refers_in s place names) found)
  place_no_item names None = tt
  place_no_item names (Some place) = refers_no_item place names (register_typ s.registers place)

  register_no_item : (names : List Bytes) → Made NoItem (ref_formed s (ref_draft.Register names))
  register_no_item [] = tt
  register_no_item (name ∷ names) = place_no_item names (register_place s.registers name)

  abbrev Over : Ref × Typ → Type 0
  Over found = (is_no_item found.0 ≡ true) × (option_and_then array_part (ref_typ s found.0) ≡ Some found.1)

  over_part : (r : Ref) (t : Typ) → is_no_item r ≡ true → ref_typ s r ≡ Some t → (part : Option Typ) → array_part t ≡ part → Made Over (with_part r part)
  over_part r t free is None h = tt
  over_part r t free is (Some u) h = (free, rw is h)

  over_array : (found : Option (Ref × Typ)) → Made NoItem found → RefHas s found
      → Made Over (option_and_then (λ (f : Ref × Typ). with_part f.0 (array_part f.1)) found)
  over_array None free is = tt
  over_array (Some found) free is = over_part found.0 found.1 free is (array_part found.1) refl

  over_has : (d : RefDraft) → Made Over (over_formed s d)
  over_has (ref_draft.Param names) =
      over_array (ref_formed s (ref_draft.Param names)) (param_no_item names) (ref_has s (ref_draft.Param names))
  over_has (ref_draft.Register names) =
      over_array (ref_formed s (ref_draft.Register names)) (register_no_item names) (ref_has s (ref_draft.Register names))
  over_has (ref_draft.Item names) = tt

  stream_typed : (each last : ExprDraft) (over : Ref × Typ) → Over over → Made EndingTyped (stream_made s each last over)
  stream_typed each last over is = joined_has (ending.Stream over.0)
      (λ y. gives_reply (with_item s (Some over.1)) y ≡ true) (λ y. gives_reply s y ≡ true) EndingTyped
      (λ x y h k. rw (is.0, is.1, h, k) refl) (reply_made (with_item s (Some over.1)) each) (reply_made s last)
      (given (with_item s (Some over.1)) each (body_typ s.scope s.output)) (given s last (body_typ s.scope s.output))

  ending_typed : (d : EndingDraft) → Made EndingTyped (ending_made s d)
  ending_typed (draft.Reply x) = mapped_has ending.Reply (λ y. gives_reply s y ≡ true) EndingTyped (λ y h. h)
      (reply_made s x) (given s x (body_typ s.scope s.output))
  ending_typed (draft.Stream over each last) =
      then_has Over EndingTyped (stream_made s each last) (stream_typed each last) (over_formed s over) (over_has over)
  ending_typed (draft.Upgrade raw x) = mapped_has (ending.Upgrade raw) (λ y. gives_reply s y ≡ true) EndingTyped (λ y h. h)
      (reply_made s x) (given s x (body_typ s.scope s.output))

-- ---- kinds of outcomes

abbrev pub Form : Type 0
Form = Option (Option Raw)

pub draft_form : EndingDraft → Form
draft_form (draft.Reply x) = None
draft_form (draft.Stream over each last) = Some None
draft_form (draft.Upgrade raw x) = Some (Some raw)

pub form : Ending → Form
form (ending.Reply x) = None
form (ending.Stream over each last) = Some None
form (ending.Upgrade raw x) = Some (Some raw)

raw_same : (a b : Raw) → same_raw a b ≡ true → b ≡ a
raw_same Echo Echo h = refl
raw_same Echo Discard h = let no : false ≡ true = h in absurd (cc)
raw_same Discard Echo h = let no : false ≡ true = h in absurd (cc)
raw_same Discard Discard h = refl

raw_itself : (a : Raw) → same_raw a a ≡ true
raw_itself Echo = refl
raw_itself Discard = refl

kind_same : (a b : EndingDraft) → same_kind a b ≡ true → draft_form b ≡ draft_form a
unfolding draft_form
kind_same (draft.Reply a) (draft.Reply b) h = refl
kind_same (draft.Reply a) (draft.Stream q c d) h = let no : false ≡ true = h in absurd (cc)
kind_same (draft.Reply a) (draft.Upgrade other b) h = let no : false ≡ true = h in absurd (cc)
kind_same (draft.Stream r a b) (draft.Reply c) h = let no : false ≡ true = h in absurd (cc)
kind_same (draft.Stream r a b) (draft.Stream q c d) h = refl
kind_same (draft.Stream r a b) (draft.Upgrade other c) h = let no : false ≡ true = h in absurd (cc)
kind_same (draft.Upgrade raw a) (draft.Reply b) h = let no : false ≡ true = h in absurd (cc)
kind_same (draft.Upgrade raw a) (draft.Stream q c d) h = let no : false ≡ true = h in absurd (cc)
kind_same (draft.Upgrade raw a) (draft.Upgrade other b) h = ap (λ (r : Raw). Some (Some r)) (raw_same raw other h)

forms_same : (a b : Ending) → form b ≡ form a → o.same_kind a b ≡ true
unfolding form
forms_same (ending.Reply a) (ending.Reply b) h = refl
forms_same (ending.Reply a) (ending.Stream q c d) h = absurd (cc)
forms_same (ending.Reply a) (ending.Upgrade other b) h = absurd (cc)
forms_same (ending.Stream r a b) (ending.Reply c) h = absurd (cc)
forms_same (ending.Stream r a b) (ending.Stream q c d) h = refl
forms_same (ending.Stream r a b) (ending.Upgrade other c) h = absurd (cc)
forms_same (ending.Upgrade raw a) (ending.Reply b) h = absurd (cc)
forms_same (ending.Upgrade raw a) (ending.Stream q c d) h = absurd (cc)
forms_same (ending.Upgrade raw a) (ending.Upgrade other b) h =
    let is : other ≡ raw = cc in ap (same_raw raw) is ∙ raw_itself raw

module _ (s : Setting) where
  abbrev OfForm : Form → Ending → Type 0
  OfForm of x = form x ≡ of

  reply_form : (found : Option Expr) → Made (OfForm None) (option_map ending.Reply found)
  unfolding form
  reply_form None = tt
  reply_form (Some x) = refl

  upgrade_form : (raw : Raw) (found : Option Expr) → Made (OfForm (Some (Some raw))) (option_map (ending.Upgrade raw) found)
  unfolding form
  upgrade_form raw None = tt
  upgrade_form raw (Some x) = refl

  stream_form : (over : Ref) (each last : Option Expr) → Made (OfForm (Some None)) (joined (ending.Stream over) each last)
  unfolding form
  stream_form over None last = tt
  stream_form over (Some x) None = tt
  stream_form over (Some x) (Some y) = refl

  over_form : (each last : ExprDraft) (over : Option (Ref × Typ)) → Made (OfForm (Some None)) (option_and_then (stream_made s each last) over)
  over_form each last None = tt
  over_form each last (Some over) = stream_form over.0 (reply_made (with_item s (Some over.1)) each) (reply_made s last)

  ending_form : (d : EndingDraft) → Made (OfForm (draft_form d)) (ending_made s d)
  unfolding draft_form
  ending_form (draft.Reply x) = reply_form (reply_made s x)
  ending_form (draft.Stream over each last) = over_form each last (over_formed s over)
  ending_form (draft.Upgrade raw x) = upgrade_form raw (reply_made s x)

  -- an outcome that is typed, and of the first one's form
  abbrev Ends : EndingDraft → Ending → Type 0
  Ends first x = (ending_is_typed s x ≡ true) × (form x ≡ draft_form first)

  both_have : {A : Type 0} (P Q : A → Type 0) (found : Option A) → Made P found → Made Q found → Made (λ x. P x × Q x) found
  both_have P Q None h k = tt
  both_have P Q (Some x) h k = (h, k)

  outcome_ends : (first d : EndingDraft) → Made (Ends first) (outcome_made s first d)
  outcome_ends first d = chosen_has (Ends first) (same_kind first d) (ending_made s d) (λ h.
      both_have (EndingTyped s) (λ x. form x ≡ draft_form first) (ending_made s d) (ending_typed s d)
      (subst (λ (of : Form). Made (OfForm of) (ending_made s d)) (kind_same first d h) (ending_form d)))

-- ---- what is formed at spots

at_has : {A : Type 0} (P : A → Type 0) (here : Spot) (misses floats : Bool) (found : Option A) → Made P found → Formed P (formed_at here misses floats found)
at_has P here true floats found h = tt
at_has P here false true found h = tt
at_has P here false false None h = tt
at_has P here false false (Some x) h = h

-- what holds where `float` is not reached
plain_has : {A : Type 0} (P : A → Type 0) (here : Spot) (misses floats : Bool) (found : Option A) → (floats ≡ false → Made P found)
    → Formed P (formed_at here misses floats found)
plain_has P here true floats found h = tt
plain_has P here false true found h = tt
plain_has P here false false found h = at_has P here false false found (h refl)

-- each item holds with what it is formed from
abbrev Pairs : {A B : Type 0} → (A → B → Type 0) → List A → List B → Type 0
Pairs holds [] [] = Unit {0}
Pairs holds [] (y ∷ ys) = ⊥
Pairs holds (x ∷ xs) [] = ⊥
Pairs holds (x ∷ xs) (y ∷ ys) = holds x y × Pairs holds xs ys

module _ {A B : Type 0} (holds : A → B → Type 0) (forms : ℕ → A → Result B RuleFault) (so : (k : ℕ) (x : A) → Formed (holds x) (forms k x)) where
  pair_behind : (x : A) (xs : List A) (y : B) → holds x y → (left : Result (List B) RuleFault) → Formed (Pairs holds xs) left
      → Formed (Pairs holds (x ∷ xs)) (left >>= λ ys. Ok (y ∷ ys))
  pair_behind x xs y h (Err fault) k = tt
  pair_behind x xs y h (Ok ys) k = (h, k)

  pair_more : (x : A) (xs : List A) (first : Result B RuleFault) → Formed (holds x) first → (left : Result (List B) RuleFault) → Formed (Pairs holds xs) left
      → Formed (Pairs holds (x ∷ xs)) (first >>= λ y. left >>= λ ys. Ok (y ∷ ys))
  pair_more x xs (Err fault) h left k = tt
  pair_more x xs (Ok y) h left k = pair_behind x xs y h left k

  each_pairs : (k : ℕ) (xs : List A) → Formed (Pairs holds xs) (each_formed forms k xs)
  each_pairs k [] = tt
  each_pairs k (x ∷ xs) = pair_more x xs (forms k x) (so k x) (each_formed forms (suc k) xs) (each_pairs (suc k) xs)

all_hold : {A B : Type 0} (test : B → Bool) (xs : List A) (ys : List B) → Pairs (λ x y. test y ≡ true) xs ys → list_all test ys ≡ true
all_hold test [] [] h = refl
all_hold test [] (y ∷ ys) h = absurd h
all_hold test (x ∷ xs) [] h = absurd h
all_hold test (x ∷ xs) (y ∷ ys) h = rw (h.0, all_hold test xs ys h.1) refl

all_formed : {A B : Type 0} (test : B → Bool) (xs : List A) (found : Result (List B) RuleFault) → Formed (Pairs (λ x y. test y ≡ true) xs) found
    → Formed (λ ys. list_all test ys ≡ true) found
all_formed test xs (Err fault) h = tt
all_formed test xs (Ok ys) h = all_hold test xs ys h

-- ---- branches

-- a branch has a condition
abbrev pub asks : Branch → Bool
asks branch = is_some branch.when

abbrev pub draft_asks : BranchDraft → Bool
draft_asks branch = is_some branch.when

module _ (s : Setting) (first : EndingDraft) where
  abbrev WhenHas : Option CondDraft → Option Cond → Type 0
  WhenHas d x = (when_is_typed s x ≡ true) × (is_some x ≡ is_some d)

  when_some : (d : CondDraft) (found : Option Cond) → Made (CondTyped s) found → Made (WhenHas (Some d)) (option_map Some found)
  when_some d None h = tt
  when_some d (Some x) h = (h, refl)

  when_has : (b : ℕ) (d : Option CondDraft) → Formed (WhenHas d) (when_formed s b d)
  when_has b None = (refl, refl)
  when_has b (Some d) = at_has (WhenHas (Some d)) (spot.When b) (cond_misses s.registers d) false (option_map Some (cond_made s d))
      (when_some d (cond_made s d) (cond_typed s d))

  abbrev GuardsHave : List Guard → Type 0
  GuardsHave xs = (list_all (guard_is_typed s) xs ≡ true) × (list_all (guard_has_no_float s) xs ≡ true)

  all_guards : (ds : List GuardDraft) (xs : List Guard) → Pairs (λ d x. GuardHas s x) ds xs → GuardsHave xs
  all_guards [] [] h = (refl, refl)
  all_guards [] (x ∷ xs) h = absurd h
  all_guards (d ∷ ds) [] h = absurd h
  all_guards (d ∷ ds) (x ∷ xs) h =
      let rest = all_guards ds xs h.1 in (rw (h.0.0, rest.0) refl, rw (h.0.1, rest.1) refl)

  guards_in : (ds : List GuardDraft) (found : Result (List Guard) RuleFault) → Formed (Pairs (λ d x. GuardHas s x) ds) found
      → Formed GuardsHave found
  guards_in ds (Err fault) h = tt
  guards_in ds (Ok xs) h = all_guards ds xs h

  guards_have : (b : ℕ) (ds : List GuardDraft) → Formed GuardsHave (each_formed (guard_formed s b) 0 ds)
  guards_have b ds = guards_in ds (each_formed (guard_formed s b) 0 ds)
      (each_pairs (λ d x. GuardHas s x) (guard_formed s b)
      (λ k d. plain_has (GuardHas s) (spot.Guard b k) (guard_misses s.registers d) (error_floats s d.error) (guard_made s d) (guard_has s d)) 0 ds)

  steps_have : (b : ℕ) (ds : List ActionDraft) → Formed (λ xs. list_all (step_is_typed s) xs ≡ true) (each_formed (step_formed s b) 0 ds)
  steps_have b ds = all_formed (step_is_typed s) ds (each_formed (step_formed s b) 0 ds)
      (each_pairs (λ d x. step_is_typed s x ≡ true) (step_formed s b)
      (λ k d. at_has (StepTyped s) (spot.Step b k) (step_misses s.registers d) false (step_made s d) (step_typed s d)) 0 ds)

  outcome_has : (b : ℕ) (d : EndingDraft) → Formed (Ends s first) (outcome_formed s first b d)
  outcome_has b d = at_has (Ends s first) (spot.Outcome b) (ending_misses s.registers d) false (outcome_made s first d) (outcome_ends s first d)

  -- a branch is typed without `float`, has a condition where its draft has one, and is of the first one's form
  pub record Holds (d : BranchDraft) (x : Branch) : Type 0 where
    pub typed : branch_is_typed s x ≡ true
    pub plain : branch_has_no_float s x ≡ true
    pub way : is_some x.when ≡ is_some d.when
    pub of_form : form x.outcome ≡ draft_form first

  abbrev branch_of : Option Cond → List Guard → List Action → Ending → Branch
  branch_of when guards steps outcome = record { when = when; guards = guards; steps = steps; outcome = outcome }

  outcome_step : (d : BranchDraft) (when : Option Cond) (guards : List Guard) (steps : List Action) → WhenHas d.when when
      → GuardsHave guards → list_all (step_is_typed s) steps ≡ true
      → (outcome : Result Ending RuleFault) → Formed (Ends s first) outcome
      → Formed (Holds d) (outcome >>= λ x. Ok (branch_of when guards steps x))
  outcome_step d when guards steps w g t (Err fault) h = tt
  outcome_step d when guards steps w g t (Ok x) h = record { typed = rw (w.0, g.0, t, h.0) refl; plain = g.1; way = w.1; of_form = h.1 }

  steps_step : (d : BranchDraft) (when : Option Cond) (guards : List Guard) → WhenHas d.when when → GuardsHave guards
      → (steps : Result (List Action) RuleFault) → Formed (λ xs. list_all (step_is_typed s) xs ≡ true) steps
      → (outcome : Result Ending RuleFault) → Formed (Ends s first) outcome
      → Formed (Holds d) (steps >>= λ xs. outcome >>= λ x. Ok (branch_of when guards xs x))
  steps_step d when guards w g (Err fault) t outcome h = tt
  steps_step d when guards w g (Ok xs) t outcome h = outcome_step d when guards xs w g t outcome h

  guards_step : (d : BranchDraft) (when : Option Cond) → WhenHas d.when when
      → (guards : Result (List Guard) RuleFault) → Formed GuardsHave guards
      → (steps : Result (List Action) RuleFault) → Formed (λ xs. list_all (step_is_typed s) xs ≡ true) steps
      → (outcome : Result Ending RuleFault) → Formed (Ends s first) outcome
      → Formed (Holds d) (guards >>= λ gs. steps >>= λ xs. outcome >>= λ x. Ok (branch_of when gs xs x))
  guards_step d when w (Err fault) g steps t outcome h = tt
  guards_step d when w (Ok gs) g steps t outcome h = steps_step d when gs w g steps t outcome h

  when_step : (d : BranchDraft) (when : Result (Option Cond) RuleFault) → Formed (WhenHas d.when) when
      → (guards : Result (List Guard) RuleFault) → Formed GuardsHave guards
      → (steps : Result (List Action) RuleFault) → Formed (λ xs. list_all (step_is_typed s) xs ≡ true) steps
      → (outcome : Result Ending RuleFault) → Formed (Ends s first) outcome
      → Formed (Holds d) (when >>= λ w. guards >>= λ gs. steps >>= λ xs. outcome >>= λ x. Ok (branch_of w gs xs x))
  when_step d (Err fault) w guards g steps t outcome h = tt
  when_step d (Ok when) w guards g steps t outcome h = guards_step d when w guards g steps t outcome h

  branch_holds : (b : ℕ) (d : BranchDraft) → Formed (Holds d) (branch_formed s first b d)
  unfolding branch_formed
  branch_holds b d = when_step d (when_formed s b d.when) (when_has b d.when)
      (each_formed (guard_formed s b) 0 d.guards) (guards_have b d.guards)
      (each_formed (step_formed s b) 0 d.steps) (steps_have b d.steps)
      (outcome_formed s first b d.outcome) (outcome_has b d.outcome)

  typed_all : (ds : List BranchDraft) (xs : List Branch) → Pairs Holds ds xs → list_all (branch_is_typed s) xs ≡ true
  typed_all [] [] h = refl
  typed_all [] (x ∷ xs) h = absurd h
  typed_all (d ∷ ds) [] h = absurd h
  typed_all (d ∷ ds) (x ∷ xs) h = rw (h.0.typed, typed_all ds xs h.1) refl

  plain_all : (ds : List BranchDraft) (xs : List Branch) → Pairs Holds ds xs → list_all (branch_has_no_float s) xs ≡ true
  plain_all [] [] h = refl
  plain_all [] (x ∷ xs) h = absurd h
  plain_all (d ∷ ds) [] h = absurd h
  plain_all (d ∷ ds) (x ∷ xs) h = rw (h.0.plain, plain_all ds xs h.1) refl

  kinds_all : (head : Branch) → form head.outcome ≡ draft_form first → (ds : List BranchDraft) (xs : List Branch) → Pairs Holds ds xs
      → list_all (is_of_kind head) xs ≡ true
  kinds_all head is [] [] h = refl
  kinds_all head is [] (x ∷ xs) h = absurd h
  kinds_all head is (d ∷ ds) [] h = absurd h
  kinds_all head is (d ∷ ds) (x ∷ xs) h =
      rw (forms_same head.outcome x.outcome (h.0.of_form ∙ sym is), kinds_all head is ds xs h.1) refl

  one_kind_all : (ds : List BranchDraft) (xs : List Branch) → Pairs Holds ds xs → one_kind xs ≡ true
  one_kind_all [] [] h = refl
  one_kind_all [] (x ∷ xs) h = absurd h
  one_kind_all (d ∷ ds) [] h = absurd h
  one_kind_all (d ∷ ds) (x ∷ xs) h = kinds_all x h.0.of_form ds xs h.1

  ways_all : (ds : List BranchDraft) (xs : List Branch) → Pairs Holds ds xs → rules.has_one_way xs ≡ has_one_way ds
  ways_all [] [] h = refl
  ways_all [] (x ∷ xs) h = absurd h
  ways_all (d ∷ ds) [] h = absurd h
  ways_all (d ∷ []) (x ∷ []) h = ap not h.0.way
  ways_all (d ∷ []) (x ∷ (y ∷ ys)) h = absurd h.1
  ways_all (d ∷ (e ∷ es)) (x ∷ []) h = absurd h.1
  ways_all (d ∷ (e ∷ es)) (x ∷ (y ∷ ys)) h = rw (h.0.way, ways_all (e ∷ es) (y ∷ ys) h.1) refl

  asks_all : (ds : List BranchDraft) (xs : List Branch) → Pairs Holds ds xs → map asks xs ≡ map draft_asks ds
  asks_all [] [] h = refl
  asks_all [] (x ∷ xs) h = absurd h
  asks_all (d ∷ ds) [] h = absurd h
  asks_all (d ∷ ds) (x ∷ xs) h = λ j. h.0.way j ∷ asks_all ds xs h.1 j

-- ---- rules

record Whole (s : Setting) (ds : List BranchDraft) (xs : List Branch) : Type 0 where
  pub typed : (list_all (branch_is_typed s) xs && one_kind xs) ≡ true
  pub plain : list_all (branch_has_no_float s) xs ≡ true
  pub ways : rules.has_one_way xs ≡ has_one_way ds
  pub asks : map asks xs ≡ map draft_asks ds

whole_of : (s : Setting) (first : EndingDraft) (ds : List BranchDraft) (found : Result (List Branch) RuleFault)
    → Formed (Pairs (Holds s first) ds) found → Formed (Whole s ds) found
whole_of s first ds (Err fault) h = tt
whole_of s first ds (Ok xs) h = record {
  typed = rw (typed_all s first ds xs h, one_kind_all s first ds xs h) refl;
  plain = plain_all s first ds xs h;
  ways = ways_all s first ds xs h;
  asks = asks_all s first ds xs h;
}

branches_whole : (s : Setting) (ds : List BranchDraft) → Formed (Whole s ds) (branches_formed s ds)
branches_whole s [] = record { typed = refl; plain = refl; ways = refl; asks = refl }
branches_whole s (d ∷ ds) = whole_of s d.outcome (d ∷ ds) (each_formed (branch_formed s d.outcome) 0 (d ∷ ds))
    (each_pairs (Holds s d.outcome) (branch_formed s d.outcome) (branch_holds s d.outcome) 0 (d ∷ ds))

module _ (interfaces : List Interface) (registers : List Register) where
  record RuleHolds (d : RuleDraft) (rule : Rule) : Type 0 where
    pub typed : rule_is_typed interfaces registers rule ≡ true
    pub plain : rule_has_no_float interfaces registers rule ≡ true
    pub ways : rules.has_one_way rule.branches ≡ has_one_way d.branches
    pub asks : map asks rule.branches ≡ map draft_asks d.branches

  abbrev Set : RuleDraft → Setting → Type 0
  Set d s = setting_at interfaces registers d.method s.scope ≡ Some s

  set_in : (method : Bytes) (place : ℕ) (found : Option (Body × Body))
      → option_and_then (method_named method) (slice_get interfaces place) ≡ found
      → Made (λ (s : Setting). setting_at interfaces registers method s.scope ≡ Some s) (option_map (method_setting interfaces registers place) found)
  set_in method place None is = tt
  set_in method place (Some bodies) is = ap (option_map (method_setting interfaces registers place)) is

  set_at : (d : RuleDraft) (found : Option ℕ) → Made (Set d) (option_and_then (setting_at interfaces registers d.method) found)
  set_at d None = tt
  set_at d (Some place) = set_in d.method place (option_and_then (method_named d.method) (slice_get interfaces place)) refl

  rule_holds : (d : RuleDraft) (s : Setting) → Set d s → method_floats s ≡ false
      → (found : Result (List Branch) RuleFault) → Formed (Whole s d.branches) found
      → Formed (RuleHolds d) (found >>= λ xs. Ok (rule_of d s.scope xs))
  rule_holds d s is plain (Err fault) h = tt
  rule_holds d s is plain (Ok xs) h = record { typed = rw is h.typed; plain = rw (is, plain, h.plain) refl; ways = h.ways; asks = h.asks }

  floats_or : (d : RuleDraft) (s : Setting) → Set d s → (b : Bool) → method_floats s ≡ b → Formed (RuleHolds d) (formed_in d s)
  floats_or d s is true h = rw h tt
  floats_or d s is false h = rw h (rule_holds d s is h (branches_formed s d.branches) (branches_whole s d.branches))

  in_setting : (d : RuleDraft) (found : Option Setting) → Made (Set d) found → Formed (RuleHolds d) (or_fault NoSuchMethod found >>= formed_in d)
  in_setting d None h = tt
  in_setting d (Some s) h = floats_or d s h (method_floats s) refl

  formed_holds : (d : RuleDraft) → Formed (RuleHolds d) (rule_formed interfaces registers d)
  formed_holds d = in_setting d (draft_setting interfaces registers d) (set_at d (interface_place interfaces d.interface))

  of_formed : (d : RuleDraft) (found : Result Rule RuleFault) → Formed (RuleHolds d) found → (rule : Rule) → found ≡ Ok rule → RuleHolds d rule
  of_formed d (Err fault) h rule never = absurd (cc)
  of_formed d (Ok x) h rule same = let one : x ≡ rule = cc in subst (RuleHolds d) one h

  pub formed_is_typed : (d : RuleDraft) (rule : Rule) → rule_formed interfaces registers d ≡ Ok rule → rule_is_typed interfaces registers rule ≡ true
  formed_is_typed d rule is = (of_formed d (rule_formed interfaces registers d) (formed_holds d) rule is).typed

  pub formed_has_no_float : (d : RuleDraft) (rule : Rule) → rule_formed interfaces registers d ≡ Ok rule
      → rule_has_no_float interfaces registers rule ≡ true
  formed_has_no_float d rule is = (of_formed d (rule_formed interfaces registers d) (formed_holds d) rule is).plain

  pub formed_has_one_way : (d : RuleDraft) (rule : Rule) → rule_formed interfaces registers d ≡ Ok rule
      → rules.has_one_way rule.branches ≡ has_one_way d.branches
  formed_has_one_way d rule is = (of_formed d (rule_formed interfaces registers d) (formed_holds d) rule is).ways

  -- its branches have conditions where those of its draft have them
  pub formed_asks : (d : RuleDraft) (rule : Rule) → rule_formed interfaces registers d ≡ Ok rule
      → map asks rule.branches ≡ map draft_asks d.branches
  formed_asks d rule is = (of_formed d (rule_formed interfaces registers d) (formed_holds d) rule is).asks
