-- a typed step changes registers whose values are of their types, and leaves them so
use Rattle.std.proofs.Common.{◌≡◌, ℕ, zero, suc, true, List, [], ◌∷◌, ◌++◌, map, Option, Some, None, option_map, option_and_then, refl, sym, ap, ◌∙◌, subst}
use Rattle.std.specs.Prelude.{slice_get, slice_set}
use Rattle.std.specs.List.{list_all}
use Rattle.std.proofs.lemmas.Bool.{false≢true}
use Rattle.idl_tree.specs.Names.{Bytes}
use Rattle.idl_tree.specs.declared.trees.Interface.{Interface}
use Rattle.idl_tree.specs.declared.trees.Prefix.TheVariants.{Array, Map}
use Rattle.typed_value.specs.declared.vals.Val.{Val}
use Rattle.typed_value.specs.declared.vals.Val.TheVariants as val
use Rattle.typed_value.proofs.Distinct.{first_true, second_true}
use Rattle.typed_value.proofs.EntriesBack.{both}
use Rattle.sheet_rules.specs.Types.{Typ, body_typ, string_typ, array_part, map_part, is_of_typ}
use Rattle.sheet_rules.specs.Settings.{Setting, register_typ}
use Rattle.sheet_rules.specs.Gives.{gives}
use Rattle.sheet_rules.specs.Conditions.{gives_string}
use Rattle.sheet_rules.specs.Steps.{is_set, is_pushed, is_put, is_keyed, step_is_typed}
use Rattle.sheet_rules.specs.declared.forms.Register.{Register}
use Rattle.sheet_rules.specs.declared.forms.Expr.{Expr}
use Rattle.sheet_rules.specs.declared.forms.Action.{Action}
use Rattle.sheet_rules.specs.declared.forms.Action.TheVariants as action
use Rattle.rule_values.specs.Parts.{text_of}
use Rattle.rule_values.specs.Meanings.{◌>>=◌, meaning}
use Rattle.sheet_step.specs.Registers.{Change, replaced, pushed, with_entry, without_entry, put, dropped, changed, seen, after_step, after_steps}
use Rattle.step_laws.specs.Ready.{are_of_types}
use Rattle.step_laws.specs.Laws.{begins_typed}
use Rattle.step_laws.specs.Given.{ThereIs, IsGiven, InPlace}
use Rattle.step_laws.proofs.Parted.{no_some, some_same, then_opened, passed}
use Rattle.step_laws.proofs.Referred.{typ_in, register_given}
use Rattle.step_laws.proofs.FittingTypes.{some_there, HasScope, scope_of_value}
use Rattle.step_laws.proofs.ValueParts.{Entry, array_opened, map_opened_at, text_given, items_given, entries_given, items_made, map_made}
use Rattle.step_laws.proofs.Expressions.{bound, part_scope, own_scope, expr_given}
use Rattle.step_laws.proofs.KeptOrder.{order_with, each_with, order_without, each_without, all_pushed}

pub set_kept : (interfaces : List Interface) (registers : List Register) (values : List Val) (place : ℕ) (t : Typ) (v : Val)
    → are_of_types interfaces registers values ≡ true → register_typ registers place ≡ Some t → is_of_typ interfaces t v ≡ true
    → are_of_types interfaces registers (slice_set values place v) ≡ true
set_kept interfaces [] values place t v of is new = absurd (no_some t is)
set_kept interfaces (register ∷ registers) [] place t v of is new = absurd (false≢true of)
set_kept interfaces (register ∷ registers) (w ∷ values) zero t v of is new =
    both (is_of_typ interfaces (typ_in register) v) _
    (subst (λ (x : Typ). is_of_typ interfaces x v ≡ true) (sym (some_same (typ_in register) t is)) new)
    (second_true (is_of_typ interfaces (typ_in register) w) _ of)
set_kept interfaces (register ∷ registers) (w ∷ values) (suc place) t v of is new =
    both (is_of_typ interfaces (typ_in register) w) _ (first_true (is_of_typ interfaces (typ_in register) w) _ of)
    (set_kept interfaces registers values place t v (second_true (is_of_typ interfaces (typ_in register) w) _ of) is new)

pub begin_of_types : (interfaces : List Interface) (registers : List Register) → list_all (begins_typed interfaces) registers ≡ true
    → are_of_types interfaces registers (map (λ (register : Register). register.initial) registers) ≡ true
begin_of_types interfaces [] h = refl
begin_of_types interfaces (register ∷ registers) h =
    both (is_of_typ interfaces (typ_in register) register.initial) _ (first_true (begins_typed interfaces register) _ h)
    (begin_of_types interfaces registers (second_true (begins_typed interfaces register) _ h))

-- outside a stream there is no item, so it has no type
pub item_none : (interfaces : List Interface) (o : Option Typ) → ((t : Typ) → o ≡ Some t → IsGiven interfaces t None) → o ≡ None
item_none interfaces None given = refl
item_none interfaces (Some t) given = absurd (no_some (given t refl).value (given t refl).is)

module _ (interfaces : List Interface) where
  -- a change of a value of a type gives one
  abbrev pub Keeps : Typ → Change → Type 0
  Keeps t change = (old : Val) → is_of_typ interfaces t old ≡ true → IsGiven interfaces t (change old)

  pushed_keeps : (t part : Typ) (v : Val) → array_part t ≡ Some part → is_of_typ interfaces part v ≡ true → Keeps t (pushed v)
  pushed_keeps t part v at of old old_of =
      let items = items_given interfaces t part old at old_of in
      let home = some_there (slice_get interfaces t.scope) (scope_of_value interfaces t old old_of) in
      record {
        value = val.Items (items.value ++ v ∷ []);
        is = ap (option_map (λ (vs : List Val). val.Items (vs ++ v ∷ []))) items.is;
        so = items_made interfaces t part home.value (items.value ++ v ∷ []) home.is at
            (all_pushed (is_of_typ interfaces part) items.value v of items.so);
      }

  put_keeps : (t part : Typ) (key : Bytes) (v : Val) → map_part t ≡ Some part → is_of_typ interfaces part v ≡ true → Keeps t (put key v)
  put_keeps t part key v at of old old_of =
      let entries = entries_given interfaces t part old at old_of in
      let home = some_there (slice_get interfaces t.scope) (scope_of_value interfaces t old old_of) in
      record {
        value = val.Map (with_entry key v entries.value);
        is = ap (option_map (λ (es : List Entry). val.Map (with_entry key v es))) entries.is;
        so = map_made interfaces t part home.value (with_entry key v entries.value) home.is at (record {
          order = order_with key v entries.value entries.so.order;
          each = each_with key v (λ (entry : Entry). is_of_typ interfaces part entry.1) entries.value of entries.so.each;
        });
      }

  dropped_keeps : (t part : Typ) (key : Bytes) → map_part t ≡ Some part → Keeps t (dropped key)
  dropped_keeps t part key at old old_of =
      let entries = entries_given interfaces t part old at old_of in
      let home = some_there (slice_get interfaces t.scope) (scope_of_value interfaces t old old_of) in
      record {
        value = val.Map (without_entry key entries.value);
        is = ap (option_map (λ (es : List Entry). val.Map (without_entry key es))) entries.is;
        so = map_made interfaces t part home.value (without_entry key entries.value) home.is at (record {
          order = order_without key entries.value entries.so.order;
          each = each_without key (λ (entry : Entry). is_of_typ interfaces part entry.1) entries.value entries.so.each;
        });
      }

module _ (s : Setting) (none : s.item ≡ None) (parameters : Val) (of : is_of_typ s.interfaces (body_typ s.scope s.input) parameters ≡ true) where
  abbrev pub Kept : List Val → Type 0
  Kept values = are_of_types s.interfaces s.registers values ≡ true

  pub in_place : (values : List Val) → Kept values → InPlace s (seen parameters values)
  in_place values kept = record {
    registers = kept;
    parameters = of;
    item = λ t is. absurd (no_some t (sym none ∙ is));
  }

  changed_kept : (place : ℕ) (t : Typ) (change : Change) (values : List Val) → Kept values → register_typ s.registers place ≡ Some t
      → Keeps s.interfaces t change → ThereIs (changed place change values) Kept
  changed_kept place t change values kept is keeps =
      let old = register_given s.interfaces s.registers values place t kept is in
      let new = keeps old.value old.so in
      record {
        value = slice_set values place new.value;
        is = rw (old.is, new.is) refl;
        so = set_kept s.interfaces s.registers values place t new.value kept is new.so;
      }

  -- the type of a register is one of an interface that is there
  register_scope : (values : List Val) (place : ℕ) (t : Typ) → Kept values → register_typ s.registers place ≡ Some t → HasScope s.interfaces t
  register_scope values place t kept is =
      let old = register_given s.interfaces s.registers values place t kept is in
      scope_of_value s.interfaces t old.value old.so

  key_given : (key : Expr) (values : List Val) → Kept values → gives_string s key ≡ true
      → ThereIs (meaning key (seen parameters values) >>= text_of) (λ text. Unit {0})
  key_given key values kept h =
      let e = seen parameters values in
      let at = in_place values kept in
      let v = expr_given s e at key (string_typ s.scope) (own_scope s e at) h in
      let text = text_given s.interfaces s.scope v.value v.so in
      record { value = text.value; is = bound text_of (meaning key e) v.value text.value v.is text.is; so = tt }

  set_done : (place : ℕ) (expr : Expr) (values : List Val) → Kept values → is_set s place expr ≡ true
      → ThereIs (after_step parameters (action.Set place expr) values) Kept
  set_done place expr values kept h =
      let e = seen parameters values in
      let t = passed (gives s expr) (register_typ s.registers place) h in
      let v = expr_given s e (in_place values kept) expr t.value (register_scope values place t.value kept t.is) t.so in
      let next = changed_kept place t.value (replaced v.value) values kept t.is (λ old old_of. record { value = v.value; is = refl; so = v.so }) in
      record { value = next.value; is = rw v.is next.is; so = next.so }

  push_done : (place : ℕ) (expr : Expr) (values : List Val) → Kept values → is_pushed s place expr ≡ true
      → ThereIs (after_step parameters (action.Push place expr) values) Kept
  push_done place expr values kept h =
      let e = seen parameters values in
      let part = passed (gives s expr) (option_and_then array_part (register_typ s.registers place)) h in
      let t = then_opened array_part (register_typ s.registers place) part.value part.is in
      let there = part_scope s.interfaces Array t.value part.value (array_opened t.value part.value t.so) (register_scope values place t.value kept t.is) in
      let v = expr_given s e (in_place values kept) expr part.value there part.so in
      let next = changed_kept place t.value (pushed v.value) values kept t.is (pushed_keeps s.interfaces t.value part.value v.value t.so v.so) in
      record { value = next.value; is = rw v.is next.is; so = next.so }

  put_done : (place : ℕ) (key expr : Expr) (values : List Val) → Kept values → gives_string s key ≡ true → is_put s place expr ≡ true
      → ThereIs (after_step parameters (action.Put place key expr) values) Kept
  put_done place key expr values kept k h =
      let e = seen parameters values in
      let part = passed (gives s expr) (option_and_then map_part (register_typ s.registers place)) h in
      let t = then_opened map_part (register_typ s.registers place) part.value part.is in
      let there = part_scope s.interfaces Map t.value part.value (map_opened_at t.value part.value t.so) (register_scope values place t.value kept t.is) in
      let text = key_given key values kept k in
      let v = expr_given s e (in_place values kept) expr part.value there part.so in
      let next = changed_kept place t.value (put text.value v.value) values kept t.is (put_keeps s.interfaces t.value part.value text.value v.value t.so v.so) in
      record { value = next.value; is = rw (text.is, v.is) next.is; so = next.so }

  drop_done : (place : ℕ) (key : Expr) (values : List Val) → Kept values → gives_string s key ≡ true → is_keyed s place ≡ true
      → ThereIs (after_step parameters (action.Drop place key) values) Kept
  drop_done place key values kept k h =
      let part = some_there (option_and_then map_part (register_typ s.registers place)) h in
      let t = then_opened map_part (register_typ s.registers place) part.value part.is in
      let text = key_given key values kept k in
      let next = changed_kept place t.value (dropped text.value) values kept t.is (dropped_keeps s.interfaces t.value part.value text.value t.so) in
      record { value = next.value; is = rw text.is next.is; so = next.so }

  pub step_done : (step : Action) (values : List Val) → Kept values → step_is_typed s step ≡ true → ThereIs (after_step parameters step values) Kept
  step_done (action.Set place expr) values kept h = set_done place expr values kept h
  step_done (action.Push place expr) values kept h = push_done place expr values kept h
  step_done (action.Put place key expr) values kept h =
      put_done place key expr values kept (first_true (gives_string s key) _ h) (second_true (gives_string s key) _ h)
  step_done (action.Drop place key) values kept h =
      drop_done place key values kept (first_true (gives_string s key) _ h) (second_true (gives_string s key) _ h)

  pub steps_done : (steps : List Action) (values : List Val) → Kept values → list_all (step_is_typed s) steps ≡ true
      → ThereIs (after_steps parameters steps values) Kept
  steps_done [] values kept h = record { value = values; is = refl; so = kept }
  steps_done (step ∷ steps) values kept h =
      let next = step_done step values kept (first_true (step_is_typed s step) _ h) in
      let last = steps_done steps next.value next.so (second_true (step_is_typed s step) _ h) in
      record { value = last.value; is = bound (after_steps parameters steps) (after_step parameters step values) next.value last.value next.is last.is; so = last.so }
