-- an expression that gives a type has a value of it
use Rattle.std.proofs.Common.{◌≡◌, ℕ, ℤ, pos, negsuc, ◌+ℤ◌, ◌^◌, ◌-◌, ◌<◌, min, Bool, true, false, ◌||◌, ◌&&◌, cond, inl, inr, nat_lt, List, [], ◌∷◌, map, length, Option, Some, None, IsSome, is_some, option_map, refl, sym, ap, ◌∙◌, subst, arith}
use Rattle.std.specs.Prelude.{slice_get}
use Rattle.std.specs.List.{list_all}
use Rattle.std.specs.Str.{bytes_eq}
use Rattle.std.proofs.lemmas.Bool.{false≢true}
use Rattle.std.proofs.lemmas.Bool.Decides.{nat_tests}
use Rattle.idl_tree.specs.Names.{Bytes}
use Rattle.idl_tree.specs.declared.trees.Interface.{Interface}
use Rattle.idl_tree.specs.declared.trees.Prefix.{Prefix}
use Rattle.idl_tree.specs.declared.trees.Prefix.TheVariants.{Array}
use Rattle.idl_tree.specs.declared.trees.Field.{Field}
use Rattle.typed_value.specs.Ints.{is_int}
use Rattle.typed_value.specs.OfType.{fits, fields_fit}
use Rattle.typed_value.specs.declared.vals.Val.{Val, out-Val}
use Rattle.typed_value.specs.declared.vals.Val.TheVariants as val
use Rattle.typed_value.specs.declared.vals.Val.TheOpen.{Val-F}
use Rattle.typed_value.proofs.Distinct.{first_true, second_true}
use Rattle.typed_value.proofs.EntriesBack.{both}
use Rattle.sheet_rules.specs.Types.{Typ, type_in, int_typ, string_typ, is_int_typ, without_maybe, array_part, map_part, passes, fits_typ, struct_fields, is_of_typ}
use Rattle.sheet_rules.specs.Settings.{Setting, ref_typ}
use Rattle.sheet_rules.specs.Gives.{Giver, each_given, all_given, refers, has_length, has_part, give_step, gives}
use Rattle.sheet_rules.specs.declared.forms.Ref.{Ref}
use Rattle.sheet_rules.specs.declared.forms.Expr.{Expr, roll-Expr, map-Expr}
use Rattle.sheet_rules.specs.declared.forms.Expr.TheOpen.{Expr-F}
use Rattle.sheet_rules.specs.declared.forms.Expr.TheFolds.{ind-Expr, fold-roll-Expr}
use Rattle.rule_values.specs.Parts.{int_of, items_part, entries_part}
use Rattle.rule_values.specs.Meanings.{Env, found, Meaning, ◌>>=◌, all_of, value_at, count_part, count_of, held, held_count, sum_meaning, length_meaning, looked_up, or_else, at_meaning, meaning_step, meaning}
use Rattle.step_laws.specs.Given.{ThereIs, IsGiven, InPlace}
use Rattle.step_laws.proofs.Parted.{no_some, some_same, passed, passes_at}
use Rattle.step_laws.proofs.Referred.{found_given}
use Rattle.step_laws.proofs.FittingTypes.{some_there, there_some, or_true, HasScope, scope_of_value, without_of, fits_of}
use Rattle.step_laws.proofs.ValueParts.{Entry, IsPart, array_opened, all_of_typ, int_given, text_given, items_given, entries_given, int_made, items_made, struct_made}

less_is : (m n : ℕ) → m < n → nat_lt m n ≡ true
less_is m n h = grind (arith, nat_tests)

-- a sum and a count are numbers of 64 bits with a sign
held_is_int : (z : ℤ) → is_int (held z) ≡ true
held_is_int (pos n) = less_is (min n (2 ^ 63 - 1)) (2 ^ 63) (omega arith)
held_is_int (negsuc n) = less_is (min n (2 ^ 63 - 1)) (2 ^ 63) (omega arith)

count_is_int : (n : ℕ) → is_int (pos (min n (2 ^ 63 - 1))) ≡ true
count_is_int n = less_is (min n (2 ^ 63 - 1)) (2 ^ 63) (omega arith)

count_items : (x : Val-F Val) (values : List Val) → items_part x ≡ Some values → count_part x ≡ Some (length values)
count_items (Val-F.Items items) values is = ap (λ (vs : List Val). Some (length vs)) (some_same items values is)
count_items x values is = absurd (no_some values is)

count_entries : (x : Val-F Val) (entries : List Entry) → entries_part x ≡ Some entries → count_part x ≡ Some (length entries)
count_entries (Val-F.Map rows) entries is = ap (λ (es : List Entry). Some (length es)) (some_same rows entries is)
count_entries x entries is = absurd (no_some entries is)

-- what is there behind what is there
pub bound : {A B : Type 0} (f : A → Option B) (o : Option A) (x : A) (y : B) → o ≡ Some x → f x ≡ Some y → (o >>= f) ≡ Some y
bound {A} f o x y is so = ap (λ (p : Option A). p >>= f) is ∙ so

module _ (interfaces : List Interface) where
  pub part_scope : (first : Prefix) (t part : Typ) → IsPart first t part → HasScope interfaces t → HasScope interfaces part
  part_scope first t part is there = subst (HasScope interfaces) is.so there

  chosen_of : (t : Typ) (key : Bytes) (entry : Entry) (b : Bool) (later : Option Val) (v : Val) → is_of_typ interfaces t entry.1 ≡ true
      → cond b (Some entry.1) later ≡ Some v → (later ≡ Some v → is_of_typ interfaces t v ≡ true) → is_of_typ interfaces t v ≡ true
  chosen_of t key entry true later v of is rest = subst (λ (w : Val). is_of_typ interfaces t w ≡ true) (some_same entry.1 v is) of
  chosen_of t key entry false later v of is rest = rest is

  value_of : (t : Typ) (key : Bytes) (entries : List Entry) (v : Val) → list_all (λ (entry : Entry). is_of_typ interfaces t entry.1) entries ≡ true
      → value_at key entries ≡ Some v → is_of_typ interfaces t v ≡ true
  value_of t key [] v each is = absurd (no_some v is)
  value_of t key (entry ∷ entries) v each is =
      chosen_of t key entry (bytes_eq key entry.0) (value_at key entries) v (first_true (is_of_typ interfaces t entry.1) _ each) is
      (value_of t key entries v (second_true (is_of_typ interfaces t entry.1) _ each))

  or_given : (t : Typ) (o : Option Val) (other : Meaning) (e : Env) → ((v : Val) → o ≡ Some v → is_of_typ interfaces t v ≡ true)
      → IsGiven interfaces t (other e) → IsGiven interfaces t (or_else o other e)
  or_given t (Some v) other e there rest = record { value = v; is = refl; so = there v refl }
  or_given t None other e there rest = rest

module _ (s : Setting) (e : Env) (at : InPlace s e) where
  abbrev pub GivesThat : Expr → Type 0
  GivesThat expr = (t : Typ) → HasScope s.interfaces t → gives s expr t ≡ true → IsGiven s.interfaces t (meaning expr e)

  abbrev Proved : Type 0
  Proved = (expr : Expr) × GivesThat expr

  abbrev exprs : List Proved → List Expr
  exprs items = map (λ (item : Proved). item.0) items

  pub own_scope : IsSome (slice_get s.interfaces s.scope)
  own_scope = scope_of_value s.interfaces _ e.parameters at.parameters

  fields_given : (home : Interface) (scope : ℕ) (fields : List Field) (items : List Proved) → slice_get s.interfaces scope ≡ Some home
      → each_given scope fields (map (gives s) (exprs items)) ≡ true
      → ThereIs (all_of (map meaning (exprs items)) e) (λ values. fields_fit fields (map (fits home) values) ≡ true)
  fields_given home scope [] [] is h = record { value = []; is = refl; so = refl }
  fields_given home scope [] (item ∷ items) is h = absurd (false≢true h)
  fields_given home scope (field ∷ fields) [] is h = absurd (false≢true h)
  fields_given home scope (field ∷ fields) (item ∷ items) is h =
      let t = type_in scope field.of in
      let there = there_some (slice_get s.interfaces scope) home is in
      let v = item.1 t there (first_true (gives s item.0 t) _ h) in
      let rest = fields_given home scope fields items is (second_true (gives s item.0 t) _ h) in
      record {
        value = v.value ∷ rest.value;
        is = rw (v.is, rest.is) refl;
        so = both (fits home v.value field.of.prefixes field.of.core) _
            (passes_at (λ (x : Interface). fits x v.value field.of.prefixes field.of.core) (slice_get s.interfaces scope) home is v.so) rest.so;
      }

  items_all : (t : Typ) (items : List Proved) → HasScope s.interfaces t → all_given (map (gives s) (exprs items)) t ≡ true
      → ThereIs (all_of (map meaning (exprs items)) e) (λ values. all_of_typ s.interfaces t values ≡ true)
  items_all t [] there h = record { value = []; is = refl; so = refl }
  items_all t (item ∷ items) there h =
      let v = item.1 t there (first_true (gives s item.0 t) _ h) in
      let rest = items_all t items there (second_true (gives s item.0 t) _ h) in
      record {
        value = v.value ∷ rest.value;
        is = rw (v.is, rest.is) refl;
        so = both (is_of_typ s.interfaces t v.value) _ v.so rest.so;
      }

  -- the number, and the text, that an expression is
  pub number_given : (expr : Expr) → IsGiven s.interfaces (int_typ s.scope) (meaning expr e) → ThereIs (meaning expr e >>= int_of) (λ z. Unit {0})
  number_given expr v =
      let z = int_given s.interfaces s.scope v.value v.so in
      record { value = z.value; is = bound int_of (meaning expr e) v.value z.value v.is z.is; so = tt }

  -- what the map that is referred to has at a key is of the type of its values
  pub looked_given : (r : Ref) (u part : Typ) (key : Val) → ref_typ s r ≡ Some u → map_part u ≡ Some part
      → is_of_typ s.interfaces (string_typ s.scope) key ≡ true
      → ThereIs (looked_up e r key) (λ there. (v : Val) → there ≡ Some v → is_of_typ s.interfaces part v ≡ true)
  looked_given r u part key refers has of =
      let v = found_given s e at r u refers in
      let entries = entries_given s.interfaces u part v.value has v.so in
      let text = text_given s.interfaces s.scope key of in
      record {
        value = value_at text.value entries.value;
        is = rw (v.is, entries.is, text.is) refl;
        so = λ w is. value_of s.interfaces part text.value entries.value w entries.so.each is;
      }

  counted : (r : Ref) (u : Typ) → ref_typ s r ≡ Some u → (is_some (array_part u) || is_some (map_part u)) ≡ true
      → ThereIs (found e r >>= count_of) (λ n. Unit {0})
  counted r u refers h =
      let v = found_given s e at r u refers in
      elim (or_true (is_some (array_part u)) (is_some (map_part u)) h) [
        | inl array ↦ (let part = some_there (array_part u) array in
            let items = items_given s.interfaces u part.value v.value part.is v.so in
            record {
              value = length items.value;
              is = bound count_of (found e r) v.value (length items.value) v.is (count_items (out-Val v.value) items.value items.is);
              so = tt;
            })
        | inr mapped ↦ (let part = some_there (map_part u) mapped in
            let entries = entries_given s.interfaces u part.value v.value part.is v.so in
            record {
              value = length entries.value;
              is = bound count_of (found e r) v.value (length entries.value) v.is (count_entries (out-Val v.value) entries.value entries.is);
              so = tt;
            })
      ]

  int_back : (t : Typ) (z : ℤ) → HasScope s.interfaces t → is_int_typ (without_maybe t) ≡ true → is_int z ≡ true
      → is_of_typ s.interfaces t (val.Int z) ≡ true
  int_back t z there int h =
      let home = some_there (slice_get s.interfaces t.scope) there in
      without_of s.interfaces t (val.Int z) (int_made s.interfaces (without_maybe t) home.value z home.is int h)

  sum_given : (one other : Expr) (t : Typ) → HasScope s.interfaces t → is_int_typ (without_maybe t) ≡ true
      → ThereIs (meaning one e >>= int_of) (λ z. Unit {0}) → ThereIs (meaning other e >>= int_of) (λ z. Unit {0})
      → IsGiven s.interfaces t (sum_meaning (meaning one) (meaning other) e)
  sum_given one other t there int x y = record {
    value = val.Int (held (x.value +ℤ y.value));
    is = rw (x.is, y.is) refl;
    so = int_back t (held (x.value +ℤ y.value)) there int (held_is_int (x.value +ℤ y.value));
  }

  length_given : (r : Ref) (t : Typ) → HasScope s.interfaces t → is_int_typ (without_maybe t) ≡ true → has_length s r ≡ true
      → IsGiven s.interfaces t (length_meaning r e)
  length_given r t there int h =
      let u = passed (λ (u : Typ). is_some (array_part u) || is_some (map_part u)) (ref_typ s r) h in
      let n = counted r u.value u.is u.so in
      record {
        value = held_count n.value;
        is = rw n.is refl;
        so = int_back t (pos (min n.value (2 ^ 63 - 1))) there int (count_is_int n.value);
      }

  at_given : (r : Ref) (key other : Expr) (t : Typ) → HasScope s.interfaces t → has_part s r t ≡ true
      → IsGiven s.interfaces (string_typ s.scope) (meaning key e) → IsGiven s.interfaces t (meaning other e)
      → IsGiven s.interfaces t (at_meaning r (meaning key) (meaning other) e)
  at_given r key other t there h k rest =
      let u = passed (λ (u : Typ). passes (λ part. fits_typ part t) (map_part u)) (ref_typ s r) h in
      let part = passed (λ (part : Typ). fits_typ part t) (map_part u.value) u.so in
      let found_there = looked_given r u.value part.value k.value u.is part.is k.so in
      let v = or_given s.interfaces t found_there.value (meaning other) e
      (λ v is. fits_of s.interfaces part.value t v part.so there (found_there.so v is)) rest in
      record { value = v.value; is = rw (k.is, found_there.is) v.is; so = v.so }

  layer_given : (y : Expr-F Proved) (t : Typ) → HasScope s.interfaces t
      → give_step s (map-Expr Expr Giver (gives s) (map-Expr Proved Expr (λ item. item.0) y)) t ≡ true
      → IsGiven s.interfaces t (meaning_step (map-Expr Expr Meaning meaning (map-Expr Proved Expr (λ item. item.0) y)) e)
  layer_given (Expr-F.From r) t there h =
      let u = passed (λ (u : Typ). fits_typ u t) (ref_typ s r) h in
      let v = found_given s e at r u.value u.is in
      record { value = v.value; is = v.is; so = fits_of s.interfaces u.value t v.value u.so there v.so }
  layer_given (Expr-F.Const v) t there h = record { value = v; is = refl; so = h }
  layer_given (Expr-F.Struct items) t there h =
      let home = some_there (slice_get s.interfaces t.scope) there in
      let fields = passed (λ (fields : List Field). each_given t.scope fields (map (gives s) (exprs items))) (struct_fields s.interfaces (without_maybe t)) h in
      let values = fields_given home.value t.scope fields.value items home.is fields.so in
      record {
        value = val.Struct values.value;
        is = ap (option_map val.Struct) values.is;
        so = without_of s.interfaces t (val.Struct values.value)
            (struct_made s.interfaces (without_maybe t) home.value fields.value values.value home.is fields.is values.so);
      }
  layer_given (Expr-F.Items items) t there h =
      let home = some_there (slice_get s.interfaces t.scope) there in
      let part = passed (all_given (map (gives s) (exprs items))) (array_part (without_maybe t)) h in
      let scope = part_scope s.interfaces Array (without_maybe t) part.value (array_opened (without_maybe t) part.value part.is) there in
      let values = items_all part.value items scope part.so in
      record {
        value = val.Items values.value;
        is = ap (option_map val.Items) values.is;
        so = without_of s.interfaces t (val.Items values.value)
            (items_made s.interfaces (without_maybe t) part.value home.value values.value home.is part.is values.so);
      }
  layer_given (Expr-F.Sum one other) t there h =
      let heads = first_true (is_int_typ (without_maybe t) && gives s one.0 (int_typ s.scope)) _ h in
      sum_given one.0 other.0 t there (first_true (is_int_typ (without_maybe t)) _ heads)
      (number_given one.0 (one.1 (int_typ s.scope) own_scope (second_true (is_int_typ (without_maybe t)) _ heads)))
      (number_given other.0 (other.1 (int_typ s.scope) own_scope
      (second_true (is_int_typ (without_maybe t) && gives s one.0 (int_typ s.scope)) _ h)))
  layer_given (Expr-F.Length r) t there h =
      length_given r t there (first_true (is_int_typ (without_maybe t)) _ h) (second_true (is_int_typ (without_maybe t)) _ h)
  layer_given (Expr-F.At r key other) t there h =
      let heads = first_true (has_part s r t && gives s key.0 (string_typ s.scope)) _ h in
      at_given r key.0 other.0 t there (first_true (has_part s r t) _ heads)
      (key.1 (string_typ s.scope) own_scope (second_true (has_part s r t) _ heads))
      (other.1 t there (second_true (has_part s r t && gives s key.0 (string_typ s.scope)) _ h))

  pub expr_given : (expr : Expr) → GivesThat expr
  expr_given = ind-Expr GivesThat (λ x y is. subst (λ (z : Expr-F Expr). GivesThat (roll-Expr z)) is (λ t there h.
      let v = layer_given y t there
      (ap (λ (giver : Giver). giver t) (sym (fold-roll-Expr Giver (give_step s) (map-Expr Proved Expr (λ item. item.0) y))) ∙ h) in
      record {
        value = v.value;
        is = ap (λ (m : Meaning). m e) (fold-roll-Expr Meaning meaning_step (map-Expr Proved Expr (λ item. item.0) y)) ∙ v.is;
        so = v.so;
      }))
