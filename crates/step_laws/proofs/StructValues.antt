-- a value of a struct's type has a value for each field, so a path leads to a value where it leads to a type
use Rattle.std.proofs.Common.{◌≡◌, ℕ, zero, suc, Bool, true, ◌&&◌, nat_lt, List, [], ◌∷◌, map, length, Option, Some, option_and_then, is_some, refl, sym, ap, ◌∙◌, subst, arith}
use Rattle.std.specs.Prelude.{slice_get}
use Rattle.std.proofs.lemmas.Bool.{false≢true}
use Rattle.std.proofs.lemmas.Bool.Decides.{nat_tests}
use Rattle.serde_json.specs.Find.{as_object}
use Rattle.idl_tree.specs.declared.trees.Interface.{Interface}
use Rattle.idl_tree.specs.declared.trees.Prefix.{Prefix}
use Rattle.idl_tree.specs.declared.trees.Field.{Field}
use Rattle.idl_tree.specs.declared.trees.TypeRef.{TypeRef}
use Rattle.idl_tree.specs.declared.trees.Body.{Body, out-Body}
use Rattle.idl_tree.specs.declared.trees.Core.{Core, out-Core}
use Rattle.idl_tree.specs.declared.trees.Body.TheOpen.{Body-F, Core-F}
use Rattle.typed_value.specs.Bodies.{body_in, body_of, names_in, names_or_none}
use Rattle.typed_value.specs.KeyOrder.{is_whole_tree}
use Rattle.typed_value.specs.OfType.{Fit, fits, fit_step, is_bool, is_whole, is_text, is_foreign, fields_fit, struct_fits, body_fits}
use Rattle.typed_value.specs.declared.vals.Val.{Val, out-Val, map-Val}
use Rattle.typed_value.specs.declared.vals.Val.TheOpen.{Val-F}
use Rattle.typed_value.specs.declared.vals.Val.TheFolds.{fold_out-Val}
use Rattle.typed_value.proofs.Distinct.{first_true, second_true}
use Rattle.rule_values.specs.Parts.{fields_part, fields_of, field_at, at_path}
use Rattle.sheet_rules.specs.Types.{Typ, type_in, struct_in, struct_of, typ_body, struct_fields, is_of_typ}
use Rattle.sheet_rules.specs.Settings.{field_typ, path_typ}
use Rattle.step_laws.specs.Given.{ThereIs, IsGiven}
use Rattle.step_laws.proofs.Parted.{no_some, some_same, then_opened, map_opened, passes_at, passing, plain_is, plain_found}

abbrev pub CoreLayer : Type 0
CoreLayer = Core-F Body Core Field TypeRef

abbrev pub BodyLayer : Type 0
BodyLayer = Body-F Body Core Field TypeRef

-- whether a value is of a type, by its one layer
pub at_layer : (home : Interface) (v : Val) (x : Val-F Val) → out-Val v ≡ x → (prefixes : List Prefix) (core : Core)
    → fits home v prefixes core ≡ fit_step home (map-Val Val Fit (fits home) x) prefixes core
at_layer home v x is prefixes core = ap (λ (fit : Fit). fit prefixes core) (fold_out-Val Fit (fit_step home) v)
    ∙ ap (λ (y : Val-F Val). fit_step home (map-Val Val Fit (fits home) y) prefixes core) is

pub foreign_first : (a b c : Bool) → (a && b && c) ≡ true → a ≡ true
foreign_first a b c h = first_true a b (first_true (a && b) c h)

-- a core that is a body is nothing else
not_bool : (home : Interface) (core : CoreLayer) (body : Body) → body_in home core ≡ Some body → is_bool core ≡ true → ⊥
not_bool home Core-F.Bool body is h = no_some body is
not_bool home core body is h = false≢true h

not_whole : (home : Interface) (core : CoreLayer) (body : Body) → body_in home core ≡ Some body → is_whole core ≡ true → ⊥
not_whole home Core-F.Int body is h = no_some body is
not_whole home core body is h = false≢true h

not_text : (home : Interface) (core : CoreLayer) (body : Body) → body_in home core ≡ Some body → is_text core ≡ true → ⊥
not_text home Core-F.Str body is h = no_some body is
not_text home core body is h = false≢true h

not_foreign : (home : Interface) (core : CoreLayer) (body : Body) → body_in home core ≡ Some body → is_foreign core ≡ true → ⊥
not_foreign home Core-F.Object body is h = no_some body is
not_foreign home core body is h = false≢true h

no_name : (body : BodyLayer) (fields : List Field) (place : ℕ) → struct_in body ≡ Some fields → nat_lt place (length (names_in body)) ≡ true → ⊥
no_name (Body-F.Struct others ending) fields place is h = grind (arith, nat_tests)
no_name (Body-F.Enum names ending) fields place is h = no_some fields is

fields_of_struct : (body : BodyLayer) (fields : List Field) (values : List Fit) → struct_in body ≡ Some fields → struct_fits body values ≡ true
    → fields_fit fields values ≡ true
fields_of_struct (Body-F.Struct others ending) fields values is h =
    subst (λ (all : List Field). fields_fit all values ≡ true) (some_same others fields is) h
fields_of_struct (Body-F.Enum names ending) fields values is h = absurd (no_some fields is)

module _ (home : Interface) where
  -- a value for each field
  abbrev pub HasFields : List Field → Option (List Val) → Type 0
  HasFields fields o = ThereIs o (λ values. fields_fit fields (map (fits home) values) ≡ true)

  layer_fields : (x : Val-F Val) (core : Core) (body : Body) (fields : List Field) → body_of home core ≡ Some body → struct_of body ≡ Some fields
      → fit_step home (map-Val Val Fit (fits home) x) [] core ≡ true → HasFields fields (fields_part x)
  layer_fields (Val-F.Struct values) core body fields is struct h = record {
    value = values;
    is = refl;
    so = fields_of_struct (out-Body body) fields (map (fits home) values) struct
        (subst (λ (o : Option Body). body_fits o (map (fits home) values) ≡ true) is h);
  }
  layer_fields (Val-F.Bool b) core body fields is struct h = absurd (not_bool home (out-Core core) body is h)
  layer_fields (Val-F.Int z) core body fields is struct h =
      absurd (not_whole home (out-Core core) body is (first_true (is_whole (out-Core core)) _ h))
  layer_fields (Val-F.Str s) core body fields is struct h = absurd (not_text home (out-Core core) body is h)
  layer_fields (Val-F.Items values) core body fields is struct h = absurd (false≢true h)
  layer_fields (Val-F.Map entries) core body fields is struct h = absurd (false≢true h)
  layer_fields (Val-F.Pick place) core body fields is struct h =
      absurd (no_name (out-Body body) fields place struct (subst (λ (o : Option Body). nat_lt place (length (names_or_none o)) ≡ true) is h))
  layer_fields Val-F.Nothing core body fields is struct h = absurd (false≢true h)
  layer_fields (Val-F.Foreign d) core body fields is struct h =
      absurd (not_foreign home (out-Core core) body is (foreign_first (is_foreign (out-Core core)) (is_some (as_object d)) (is_whole_tree d) h))

  pub struct_value : (v : Val) (core : Core) (body : Body) (fields : List Field) → body_of home core ≡ Some body → struct_of body ≡ Some fields
      → fits home v [] core ≡ true → HasFields fields (fields_of v)
  struct_value v core body fields is struct h =
      layer_fields (out-Val v) core body fields is struct (sym (at_layer home v (out-Val v) refl [] core) ∙ h)

  -- the field at a place
  field_value : (fields : List Field) (values : List Val) (place : ℕ) (field : Field) → fields_fit fields (map (fits home) values) ≡ true
      → slice_get fields place ≡ Some field → ThereIs (slice_get values place) (λ w. fits home w field.of.prefixes field.of.core ≡ true)
  field_value [] values place field h is = absurd (no_some field is)
  field_value (first ∷ fields) [] place field h is = absurd (false≢true h)
  field_value (first ∷ fields) (v ∷ values) zero field h is =
      let same = some_same first field is in
      record {
        value = v;
        is = refl;
        so = subst (λ (f : Field). fits home v f.of.prefixes f.of.core ≡ true) same (first_true (fits home v first.of.prefixes first.of.core) _ h);
      }
  field_value (first ∷ fields) (v ∷ values) (suc place) field h is =
      field_value fields values place field (second_true (fits home v first.of.prefixes first.of.core) _ h) is

field_at_is : (place : ℕ) (v : Val) (values : List Val) (w : Val) → fields_of v ≡ Some values → slice_get values place ≡ Some w
    → field_at place v ≡ Some w
field_at_is place v values w is at = ap (option_and_then (λ (all : List Val). slice_get all place)) is ∙ at

module _ (interfaces : List Interface) where
  pub given_then : (t : Typ) (f : Val → Option Val) (o : Option Val) (x : Val) → o ≡ Some x → IsGiven interfaces t (f x) → IsGiven interfaces t (option_and_then f o)
  given_then t f o x is given = rw is given

  pub field_given : (place : ℕ) (t u : Typ) (v : Val) → field_typ interfaces place t ≡ Some u → is_of_typ interfaces t v ≡ true
      → IsGiven interfaces u (field_at place v)
  field_given place t u v is of =
      let field = map_opened (λ (field : Field). type_in t.scope field.of) _ u is in
      let fields = then_opened (λ (fields : List Field). slice_get fields place) (struct_fields interfaces t) field.value field.is in
      let body = then_opened struct_of (typ_body interfaces t) fields.value fields.is in
      let plain = plain_is t.prefixes _ body.value body.is in
      let home = then_opened (λ (scope : Interface). body_of scope t.core) (slice_get interfaces t.scope) body.value (plain_found t.prefixes _ body.value body.is) in
      let fit = passes_at (λ (scope : Interface). fits scope v t.prefixes t.core) (slice_get interfaces t.scope) home.value home.is of in
      let values = struct_value home.value v t.core body.value fields.value home.so body.so
      (subst (λ (prefixes : List Prefix). fits home.value v prefixes t.core ≡ true) plain fit) in
      let w = field_value home.value fields.value values.value place field.value values.so fields.so in
      record {
        value = w.value;
        is = field_at_is place v values.value w.value values.is w.is;
        so = subst (λ (x : Typ). is_of_typ interfaces x w.value ≡ true) field.so
            (passing (λ (scope : Interface). fits scope w.value field.value.of.prefixes field.value.of.core) (slice_get interfaces t.scope) home.value home.is w.so);
      }

  pub path_given : (path : List ℕ) (t u : Typ) (v : Val) → path_typ interfaces path t ≡ Some u → is_of_typ interfaces t v ≡ true
      → IsGiven interfaces u (at_path path v)
  path_given [] t u v is of = record { value = v; is = refl; so = subst (λ (x : Typ). is_of_typ interfaces x v ≡ true) (some_same t u is) of }
  path_given (place ∷ path) t u v is of =
      let next = then_opened (path_typ interfaces path) (field_typ interfaces place t) u is in
      let w = field_given place t next.value v next.is of in
      given_then u (at_path path) (field_at place v) w.value w.is (path_given path next.value u w.value next.so w.so)
