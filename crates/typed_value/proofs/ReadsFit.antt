-- what reads by a type is of the type
use Rattle.std.proofs.Common.{◌≡◌, ℕ, Bool, true, false, ◌&&◌, cond, List, [], ◌∷◌, length, map, Option, Some, None, is_some, option_map, option_and_then, ℤ, pos, nat_lt, refl, sym, ap, ◌∙◌, subst, bytes_eq}
use Rattle.std.specs.List.{list_all, position, position_or_len}
use Rattle.std.specs.Map.{lookup}
use Rattle.serde_json.specs.Data.{Num, unsigned, negative, float, Data, null, boolean, number, string, array, object, Items, no_items, item, Members, no_members, member}
use Rattle.serde_json.specs.Find.{as_null, as_bool, as_number, as_str, as_object}
use Rattle.idl_tree.specs.Form.{begins_with_maybe}
use Rattle.idl_tree.specs.Faults.{type_named}
use Rattle.idl_tree.specs.Names.{Bytes}
use Rattle.idl_tree.specs.declared.trees.Interface.{Interface}
use Rattle.idl_tree.specs.declared.trees.Prefix.{Prefix}
use Rattle.idl_tree.specs.declared.trees.Prefix.TheVariants.{Array, Map, Maybe}
use Rattle.idl_tree.specs.declared.trees.Named.{Named}
use Rattle.idl_tree.specs.declared.trees.Field.{Field}
use Rattle.idl_tree.specs.declared.trees.TypeRef.{TypeRef}
use Rattle.idl_tree.specs.declared.trees.Body.{Body, out-Body}
use Rattle.idl_tree.specs.declared.trees.Core.{Core, out-Core}
use Rattle.idl_tree.specs.declared.trees.Body.TheOpen.{Body-F, Core-F}
use Rattle.typed_value.specs.Bodies.{body_in, body_of, names_in, names_or_none}
use Rattle.std.specs.Prelude.{Result, Ok, Err, IfOk}
use Rattle.typed_value.specs.Gives.{Gives}
use Rattle.typed_value.specs.declared.faults.ValueFault.{ValueFault}
use Rattle.typed_value.specs.declared.faults.ValueFault.TheVariants.{Unfit, Memory}
use Rattle.typed_value.specs.Ints.{is_int, int_of}
use Rattle.typed_value.specs.KeyOrder.{is_whole_tree}
use Rattle.typed_value.specs.OfType.{Fit, fits, fit_step, is_bool, is_whole, is_text, is_foreign, fields_fit, struct_fits, body_fits}
use Rattle.typed_value.specs.Reads.{Reader, reader, item_readers, member_readers, value_by, core_by, body_by, all_of, entries_by, field_by, member_by}
use Rattle.typed_value.specs.KeyOrder.{are_in_order}
use Rattle.typed_value.specs.declared.vals.Val.{Val, out-Val, map-Val}
use Rattle.typed_value.specs.declared.vals.Val.TheVariants as val
use Rattle.typed_value.specs.declared.vals.Val.TheVariants.{outs-Bool, outs-Int, outs-Str, outs-Items, outs-Map, outs-Struct, outs-Pick, outs-Nothing, outs-Foreign}
use Rattle.typed_value.specs.declared.vals.Val.TheOpen.{Val-F}
use Rattle.typed_value.specs.declared.vals.Val.TheFolds.{fold_out-Val}
use Rattle.typed_value.proofs.Distinct.{first_true, second_true}
use Rattle.typed_value.proofs.EntriesBack.{both}

pub some_is : {A : Type 0} {a b : A} → ◌≡◌ {A = Option A} (Some a) (Some b) → a ≡ b
some_is h = (cc)

pub cond_some : {A : Type 0} (b : Bool) (o : Option A) (x : A) → cond b o None ≡ Some x → (b ≡ true) × (o ≡ Some x)
cond_some {A = A} true o x h = (refl, h)
cond_some {A = A} false o x h = let no : ◌≡◌ {A = Option A} None (Some x) = h in absurd (cc)

rest_of : {A : Type 0} (value : A) (o : Option (List A)) (values : List A) → option_map (λ (later : List A). value ∷ later) o ≡ Some values
    → (v : A) × ((rest : List A) × ((Some value ≡ Some v) × ((o ≡ Some rest) × (values ≡ v ∷ rest))))
rest_of value None values h = absurd (cc)
rest_of value (Some rest) values h = (value, (rest, (refl, (refl, sym (some_is h)))))

-- all of them read: the first, and the rest
pub split_all : {A : Type 0} (o : Option A) (os : List (Option A)) (values : List A) → all_of (o ∷ os) ≡ Some values
    → (value : A) × ((rest : List A) × ((o ≡ Some value) × ((all_of os ≡ Some rest) × (values ≡ value ∷ rest))))
split_all None os values h = absurd (cc)
split_all (Some value) os values h = rest_of value (all_of os) values h

pub mapped : {A B : Type 0} (f : A → B) (o : Option A) (b : B) → option_map f o ≡ Some b → (a : A) × ((o ≡ Some a) × (f a ≡ b))
mapped f None b h = absurd (cc)
mapped f (Some a) b h = (a, (refl, some_is h))

module _ (scope : Interface) where
  -- a value's fit by its one layer
  abbrev pub layer : Val → Val-F Fit
  layer v = map-Val Val Fit (fits scope) (out-Val v)

  opens : (v : Val) (prefixes : List Prefix) (core : Core) → fits scope v prefixes core ≡ fit_step scope (layer v) prefixes core
  opens v prefixes core = ap (λ (fit : Fit). fit prefixes core) (fold_out-Val Fit (fit_step scope) v)

  at_layer : (v : Val) (x : Val-F Val) (prefixes : List Prefix) (core : Core) → out-Val v ≡ x
      → fit_step scope (map-Val Val Fit (fits scope) x) prefixes core ≡ true → fits scope v prefixes core ≡ true
  at_layer v x prefixes core is fit =
      opens v prefixes core ∙ ap (λ (y : Val-F Val). fit_step scope (map-Val Val Fit (fits scope) y) prefixes core) is ∙ fit

  maybe_step : (x : Val-F Fit) (prefixes : List Prefix) (core : Core) → fit_step scope x prefixes core ≡ true → fit_step scope x (Maybe ∷ prefixes) core ≡ true
  maybe_step (Val-F.Bool b) prefixes core h = h
  maybe_step (Val-F.Int z) prefixes core h = h
  maybe_step (Val-F.Str s) prefixes core h = h
  maybe_step (Val-F.Items values) prefixes core h = h
  maybe_step (Val-F.Map entries) prefixes core h = h
  maybe_step (Val-F.Struct values) prefixes core h = h
  maybe_step (Val-F.Pick place) prefixes core h = h
  maybe_step Val-F.Nothing prefixes core h = refl
  maybe_step (Val-F.Foreign d) prefixes core h = h

  maybe_fits : (v : Val) (prefixes : List Prefix) (core : Core) → fits scope v prefixes core ≡ true → fits scope v (Maybe ∷ prefixes) core ≡ true
  maybe_fits v prefixes core h = opens v (Maybe ∷ prefixes) core ∙ maybe_step (layer v) prefixes core (sym (opens v prefixes core) ∙ h)

  nothing_fits : (prefixes : List Prefix) (core : Core) → begins_with_maybe prefixes ≡ true → fits scope val.Nothing prefixes core ≡ true
  nothing_fits prefixes core h = at_layer val.Nothing Val-F.Nothing prefixes core outs-Nothing h

  abbrev Fitting : Reader → Type 0
  Fitting reads = (prefixes : List Prefix) (core : Core) (v : Val) → reads prefixes core ≡ Some v → fits scope v prefixes core ≡ true

  abbrev EachFitting : List Reader → Type 0
  EachFitting [] = Unit {0}
  EachFitting (reads ∷ readers) = Fitting reads × EachFitting readers

  abbrev EachMember : List (Bytes × Reader) → Type 0
  EachMember [] = Unit {0}
  EachMember (entry ∷ members) = Fitting entry.1 × EachMember members

  abbrev IfItems : Option (List Reader) → Type 0
  IfItems None = Unit {0}
  IfItems (Some readers) = EachFitting readers

  abbrev IfMembers : Option (List (Bytes × Reader)) → Type 0
  IfMembers None = Unit {0}
  IfMembers (Some members) = EachMember members

  items_all : (readers : List Reader) (prefixes : List Prefix) (core : Core) (values : List Val) → EachFitting readers
      → all_of (map (λ (reads : Reader). reads prefixes core) readers) ≡ Some values
      → list_all (λ (fit : Fit). fit prefixes core) (map (fits scope) values) ≡ true
  items_all [] prefixes core values each h =
      subst (λ (vs : List Val). list_all (λ (fit : Fit). fit prefixes core) (map (fits scope) vs) ≡ true) (some_is h) refl
  items_all (reads ∷ readers) prefixes core values each h =
      let parts = split_all (reads prefixes core) (map (λ (r : Reader). r prefixes core) readers) values h in
      subst (λ (vs : List Val). list_all (λ (fit : Fit). fit prefixes core) (map (fits scope) vs) ≡ true) (sym parts.1.1.1.1)
      (both (fits scope parts.0 prefixes core) _ (each.0 prefixes core parts.0 parts.1.1.0) (items_all readers prefixes core parts.1.0 each.1 parts.1.1.1.0))

  abbrev fit_entry : Bytes × Val → Bytes × Fit
  fit_entry entry = (entry.0, fits scope entry.1)

  abbrev entry_read : List Prefix → Core → Bytes × Reader → Option (Bytes × Val)
  entry_read prefixes core part = option_map (λ value. (part.0, value)) (part.1 prefixes core)

  entries_all : (members : List (Bytes × Reader)) (prefixes : List Prefix) (core : Core) (entries : List (Bytes × Val)) → EachMember members
      → all_of (map (entry_read prefixes core) members) ≡ Some entries
      → (list_all (λ (entry : Bytes × Fit). entry.1 prefixes core) (map fit_entry entries) ≡ true)
      × (map (λ (entry : Bytes × Fit). entry.0) (map fit_entry entries) ≡ map (λ (part : Bytes × Reader). part.0) members)
  entries_all [] prefixes core entries each h =
      subst (λ (es : List (Bytes × Val)). (list_all (λ (entry : Bytes × Fit). entry.1 prefixes core) (map fit_entry es) ≡ true)
      × (map (λ (entry : Bytes × Fit). entry.0) (map fit_entry es) ≡ [])) (some_is h) (refl, refl)
  entries_all (part ∷ members) prefixes core entries each h =
      let parts = split_all (entry_read prefixes core part) (map (entry_read prefixes core) members) entries h in
      let first = mapped (λ (value : Val). (part.0, value)) (part.1 prefixes core) parts.0 parts.1.1.0 in
      let later = entries_all members prefixes core parts.1.0 each.1 parts.1.1.1.0 in
      let key : part.0 ≡ parts.0.0 = ap (λ (e : Bytes × Val). e.0) first.1.1 in
      let value : first.0 ≡ parts.0.1 = ap (λ (e : Bytes × Val). e.1) first.1.1 in
      let fit = subst (λ (v : Val). fits scope v prefixes core ≡ true) value (each.0 prefixes core first.0 first.1.0) in
      subst (λ (es : List (Bytes × Val)). (list_all (λ (entry : Bytes × Fit). entry.1 prefixes core) (map fit_entry es) ≡ true)
      × (map (λ (entry : Bytes × Fit). entry.0) (map fit_entry es) ≡ map (λ (m : Bytes × Reader). m.0) (part ∷ members))) (sym parts.1.1.1.1)
      (both (fits scope parts.0.1 prefixes core) _ fit later.0, λ i. sym key i ∷ later.1 i)

  found : (b : Bool) (part : Bytes × Reader) (members : List (Bytes × Reader)) (reads : Reader) (later : Option Reader) → Fitting part.1
      → cond b (Some part.1) later ≡ Some reads → (later ≡ Some reads → Fitting reads) → Fitting reads
  found true part members reads later fitting h rest = subst (λ (r : Reader). Fitting r) (some_is h) fitting
  found false part members reads later fitting h rest = rest h

  lookup_fits : (p : Bytes → Bool) (members : List (Bytes × Reader)) (reads : Reader) → EachMember members → lookup p members ≡ Some reads → Fitting reads
  lookup_fits p [] reads each h = absurd (cc)
  lookup_fits p (part ∷ members) reads each h = found (p part.0) part members reads (lookup p members) each.0 h (lookup_fits p members reads each.1)

  member_fits : (field : Field) (o : Option Reader) (v : Val) → ((reads : Reader) → o ≡ Some reads → Fitting reads) → member_by field o ≡ Some v
      → fits scope v field.of.prefixes field.of.core ≡ true
  member_fits field None v each h =
      let parts = cond_some (begins_with_maybe field.of.prefixes) (Some val.Nothing) v h in
      subst (λ (w : Val). fits scope w field.of.prefixes field.of.core ≡ true) (some_is parts.1) (nothing_fits field.of.prefixes field.of.core parts.0)
  member_fits field (Some reads) v each h = each reads refl field.of.prefixes field.of.core v h

  fields_all : (members : List (Bytes × Reader)) (fields : List Field) (values : List Val) → EachMember members
      → all_of (map (field_by members) fields) ≡ Some values → fields_fit fields (map (fits scope) values) ≡ true
  fields_all members [] values each h = subst (λ (vs : List Val). fields_fit [] (map (fits scope) vs) ≡ true) (some_is h) refl
  fields_all members (field ∷ fields) values each h =
      let parts = split_all (field_by members field) (map (field_by members) fields) values h in
      subst (λ (vs : List Val). fields_fit (field ∷ fields) (map (fits scope) vs) ≡ true) (sym parts.1.1.1.1)
      (both (fits scope parts.0 field.of.prefixes field.of.core) _
      (member_fits field (lookup (bytes_eq field.name) members) parts.0 (λ reads here. lookup_fits (bytes_eq field.name) members reads each here) parts.1.1.0)
      (fields_all members fields parts.1.0 each parts.1.1.1.0))

  whole_num : (o : Option Num) (z : ℤ) → option_and_then int_of o ≡ Some z → is_int z ≡ true
  whole_num None z h = absurd (cc)
  whole_num (Some (unsigned n)) z h = let parts = cond_some (is_int (pos n)) (Some (pos n)) z h in sym (ap is_int (some_is parts.1)) ∙ parts.0
  whole_num (Some (negative y)) z h = let parts = cond_some (is_int y) (Some y) z h in sym (ap is_int (some_is parts.1)) ∙ parts.0
  whole_num (Some (float x)) z h = absurd (cc)

  chained : {A B : Type 0} (f : A → Option B) (o : Option A) (b : B) → option_and_then f o ≡ Some b → (a : A) × ((o ≡ Some a) × (f a ≡ Some b))
  chained f None b h = absurd (cc)
  chained f (Some a) b h = (a, (refl, h))

  pick_within : (names : List Named) (word : Bytes) (place : ℕ) → position (λ named. bytes_eq named.name word) names ≡ Some place → nat_lt place (length names) ≡ true
  pick_within names word place h =
      let at = position_or_len (λ (named : Named). bytes_eq named.name word) names in
      let parts = cond_some (nat_lt at (length names)) (Some at) place h in
      ap (λ (n : ℕ). nat_lt n (length names)) (sym (some_is parts.1)) ∙ parts.0

  -- a value of a body
  body_all : (core : Core) (body : Body) (layer_in : Body-F Body Core Field TypeRef) (d : Data) (members : Option (List (Bytes × Reader))) (v : Val) → IfMembers members
      → body_of scope core ≡ Some body → out-Body body ≡ layer_in → body_by d members layer_in ≡ Some v → fits scope v [] core ≡ true
  body_all core body (Body-F.Struct fields ending) d members v each is out h =
      let parts = chained (λ (ms : List (Bytes × Reader)). option_map val.Struct (all_of (map (field_by ms) fields))) members v h in
      let values = mapped val.Struct (all_of (map (field_by parts.0) fields)) v parts.1.1 in
      let all = fields_all parts.0 fields values.0 (subst IfMembers parts.1.0 each) values.1.0 in
      subst (λ (w : Val). fits scope w [] core ≡ true) values.1.1
      (at_layer (val.Struct values.0) (Val-F.Struct values.0) [] core (outs-Struct values.0)
      (ap (λ (o : Option Body). body_fits o (map (fits scope) values.0)) is ∙ ap (λ (b : Body-F Body Core Field TypeRef). struct_fits b (map (fits scope) values.0)) out ∙ all))
  body_all core body (Body-F.Enum names ending) d members v each is out h =
      let parts = chained (λ (w : Bytes). option_map val.Pick (position (λ (named : Named). bytes_eq named.name w) names)) (as_str d) v h in
      let place = mapped val.Pick (position (λ (named : Named). bytes_eq named.name parts.0) names) v parts.1.1 in
      subst (λ (w : Val). fits scope w [] core ≡ true) place.1.1
      (at_layer (val.Pick place.0) (Val-F.Pick place.0) [] core (outs-Pick place.0)
      (ap (λ (o : Option Body). nat_lt place.0 (length (names_or_none o))) is ∙ ap (λ (b : Body-F Body Core Field TypeRef). nat_lt place.0 (length (names_in b))) out
      ∙ pick_within names parts.0 place.0 place.1.0))

  -- a value of a core
  core_all : (core : Core) (layer_in : Core-F Body Core Field TypeRef) (d : Data) (members : Option (List (Bytes × Reader))) (v : Val) → IfMembers members
      → out-Core core ≡ layer_in → core_by scope d members layer_in ≡ Some v → fits scope v [] core ≡ true
  core_all core Core-F.Bool d members v each out h =
      let parts = mapped val.Bool (as_bool d) v h in
      subst (λ (w : Val). fits scope w [] core ≡ true) parts.1.1 (at_layer (val.Bool parts.0) (Val-F.Bool parts.0) [] core (outs-Bool parts.0) (ap is_bool out))
  core_all core Core-F.Int d members v each out h =
      let parts = mapped val.Int (option_and_then int_of (as_number d)) v h in
      subst (λ (w : Val). fits scope w [] core ≡ true) parts.1.1 (at_layer (val.Int parts.0) (Val-F.Int parts.0) [] core (outs-Int parts.0)
      (both (is_whole (out-Core core)) (is_int parts.0) (ap is_whole out) (whole_num (as_number d) parts.0 parts.1.0)))
  core_all core Core-F.Float d members v each out h = absurd (cc)
  core_all core Core-F.Str d members v each out h =
      let parts = mapped val.Str (as_str d) v h in
      subst (λ (w : Val). fits scope w [] core ≡ true) parts.1.1 (at_layer (val.Str parts.0) (Val-F.Str parts.0) [] core (outs-Str parts.0) (ap is_text out))
  core_all core Core-F.Object d members v each out h =
      let parts = cond_some (is_some (as_object d) && is_whole_tree d) (Some (val.Foreign d)) v h in
      let o = first_true (is_some (as_object d)) (is_whole_tree d) parts.0 in
      let ints = second_true (is_some (as_object d)) (is_whole_tree d) parts.0 in
      subst (λ (w : Val). fits scope w [] core ≡ true) (some_is parts.1) (at_layer (val.Foreign d) (Val-F.Foreign d) [] core (outs-Foreign d)
      (both (is_foreign (out-Core core) && is_some (as_object d)) (is_whole_tree d) (both (is_foreign (out-Core core)) (is_some (as_object d)) (ap is_foreign out) o) ints))
  core_all core (Core-F.Name name) d members v each out h =
      let parts = chained (λ (body : Body). body_by d members (out-Body body)) (type_named name scope) v h in
      body_all core parts.0 (out-Body parts.0) d members v each (ap (body_in scope) out ∙ parts.1.0) refl parts.1.1
  core_all core (Core-F.Inline body) d members v each out h =
      body_all core body (out-Body body) d members v each (ap (body_in scope) out) refl h

  maybe_all : (b : Bool) (prefixes : List Prefix) (core : Core) (v : Val) (later : Option Val) → cond b (Some val.Nothing) later ≡ Some v
      → (later ≡ Some v → fits scope v prefixes core ≡ true) → fits scope v (Maybe ∷ prefixes) core ≡ true
  maybe_all true prefixes core v later h rest =
      subst (λ (w : Val). fits scope w (Maybe ∷ prefixes) core ≡ true) (some_is h) (nothing_fits (Maybe ∷ prefixes) core refl)
  maybe_all false prefixes core v later h rest = maybe_fits v prefixes core (rest h)

  value_all : (d : Data) (items : Option (List Reader)) (members : Option (List (Bytes × Reader))) → IfItems items → IfMembers members
      → Fitting (value_by scope d items members)
  value_all d items members each each_part [] core v h = core_all core (out-Core core) d members v each_part refl h
  value_all d items members each each_part (Maybe ∷ prefixes) core v h =
      maybe_all (is_some (as_null d)) prefixes core v (value_by scope d items members prefixes core) h (λ later. value_all d items members each each_part prefixes core v later)
  value_all d items members each each_part (Array ∷ prefixes) core v h =
      let parts = chained (λ (rs : List Reader). option_map val.Items (all_of (map (λ (reads : Reader). reads prefixes core) rs))) items v h in
      let values = mapped val.Items (all_of (map (λ (reads : Reader). reads prefixes core) parts.0)) v parts.1.1 in
      subst (λ (w : Val). fits scope w (Array ∷ prefixes) core ≡ true) values.1.1
      (at_layer (val.Items values.0) (Val-F.Items values.0) (Array ∷ prefixes) core (outs-Items values.0)
      (items_all parts.0 prefixes core values.0 (subst IfItems parts.1.0 each) values.1.0))
  value_all d items members each each_part (Map ∷ prefixes) core v h =
      let parts = chained (λ (ms : List (Bytes × Reader)). option_map val.Map (entries_by prefixes core ms)) members v h in
      let entries = mapped val.Map (entries_by prefixes core parts.0) v parts.1.1 in
      let read = cond_some (are_in_order (map (λ (part : Bytes × Reader). part.0) parts.0)) (all_of (map (entry_read prefixes core) parts.0)) entries.0 entries.1.0 in
      let all = entries_all parts.0 prefixes core entries.0 (subst IfMembers parts.1.0 each_part) read.1 in
      subst (λ (w : Val). fits scope w (Map ∷ prefixes) core ≡ true) entries.1.1
      (at_layer (val.Map entries.0) (Val-F.Map entries.0) (Map ∷ prefixes) core (outs-Map entries.0)
      (both (are_in_order (map (λ (entry : Bytes × Fit). entry.0) (map fit_entry entries.0))) _ (ap are_in_order all.1 ∙ read.0) all.0))

  mutual
    pub reads_fit : (d : Data) → Fitting (reader scope d)
    reads_fit null = value_all null None None tt tt
    reads_fit (boolean b) = value_all (boolean b) None None tt tt
    reads_fit (number n) = value_all (number n) None None tt tt
    reads_fit (string s) = value_all (string s) None None tt tt
    reads_fit (array ds) = value_all (array ds) (Some (item_readers scope ds)) None (items_fitting ds) tt
    reads_fit (object ms) = value_all (object ms) None (Some (member_readers scope ms)) tt (members_fitting ms)

    items_fitting : (ds : Items) → EachFitting (item_readers scope ds)
    items_fitting no_items = tt
    items_fitting (item d ds) = (reads_fit d, items_fitting ds)

    members_fitting : (ms : Members) → EachMember (member_readers scope ms)
    members_fitting no_members = tt
    members_fitting (member k d ms) = (reads_fit d, members_fitting ms)

  -- what reads by a body is of it in place
  pub body_reads_fit : (body : Body) (core : Core) (d : Data) (v : Val) → body_of scope core ≡ Some body
      → body_by d (option_map (member_readers scope) (as_object d)) (out-Body body) ≡ Some v → fits scope v [] core ≡ true
  body_reads_fit body core (object ms) v is h = body_all core body (out-Body body) (object ms) (Some (member_readers scope ms)) v (members_fitting ms) is refl h
  body_reads_fit body core null v is h = body_all core body (out-Body body) null None v tt is refl h
  body_reads_fit body core (boolean b) v is h = body_all core body (out-Body body) (boolean b) None v tt is refl h
  body_reads_fit body core (number n) v is h = body_all core body (out-Body body) (number n) None v tt is refl h
  body_reads_fit body core (string s) v is h = body_all core body (out-Body body) (string s) None v tt is refl h
  body_reads_fit body core (array ds) v is h = body_all core body (out-Body body) (array ds) None v tt is refl h

-- what a reader gives has what all that reads has
pub gives_fit : (r : Result Val ValueFault) (found : Option Val) (P : Val → Type 0) → ((v : Val) → found ≡ Some v → P v) → Gives r found → IfOk r P
gives_fit (Ok v) found P each gives = each v gives
gives_fit (Err Unfit) found P each gives = tt
gives_fit (Err Memory) found P each gives = tt
