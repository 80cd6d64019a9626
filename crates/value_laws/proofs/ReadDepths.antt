-- A value is no deeper than the tree from which it reads.
use Rattle.std.proofs.Common.{◌≡◌, ℕ, suc, ◌≤◌, Bool, true, false, ◌&&◌, cond, List, [], ◌∷◌, map, Option, Some, None, is_some, option_map, option_and_then, refl, sym, ap, ◌∙◌, subst, arith, bytes_eq}
use Rattle.std.specs.List.{position}
use Rattle.std.specs.Map.{lookup}
use Rattle.serde_json.specs.Data.{Data, null, boolean, number, string, array, object, Items, no_items, item, Members, no_members, member, depth, items_depth, members_depth}
use Rattle.serde_json.specs.Find.{as_null, as_bool, as_number, as_str, as_object}
use Rattle.idl_tree.specs.Form.{begins_with_maybe, greatest}
use Rattle.idl_tree.specs.Faults.{type_named}
use Rattle.idl_tree.specs.Names.{Bytes}
use Rattle.idl_tree.specs.declared.trees.Interface.{Interface}
use Rattle.idl_tree.specs.declared.trees.Prefix.{Prefix}
use Rattle.idl_tree.specs.declared.trees.Prefix.TheVariants.{Array, Map, Maybe}
use Rattle.idl_tree.specs.declared.trees.Named.{Named}
use Rattle.idl_tree.specs.declared.trees.Field.{Field}
use Rattle.idl_tree.specs.declared.trees.TypeRef.{TypeRef}
use Rattle.idl_tree.specs.declared.trees.Body.{Body, out-Body}
use Rattle.idl_tree.specs.declared.trees.Core.{Core, out-Core}
use Rattle.idl_tree.specs.declared.trees.Body.TheOpen.{Body-F, Core-F}
use Rattle.typed_value.specs.Ints.{int_of}
use Rattle.typed_value.specs.KeyOrder.{are_in_order, is_whole_tree}
use Rattle.typed_value.specs.Reads.{Reader, reader, item_readers, member_readers, value_by, core_by, body_by, all_of, entries_by, field_by, member_by}
use Rattle.typed_value.specs.Sizes.{level_step, levels_of}
use Rattle.typed_value.specs.declared.vals.Val.{Val, out-Val, map-Val}
use Rattle.typed_value.specs.declared.vals.Val.TheVariants as val
use Rattle.typed_value.specs.declared.vals.Val.TheVariants.{outs-Bool, outs-Int, outs-Str, outs-Pick, outs-Nothing, outs-Foreign}
use Rattle.typed_value.specs.declared.vals.Val.TheOpen.{Val-F}
use Rattle.typed_value.specs.declared.vals.Val.TheFolds.{fold_out-Val}
use Rattle.typed_value.proofs.Opened.{levels_at_items, levels_at_map, levels_at_struct}
use Rattle.typed_value.proofs.ReadsFit.{some_is, cond_some, split_all, mapped}

chained : {A B : Type 0} (f : A → Option B) (o : Option A) (b : B) → option_and_then f o ≡ Some b → (a : A) × ((o ≡ Some a) × (f a ≡ Some b))
chained f None b h = absurd (cc)
chained f (Some a) b h = (a, (refl, h))

-- the levels of a value by its one layer
at_layer : (v : Val) (x : Val-F Val) → out-Val v ≡ x → levels_of v ≡ level_step (map-Val Val ℕ levels_of x)
at_layer v x is = fold_out-Val ℕ level_step v ∙ ap (λ (y : Val-F Val). level_step (map-Val Val ℕ levels_of y)) is

flat : (v : Val) (n : ℕ) → levels_of v ≡ 0 → levels_of v ≤ n
flat v n none = omega arith

abbrev Within : Reader → ℕ → Type 0
Within reads n = (prefixes : List Prefix) (core : Core) (v : Val) → reads prefixes core ≡ Some v → levels_of v ≤ n

abbrev EachWithin : List Reader → ℕ → Type 0
EachWithin [] n = Unit {0}
EachWithin (reads ∷ readers) n = Within reads n × EachWithin readers n

abbrev EachMember : List (Bytes × Reader) → ℕ → Type 0
EachMember [] n = Unit {0}
EachMember (entry ∷ members) n = Within entry.1 n × EachMember members n

-- the parts are within a number below the bound
abbrev IfItems : Option (List Reader) → ℕ → Type 0
IfItems None bound = Unit {0}
IfItems (Some readers) bound = (n : ℕ) × ((suc n ≤ bound) × EachWithin readers n)

abbrev IfMembers : Option (List (Bytes × Reader)) → ℕ → Type 0
IfMembers None bound = Unit {0}
IfMembers (Some members) bound = (n : ℕ) × ((suc n ≤ bound) × EachMember members n)

within_more : (reads : Reader) (m n : ℕ) → m ≤ n → Within reads m → Within reads n
within_more reads m n le within prefixes core v h = omega (arith, within prefixes core v h)

items_all : (readers : List Reader) (prefixes : List Prefix) (core : Core) (values : List Val) (n : ℕ) → EachWithin readers n
    → all_of (map (λ (reads : Reader). reads prefixes core) readers) ≡ Some values → greatest (map levels_of values) ≤ n
items_all [] prefixes core values n each h = subst (λ (vs : List Val). greatest (map levels_of vs) ≤ n) (some_is h) (omega arith)
items_all (reads ∷ readers) prefixes core values n each h =
    let parts = split_all (reads prefixes core) (map (λ (r : Reader). r prefixes core) readers) values h in
    subst (λ (vs : List Val). greatest (map levels_of vs) ≤ n) (sym parts.1.1.1.1)
    (omega (arith, each.0 prefixes core parts.0 parts.1.1.0, items_all readers prefixes core parts.1.0 n each.1 parts.1.1.1.0))

abbrev entry_read : List Prefix → Core → Bytes × Reader → Option (Bytes × Val)
entry_read prefixes core part = option_map (λ value. (part.0, value)) (part.1 prefixes core)

entries_all : (members : List (Bytes × Reader)) (prefixes : List Prefix) (core : Core) (entries : List (Bytes × Val)) (n : ℕ) → EachMember members n
    → all_of (map (entry_read prefixes core) members) ≡ Some entries → greatest (map (λ (entry : Bytes × Val). levels_of entry.1) entries) ≤ n
entries_all [] prefixes core entries n each h =
    subst (λ (es : List (Bytes × Val)). greatest (map (λ (entry : Bytes × Val). levels_of entry.1) es) ≤ n) (some_is h) (omega arith)
entries_all (part ∷ members) prefixes core entries n each h =
    let parts = split_all (entry_read prefixes core part) (map (entry_read prefixes core) members) entries h in
    let first = mapped (λ (value : Val). (part.0, value)) (part.1 prefixes core) parts.0 parts.1.1.0 in
    let value : first.0 ≡ parts.0.1 = ap (λ (e : Bytes × Val). e.1) first.1.1 in
    let here : levels_of parts.0.1 ≤ n = subst (λ (v : Val). levels_of v ≤ n) value (each.0 prefixes core first.0 first.1.0) in
    subst (λ (es : List (Bytes × Val)). greatest (map (λ (entry : Bytes × Val). levels_of entry.1) es) ≤ n) (sym parts.1.1.1.1)
    (omega (arith, here, entries_all members prefixes core parts.1.0 n each.1 parts.1.1.1.0))

found : (b : Bool) (part : Bytes × Reader) (reads : Reader) (later : Option Reader) (n : ℕ) → Within part.1 n
    → cond b (Some part.1) later ≡ Some reads → (later ≡ Some reads → Within reads n) → Within reads n
found true part reads later n within h rest = subst (λ (r : Reader). Within r n) (some_is h) within
found false part reads later n within h rest = rest h

lookup_within : (p : Bytes → Bool) (members : List (Bytes × Reader)) (reads : Reader) (n : ℕ) → EachMember members n → lookup p members ≡ Some reads → Within reads n
lookup_within p [] reads n each h = absurd (cc)
lookup_within p (part ∷ members) reads n each h = found (p part.0) part reads (lookup p members) n each.0 h (lookup_within p members reads n each.1)

member_within : (field : Field) (o : Option Reader) (v : Val) (n : ℕ) → ((reads : Reader) → o ≡ Some reads → Within reads n) → member_by field o ≡ Some v
    → levels_of v ≤ n
member_within field None v n each h =
    let parts = cond_some (begins_with_maybe field.of.prefixes) (Some val.Nothing) v h in
    subst (λ (w : Val). levels_of w ≤ n) (some_is parts.1) (flat val.Nothing n (at_layer val.Nothing Val-F.Nothing outs-Nothing))
member_within field (Some reads) v n each h = each reads refl field.of.prefixes field.of.core v h

fields_all : (members : List (Bytes × Reader)) (fields : List Field) (values : List Val) (n : ℕ) → EachMember members n
    → all_of (map (field_by members) fields) ≡ Some values → greatest (map levels_of values) ≤ n
fields_all members [] values n each h = subst (λ (vs : List Val). greatest (map levels_of vs) ≤ n) (some_is h) (omega arith)
fields_all members (field ∷ fields) values n each h =
    let parts = split_all (field_by members field) (map (field_by members) fields) values h in
    let here = member_within field (lookup (bytes_eq field.name) members) parts.0 n
    (λ reads there. lookup_within (bytes_eq field.name) members reads n each there) parts.1.1.0 in
    subst (λ (vs : List Val). greatest (map levels_of vs) ≤ n) (sym parts.1.1.1.1)
    (omega (arith, here, fields_all members fields parts.1.0 n each parts.1.1.1.0))

body_all : (layer_in : Body-F Body Core Field TypeRef) (d : Data) (members : Option (List (Bytes × Reader))) (v : Val) (bound : ℕ) → IfMembers members bound
    → body_by d members layer_in ≡ Some v → levels_of v ≤ bound
body_all (Body-F.Struct fields ending) d members v bound each h =
    let parts = chained (λ (ms : List (Bytes × Reader)). option_map val.Struct (all_of (map (field_by ms) fields))) members v h in
    let values = mapped val.Struct (all_of (map (field_by parts.0) fields)) v parts.1.1 in
    let bounds = subst (λ (ms : Option (List (Bytes × Reader))). IfMembers ms bound) parts.1.0 each in
    let all = fields_all parts.0 fields values.0 bounds.0 bounds.1.1 values.1.0 in
    subst (λ (w : Val). levels_of w ≤ bound) values.1.1 (omega (arith, levels_at_struct values.0, all, bounds.1.0))
body_all (Body-F.Enum names ending) d members v bound each h =
    let parts = chained (λ (w : Bytes). option_map val.Pick (position (λ (named : Named). bytes_eq named.name w) names)) (as_str d) v h in
    let place = mapped val.Pick (position (λ (named : Named). bytes_eq named.name parts.0) names) v parts.1.1 in
    subst (λ (w : Val). levels_of w ≤ bound) place.1.1 (flat (val.Pick place.0) bound (at_layer (val.Pick place.0) (Val-F.Pick place.0) (outs-Pick place.0)))

module _ (scope : Interface) where
  core_all : (layer_in : Core-F Body Core Field TypeRef) (d : Data) (members : Option (List (Bytes × Reader))) (v : Val) (bound : ℕ) → IfMembers members bound
      → depth d ≤ bound → core_by scope d members layer_in ≡ Some v → levels_of v ≤ bound
  core_all Core-F.Bool d members v bound each deep h =
      let parts = mapped val.Bool (as_bool d) v h in
      subst (λ (w : Val). levels_of w ≤ bound) parts.1.1 (flat (val.Bool parts.0) bound (at_layer (val.Bool parts.0) (Val-F.Bool parts.0) (outs-Bool parts.0)))
  core_all Core-F.Int d members v bound each deep h =
      let parts = mapped val.Int (option_and_then int_of (as_number d)) v h in
      subst (λ (w : Val). levels_of w ≤ bound) parts.1.1 (flat (val.Int parts.0) bound (at_layer (val.Int parts.0) (Val-F.Int parts.0) (outs-Int parts.0)))
  core_all Core-F.Float d members v bound each deep h = absurd (cc)
  core_all Core-F.Str d members v bound each deep h =
      let parts = mapped val.Str (as_str d) v h in
      subst (λ (w : Val). levels_of w ≤ bound) parts.1.1 (flat (val.Str parts.0) bound (at_layer (val.Str parts.0) (Val-F.Str parts.0) (outs-Str parts.0)))
  core_all Core-F.Object d members v bound each deep h =
      let parts = cond_some (is_some (as_object d) && is_whole_tree d) (Some (val.Foreign d)) v h in
      let same : levels_of (val.Foreign d) ≡ depth d = at_layer (val.Foreign d) (Val-F.Foreign d) (outs-Foreign d) in
      subst (λ (w : Val). levels_of w ≤ bound) (some_is parts.1) (omega (arith, same, deep))
  core_all (Core-F.Name name) d members v bound each deep h =
      let parts = chained (λ (body : Body). body_by d members (out-Body body)) (type_named name scope) v h in
      body_all (out-Body parts.0) d members v bound each parts.1.1
  core_all (Core-F.Inline body) d members v bound each deep h = body_all (out-Body body) d members v bound each h

  maybe_all : (b : Bool) (v : Val) (later : Option Val) (bound : ℕ) → cond b (Some val.Nothing) later ≡ Some v
      → (later ≡ Some v → levels_of v ≤ bound) → levels_of v ≤ bound
  maybe_all true v later bound h rest =
      subst (λ (w : Val). levels_of w ≤ bound) (some_is h) (flat val.Nothing bound (at_layer val.Nothing Val-F.Nothing outs-Nothing))
  maybe_all false v later bound h rest = rest h

  value_all : (d : Data) (items : Option (List Reader)) (members : Option (List (Bytes × Reader))) (bound : ℕ) → IfItems items bound → IfMembers members bound
      → depth d ≤ bound → Within (value_by scope d items members) bound
  value_all d items members bound each each_part deep [] core v h = core_all (out-Core core) d members v bound each_part deep h
  value_all d items members bound each each_part deep (Maybe ∷ prefixes) core v h =
      maybe_all (is_some (as_null d)) v (value_by scope d items members prefixes core) bound h
      (λ later. value_all d items members bound each each_part deep prefixes core v later)
  value_all d items members bound each each_part deep (Array ∷ prefixes) core v h =
      let parts = chained (λ (rs : List Reader). option_map val.Items (all_of (map (λ (reads : Reader). reads prefixes core) rs))) items v h in
      let values = mapped val.Items (all_of (map (λ (reads : Reader). reads prefixes core) parts.0)) v parts.1.1 in
      let bounds = subst (λ (rs : Option (List Reader)). IfItems rs bound) parts.1.0 each in
      let all = items_all parts.0 prefixes core values.0 bounds.0 bounds.1.1 values.1.0 in
      subst (λ (w : Val). levels_of w ≤ bound) values.1.1 (omega (arith, levels_at_items values.0, all, bounds.1.0))
  value_all d items members bound each each_part deep (Map ∷ prefixes) core v h =
      let parts = chained (λ (ms : List (Bytes × Reader)). option_map val.Map (entries_by prefixes core ms)) members v h in
      let entries = mapped val.Map (entries_by prefixes core parts.0) v parts.1.1 in
      let read = cond_some (are_in_order (map (λ (part : Bytes × Reader). part.0) parts.0)) (all_of (map (entry_read prefixes core) parts.0)) entries.0 entries.1.0 in
      let bounds = subst (λ (ms : Option (List (Bytes × Reader))). IfMembers ms bound) parts.1.0 each_part in
      let all = entries_all parts.0 prefixes core entries.0 bounds.0 bounds.1.1 read.1 in
      subst (λ (w : Val). levels_of w ≤ bound) entries.1.1 (omega (arith, levels_at_map entries.0, all, bounds.1.0))

  items_more : (readers : List Reader) (m n : ℕ) → m ≤ n → EachWithin readers m → EachWithin readers n
  items_more [] m n le each = tt
  items_more (reads ∷ readers) m n le each = (within_more reads m n le each.0, items_more readers m n le each.1)

  members_more : (members : List (Bytes × Reader)) (m n : ℕ) → m ≤ n → EachMember members m → EachMember members n
  members_more [] m n le each = tt
  members_more (part ∷ members) m n le each = (within_more part.1 m n le each.0, members_more members m n le each.1)

  mutual
    pub reads_no_deeper : (d : Data) → Within (reader scope d) (depth d)
    reads_no_deeper null = value_all null None None 0 tt tt (omega arith)
    reads_no_deeper (boolean b) = value_all (boolean b) None None 0 tt tt (omega arith)
    reads_no_deeper (number n) = value_all (number n) None None 0 tt tt (omega arith)
    reads_no_deeper (string s) = value_all (string s) None None 0 tt tt (omega arith)
    reads_no_deeper (array ds) =
        value_all (array ds) (Some (item_readers scope ds)) None (suc (items_depth ds)) (items_depth ds, (omega arith, items_within ds)) tt (omega arith)
    reads_no_deeper (object ms) =
        value_all (object ms) None (Some (member_readers scope ms)) (suc (members_depth ms)) tt (members_depth ms, (omega arith, members_within ms)) (omega arith)

    items_within : (ds : Items) → EachWithin (item_readers scope ds) (items_depth ds)
    items_within no_items = tt
    items_within (item d ds) = (
      within_more (reader scope d) (depth d) _ (omega arith) (reads_no_deeper d),
      items_more (item_readers scope ds) (items_depth ds) _ (omega arith) (items_within ds),
    )

    members_within : (ms : Members) → EachMember (member_readers scope ms) (members_depth ms)
    members_within no_members = tt
    members_within (member k d ms) = (
      within_more (reader scope d) (depth d) _ (omega arith) (reads_no_deeper d),
      members_more (member_readers scope ms) (members_depth ms) _ (omega arith) (members_within ms),
    )
