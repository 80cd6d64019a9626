-- an expression that is formed by a type gives it
use Rattle.std.proofs.Common.{◌≡◌, ℕ, Bool, true, false, ◌&&◌, cond, List, [], ◌∷◌, Option, Some, None, option_map, option_and_then, slice_get, map, refl, sym, ap, ◌∙◌, subst}
use Rattle.std.specs.Map.{lookup}
use Rattle.std.specs.Str.{bytes_eq}
use Rattle.serde_json.specs.Data.{Data}
use Rattle.idl_tree.specs.Names.{Bytes}
use Rattle.idl_tree.specs.Form.{begins_with_maybe}
use Rattle.idl_tree.specs.declared.trees.Interface.{Interface}
use Rattle.idl_tree.specs.declared.trees.Prefix.{Prefix}
use Rattle.idl_tree.specs.declared.trees.Core.{Core}
use Rattle.idl_tree.specs.declared.trees.Field.{Field}
use Rattle.typed_value.specs.OfType.{Fit, fits, fit_step}
use Rattle.typed_value.specs.Reads.{reader, all_of}
use Rattle.typed_value.specs.declared.vals.Val.{Val}
use Rattle.typed_value.specs.declared.vals.Val.TheVariants as val
use Rattle.typed_value.proofs.ReadsFit.{reads_fit}
use Rattle.sheet_rules.specs.Types.{Typ, type_in, int_typ, string_typ, is_int_typ, without_maybe, array_part, map_part, passes, fits_typ, struct_fields, is_of_typ, if_plain}
use Rattle.sheet_rules.specs.Settings.{Setting, ref_typ}
use Rattle.sheet_rules.specs.Gives.{Giver, give_step, gives, each_given, all_given, refers, has_length, has_part}
use Rattle.sheet_rules.specs.declared.forms.Ref.{Ref}
use Rattle.sheet_rules.specs.declared.forms.Expr.{Expr}
use Rattle.sheet_rules.specs.declared.forms.Expr.TheVariants as expr
use Rattle.expression_draft.specs.declared.drafts.ExprDraft.{ExprDraft, roll-ExprDraft, map-ExprDraft}
use Rattle.expression_draft.specs.declared.drafts.ExprDraft.TheOpen.{ExprDraft-F}
use Rattle.expression_draft.specs.declared.drafts.ExprDraft.TheFolds.{ind-ExprDraft, fold-roll-ExprDraft}
use Rattle.expression_form.specs.References.{ref_formed}
use Rattle.expression_form.specs.Expressions as e
use Rattle.expression_form.specs.Expressions.{Maker, only_if, fitting, with_length, with_part, part_fits, constant, absent, member_made, field_made, are_fields, struct_made, items_made, both, sum_made, at_made, make_step, made}
use Rattle.expression_form.proofs.Opens.{from_opens, const_opens, struct_opens, items_opens, sum_opens, length_opens, at_opens, nothing_opens}
use Rattle.expression_form.proofs.Typed.{RefHas, ref_has}

-- ---- what each form of expression gives

module _ (s : Setting) where
  from_gives : (r : Ref) (t : Typ) → gives s (expr.From r) t ≡ refers s r t
  from_gives r t = ap (λ (g : Giver). g t) (from_opens Giver (give_step s) r)

  const_gives : (v : Val) (t : Typ) → gives s (expr.Const v) t ≡ is_of_typ s.interfaces t v
  const_gives v t = ap (λ (g : Giver). g t) (const_opens Giver (give_step s) v)

  struct_gives : (xs : List Expr) (t : Typ)
      → gives s (expr.Struct xs) t ≡ passes (λ fields. each_given t.scope fields (map (gives s) xs)) (struct_fields s.interfaces (without_maybe t))
  struct_gives xs t = ap (λ (g : Giver). g t) (struct_opens Giver (give_step s) xs)

  items_gives : (xs : List Expr) (t : Typ) → gives s (expr.Items xs) t ≡ passes (all_given (map (gives s) xs)) (array_part (without_maybe t))
  items_gives xs t = ap (λ (g : Giver). g t) (items_opens Giver (give_step s) xs)

  sum_gives : (x y : Expr) (t : Typ)
      → gives s (expr.Sum x y) t ≡ (is_int_typ (without_maybe t) && gives s x (int_typ s.scope) && gives s y (int_typ s.scope))
  sum_gives x y t = ap (λ (g : Giver). g t) (sum_opens Giver (give_step s) x y)

  length_gives : (r : Ref) (t : Typ) → gives s (expr.Length r) t ≡ (is_int_typ (without_maybe t) && has_length s r)
  length_gives r t = ap (λ (g : Giver). g t) (length_opens Giver (give_step s) r)

  at_gives : (r : Ref) (x y : Expr) (t : Typ)
      → gives s (expr.At r x y) t ≡ (has_part s r t && gives s x (string_typ s.scope) && gives s y t)
  at_gives r x y t = ap (λ (g : Giver). g t) (at_opens Giver (give_step s) r x y)

  -- ---- what is formed

  abbrev GivesIf : Typ → Option Expr → Type 0
  GivesIf t None = Unit {0}
  GivesIf t (Some x) = gives s x t ≡ true

  abbrev RefIf : (Ref → Bool) → Option Ref → Type 0
  RefIf test None = Unit {0}
  RefIf test (Some r) = test r ≡ true

  -- a reference that passes a test of its type
  ref_tested : (test : Typ → Bool) (holds : Ref → Bool) → ((r : Ref) (u : Typ) → ref_typ s r ≡ Some u → test u ≡ true → holds r ≡ true)
      → (found : Ref × Typ) → ref_typ s found.0 ≡ Some found.1 → (b : Bool) → test found.1 ≡ b → RefIf holds (only_if b (Some found.0))
  ref_tested test holds so found has true is = so found.0 found.1 has is
  ref_tested test holds so found has false is = tt

  ref_if : (test : Typ → Bool) (holds : Ref → Bool) → ((r : Ref) (u : Typ) → ref_typ s r ≡ Some u → test u ≡ true → holds r ≡ true)
      → (found : Option (Ref × Typ)) → RefHas s found
      → RefIf holds (option_and_then (λ (formed : Ref × Typ). only_if (test formed.1) (Some formed.0)) found)
  ref_if test holds so None has = tt
  ref_if test holds so (Some found) has = ref_tested test holds so found has (test found.1) refl

  from_if : (t : Typ) (found : Option Ref) → RefIf (λ r. refers s r t) found → GivesIf t (option_map expr.From found)
  from_if t None h = tt
  from_if t (Some r) h = from_gives r t ∙ h

  length_if : (t : Typ) (found : Option Ref) → RefIf (has_length s) found → (b : Bool) → is_int_typ (without_maybe t) ≡ b
      → GivesIf t (only_if b (option_map expr.Length found))
  length_if t found h false is = tt
  length_if t None h true is = tt
  length_if t (Some r) h true is = length_gives r t ∙ rw (is, h) refl

  -- a constant
  const_at : (t : Typ) (d : Data) (scope : Interface) → slice_get s.interfaces t.scope ≡ Some scope
      → (found : Option Val) → reader scope d t.prefixes t.core ≡ found → GivesIf t (option_map expr.Const found)
  const_at t d scope there None is = tt
  const_at t d scope there (Some v) is = const_gives v t ∙ rw (there, reads_fit scope d t.prefixes t.core v is) refl

  const_in : (t : Typ) (d : Data) (found : Option Interface) → slice_get s.interfaces t.scope ≡ found
      → GivesIf t (option_map expr.Const (option_and_then (λ scope. reader scope d t.prefixes t.core) found))
  const_in t d None there = tt
  const_in t d (Some scope) there = const_at t d scope there (reader scope d t.prefixes t.core) refl

  -- two expressions
  sum_if : (t : Typ) (one other : Option Expr) → GivesIf (int_typ s.scope) one → GivesIf (int_typ s.scope) other
      → (b : Bool) → is_int_typ (without_maybe t) ≡ b → GivesIf t (only_if b (sum_made one other))
  sum_if t one other h k false is = tt
  sum_if t None other h k true is = tt
  sum_if t (Some x) None h k true is = tt
  sum_if t (Some x) (Some y) h k true is = sum_gives x y t ∙ rw (is, h, k) refl

  at_if : (t : Typ) (over : Option Ref) (key other : Option Expr) → RefIf (λ r. has_part s r t) over
      → GivesIf (string_typ s.scope) key → GivesIf t other → GivesIf t (at_made over key other)
  at_if t None key other h k l = tt
  at_if t (Some r) None other h k l = tt
  at_if t (Some r) (Some x) None h k l = tt
  at_if t (Some r) (Some x) (Some y) h k l = at_gives r x y t ∙ rw (h, k, l) refl

  -- ---- lists

  abbrev Proved : Type 0
  Proved = (d : ExprDraft) × ((t : Typ) → GivesIf t (made s d t))

  abbrev drafts : List Proved → List ExprDraft
  drafts items = map (λ (item : Proved). item.0) items

  abbrev AllIf : Typ → Option (List Expr) → Type 0
  AllIf t None = Unit {0}
  AllIf t (Some xs) = all_given (map (gives s) xs) t ≡ true

  all_behind : (t : Typ) (x : Expr) → gives s x t ≡ true → (left : Option (List Expr)) → AllIf t left
      → AllIf t (option_map (λ later. x ∷ later) left)
  all_behind t x h None k = tt
  all_behind t x h (Some xs) k = rw (h, k) refl

  all_more : (t : Typ) (found : Option Expr) (left : List (Option Expr)) → GivesIf t found → AllIf t (all_of left) → AllIf t (all_of (found ∷ left))
  all_more t None left h k = tt
  all_more t (Some x) left h k = all_behind t x h (all_of left) k

  all_if : (t : Typ) (items : List Proved) → AllIf t (all_of (map (λ (maker : Maker). maker t) (map (made s) (drafts items))))
  all_if t [] = refl
  all_if t (item ∷ items) =
      all_more t (made s item.0 t) (map (λ (maker : Maker). maker t) (map (made s) (drafts items))) (item.1 t) (all_if t items)

  items_if : (t : Typ) (items : List Proved) (part : Typ) → array_part (without_maybe t) ≡ Some part
      → (found : Option (List Expr)) → AllIf part found → GivesIf t (option_map expr.Items found)
  items_if t items part is None h = tt
  items_if t items part is (Some xs) h = items_gives xs t ∙ rw (is, h) refl

  array_if : (t : Typ) (items : List Proved) (found : Option Typ) → array_part (without_maybe t) ≡ found
      → GivesIf t (option_and_then (items_made (map (made s) (drafts items))) found)
  array_if t items None is = tt
  array_if t items (Some part) is =
      items_if t items part is (all_of (map (λ (maker : Maker). maker part) (map (made s) (drafts items)))) (all_if part items)

  -- ---- structs

  abbrev Members : Type 0
  Members = List (Bytes × Proved)

  abbrev makers : Members → List (Bytes × Maker)
  makers members = map (λ (member : Bytes × ExprDraft). (member.0, made s member.1)) (map (λ (member : Bytes × Proved). (member.0, member.1.0)) members)

  nothing_fits : (scope : Interface) (prefixes : List Prefix) (core : Core) → fits scope val.Nothing prefixes core ≡ begins_with_maybe prefixes
  nothing_fits scope prefixes core = ap (λ (fit : Fit). fit prefixes core) (nothing_opens Fit (fit_step scope))

  absent_if : (place : ℕ) (scope : Interface) → slice_get s.interfaces place ≡ Some scope → (field : Field)
      → (b : Bool) → begins_with_maybe field.of.prefixes ≡ b → GivesIf (type_in place field.of) (only_if b (Some (expr.Const val.Nothing)))
  absent_if place scope there field false is = tt
  absent_if place scope there field true is =
      const_gives val.Nothing (type_in place field.of) ∙ rw (there, nothing_fits scope field.of.prefixes field.of.core, is) refl

  chosen_if : (place : ℕ) (field : Field) (member : Bytes × Proved) (b : Bool) (left : Option Maker)
      → GivesIf (type_in place field.of) (member_made place field left)
      → GivesIf (type_in place field.of) (member_made place field (cond b (Some (made s member.1.0)) left))
  chosen_if place field member true left h = member.1.1 (type_in place field.of)
  chosen_if place field member false left h = h

  found_if : (place : ℕ) (scope : Interface) → slice_get s.interfaces place ≡ Some scope → (field : Field) (members : Members)
      → GivesIf (type_in place field.of) (field_made place (makers members) field)
  found_if place scope there field [] = absent_if place scope there field (begins_with_maybe field.of.prefixes) refl
  found_if place scope there field (member ∷ members) =
      chosen_if place field member (bytes_eq field.name member.0) (lookup (bytes_eq field.name) (makers members)) (found_if place scope there field members)

  abbrev EachIf : ℕ → List Field → Option (List Expr) → Type 0
  EachIf place fields None = Unit {0}
  EachIf place fields (Some xs) = each_given place fields (map (gives s) xs) ≡ true

  each_more : (place : ℕ) (field : Field) (fields : List Field) (found : Option Expr) (left : Option (List Expr))
      → GivesIf (type_in place field.of) found → EachIf place fields left
      → EachIf place (field ∷ fields) (option_and_then (λ (x : Expr). option_map (λ later. x ∷ later) left) found)
  each_more place field fields None left h k = tt
  each_more place field fields (Some x) None h k = tt
  each_more place field fields (Some x) (Some xs) h k = rw (h, k) refl

  all_of_more : (found : Option Expr) (left : List (Option Expr))
      → all_of (found ∷ left) ≡ option_and_then (λ (x : Expr). option_map (λ later. x ∷ later) (all_of left)) found
  all_of_more None left = refl
  all_of_more (Some x) left = refl

  each_if : (place : ℕ) (scope : Interface) → slice_get s.interfaces place ≡ Some scope → (members : Members) (fields : List Field)
      → EachIf place fields (all_of (map (field_made place (makers members)) fields))
  each_if place scope there members [] = refl
  each_if place scope there members (field ∷ fields) =
      subst (EachIf place (field ∷ fields)) (sym (all_of_more (field_made place (makers members) field) (map (field_made place (makers members)) fields)))
      (each_more place field fields (field_made place (makers members) field) (all_of (map (field_made place (makers members)) fields))
      (found_if place scope there field members) (each_if place scope there members fields))

  struct_if : (t : Typ) (fields : List Field) → struct_fields s.interfaces (without_maybe t) ≡ Some fields
      → (found : Option (List Expr)) → EachIf t.scope fields found → (b : Bool) → GivesIf t (only_if b (option_map expr.Struct found))
  struct_if t fields is found h false = tt
  struct_if t fields is None h true = tt
  struct_if t fields is (Some xs) h true = struct_gives xs t ∙ rw (is, h) refl

  none_plain : {A : Type 0} (prefixes : List Prefix) → ◌≡◌ {A = Option A} (if_plain prefixes None) None
  none_plain [] = refl
  none_plain (prefix ∷ prefixes) = refl

  no_fields : (t : Typ) → slice_get s.interfaces t.scope ≡ None → struct_fields s.interfaces (without_maybe t) ≡ None
  no_fields t is = rw (is, none_plain (without_maybe t).prefixes) refl

  with_fields : (t : Typ) (members : Members) (scope : Interface) → slice_get s.interfaces t.scope ≡ Some scope
      → (fields : Option (List Field)) → struct_fields s.interfaces (without_maybe t) ≡ fields
      → GivesIf t (option_and_then (struct_made t.scope (makers members)) fields)
  with_fields t members scope there None is = tt
  with_fields t members scope there (Some fields) is =
      struct_if t fields is (all_of (map (field_made t.scope (makers members)) fields)) (each_if t.scope scope there members fields)
      (are_fields fields (map (λ (member : Bytes × Maker). member.0) (makers members)))

  body_if : (t : Typ) (members : Members) (found : Option Interface) → slice_get s.interfaces t.scope ≡ found
      → GivesIf t (option_and_then (struct_made t.scope (makers members)) (struct_fields s.interfaces (without_maybe t)))
  body_if t members None is =
      subst (λ (fields : Option (List Field)). GivesIf t (option_and_then (struct_made t.scope (makers members)) fields)) (sym (no_fields t is)) tt
  body_if t members (Some scope) is = with_fields t members scope is (struct_fields s.interfaces (without_maybe t)) refl

  -- ---- one level of an expression

  fits_refers : (t : Typ) (r : Ref) (u : Typ) → ref_typ s r ≡ Some u → fits_typ u t ≡ true → refers s r t ≡ true
  fits_refers t r u is h = rw is h

  counts : (r : Ref) (u : Typ) → ref_typ s r ≡ Some u → e.has_length u ≡ true → has_length s r ≡ true
  counts r u is h = rw is h

  part_of : (t : Typ) (part : Option Typ) → part_fits t part ≡ true → passes (λ p. fits_typ p t) part ≡ true
  part_of t None h = h
  part_of t (Some part) h = h

  parted : (t : Typ) (r : Ref) (u : Typ) → ref_typ s r ≡ Some u → part_fits t (map_part u) ≡ true → has_part s r t ≡ true
  parted t r u is h = rw is (part_of t (map_part u) h)

  layer_gives : (y : ExprDraft-F Proved) (t : Typ)
      → GivesIf t (make_step s (map-ExprDraft ExprDraft Maker (made s) (map-ExprDraft Proved ExprDraft (λ item. item.0) y)) t)
  layer_gives (ExprDraft-F.From d) t =
      from_if t (fitting s d t) (ref_if (λ u. fits_typ u t) (λ r. refers s r t) (fits_refers t) (ref_formed s d) (ref_has s d))
  layer_gives (ExprDraft-F.Const d) t = const_in t d (slice_get s.interfaces t.scope) refl
  layer_gives (ExprDraft-F.Struct members) t = body_if t members (slice_get s.interfaces t.scope) refl
  layer_gives (ExprDraft-F.Items items) t = array_if t items (array_part (without_maybe t)) refl
  layer_gives (ExprDraft-F.Sum one other) t =
      sum_if t (made s one.0 (int_typ s.scope)) (made s other.0 (int_typ s.scope)) (one.1 (int_typ s.scope)) (other.1 (int_typ s.scope))
      (is_int_typ (without_maybe t)) refl
  layer_gives (ExprDraft-F.Length d) t =
      length_if t (with_length s d) (ref_if e.has_length (has_length s) counts (ref_formed s d) (ref_has s d)) (is_int_typ (without_maybe t)) refl
  layer_gives (ExprDraft-F.At d key other) t =
      at_if t (with_part s d t) (made s key.0 (string_typ s.scope)) (made s other.0 t)
      (ref_if (λ u. part_fits t (map_part u)) (λ r. has_part s r t) (parted t) (ref_formed s d) (ref_has s d))
      (key.1 (string_typ s.scope)) (other.1 t)

  made_gives_if : (d : ExprDraft) → (t : Typ) → GivesIf t (made s d t)
  made_gives_if = ind-ExprDraft (λ d. (t : Typ) → GivesIf t (made s d t))
      (λ x y is. subst (λ (z : ExprDraft-F ExprDraft). (t : Typ) → GivesIf t (made s (roll-ExprDraft z) t)) is
      (λ t. subst (λ (maker : Maker). GivesIf t (maker t)) (sym (fold-roll-ExprDraft Maker (make_step s) (map-ExprDraft Proved ExprDraft (λ item. item.0) y)))
      (layer_gives y t)))

  gives_of : (t : Typ) (found : Option Expr) → GivesIf t found → (x : Expr) → found ≡ Some x → gives s x t ≡ true
  gives_of t None h x never = absurd (cc)
  gives_of t (Some y) h x same = let one : y ≡ x = cc in ap (λ (z : Expr). gives s z t) (sym one) ∙ h

  pub made_gives : (d : ExprDraft) (t : Typ) (x : Expr) → made s d t ≡ Some x → gives s x t ≡ true
  made_gives d t x is = gives_of t (made s d t) (made_gives_if d t) x is
