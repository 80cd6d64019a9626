-- each value of a struct reads back from the object that shows it
use Rattle.std.proofs.Common.{◌≡◌, ℕ, Bool, true, false, ◌&&◌, [], map, Option, Some, None, is_some, option_map, nat_lt, length, refl, sym, ap, ◌∙◌, arith}
use borrow.Author.Tests.{ltb-true}
use Rattle.serde_json.specs.Data.{Data, object, no_members}
use Rattle.serde_json.specs.Find.{as_object}
use Rattle.idl_tree.specs.Form.{is_struct_layer}
use Rattle.idl_tree.specs.Names.{Bytes}
use Rattle.idl_tree.specs.Faults.{body_fault, members_fault}
use Rattle.idl_tree.specs.declared.trees.Interface.{Interface}
use Rattle.idl_tree.specs.declared.trees.Field.{Field}
use Rattle.idl_tree.specs.declared.trees.TypeRef.{TypeRef}
use Rattle.idl_tree.specs.declared.trees.Body.{Body, out-Body}
use Rattle.idl_tree.specs.declared.trees.Core.{Core, out-Core}
use Rattle.idl_tree.specs.declared.trees.Core.TheVariants.{Inline, outs-Inline}
use Rattle.idl_tree.specs.declared.trees.Body.TheOpen.{Body-F, Core-F}
use Rattle.typed_value.specs.Bodies.{body_of, body_in, fields_of, names_in, names_or_none, fields_or_none}
use Rattle.typed_value.specs.Ints.{is_int}
use Rattle.typed_value.specs.KeyOrder.{is_whole_tree}
use Rattle.typed_value.specs.OfType.{Fit, fits, fit_step, is_bool, is_whole, is_text, is_foreign, is_of_body}
use Rattle.typed_value.specs.Reads.{reader, member_readers, core_by, ReadsBody}
use Rattle.typed_value.specs.Shows.{Writer, writer, write_step, or_null, with_fields, shows_struct, ShowsFields}
use Rattle.typed_value.specs.declared.vals.Val.{Val, out-Val, map-Val}
use Rattle.typed_value.specs.declared.vals.Val.TheOpen.{Val-F}
use Rattle.typed_value.specs.declared.vals.Val.TheFolds.{fold_out-Val}
use Rattle.typed_value.proofs.Distinct.{first_true}
use Rattle.value_laws.proofs.GoodBodies.{core_of_body}
use Rattle.value_laws.proofs.ReadBack.{core_reader, shown_back}

module _ (scope : Interface) (body : Body) where
  pub in_place : body_of scope (Inline body) ≡ Some body
  in_place = ap (body_in scope) (outs-Inline body)

  no_names : (b : Body-F Body Core Field TypeRef) (place : ℕ) → is_struct_layer b ≡ true → nat_lt place (length (names_in b)) ≡ true → ⊥
  no_names (Body-F.Struct fields ending) place h within = omega (arith, ltb-true place 0 within)
  no_names (Body-F.Enum names ending) place h within = let no : false ≡ true = h in (cc)

  -- a value of the struct is a list of values, and is written as the struct's members
  pub layer_shown : (x : Val-F Val) → is_struct_layer (out-Body body) ≡ true → fit_step scope (map-Val Val Fit (fits scope) x) [] (Inline body) ≡ true
      → or_null (write_step scope (map-Val Val Writer (writer scope) x) [] (Inline body)) ≡ shows_struct scope (fields_of body) x
  layer_shown (Val-F.Struct values) h fit =
      ap (λ (o : Option Body). object (with_fields (fields_or_none o) (map (writer scope) values) no_members)) in_place
  layer_shown (Val-F.Bool b) h fit = let no : false ≡ true = sym (ap is_bool (outs-Inline body)) ∙ fit in absurd (cc)
  layer_shown (Val-F.Int z) h fit =
      let no : false ≡ true = sym (ap is_whole (outs-Inline body)) ∙ first_true (is_whole (out-Core (Inline body))) (is_int z) fit in absurd (cc)
  layer_shown (Val-F.Str s) h fit = let no : false ≡ true = sym (ap is_text (outs-Inline body)) ∙ fit in absurd (cc)
  layer_shown (Val-F.Items values) h fit = let no : false ≡ true = fit in absurd (cc)
  layer_shown (Val-F.Map entries) h fit = let no : false ≡ true = fit in absurd (cc)
  layer_shown (Val-F.Pick place) h fit = absurd (no_names (out-Body body) place h (sym (ap (λ (o : Option Body). nat_lt place (length (names_or_none o))) in_place) ∙ fit))
  layer_shown Val-F.Nothing h fit = let no : false ≡ true = fit in absurd (cc)
  layer_shown (Val-F.Foreign d) h fit =
      let kind = is_foreign (out-Core (Inline body)) in
      let no : false ≡ true = sym (ap is_foreign (outs-Inline body)) ∙ first_true kind (is_some (as_object d)) (first_true (kind && is_some (as_object d)) (is_whole_tree d) fit) in
      absurd (cc)

  -- which is an object
  layer_object : (x : Val-F Val) → is_struct_layer (out-Body body) ≡ true → fit_step scope (map-Val Val Fit (fits scope) x) [] (Inline body) ≡ true
      → is_some (as_object (shows_struct scope (fields_of body) x)) ≡ true
  layer_object (Val-F.Struct values) h fit = refl
  layer_object (Val-F.Bool b) h fit = let no : false ≡ true = sym (ap is_bool (outs-Inline body)) ∙ fit in absurd (cc)
  layer_object (Val-F.Int z) h fit =
      let no : false ≡ true = sym (ap is_whole (outs-Inline body)) ∙ first_true (is_whole (out-Core (Inline body))) (is_int z) fit in absurd (cc)
  layer_object (Val-F.Str s) h fit = let no : false ≡ true = sym (ap is_text (outs-Inline body)) ∙ fit in absurd (cc)
  layer_object (Val-F.Items values) h fit = let no : false ≡ true = fit in absurd (cc)
  layer_object (Val-F.Map entries) h fit = let no : false ≡ true = fit in absurd (cc)
  layer_object (Val-F.Pick place) h fit = absurd (no_names (out-Body body) place h (sym (ap (λ (o : Option Body). nat_lt place (length (names_or_none o))) in_place) ∙ fit))
  layer_object Val-F.Nothing h fit = let no : false ≡ true = fit in absurd (cc)
  layer_object (Val-F.Foreign d) h fit =
      let kind = is_foreign (out-Core (Inline body)) in
      let no : false ≡ true = sym (ap is_foreign (outs-Inline body)) ∙ first_true kind (is_some (as_object d)) (first_true (kind && is_some (as_object d)) (is_whole_tree d) fit) in
      absurd (cc)

  pub shown_object : (v : Val) → is_struct_layer (out-Body body) ≡ true → is_of_body scope body v ≡ true
      → is_some (as_object (ShowsFields scope body v)) ≡ true
  shown_object v h fit = layer_object (out-Val v) h (sym (ap (λ (f : Fit). f [] (Inline body)) (fold_out-Val Fit (fit_step scope) v)) ∙ fit)

  pub shown : (v : Val) → is_struct_layer (out-Body body) ≡ true → is_of_body scope body v ≡ true
      → or_null (writer scope v [] (Inline body)) ≡ ShowsFields scope body v
  shown v h fit =
      ap (λ (writes : Writer). or_null (writes [] (Inline body))) (fold_out-Val Writer (write_step scope) v)
      ∙ layer_shown (out-Val v) h (sym (ap (λ (f : Fit). f [] (Inline body)) (fold_out-Val Fit (fit_step scope) v)) ∙ fit)

  pub struct_back : (defined : Bytes → Bool) (v : Val) → members_fault defined [] scope.members ≡ None → body_fault defined body ≡ None
      → is_struct_layer (out-Body body) ≡ true → is_of_body scope body v ≡ true → ReadsBody scope body (ShowsFields scope body v) ≡ Some v
  struct_back defined v good names h fit =
      let d = ShowsFields scope body v in
      let members = option_map (member_readers scope) (as_object d) in
      sym (ap (λ (core : Core-F Body Core Field TypeRef). core_by scope d members core) (outs-Inline body)) ∙ sym (core_reader scope d (Inline body))
      ∙ ap (λ (tree : Data). reader scope tree [] (Inline body)) (sym (shown v h fit))
      ∙ shown_back scope defined good v [] (Inline body) (core_of_body defined body ∙ names) fit
