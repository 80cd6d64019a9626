-- the bodies of types without a fault have none
use Rattle.std.proofs.Common.{◌≡◌, Bool, true, false, cond, List, [], ◌∷◌, ◌++◌, Option, Some, None, map, find, option_map, option_and_then, refl, sym, ap, ◌∙◌, subst}
use Rattle.std.specs.List.{list_any}
use Rattle.idl_tree.specs.Names.{Bytes}
use Rattle.idl_tree.specs.Faults.{Found, bracket_fault, body_fault, core_fault, type_fault, part_fault, members_fault, is_named, space_of, twice, shape_in, body_fault_step, core_fault_step, field_fault_step, type_fault_step}
use Rattle.idl_tree.specs.declared.faults.NameFault.TheVariants.{UnknownType}
use Rattle.idl_tree.specs.declared.spaces.Space.TheVariants.{Types}
use Rattle.idl_tree.specs.declared.trees.Interface.{Interface}
use Rattle.idl_tree.specs.declared.trees.Member.{Member}
use Rattle.idl_tree.specs.declared.trees.Named.{Named}
use Rattle.idl_tree.specs.declared.trees.Field.{Field}
use Rattle.idl_tree.specs.declared.trees.TypeRef.{TypeRef}
use Rattle.idl_tree.specs.declared.trees.Part.{Part}
use Rattle.idl_tree.specs.declared.trees.Part.TheVariants.{Shape, Method, Fault}
use Rattle.idl_tree.specs.declared.trees.Body.{Body, out-Body, map-Body}
use Rattle.idl_tree.specs.declared.trees.Core.{Core, out-Core, map-Core}
use Rattle.idl_tree.specs.declared.trees.Core.TheVariants.{Inline, outs-Inline}
use Rattle.idl_tree.specs.declared.trees.Body.TheOpen.{Body-F, Core-F}
use Rattle.idl_tree.specs.declared.trees.Body.TheFolds.{fold-Field, fold_out-Body, fold_out-Core, fold_out-Field}
use Rattle.idl_tree.proofs.Opened.{type_opens}
use Rattle.typed_value.specs.Bodies.{body_in}
use Rattle.typed_value.proofs.Distinct.{split}

module _ (defined : Bytes → Bool) where
  found : (b : Bool) (member : Member) (members : List Member) (m : Member) (later : Option Member) → part_fault defined member.part ≡ None → cond b (Some member) later ≡ Some m
      → (later ≡ Some m → part_fault defined m.part ≡ None) → part_fault defined m.part ≡ None
  found true member members m later good is rest = let same : member ≡ m = (cc) in subst (λ (x : Member). part_fault defined x.part ≡ None) same good
  found false member members m later good is rest = rest is

  part_good : (p : Member → Bool) (before members : List Member) (m : Member) → members_fault defined before members ≡ None → find p members ≡ Some m
      → part_fault defined m.part ≡ None
  part_good p before [] m good here = absurd (cc)
  part_good p before (member ∷ members) m good here =
      let parts = split (twice (space_of member.part) member.name) (list_any (is_named (space_of member.part) member.name) before)
      (part_fault defined member.part) (members_fault defined (before ++ member ∷ []) members) good in
      found (p member) member members m (find p members) parts.1 here (λ later. part_good p (before ++ member ∷ []) members m parts.2 later)

  pub shape_good : (part : Part) (body : Body) → part_fault defined part ≡ None → shape_in part ≡ Some body → body_fault defined body ≡ None
  shape_good (Shape other) body good is = let same : other ≡ body = (cc) in subst (λ (b : Body). body_fault defined b ≡ None) same good
  shape_good (Method input output) body good is = absurd (cc)
  shape_good (Fault other) body good is = absurd (cc)

  abbrev core_layer : Core-F Body Core Field TypeRef → Found
  core_layer (Core-F.Name name) = cond (defined name) None (Some (UnknownType name))
  core_layer (Core-F.Inline body) = body_fault defined body
  core_layer core = None

  abbrev field_folds : Field → Bytes × Found
  field_folds = fold-Field Found Found (Bytes × Found) Found body_fault_step (core_fault_step defined) field_fault_step type_fault_step

  core_same : (core : Core-F Body Core Field TypeRef)
      → core_fault_step defined (map-Core Body Core Field TypeRef Found Found (Bytes × Found) Found (body_fault defined) (core_fault defined) field_folds (type_fault defined) core)
      ≡ core_layer core
  core_same Core-F.Bool = refl
  core_same Core-F.Int = refl
  core_same Core-F.Float = refl
  core_same Core-F.Str = refl
  core_same Core-F.Object = refl
  core_same (Core-F.Name name) = refl
  core_same (Core-F.Inline body) = refl

  core_opens : (core : Core) → core_fault defined core ≡ core_layer (out-Core core)
  core_opens core = fold_out-Core Found Found (Bytes × Found) Found body_fault_step (core_fault_step defined) field_fault_step type_fault_step core
      ∙ core_same (out-Core core)

  abbrev pub pair_of : Field → Bytes × Found
  pair_of field = (field.name, core_fault defined field.of.core)

  field_same : (field : Field) → field_folds field ≡ pair_of field
  field_same field = fold_out-Field Found Found (Bytes × Found) Found body_fault_step (core_fault_step defined) field_fault_step type_fault_step field
      ∙ ap (λ (found : Found). (field.name, found)) (type_opens Found Found (Bytes × Found) Found body_fault_step (core_fault_step defined) field_fault_step type_fault_step field.of)

  fields_same : (fields : List Field) → map field_folds fields ≡ map pair_of fields
  fields_same [] = refl
  fields_same (field ∷ fields) = λ i. field_same field i ∷ fields_same fields i

  abbrev pub body_layer : Body-F Body Core Field TypeRef → Found
  body_layer (Body-F.Struct fields ending) = bracket_fault [] (map pair_of fields)
  body_layer (Body-F.Enum names ending) = bracket_fault [] (map (λ (named : Named). (named.name, None)) names)

  body_same : (body : Body-F Body Core Field TypeRef)
      → body_fault_step (map-Body Body Core Field TypeRef Found Found (Bytes × Found) Found (body_fault defined) (core_fault defined) field_folds (type_fault defined) body)
      ≡ body_layer body
  body_same (Body-F.Struct fields ending) = ap (bracket_fault []) (fields_same fields)
  body_same (Body-F.Enum names ending) = refl

  pub body_opens : (body : Body) → body_fault defined body ≡ body_layer (out-Body body)
  body_opens body = fold_out-Body Found Found (Bytes × Found) Found body_fault_step (core_fault_step defined) field_fault_step type_fault_step body
      ∙ body_same (out-Body body)

  -- a type without a fault has no fault in its core
  pub type_core : (t : TypeRef) → type_fault defined t ≡ core_fault defined t.core
  type_core t = type_opens Found Found (Bytes × Found) Found body_fault_step (core_fault_step defined) field_fault_step type_fault_step t

  named_good : (found : Option Member) (body : Body) → ((m : Member) → found ≡ Some m → part_fault defined m.part ≡ None)
      → option_and_then shape_in (option_map (λ (m : Member). m.part) found) ≡ Some body → body_fault defined body ≡ None
  named_good None body good is = absurd (cc)
  named_good (Some m) body good is = shape_good m.part body (good m refl) is

  -- the body of a type by name or in place
  pub body_good : (scope : Interface) (core : Core-F Body Core Field TypeRef) (body : Body) → members_fault defined [] scope.members ≡ None
      → core_layer core ≡ None → body_in scope core ≡ Some body → body_fault defined body ≡ None
  body_good scope (Core-F.Name name) body good here is =
      named_good (find (is_named Types name) scope.members) body (λ m at. part_good (is_named Types name) [] scope.members m good at) is
  body_good scope (Core-F.Inline other) body good here is = let same : other ≡ body = (cc) in subst (λ (b : Body). body_fault defined b ≡ None) same here
  body_good scope Core-F.Bool body good here is = absurd (cc)
  body_good scope Core-F.Int body good here is = absurd (cc)
  body_good scope Core-F.Float body good here is = absurd (cc)
  body_good scope Core-F.Str body good here is = absurd (cc)
  body_good scope Core-F.Object body good here is = absurd (cc)

  pub core_body_good : (scope : Interface) (core : Core) (body : Body) → members_fault defined [] scope.members ≡ None
      → core_fault defined core ≡ None → body_in scope (out-Core core) ≡ Some body → body_layer (out-Body body) ≡ None
  core_body_good scope core body good here is =
      sym (body_opens body) ∙ body_good scope (out-Core core) body good (sym (core_opens core) ∙ here) is

  -- a body in place has the faults of the body
  pub core_of_body : (body : Body) → core_fault defined (Inline body) ≡ body_fault defined body
  core_of_body body = core_opens (Inline body) ∙ ap core_layer (outs-Inline body)
