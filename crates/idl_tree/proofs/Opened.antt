-- a fold at each kind of body, core and type, one level opened
use Rattle.std.proofs.Common.{◌≡◌, List, map, refl}
use Rattle.idl_tree.specs.Names.{Bytes}
use Rattle.idl_tree.specs.declared.trees.Named.{Named}
use Rattle.idl_tree.specs.declared.trees.Field.{Field}
use Rattle.idl_tree.specs.declared.trees.TypeRef.{TypeRef}
use Rattle.idl_tree.specs.declared.trees.Body.TheVariants.{Struct, Enum, outs-Struct, outs-Enum}
use Rattle.idl_tree.specs.declared.trees.Body.TheOpen.{Body-F, Core-F, Field-F, TypeRef-F}
use Rattle.idl_tree.specs.declared.trees.Body.TheFolds.{fold-Body, fold-Core, fold-Field, fold-TypeRef, fold_out-Body, fold_out-Field, fold_out-TypeRef}

module _ (A B C D : Type 0) (body : Body-F A B C D → A) (core : Core-F A B C D → B) (field : Field-F A B C D → C) (of : TypeRef-F A B C D → D) where
  abbrev pub field_folds : Field → C
  field_folds f = field (record { notes = f.notes; name = f.name; of = fold-TypeRef A B C D body core field of f.of })

  field_opens : (f : Field) → fold-Field A B C D body core field of f ≡ field_folds f
  field_opens f = fold_out-Field A B C D body core field of f

  pub struct_opens : (fields : List Field) (ending : List Bytes)
      → fold-Body A B C D body core field of (Struct fields ending) ≡ body (Body-F.Struct (map field_folds fields) ending)
  struct_opens fields ending =
      rw (fold_out-Body, outs-Struct) (λ i. body (Body-F.Struct (map (λ (f : Field). field_opens f i) fields) ending))

  pub enum_opens : (names : List Named) (ending : List Bytes)
      → fold-Body A B C D body core field of (Enum names ending) ≡ body (Body-F.Enum names ending)
  enum_opens names ending = rw (fold_out-Body, outs-Enum) refl

  pub type_opens : (t : TypeRef)
      → fold-TypeRef A B C D body core field of t ≡ of (record { prefixes = t.prefixes; core = fold-Core A B C D body core field of t.core })
  type_opens t = fold_out-TypeRef A B C D body core field of t
