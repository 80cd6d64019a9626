-- a fold at each kind of core, one level opened
use Rattle.std.proofs.Common.{◌≡◌, refl}
use Rattle.idl_tree.specs.Names.{Bytes}
use Rattle.idl_tree.specs.declared.trees.Body.{Body}
use Rattle.idl_tree.specs.declared.trees.Body.TheVariants.{Bool, Int, Float, Str, Object, Name, Inline}
use Rattle.idl_tree.specs.declared.trees.Core.TheVariants.{outs-Bool, outs-Int, outs-Float, outs-Str, outs-Object, outs-Name, outs-Inline}
use Rattle.idl_tree.specs.declared.trees.Body.TheOpen.{Body-F, Core-F, Field-F, TypeRef-F}
use Rattle.idl_tree.specs.declared.trees.Body.TheFolds.{fold-Body, fold-Core, fold_out-Core}

module _ (A B C D : Type 0) (body : Body-F A B C D → A) (core : Core-F A B C D → B) (field : Field-F A B C D → C) (of : TypeRef-F A B C D → D) where
  pub bool_opens : fold-Core A B C D body core field of Bool ≡ core Core-F.Bool
  bool_opens = rw (fold_out-Core, outs-Bool) refl

  pub int_opens : fold-Core A B C D body core field of Int ≡ core Core-F.Int
  int_opens = rw (fold_out-Core, outs-Int) refl

  pub float_opens : fold-Core A B C D body core field of Float ≡ core Core-F.Float
  float_opens = rw (fold_out-Core, outs-Float) refl

  pub string_opens : fold-Core A B C D body core field of Str ≡ core Core-F.Str
  string_opens = rw (fold_out-Core, outs-Str) refl

  pub object_opens : fold-Core A B C D body core field of Object ≡ core Core-F.Object
  object_opens = rw (fold_out-Core, outs-Object) refl

  pub name_opens : (name : Bytes) → fold-Core A B C D body core field of (Name name) ≡ core (Core-F.Name name)
  name_opens name = rw (fold_out-Core, outs-Name) refl

  pub inline_opens : (b : Body) → fold-Core A B C D body core field of (Inline b) ≡ core (Core-F.Inline (fold-Body A B C D body core field of b))
  inline_opens b = rw (fold_out-Core, outs-Inline) refl
