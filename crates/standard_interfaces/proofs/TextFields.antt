-- a fold over a struct whose fields are texts, opened
use Rattle.std.proofs.Common.{◌≡◌, List, [], ◌∷◌, map, refl, ap, ◌∙◌}
use Rattle.idl_tree.specs.Names.{Bytes}
use Rattle.idl_tree.specs.declared.trees.Prefix.{Prefix}
use Rattle.idl_tree.specs.declared.trees.Body.TheVariants.{Str}
use Rattle.idl_tree.specs.declared.trees.Body.TheOpen.{Body-F, Core-F, Field-F, TypeRef-F}
use Rattle.idl_tree.specs.declared.trees.Body.TheFolds.{fold-Body}
use Rattle.idl_tree.proofs.Opened.{field_folds, struct_opens, type_opens}
use Rattle.idl_rules.proofs.OpenedCores.{string_opens}
use Rattle.standard_interfaces.specs.Definitions.{Texts, field_of, fields}

module _ (A B C D : Type 0) (body : Body-F A B C D → A) (core : Core-F A B C D → B) (field : Field-F A B C D → C) (of : TypeRef-F A B C D → D) where
  abbrev pub typed : List Prefix → B → D
  typed prefixes c = of (record { prefixes = prefixes; core = c })

  abbrev pub folded : Bytes × List Prefix → C
  folded text = field (record { notes = []; name = text.0; of = typed text.1 (core Core-F.Str) })

  field_is : (text : Bytes × List Prefix) → field_folds A B C D body core field of (field_of text) ≡ folded text
  field_is text = ap (λ (d : D). field (record { notes = []; name = text.0; of = d }))
      (type_opens A B C D body core field of (record { prefixes = text.1; core = Str })
      ∙ ap (typed text.1) (string_opens A B C D body core field of))

  fields_are : (texts : Texts) → map (field_folds A B C D body core field of) (map field_of texts) ≡ map folded texts
  fields_are [] = refl
  fields_are (text ∷ texts) = λ i. field_is text i ∷ fields_are texts i

  pub texts_open : (texts : Texts) → fold-Body A B C D body core field of (fields texts) ≡ body (Body-F.Struct (map folded texts) [])
  texts_open texts = struct_opens A B C D body core field of (map field_of texts) []
      ∙ ap (λ (entries : List C). body (Body-F.Struct entries [])) (fields_are texts)
