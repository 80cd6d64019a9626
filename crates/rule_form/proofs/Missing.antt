-- which registers a draft names, one level opened
use Rattle.std.proofs.Common.{◌≡◌, Bool, ◌||◌, List, [], ◌∷◌, map, refl, ap, ◌∙◌}
use Rattle.std.specs.List.{list_any}
use Rattle.idl_tree.specs.Names.{Bytes}
use Rattle.sheet_rules.specs.declared.forms.Register.{Register}
use Rattle.expression_draft.specs.declared.drafts.RefDraft.{RefDraft}
use Rattle.expression_draft.specs.declared.drafts.ExprDraft.{ExprDraft}
use Rattle.expression_draft.specs.declared.drafts.ExprDraft.TheVariants as draft
use Rattle.expression_form.proofs.DraftOpens.{struct_opens, items_opens, at_opens}
use Rattle.rule_form.specs.Misses.{ref_misses, expr_step, expr_misses, member_misses}

module _ (registers : List Register) where
  any_member : (members : List (Bytes × ExprDraft))
      → list_any (λ (member : Bytes × Bool). member.1) (map (λ (member : Bytes × ExprDraft). (member.0, expr_misses registers member.1)) members)
      ≡ list_any (member_misses registers) members
  any_member [] = refl
  any_member (member ∷ members) = ap (λ (rest : Bool). member_misses registers member || rest) (any_member members)

  any_item : (items : List ExprDraft)
      → list_any (λ (item : Bool). item) (map (expr_misses registers) items) ≡ list_any (expr_misses registers) items
  any_item [] = refl
  any_item (item ∷ items) = ap (λ (rest : Bool). expr_misses registers item || rest) (any_item items)

  pub struct_misses : (members : List (Bytes × ExprDraft))
      → expr_misses registers (draft.Struct members) ≡ list_any (member_misses registers) members
  struct_misses members = struct_opens Bool (expr_step registers) members ∙ any_member members

  pub items_misses : (items : List ExprDraft) → expr_misses registers (draft.Items items) ≡ list_any (expr_misses registers) items
  items_misses items = items_opens Bool (expr_step registers) items ∙ any_item items

  pub at_misses : (d : RefDraft) (key other : ExprDraft)
      → expr_misses registers (draft.At d key other) ≡ (ref_misses registers d || (expr_misses registers key || expr_misses registers other))
  at_misses d key other = at_opens Bool (expr_step registers) d key other
