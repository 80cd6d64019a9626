-- Outcomes by names, formed by the method's reply.
use Rattle.std.specs.Prelude.{Bool, true, false, Option, Some, None, option_map, option_and_then}
use Rattle.sheet_rules.specs.Types.{Typ, body_typ, array_part}
use Rattle.sheet_rules.specs.Settings.{Setting}
use Rattle.sheet_rules.specs.Outcomes.{with_item, same_raw}
use Rattle.sheet_rules.specs.declared.forms.Ref.{Ref}
use Rattle.sheet_rules.specs.declared.forms.Expr.{Expr}
use Rattle.sheet_rules.specs.declared.forms.Ending.{Ending}
use Rattle.sheet_rules.specs.declared.forms.Ending.TheVariants as ending
use Rattle.expression_draft.specs.declared.drafts.RefDraft.{RefDraft}
use Rattle.expression_draft.specs.declared.drafts.RefDraft.TheVariants as ref
use Rattle.expression_draft.specs.declared.drafts.ExprDraft.{ExprDraft}
use Rattle.sheet_draft.specs.declared.drafts.EndingDraft.{EndingDraft}
use Rattle.sheet_draft.specs.declared.drafts.EndingDraft.TheVariants as draft
use Rattle.expression_form.specs.References.{ref_formed}
use Rattle.expression_form.specs.Expressions.{made, only_if}
use Rattle.rule_form.specs.Conditions.{joined}

-- the expression gives the method's reply
abbrev pub reply_made : Setting → ExprDraft → Option Expr
reply_made s x = made s x (body_typ s.scope s.output)

-- an array that is referred to, and is no item, with the type of its items
abbrev pub with_part : Ref → Option Typ → Option (Ref × Typ)
with_part r part = option_map (λ u. (r, u)) part

abbrev pub array_formed : Setting → RefDraft → Option (Ref × Typ)
array_formed s d = option_and_then (λ (found : Ref × Typ). with_part found.0 (array_part found.1)) (ref_formed s d)

abbrev pub over_formed : Setting → RefDraft → Option (Ref × Typ)
over_formed s (ref.Item names) = None
over_formed s d = array_formed s d

-- a reply for each item of that type, and a last one
abbrev pub stream_made : Setting → ExprDraft → ExprDraft → Ref × Typ → Option Ending
stream_made s each last over =
    joined (ending.Stream over.0) (reply_made (with_item s (Some over.1)) each) (reply_made s last)

-- the outcome that a draft is; nothing where it is not typed
abbrev pub ending_made : Setting → EndingDraft → Option Ending
ending_made s (draft.Reply x) = option_map ending.Reply (reply_made s x)
ending_made s (draft.Stream over each last) = option_and_then (stream_made s each last) (over_formed s over)
ending_made s (draft.Upgrade raw x) = option_map (ending.Upgrade raw) (reply_made s x)

-- two outcomes are of one kind, and upgrades have the same use of raw bytes
abbrev pub same_kind : EndingDraft → EndingDraft → Bool
same_kind (draft.Reply a) (draft.Reply b) = true
same_kind (draft.Stream r a b) (draft.Stream q c d) = true
same_kind (draft.Upgrade raw a) (draft.Upgrade other b) = same_raw raw other
same_kind one other = false

-- an outcome of the kind of the first branch's
abbrev pub outcome_made : Setting → EndingDraft → EndingDraft → Option Ending
outcome_made s first x = only_if (same_kind first x) (ending_made s x)
