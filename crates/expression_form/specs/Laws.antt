-- What is formed by a type gives it.
use Rattle.std.specs.Prelude.{◌≡◌, true, Some}
use Rattle.sheet_rules.specs.Types.{Typ}
use Rattle.sheet_rules.specs.Settings.{Setting, ref_typ}
use Rattle.sheet_rules.specs.Gives.{gives}
use Rattle.sheet_rules.specs.declared.forms.Ref.{Ref}
use Rattle.sheet_rules.specs.declared.forms.Expr.{Expr}
use Rattle.expression_draft.specs.declared.drafts.RefDraft.{RefDraft}
use Rattle.expression_draft.specs.declared.drafts.ExprDraft.{ExprDraft}
use Rattle.expression_form.specs.References.{ref_formed}
use Rattle.expression_form.specs.Expressions.{made}

-- a reference that is formed has the type that was found
abbrev pub RefsHaveTypes : Type 0
RefsHaveTypes = (s : Setting) (d : RefDraft) (r : Ref) (t : Typ) → ref_formed s d ≡ Some (r, t) → ref_typ s r ≡ Some t

-- an expression that is formed by a type gives it
abbrev pub MadeGives : Type 0
MadeGives = (s : Setting) (d : ExprDraft) (t : Typ) (x : Expr) → made s d t ≡ Some x → gives s x t ≡ true
