-- Which parts of a rule name a register that is not there.
use Rattle.std.specs.Prelude.{Bool, false, ◌||◌, List, [], ◌∷◌, is_none}
use Rattle.std.specs.List.{list_any}
use Rattle.idl_tree.specs.Names.{Bytes}
use Rattle.sheet_rules.specs.declared.forms.Register.{Register}
use Rattle.expression_draft.specs.declared.drafts.RefDraft.{RefDraft}
use Rattle.expression_draft.specs.declared.drafts.RefDraft.TheVariants as ref
use Rattle.expression_draft.specs.declared.drafts.ExprDraft.{ExprDraft}
use Rattle.expression_draft.specs.declared.drafts.ExprDraft.TheOpen.{ExprDraft-F}
use Rattle.expression_draft.specs.declared.drafts.ExprDraft.TheFolds.{fold-ExprDraft}
use Rattle.expression_draft.specs.declared.drafts.CondDraft.{CondDraft}
use Rattle.expression_draft.specs.declared.drafts.CondDraft.TheOpen.{CondDraft-F}
use Rattle.expression_draft.specs.declared.drafts.CondDraft.TheFolds.{fold-CondDraft}
use Rattle.sheet_draft.specs.declared.drafts.GuardDraft.{GuardDraft}
use Rattle.sheet_draft.specs.declared.drafts.ActionDraft.{ActionDraft}
use Rattle.sheet_draft.specs.declared.drafts.ActionDraft.TheVariants as action
use Rattle.sheet_draft.specs.declared.drafts.EndingDraft.{EndingDraft}
use Rattle.sheet_draft.specs.declared.drafts.EndingDraft.TheVariants as ending
use Rattle.expression_form.specs.References.{register_place}

-- there is no register of that name
abbrev pub is_missing : List Register → Bytes → Bool
is_missing registers name = is_none (register_place registers name)

abbrev pub ref_misses : List Register → RefDraft → Bool
ref_misses registers (ref.Param names) = false
ref_misses registers (ref.Register []) = false
ref_misses registers (ref.Register (name ∷ names)) = is_missing registers name
ref_misses registers (ref.Item names) = false

-- an expression, by what its parts name
abbrev pub expr_step : List Register → ExprDraft-F Bool → Bool
expr_step registers (ExprDraft-F.From d) = ref_misses registers d
expr_step registers (ExprDraft-F.Const json) = false
expr_step registers (ExprDraft-F.Struct members) = list_any (λ (member : Bytes × Bool). member.1) members
expr_step registers (ExprDraft-F.Items items) = list_any (λ item. item) items
expr_step registers (ExprDraft-F.Sum one other) = one || other
expr_step registers (ExprDraft-F.Length d) = ref_misses registers d
expr_step registers (ExprDraft-F.At d key other) = ref_misses registers d || (key || other)

abbrev pub expr_misses : List Register → ExprDraft → Bool
expr_misses registers = fold-ExprDraft Bool (expr_step registers)

abbrev pub member_misses : List Register → Bytes × ExprDraft → Bool
member_misses registers member = expr_misses registers member.1

-- a condition
abbrev pub cond_step : List Register → CondDraft-F Bool → Bool
cond_step registers (CondDraft-F.Equal d x) = ref_misses registers d || expr_misses registers x
cond_step registers (CondDraft-F.Less x y) = expr_misses registers x || expr_misses registers y
cond_step registers (CondDraft-F.Present d) = ref_misses registers d
cond_step registers (CondDraft-F.Has d key) = ref_misses registers d || expr_misses registers key
cond_step registers (CondDraft-F.Not inner) = inner

abbrev pub cond_misses : List Register → CondDraft → Bool
cond_misses registers = fold-CondDraft Bool (cond_step registers)

abbrev pub guard_misses : List Register → GuardDraft → Bool
guard_misses registers guard = cond_misses registers guard.need || expr_misses registers guard.with

abbrev pub step_misses : List Register → ActionDraft → Bool
step_misses registers (action.Set name x) = is_missing registers name || expr_misses registers x
step_misses registers (action.Push name x) = is_missing registers name || expr_misses registers x
step_misses registers (action.Put name key x) =
    is_missing registers name || (expr_misses registers key || expr_misses registers x)
step_misses registers (action.Drop name key) = is_missing registers name || expr_misses registers key

abbrev pub ending_misses : List Register → EndingDraft → Bool
ending_misses registers (ending.Reply x) = expr_misses registers x
ending_misses registers (ending.Stream over each last) =
    ref_misses registers over || (expr_misses registers each || expr_misses registers last)
ending_misses registers (ending.Upgrade raw x) = expr_misses registers x
