-- steps one after another, and what undoes them
use Rattle.std.proofs.Common.{◌≡◌, Bool, true, ◌&&◌, ℕ, ◌+◌, ◌<◌, List, [], ◌∷◌, ◌++◌, length, get_or, drop, Option, Some, IsSome, sym, ap, ◌∙◌}
use Rattle.std.proofs.lemmas.List.{drop_more}
use Rattle.typed_value.specs.declared.vals.Val.{Val}
use Rattle.sheet_rules.specs.declared.forms.Action.{Action}
use Rattle.rule_values.specs.Meanings.{◌>>=◌}
use Rattle.rule_values.proofs.Parting.{then_some}
use Rattle.sheet_step.specs.Registers.{after_step, after_steps}
use Rattle.sheet_step.specs.Undoing.{undone, all_undone}
use Rattle.sheet_step.specs.declared.backs.Undo.{Undo}

pub steps_more : (ps : Val) (steps : List Action) (i : ℕ) (step : Action) (rs now : List Val) (whole : Option (List Val)) → i < length steps
    → step ≡ get_or steps i step → after_step ps step rs ≡ Some now → after_steps ps (drop i steps) rs ≡ whole
    → after_steps ps (drop (i + 1) steps) now ≡ whole
steps_more ps steps i step rs now whole within is done before =
    let cut : drop i steps ≡ step ∷ drop (i + 1) steps = drop_more steps i step within ∙ ap (λ (s : Action). s ∷ drop (i + 1) steps) (sym is) in
    sym (ap (λ (ss : List Action). after_steps ps ss rs) cut ∙ ap (λ (next : Option (List Val)). next >>= after_steps ps (drop (i + 1) steps)) done) ∙ before

pub undone_last : (us : List Undo) (u : Undo) (now mid : List Val) → undone u now ≡ Some mid → all_undone (us ++ u ∷ []) now ≡ all_undone us mid
undone_last [] u now mid h = h
undone_last (x ∷ us) u now mid h = ap (λ (later : Option (List Val)). later >>= undone x) (undone_last us u now mid h)

pub last_there : (us : List Undo) (u : Undo) (rs : List Val) → IsSome (all_undone (us ++ u ∷ []) rs) → IsSome (undone u rs)
last_there [] u rs h = h
last_there (x ∷ us) u rs h = last_there us u rs (then_some (all_undone (us ++ u ∷ []) rs) (undone x) h)
