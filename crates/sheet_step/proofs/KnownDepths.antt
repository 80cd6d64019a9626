-- what is known of the levels of registers after a change of one
use Rattle.std.proofs.Common.{◌≡◌, ℕ, zero, suc, ◌==◌, Bool, true, false, cond, ◌&&◌, List, [], ◌∷◌, Option, Some, None, option_map, refl, sym, ap, ◌∙◌, arith}
use Rattle.std.specs.Prelude.{slice_get}
use Rattle.std.proofs.lemmas.Bool.Decides.{nat_tests}
use Rattle.typed_value.specs.declared.vals.Val.{Val}
use Rattle.sheet_step.specs.Levels.{is_within, are_within, Told, next_depth}
use Rattle.sheet_step.specs.Undoing.{IsDone}
use Rattle.sheet_step.specs.declared.backs.Act.{Act}
use Rattle.sheet_step.specs.declared.levels.Depth.{Depth}
use Rattle.sheet_step.specs.declared.levels.Depth.TheVariants as depth

both : (a b : Bool) → b ≡ false → (a && b) ≡ false
both true b h = h
both false b h = refl

-- where one has too many levels, not all are within
pub deep_one : (rs : List Val) (place : ℕ) → option_map is_within (slice_get rs place) ≡ Some false → are_within rs ≡ false
deep_one [] place h = absurd (cc)
deep_one (r ∷ rs) zero h = let first : is_within r ≡ false = cc in rw first refl
deep_one (r ∷ rs) (suc place) h = both (is_within r) (are_within rs) (deep_one rs place h)

stays_deep : (same : Bool) (deep place : ℕ) (mid now : List Val) → (deep == place) ≡ same → option_map is_within (slice_get mid deep) ≡ Some false
    → ((other : ℕ) → (other ≡ place → ⊥) → slice_get now other ≡ slice_get mid other)
    → Told (cond same depth.Unknown (depth.DeepAt deep)) now
stays_deep true deep place mid now is h others = tt
stays_deep false deep place mid now is h others =
    let apart : deep ≡ place → ⊥ = λ e. grind (arith, nat_tests) in
    ap (option_map is_within) (others deep apart) ∙ h

told_by : (known : Depth) (small : Bool) (mid now : List Val) (act : Act) (after : Option (List Val)) → act.small ≡ small → IsDone after mid now act → Told known mid
    → Told (next_depth known act.undo.place small) now
told_by known false mid now act after is done told = done.deep is
told_by depth.Within true mid now act after is done told = done.small is told
told_by (depth.DeepAt deep) true mid now act after is done told = stays_deep (deep == act.undo.place) deep act.undo.place mid now refl told done.others
told_by depth.Unknown true mid now act after is done told = tt

pub told_next : (known : Depth) (mid now : List Val) (act : Act) (after : Option (List Val)) → IsDone after mid now act → Told known mid
    → Told (next_depth known act.undo.place act.small) now
told_next known mid now act after done told = told_by known act.small mid now act after refl done told
