use Rattle.std.proofs.Common.{◌≡◌, Bool, true, false, ◌||◌, cond, refl}
use Rattle.std.proofs.lemmas.Map.Text.{is_eq-slice_cmp}
use Rattle.idl_compat.proofs.names.add_name.Goals as goal

cond_or : (a b : Bool) → cond a true b ≡ (a || b)
cond_or true b = refl
cond_or false b = refl

pub returns-in-Ok : goal.returns-in-Ok
returns-in-Ok c = λ q.
    rw (is_eq-slice_cmp, cond_or) at (c.in-Ok.ensures.updates.0 (record { ref_ptr = (0, 0); now = q }))
