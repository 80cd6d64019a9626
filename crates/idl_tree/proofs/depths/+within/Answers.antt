use Rattle.std.proofs.Common.{◌≡◌, ◌-◌, nat_le, ℕ, suc, arith}
use Rattle.std.proofs.lemmas.Bool.Decides.{nat_tests}
use Rattle.idl_tree.specs.Form.{body_depth_step, core_depth_step, field_depth_step, type_depth_step}
use Rattle.idl_tree.proofs.Opened.{struct_opens}
use Rattle.idl_tree.proofs.depths.+within.Goals as goal

one_deeper : (n room : ℕ) → (room ≡ 0 → ⊥) → nat_le n (room - 1) ≡ nat_le (suc n) room
one_deeper n room h = grind (arith, nat_tests)

pub body_within-returns-in-Struct : goal.body_within-returns-in-Struct
body_within-returns-in-Struct t c =
    let opened = struct_opens ℕ ℕ ℕ ℕ body_depth_step core_depth_step field_depth_step type_depth_step c.in-Struct.fields c.in-Struct.ending in
    rw (c.fields_within.ensures, c.as_slice.ensures, c.in-Struct.is, opened) (one_deeper _ c.args.room c.if-room-eq0.false)
