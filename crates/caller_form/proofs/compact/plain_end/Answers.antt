use Rattle.std.proofs.Common.{◌≡◌, ◌≤◌, ◌<◌, length, get_or, arith}
use Rattle.caller_form.proofs.CompactLemmas.{plain_more}
use Rattle.caller_form.proofs.compact.plain_end.Goals as goal

pub bytes-preserved : goal.bytes-preserved
bytes-preserved c =
    let l = c.bytes in
    let inside = c.args.inside.now in
    let within : l.end < length inside = grind arith in
    let quote : get_or inside l.end 0 ≡ 34 → ⊥ = grind arith in
    let escapes : get_or inside l.end 0 ≡ 92 → ⊥ = grind arith in
    let printed : 32 ≤ get_or inside l.end 0 = grind arith in
    (grind arith, plain_more inside l.end within quote escapes printed l.invariant.1)
