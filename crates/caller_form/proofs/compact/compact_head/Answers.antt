use Rattle.std.proofs.Common.{◌≡◌, ◌∷◌, length, sym, ◌∙◌, subst, arith}
use Rattle.caller_form.specs.Compact.{TakesReply}
use Rattle.caller_form.proofs.CompactLemmas.{nothing_left, tells_head}
use Rattle.caller_form.proofs.compact.compact_head.Goals as goal

pub returns-then-is_empty : goal.returns-then-is_empty
returns-then-is_empty c =
    let inside = c.in_ok-inside.inside.now in
    let continues = c.in_ok-continues.continues in
    let rest = c.in_ok-continues.rest.now in
    let empty : length rest ≡ 0 = grind arith in
    let opens : c.args.text.now ≡ 123 ∷ inside = sym c.as_bytes.ensures.value ∙ c.in_ok-inside.ensures in
    tells_head c.args.text.now inside continues opens (subst (λ r. TakesReply 126 inside continues r) (nothing_left rest empty) c.in_ok-continues.ensures)
