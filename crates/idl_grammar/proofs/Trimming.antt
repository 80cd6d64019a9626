-- a text that is cut from its end
use Rattle.std.proofs.Common.{◌≡◌, ℕ, ◌+◌, ◌-◌, ◌<◌, ◌≤◌, true, false, [], ◌∷◌, ◌++◌, length, take, get_or, sym, ap, ◌∙◌, arith}
use Rattle.std.proofs.lemmas.List.{take_more}
use Rattle.idl_token.specs.Lex.{Bytes}
use Rattle.idl_rules.specs.Settle.{trimmed, is_gap}
use Rattle.idl_rules.proofs.Trims.{trimmed_gap, trimmed_other}

last_byte : (text : Bytes) (end : ℕ) → 0 < end → end ≤ length text → take end text ≡ take (end - 1) text ++ get_or text (end - 1) 0 ∷ []
last_byte text end some within =
    let more : end ≡ end - 1 + 1 = omega arith in
    let below : end - 1 < length text = omega arith in
    ap (λ (n : ℕ). take n text) more ∙ take_more text (end - 1) 0 below

pub trim_more : (text : Bytes) (end : ℕ) → 0 < end → end ≤ length text → is_gap (get_or text (end - 1) 0) ≡ true
    → trimmed (take (end - 1) text) ≡ trimmed (take end text)
trim_more text end some within gap =
    sym (ap trimmed (last_byte text end some within) ∙ trimmed_gap (take (end - 1) text) (get_or text (end - 1) 0) gap)

pub trim_ends : (text : Bytes) (end : ℕ) → 0 < end → end ≤ length text → is_gap (get_or text (end - 1) 0) ≡ false
    → take end text ≡ trimmed (take end text)
trim_ends text end some within other =
    let last = last_byte text end some within in
    sym (ap trimmed last ∙ trimmed_other (take (end - 1) text) (get_or text (end - 1) 0) other ∙ sym last)
