use Rattle.std.proofs.Common.{◌≡◌, true, false, ◌||◌, ◌==◌, not, ℕ, refl, ap, sym, ◌∙◌}
use Rattle.std.specs.List.{list_all}
use Rattle.std.proofs.lemmas.Str.{is_utf8-from_IsUtf8}
use Rattle.idl_tree.proofs.forms.is_note.Goals as goal

pub returns-then-holds_line : goal.returns-then-holds_line
returns-then-holds_line c =
    let note = c.args.note.now in
    let bytes = c.as_bytes-bytes.ensures.value in
    let utf8 = is_utf8-from_IsUtf8 note c.utf8.note in
    let line : list_all (λ b. not (b == 13 || b == 10)) note ≡ true =
    ap (list_all (λ (b : ℕ). not (b == 13 || b == 10))) (sym bytes) ∙ sym c.holds_line.ensures ∙ c.if-holds_line.true in
    rw (c.ends_bare.ensures, bytes, utf8, line) refl

pub returns-else-holds_line : goal.returns-else-holds_line
returns-else-holds_line c =
    let note = c.args.note.now in
    let utf8 = is_utf8-from_IsUtf8 note c.utf8.note in
    let line : list_all (λ b. not (b == 13 || b == 10)) note ≡ false =
    ap (list_all (λ (b : ℕ). not (b == 13 || b == 10))) (sym c.as_bytes-bytes.ensures.value) ∙ sym c.holds_line.ensures ∙ c.if-holds_line.false in
    rw (c.if-holds_line.false, utf8, line) refl
