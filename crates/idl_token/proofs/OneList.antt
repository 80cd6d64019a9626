-- a text has at most one list of items
use Rattle.std.proofs.Common.{◌≡◌, ◌<◌, [], ◌∷◌, Option, Some, None, length, refl, sym, ap, ◌∙◌, subst, arith}
use Rattle.idl_token.specs.Lex.{Bytes, Lexeme, Lexemes, Begins, Lex, first_item, after_blanks}

item_of : (i j : Lexeme) (r s : Bytes) → ◌≡◌ {A = Option (Lexeme × Bytes)} (Some (i, r)) (Some (j, s)) → (i ≡ j) × (r ≡ s)
item_of i j r s p =
    let q : ◌≡◌ {A = Lexeme × Bytes} (i, r) (j, s) = cc in (ap (λ (x : Lexeme × Bytes). x.0) q, ap (λ (x : Lexeme × Bytes). x.1) q)

-- an item begins no text that is blanks alone
no_item : (bytes : Bytes) (found : Lexeme × Bytes) → bytes ≡ [] → first_item bytes ≡ Some found → ⊥
no_item bytes found empty item =
    let none : None ≡ Some found = subst (λ (t : Bytes). first_item t ≡ Some found) empty item in cc

-- two runs of items over one text, of which the second ends the text: the first one is a part of it
pub same_items : (items others : Lexemes) (text rest end : Bytes) → Begins items text rest → Begins others text end
    → after_blanks rest ≡ [] → after_blanks end ≡ [] → items ≡ others
same_items [] [] text rest end b c e f = refl
same_items [] (j ∷ js) text rest end b (more, item, c) e f =
    absurd (no_item (after_blanks text) (j, more) (ap after_blanks b ∙ e) item)
same_items (i ∷ is) [] text rest end (more, item, b) c e f =
    absurd (no_item (after_blanks text) (i, more) (ap after_blanks c ∙ f) item)
same_items (i ∷ is) (j ∷ js) text rest end (more, item, b) (more', item', c) e f =
    let same = item_of i j more more' (sym item ∙ item') in
    let c' : Begins js more end = subst (λ (t : Bytes). Begins js t end) (sym same.1) c in
    let tail : is ≡ js = same_items is js more rest end b c' e f in
    let head : i ≡ j = same.0 in cc

-- where a run of items stops before a byte that begins none, no run of items ends the text
pub stuck : (items others : Lexemes) (text rest end : Bytes) → Begins items text rest → Begins others text end
    → first_item (after_blanks rest) ≡ None → 0 < length (after_blanks rest) → after_blanks end ≡ [] → ⊥
stuck [] [] text rest end b c n l f =
    let same : after_blanks rest ≡ [] = ap after_blanks (sym b ∙ c) ∙ f in
    let none : length (after_blanks rest) ≡ 0 = ap length same in omega arith
stuck [] (j ∷ js) text rest end b (more, item, c) n l f =
    let none : first_item (after_blanks text) ≡ None = ap (λ (t : Bytes). first_item (after_blanks t)) b ∙ n in
    let other : ◌≡◌ {A = Option (Lexeme × Bytes)} None (Some (j, more)) = sym none ∙ item in cc
stuck (i ∷ is) [] text rest end (more, item, b) c n l f =
    no_item (after_blanks text) (i, more) (ap after_blanks c ∙ f) item
stuck (i ∷ is) (j ∷ js) text rest end (more, item, b) (more', item', c) n l f =
    let same = item_of i j more more' (sym item ∙ item') in
    let c' : Begins js more end = subst (λ (t : Bytes). Begins js t end) (sym same.1) c in
    stuck is js more rest end b c' n l f

pub one_lex : (items others : Lexemes) (text : Bytes) → Lex items text → Lex others text → items ≡ others
one_lex items others text (u, (rest, b, e)) (v, (end, c, f)) = same_items items others text rest end b c e f
