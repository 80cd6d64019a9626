-- where a key stands among the entries of a map
use Rattle.std.proofs.Common.{◌≡◌, ℕ, suc, ◌+◌, ◌<◌, ◌≤◌, List, [], ◌∷◌, ◌++◌, length, get_or, take, drop, Bool, true, false, cond, sym, ap, ◌∙◌, arith}
use Rattle.std.specs.Prelude.{slice_set}
use Rattle.std.specs.List.{insert, remove}
use Rattle.std.specs.Str.{bytes_eq}
use Rattle.std.specs.Ordering.{nat_cmp}
use Rattle.std.specs.declared.cmp.Ordering.{Ordering}
use Rattle.std.specs.declared.cmp.Ordering.TheVariants.{Less, Equal, Greater}
use Rattle.std.specs.Cmp.Lexicographic.{slice_cmp}
use Rattle.std.proofs.lemmas.List.{drop_more, take_more, set_split, drop_all, take_all, append_assoc, append-nil}
use Rattle.idl_tree.specs.Names.{Bytes}
use Rattle.typed_value.specs.declared.vals.Val.{Val}
use Rattle.sheet_step.specs.Registers.{placed, with_entry, without_entry}

abbrev Entry : Type 0
Entry = Bytes × Val

-- the entries behind a place, the one at it first
cut : (es : List Entry) (i : ℕ) (entry : Entry) → i < length es → entry ≡ get_or es i entry → drop i es ≡ entry ∷ drop (i + 1) es
cut es i entry within is = drop_more es i entry within ∙ ap (λ (e : Entry). e ∷ drop (i + 1) es) (sym is)

one_more : (es : List Entry) (i : ℕ) (entry : Entry) → i < length es → entry ≡ get_or es i entry → take (i + 1) es ≡ take i es ++ entry ∷ []
one_more es i entry within is = take_more es i entry within ∙ ap (λ (e : Entry). take i es ++ e ∷ []) (sym is)

here : (key : Bytes) (v : Val) (es : List Entry) (i : ℕ) (entry : Entry) (o : Ordering) → i < length es → entry ≡ get_or es i entry
    → slice_cmp nat_cmp key entry.0 ≡ o
    → with_entry key v (drop i es) ≡ placed o (key, v) entry (drop (i + 1) es) (with_entry key v (drop (i + 1) es))
here key v es i entry o within is at = ap (with_entry key v) (cut es i entry within is)
    ∙ ap (λ (p : Ordering). placed p (key, v) entry (drop (i + 1) es) (with_entry key v (drop (i + 1) es))) at

pub passed : (key : Bytes) (v : Val) (es : List Entry) (i : ℕ) (entry : Entry) → i < length es → entry ≡ get_or es i entry
    → slice_cmp nat_cmp key entry.0 ≡ Greater → with_entry key v es ≡ take i es ++ with_entry key v (drop i es)
    → with_entry key v es ≡ take (i + 1) es ++ with_entry key v (drop (i + 1) es)
passed key v es i entry within is at so =
    so ∙ ap (λ (rest : List Entry). take i es ++ rest) (here key v es i entry Greater within is at)
    ∙ sym (append_assoc (take i es) (entry ∷ []) (with_entry key v (drop (i + 1) es)))
    ∙ ap (λ (front : List Entry). front ++ with_entry key v (drop (i + 1) es)) (sym (one_more es i entry within is))

pub met : (key : Bytes) (v : Val) (es : List Entry) (i : ℕ) (entry : Entry) → i < length es → entry ≡ get_or es i entry
    → slice_cmp nat_cmp key entry.0 ≡ Equal → with_entry key v es ≡ take i es ++ with_entry key v (drop i es)
    → with_entry key v es ≡ slice_set es i (key, v)
met key v es i entry within is at so =
    let next : suc i ≡ i + 1 = omega arith in
    so ∙ ap (λ (rest : List Entry). take i es ++ rest) (here key v es i entry Equal within is at)
    ∙ sym (set_split es i (key, v) within ∙ ap (λ (n : ℕ). take i es ++ (key, v) ∷ drop n es) next)

pub stopped : (key : Bytes) (v : Val) (es : List Entry) (i : ℕ) (entry : Entry) → i < length es → entry ≡ get_or es i entry
    → slice_cmp nat_cmp key entry.0 ≡ Less → with_entry key v es ≡ take i es ++ with_entry key v (drop i es)
    → with_entry key v es ≡ insert es i (key, v)
stopped key v es i entry within is at so =
    so ∙ ap (λ (rest : List Entry). take i es ++ rest) (here key v es i entry Less within is at)
    ∙ ap (λ (rest : List Entry). take i es ++ (key, v) ∷ rest) (sym (cut es i entry within is))

pub ended : (key : Bytes) (v : Val) (es : List Entry) (i n : ℕ) → length es ≤ i → n ≡ i → i ≤ length es
    → with_entry key v es ≡ take i es ++ with_entry key v (drop i es) → with_entry key v es ≡ insert es n (key, v)
ended key v es i n past at within so =
    so ∙ ap (λ (rest : List Entry). take i es ++ with_entry key v rest) (drop_all i es past)
    ∙ ap (λ (rest : List Entry). take i es ++ (key, v) ∷ rest) (sym (drop_all i es past))
    ∙ ap (λ (m : ℕ). insert es m (key, v)) (sym at)

-- the same of an entry that goes
pub left_more : (key : Bytes) (es : List Entry) (i : ℕ) (entry : Entry) → i < length es → entry ≡ get_or es i entry
    → bytes_eq key entry.0 ≡ false → without_entry key es ≡ take i es ++ without_entry key (drop i es)
    → without_entry key es ≡ take (i + 1) es ++ without_entry key (drop (i + 1) es)
left_more key es i entry within is at so =
    so ∙ ap (λ (rest : List Entry). take i es ++ rest) (ap (without_entry key) (cut es i entry within is)
    ∙ ap (λ (b : Bool). cond b (drop (i + 1) es) (entry ∷ without_entry key (drop (i + 1) es))) at)
    ∙ sym (append_assoc (take i es) (entry ∷ []) (without_entry key (drop (i + 1) es)))
    ∙ ap (λ (front : List Entry). front ++ without_entry key (drop (i + 1) es)) (sym (one_more es i entry within is))

pub left_out : (key : Bytes) (es : List Entry) (i : ℕ) (entry : Entry) → i < length es → entry ≡ get_or es i entry
    → bytes_eq key entry.0 ≡ true → without_entry key es ≡ take i es ++ without_entry key (drop i es)
    → without_entry key es ≡ remove es i
left_out key es i entry within is at so =
    let next : i + 1 ≡ suc i = omega arith in
    so ∙ ap (λ (rest : List Entry). take i es ++ rest) (ap (without_entry key) (cut es i entry within is)
    ∙ ap (λ (b : Bool). cond b (drop (i + 1) es) (entry ∷ without_entry key (drop (i + 1) es))) at)
    ∙ ap (λ (n : ℕ). take i es ++ drop n es) next

pub left_all : (key : Bytes) (es : List Entry) (i : ℕ) → length es ≤ i
    → without_entry key es ≡ take i es ++ without_entry key (drop i es) → without_entry key es ≡ es
left_all key es i past so =
    so ∙ ap (λ (rest : List Entry). take i es ++ without_entry key rest) (drop_all i es past) ∙ append-nil (take i es) ∙ take_all i es past
