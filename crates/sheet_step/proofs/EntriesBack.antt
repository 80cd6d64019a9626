-- a change of a map's entries, undone
use Rattle.std.proofs.Common.{◌≡◌, ℕ, zero, suc, ◌<◌, ◌≤◌, List, [], ◌∷◌, length, set, Some, option_map, refl, sym, ap, ◌∙◌, arith}
use Rattle.std.specs.Prelude.{slice_get, slice_set}
use Rattle.std.specs.List.{insert, remove}
use Rattle.std.proofs.lemmas.List.{get_or-set_same, set-set, set-get_or, length-set}
use Rattle.std.proofs.lemmas.Option.{slice_get_within, slice_get-get_or, get_or_from_slice_get}
use Rattle.idl_tree.specs.Names.{Bytes}
use Rattle.typed_value.specs.declared.vals.Val.{Val}
use Rattle.sheet_step.specs.Undoing.{entries_turned, TurnsEntries}
use Rattle.sheet_step.specs.declared.backs.Back.TheVariants.{Restore, Remove}

abbrev Entry : Type 0
Entry = Bytes × Val

removed : (es : List Entry) (i : ℕ) (y : Entry) → i ≤ length es → remove (insert es i y) i ≡ es
removed [] zero y le = refl
removed [] (suc i) y le = absurd (omega arith)
removed (e ∷ es) zero y le = refl
removed (e ∷ es) (suc i) y le = ap (λ (rest : List Entry). e ∷ rest) (removed es i y (omega arith))

inserted : (es : List Entry) (i : ℕ) (y : Entry) → i ≤ length es → slice_get (insert es i y) i ≡ Some y
inserted [] zero y le = refl
inserted [] (suc i) y le = absurd (omega arith)
inserted (e ∷ es) zero y le = refl
inserted (e ∷ es) (suc i) y le = inserted es i y (omega arith)

pub insert_back : (es new : List Entry) (i : ℕ) (y : Entry) → i ≤ length es → new ≡ insert es i y → TurnsEntries (insert es i y) es new (Remove i)
insert_back es new i y le is = record {
  done = is;
  back = ap (entries_turned (Remove i)) is ∙ (ap (option_map (λ (e : Entry). remove (insert es i y) i)) (inserted es i y le) ∙ ap Some (removed es i y le));
}

kept : (es : List Entry) (i : ℕ) (e : Entry) → slice_get es i ≡ Some e → slice_set es i e ≡ es
kept es i e is = ap (λ (x : Entry). set es i x) (sym (get_or_from_slice_get es i e e is)) ∙ set-get_or es i e

put : (es : List Entry) (i : ℕ) (e f : Entry) → slice_get es i ≡ Some e → slice_get (slice_set es i f) i ≡ Some f
put es i e f is =
    let within : i < length es = slice_get_within es i e is in
    slice_get-get_or (set es i f) i f (omega (arith, length-set es i f)) ∙ ap Some (get_or-set_same es i f f within)

pub replace_back : (es : List Entry) (i : ℕ) (e : Entry) (v : Val) (key : Bytes) → slice_get es i ≡ Some e → option_map (λ (entry : Entry). entry.0) (slice_get es i) ≡ Some key
    → TurnsEntries (slice_set es i (key, v)) es (slice_set es i (e.0, v)) (Restore i e.1)
replace_back es i e v key is here =
    let same : Some e.0 ≡ Some key = sym (ap (option_map (λ (entry : Entry). entry.0)) is) ∙ here in
    let key_is : e.0 ≡ key = cc in
    record {
      done = ap (λ (k : Bytes). slice_set es i (k, v)) key_is;
      back = ap (option_map (λ (entry : Entry). slice_set (slice_set es i (e.0, v)) i (entry.0, e.1))) (put es i e (e.0, v) is)
          ∙ ap Some (set-set es i (e.0, v) e ∙ kept es i e is);
    }
