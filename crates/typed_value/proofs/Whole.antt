-- a value of whole numbers, one level opened
use Rattle.std.proofs.Common.{◌≡◌, ℕ, zero, suc, ◌<◌, Bool, true, ◌&&◌, List, [], ◌∷◌, length, get_or, map, refl, ap, ◌∙◌, arith}
use Rattle.std.specs.List.{list_all}
use Rattle.idl_tree.specs.Names.{Bytes}
use Rattle.typed_value.specs.Sizes.{is_whole, whole_step, entries_are_whole}
use Rattle.typed_value.specs.declared.vals.Val.{Val}
use Rattle.typed_value.specs.declared.vals.Val.TheVariants.{Items, Map, Struct}
use Rattle.typed_value.proofs.Distinct.{first_true, second_true}
use Rattle.typed_value.proofs.Opened.{items_opens, map_opens, struct_opens, entry_folds}

each : (values : List Val) → list_all (λ (whole : Bool). whole) (map is_whole values) ≡ list_all is_whole values
each [] = refl
each (value ∷ values) = ap (λ (rest : Bool). is_whole value && rest) (each values)

each_entry : (entries : List (Bytes × Val)) → list_all (λ (entry : Bytes × Bool). entry.1) (map (entry_folds Bool whole_step) entries) ≡ entries_are_whole entries
each_entry [] = refl
each_entry (entry ∷ entries) = ap (λ (rest : Bool). is_whole entry.1 && rest) (each_entry entries)

pub items_whole : (values : List Val) → is_whole (Items values) ≡ list_all is_whole values
items_whole values = items_opens Bool whole_step values ∙ each values

pub map_whole : (entries : List (Bytes × Val)) → is_whole (Map entries) ≡ entries_are_whole entries
map_whole entries = map_opens Bool whole_step entries ∙ each_entry entries

pub struct_whole : (values : List Val) → is_whole (Struct values) ≡ list_all is_whole values
struct_whole values = struct_opens Bool whole_step values ∙ each values

pub each_at : {A : Type 0} (p : A → Bool) (xs : List A) (i : ℕ) (x : A) → list_all p xs ≡ true → i < length xs → x ≡ get_or xs i x → p x ≡ true
each_at p [] i x h within is = absurd (omega arith)
each_at p (y ∷ ys) zero x h within is = ap p is ∙ first_true (p y) (list_all p ys) h
each_at p (y ∷ ys) (suc i) x h within is = each_at p ys i x (second_true (p y) (list_all p ys) h) (omega arith) is
