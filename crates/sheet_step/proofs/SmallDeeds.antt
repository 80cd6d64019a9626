-- what is put into a register of few levels leaves it one
use Rattle.std.proofs.Common.{◌≡◌, ℕ, zero, suc, ◌<◌, ◌≤◌, Bool, true, false, cond, nat_lt, List, [], ◌∷◌, ◌++◌, map, Option, Some, None, option_map, refl, ap, subst, ◌∙◌, arith}
use Rattle.std.specs.Prelude.{slice_get, slice_set}
use Rattle.std.specs.Str.{bytes_eq}
use Rattle.std.specs.Ordering.{nat_cmp}
use Rattle.std.specs.declared.cmp.Ordering.{Ordering}
use Rattle.std.specs.declared.cmp.Ordering.TheVariants.{Less, Equal, Greater}
use Rattle.std.specs.Cmp.Lexicographic.{slice_cmp}
use Rattle.std.proofs.lemmas.Bool.Decides.{nat_tests}
use Rattle.idl_tree.specs.Form.{greatest}
use Rattle.idl_tree.specs.Names.{Bytes}
use Rattle.typed_value.specs.Sizes.{level_step, levels_of}
use Rattle.typed_value.specs.declared.vals.Val.{Val, out-Val, map-Val}
use Rattle.typed_value.specs.declared.vals.Val.TheVariants as val
use Rattle.typed_value.specs.declared.vals.Val.TheOpen.{Val-F}
use Rattle.typed_value.specs.declared.vals.Val.TheFolds.{fold_out-Val}
use Rattle.typed_value.proofs.Opened.{levels_at_items, levels_at_map}
use Rattle.typed_value.proofs.Distinct.{first_true, second_true}
use Rattle.std.proofs.lemmas.Simd.{map-map}
use Rattle.rule_values.specs.Parts.{items_part, entries_part, items_of, entries_of}
use Rattle.sheet_step.specs.Levels.{is_within, are_within, is_small}
use Rattle.sheet_step.specs.Registers.{placed, with_entry, without_entry}
use Rattle.sheet_step.specs.Undoing.{change_of}
use Rattle.sheet_step.specs.declared.deeds.Deed.{Deed}
use Rattle.sheet_step.specs.declared.deeds.Deed.TheVariants as deed
use Rattle.sheet_step.specs.declared.TheConstants.{LEVEL_LIMIT}

abbrev Entry : Type 0
Entry = Bytes × Val

abbrev size : Entry → ℕ
size entry = levels_of entry.1

-- the levels of a value by its one layer
at_layer : (v : Val) (x : Val-F Val) → out-Val v ≡ x → levels_of v ≡ level_step (map-Val Val ℕ levels_of x)
at_layer v x is = fold_out-Val ℕ level_step v ∙ ap (λ (y : Val-F Val). level_step (map-Val Val ℕ levels_of y)) is

items_levels : (v : Val) (x : Val-F Val) (xs : List Val) → out-Val v ≡ x → items_part x ≡ Some xs → levels_of v ≡ suc (greatest (map levels_of xs))
items_levels v (Val-F.Items ys) xs is h = let same : ys ≡ xs = cc in at_layer v (Val-F.Items ys) is ∙ ap (λ (zs : List Val). suc (greatest (map levels_of zs))) same
items_levels v (Val-F.Bool b) xs is h = absurd (cc)
items_levels v (Val-F.Int z) xs is h = absurd (cc)
items_levels v (Val-F.Str s) xs is h = absurd (cc)
items_levels v (Val-F.Map es) xs is h = absurd (cc)
items_levels v (Val-F.Struct vs) xs is h = absurd (cc)
items_levels v (Val-F.Pick n) xs is h = absurd (cc)
items_levels v Val-F.Nothing xs is h = absurd (cc)
items_levels v (Val-F.Foreign d) xs is h = absurd (cc)

map_levels : (v : Val) (x : Val-F Val) (es : List Entry) → out-Val v ≡ x → entries_part x ≡ Some es → levels_of v ≡ suc (greatest (map size es))
map_levels v (Val-F.Map ys) es is h =
    let same : ys ≡ es = cc in
    at_layer v (Val-F.Map ys) is ∙ ap (λ (ns : List ℕ). suc (greatest ns)) (map-map (λ (entry : Bytes × ℕ). entry.1) (λ (entry : Entry). (entry.0, levels_of entry.1)) ys)
    ∙ ap (λ (zs : List Entry). suc (greatest (map size zs))) same
map_levels v (Val-F.Bool b) es is h = absurd (cc)
map_levels v (Val-F.Int z) es is h = absurd (cc)
map_levels v (Val-F.Str s) es is h = absurd (cc)
map_levels v (Val-F.Items vs) es is h = absurd (cc)
map_levels v (Val-F.Struct vs) es is h = absurd (cc)
map_levels v (Val-F.Pick n) es is h = absurd (cc)
map_levels v Val-F.Nothing es is h = absurd (cc)
map_levels v (Val-F.Foreign d) es is h = absurd (cc)

-- a bound on all parts, with one more, with one at a key, and with one less
items_more : (xs : List Val) (v : Val) (n : ℕ) → greatest (map levels_of xs) < n → levels_of v < n → greatest (map levels_of (xs ++ v ∷ [])) < n
items_more [] v n h k = omega arith
items_more (x ∷ xs) v n h k = omega (arith, items_more xs v n (omega arith) k)

placed_more : (o : Ordering) (new entry : Entry) (es behind : List Entry) (n : ℕ) → greatest (map size (entry ∷ es)) < n → size new < n
    → greatest (map size behind) < n → greatest (map size (placed o new entry es behind)) < n
placed_more Less new entry es behind n h k l = omega arith
placed_more Equal new entry es behind n h k l = omega arith
placed_more Greater new entry es behind n h k l = omega arith

entry_more : (key : Bytes) (v : Val) (es : List Entry) (n : ℕ) → greatest (map size es) < n → levels_of v < n → greatest (map size (with_entry key v es)) < n
entry_more key v [] n h k = omega arith
entry_more key v (entry ∷ es) n h k =
    placed_more (slice_cmp nat_cmp key entry.0) (key, v) entry es (with_entry key v es) n h k (entry_more key v es n (omega arith) k)

chosen_less : (b : Bool) (entry : Entry) (es behind : List Entry) (n : ℕ) → greatest (map size (entry ∷ es)) < n → greatest (map size behind) < n
    → greatest (map size (cond b es (entry ∷ behind))) < n
chosen_less true entry es behind n h k = omega arith
chosen_less false entry es behind n h k = omega arith

entry_less : (key : Bytes) (es : List Entry) (n : ℕ) → greatest (map size es) < n → greatest (map size (without_entry key es)) < n
entry_less key [] n h = h
entry_less key (entry ∷ es) n h = chosen_less (bytes_eq key entry.0) entry es (without_entry key es) n h (entry_less key es n (omega arith))

levels_at_most : (v : Val) → is_within v ≡ true → levels_of v ≤ 120
levels_at_most v h = grind (arith, nat_tests)

within_by : (v : Val) → levels_of v ≤ 120 → is_within v ≡ true
within_by v h = grind (arith, nat_tests)

below_by : (n : ℕ) → nat_lt n LEVEL_LIMIT ≡ true → n < 120
below_by n h = grind (arith, nat_tests)

push_kept : (v old new : Val) (o : Option (List Val)) → items_of old ≡ o → is_within old ≡ true → levels_of v < 120
    → option_map (λ (items : List Val). val.Items (items ++ v ∷ [])) o ≡ Some new → is_within new ≡ true
push_kept v old new None at h k is = let no : ◌≡◌ {A = Option Val} None (Some new) = is in absurd (cc)
push_kept v old new (Some xs) at h k is =
    let same : val.Items (xs ++ v ∷ []) ≡ new = cc in
    let before = items_levels old (out-Val old) xs refl at in
    let more = items_more xs v 120 (omega (arith, levels_at_most old h, before)) k in
    subst (λ (w : Val). is_within w ≡ true) same (within_by (val.Items (xs ++ v ∷ [])) (omega (arith, levels_at_items (xs ++ v ∷ []), more)))

map_kept : (old new : Val) (f : List Entry → List Entry) (o : Option (List Entry)) → entries_of old ≡ o → is_within old ≡ true
    → ((es : List Entry) → greatest (map size es) < 120 → greatest (map size (f es)) < 120)
    → option_map (λ (entries : List Entry). val.Map (f entries)) o ≡ Some new → is_within new ≡ true
map_kept old new f None at h keeps is = let no : ◌≡◌ {A = Option Val} None (Some new) = is in absurd (cc)
map_kept old new f (Some es) at h keeps is =
    let same : val.Map (f es) ≡ new = cc in
    let before = map_levels old (out-Val old) es refl at in
    let more = keeps es (omega (arith, levels_at_most old h, before)) in
    subst (λ (w : Val). is_within w ≡ true) same (within_by (val.Map (f es)) (omega (arith, levels_at_map (f es), more)))

pub small_kept : (d : Deed) (old new : Val) → is_small d ≡ true → is_within old ≡ true → change_of d old ≡ Some new → is_within new ≡ true
small_kept (deed.Set v) old new small h is = let same : v ≡ new = cc in subst (λ (w : Val). is_within w ≡ true) same small
small_kept (deed.Push v) old new small h is = push_kept v old new (items_of old) refl h (below_by (levels_of v) small) is
small_kept (deed.Put key v) old new small h is =
    map_kept old new (with_entry key v) (entries_of old) refl h (λ es k. entry_more key v es 120 k (below_by (levels_of v) small)) is
small_kept (deed.Drop key) old new small h is = map_kept old new (without_entry key) (entries_of old) refl h (λ es k. entry_less key es 120 k) is

-- the same of all registers
pub all_kept : (rs : List Val) (place : ℕ) (v : Val) → are_within rs ≡ true → is_within v ≡ true → are_within (slice_set rs place v) ≡ true
all_kept [] place v h k = refl
all_kept (r ∷ rs) zero v h k = rw (k, second_true (is_within r) (are_within rs) h) refl
all_kept (r ∷ rs) (suc place) v h k = rw (first_true (is_within r) (are_within rs) h, all_kept rs place v (second_true (is_within r) (are_within rs) h) k) refl

pub one_within : (rs : List Val) (place : ℕ) (v : Val) → are_within rs ≡ true → slice_get rs place ≡ Some v → is_within v ≡ true
one_within [] place v h is = absurd (cc)
one_within (r ∷ rs) zero v h is = let same : r ≡ v = cc in subst (λ (w : Val). is_within w ≡ true) same (first_true (is_within r) (are_within rs) h)
one_within (r ∷ rs) (suc place) v h is = one_within rs place v (second_true (is_within r) (are_within rs) h) is

-- and what is put in and has too many levels leaves it too many
items_least : (xs : List Val) (v : Val) → levels_of v ≤ greatest (map levels_of (xs ++ v ∷ []))
items_least [] v = omega arith
items_least (x ∷ xs) v = omega (arith, items_least xs v)

placed_least : (o : Ordering) (new entry : Entry) (es behind : List Entry) → size new ≤ greatest (map size behind)
    → size new ≤ greatest (map size (placed o new entry es behind))
placed_least Less new entry es behind h = omega arith
placed_least Equal new entry es behind h = omega arith
placed_least Greater new entry es behind h = omega arith

entry_least : (key : Bytes) (v : Val) (es : List Entry) → levels_of v ≤ greatest (map size (with_entry key v es))
entry_least key v [] = omega arith
entry_least key v (entry ∷ es) = placed_least (slice_cmp nat_cmp key entry.0) (key, v) entry es (with_entry key v es) (entry_least key v es)

deep_by : (v : Val) → 120 < levels_of v → is_within v ≡ false
deep_by v h = grind (arith, nat_tests)

at_least : (n : ℕ) → nat_lt n LEVEL_LIMIT ≡ false → 120 ≤ n
at_least n h = grind (arith, nat_tests)

push_deep : (v new : Val) (o : Option (List Val)) → 120 ≤ levels_of v
    → option_map (λ (items : List Val). val.Items (items ++ v ∷ [])) o ≡ Some new → is_within new ≡ false
push_deep v new None k is = let no : ◌≡◌ {A = Option Val} None (Some new) = is in absurd (cc)
push_deep v new (Some xs) k is =
    let same : val.Items (xs ++ v ∷ []) ≡ new = cc in
    subst (λ (w : Val). is_within w ≡ false) same (deep_by (val.Items (xs ++ v ∷ [])) (omega (arith, levels_at_items (xs ++ v ∷ []), items_least xs v)))

put_deep : (key : Bytes) (v new : Val) (o : Option (List Entry)) → 120 ≤ levels_of v
    → option_map (λ (entries : List Entry). val.Map (with_entry key v entries)) o ≡ Some new → is_within new ≡ false
put_deep key v new None k is = let no : ◌≡◌ {A = Option Val} None (Some new) = is in absurd (cc)
put_deep key v new (Some es) k is =
    let same : val.Map (with_entry key v es) ≡ new = cc in
    subst (λ (w : Val). is_within w ≡ false) same (deep_by (val.Map (with_entry key v es)) (omega (arith, levels_at_map (with_entry key v es), entry_least key v es)))

pub deep_left : (d : Deed) (old new : Val) → is_small d ≡ false → change_of d old ≡ Some new → is_within new ≡ false
deep_left (deed.Set v) old new small is = let same : v ≡ new = cc in subst (λ (w : Val). is_within w ≡ false) same small
deep_left (deed.Push v) old new small is = push_deep v new (items_of old) (at_least (levels_of v) small) is
deep_left (deed.Put key v) old new small is = put_deep key v new (entries_of old) (at_least (levels_of v) small) is
deep_left (deed.Drop key) old new small is = let no : true ≡ false = small in absurd (cc)
