-- the keys of a map stay in order, and its values of their type, with an entry more, changed or less
use Rattle.std.proofs.Common.{◌≡◌, Bool, true, false, ◌&&◌, cond, List, [], ◌∷◌, ◌++◌, map, Ordering, Less, Equal, Greater, refl, ap, ◌∙◌}
use Rattle.std.specs.List.{list_all}
use Rattle.std.specs.Str.{bytes_eq}
use Rattle.std.specs.Ordering.{nat_cmp, is_lt, ordering_reverse}
use Rattle.std.specs.Cmp.Lexicographic.{slice_cmp}
use Rattle.std.proofs.lemmas.Cmp.{nat_list_cmp_total}
use Rattle.idl_tree.specs.Names.{Bytes}
use Rattle.typed_value.specs.KeyOrder.{is_before_all, are_in_order}
use Rattle.typed_value.specs.declared.vals.Val.{Val}
use Rattle.typed_value.proofs.Distinct.{first_true, second_true}
use Rattle.typed_value.proofs.EntriesBack.{less_is, both}
use Rattle.step_laws.proofs.ValueParts.{Entry}
use Rattle.sheet_step.specs.Registers.{placed, with_entry, without_entry}

abbrev cmp : Bytes → Bytes → Ordering
cmp = slice_cmp nat_cmp

abbrev pub keys : List Entry → List Bytes
keys entries = map (λ (entry : Entry). entry.0) entries

-- a key before another is before all that it is before
farther : (k l : Bytes) (ms : List Bytes) → is_lt (cmp k l) ≡ true → is_before_all l ms ≡ true → is_before_all k ms ≡ true
farther k l [] kl h = refl
farther k l (m ∷ ms) kl h =
    let lm = first_true (is_lt (cmp l m)) (is_before_all l ms) h in
    let km = nat_list_cmp_total.trans k l m (less_is (cmp k l) kl) (less_is (cmp l m) lm) in
    both (is_lt (cmp k m)) _ (ap is_lt km) (farther k l ms kl (second_true (is_lt (cmp l m)) (is_before_all l ms) h))

alike : (k l : Bytes) (ms : List Bytes) → cmp k l ≡ Equal → is_before_all k ms ≡ is_before_all l ms
alike k l [] is = refl
alike k l (m ∷ ms) is =
    λ i. is_lt (nat_list_cmp_total.congr k l m is i) && alike k l ms is i

module _ (key : Bytes) (v : Val) where
  before_placed : (k : Bytes) (o : Ordering) (entry : Entry) (entries behind : List Entry) → is_lt (cmp k key) ≡ true
      → is_before_all k (keys (entry ∷ entries)) ≡ true → is_before_all k (keys behind) ≡ true
      → is_before_all k (keys (placed o (key, v) entry entries behind)) ≡ true
  before_placed k Less entry entries behind new h rest = both (is_lt (cmp k key)) _ new h
  before_placed k Equal entry entries behind new h rest =
      both (is_lt (cmp k key)) _ new (second_true (is_lt (cmp k entry.0)) _ h)
  before_placed k Greater entry entries behind new h rest =
      both (is_lt (cmp k entry.0)) _ (first_true (is_lt (cmp k entry.0)) _ h) rest

  before_with : (k : Bytes) (entries : List Entry) → is_lt (cmp k key) ≡ true → is_before_all k (keys entries) ≡ true
      → is_before_all k (keys (with_entry key v entries)) ≡ true
  before_with k [] new h = both (is_lt (cmp k key)) true new refl
  before_with k (entry ∷ entries) new h =
      before_placed k (cmp key entry.0) entry entries (with_entry key v entries) new h
      (before_with k entries new (second_true (is_lt (cmp k entry.0)) _ h))

  order_placed : (o : Ordering) (entry : Entry) (entries behind : List Entry) → cmp key entry.0 ≡ o → are_in_order (keys (entry ∷ entries)) ≡ true
      → are_in_order (keys behind) ≡ true → (is_lt (cmp entry.0 key) ≡ true → is_before_all entry.0 (keys behind) ≡ true)
      → are_in_order (keys (placed o (key, v) entry entries behind)) ≡ true
  order_placed Less entry entries behind is h rest before =
      let less = ap is_lt is in
      both (is_before_all key (keys (entry ∷ entries))) _
      (both (is_lt (cmp key entry.0)) _ less (farther key entry.0 (keys entries) less (first_true (is_before_all entry.0 (keys entries)) _ h))) h
  order_placed Equal entry entries behind is h rest before =
      both (is_before_all key (keys entries)) _
      (alike key entry.0 (keys entries) is ∙ first_true (is_before_all entry.0 (keys entries)) _ h)
      (second_true (is_before_all entry.0 (keys entries)) _ h)
  order_placed Greater entry entries behind is h rest before =
      let less = ap is_lt (nat_list_cmp_total.antisymm entry.0 key ∙ ap ordering_reverse is) in
      both (is_before_all entry.0 (keys behind)) _ (before less) rest

  pub order_with : (entries : List Entry) → are_in_order (keys entries) ≡ true → are_in_order (keys (with_entry key v entries)) ≡ true
  order_with [] h = refl
  order_with (entry ∷ entries) h =
      order_placed (cmp key entry.0) entry entries (with_entry key v entries) refl h
      (order_with entries (second_true (is_before_all entry.0 (keys entries)) _ h))
      (λ less. before_with entry.0 entries less (first_true (is_before_all entry.0 (keys entries)) _ h))

  each_placed : (test : Entry → Bool) (o : Ordering) (entry : Entry) (entries behind : List Entry) → test (key, v) ≡ true
      → list_all test (entry ∷ entries) ≡ true → list_all test behind ≡ true → list_all test (placed o (key, v) entry entries behind) ≡ true
  each_placed test Less entry entries behind new h rest = both (test (key, v)) _ new h
  each_placed test Equal entry entries behind new h rest = both (test (key, v)) _ new (second_true (test entry) _ h)
  each_placed test Greater entry entries behind new h rest = both (test entry) _ (first_true (test entry) _ h) rest

  pub each_with : (test : Entry → Bool) (entries : List Entry) → test (key, v) ≡ true → list_all test entries ≡ true
      → list_all test (with_entry key v entries) ≡ true
  each_with test [] new h = both (test (key, v)) true new refl
  each_with test (entry ∷ entries) new h =
      each_placed test (cmp key entry.0) entry entries (with_entry key v entries) new h (each_with test entries new (second_true (test entry) _ h))

module _ (key : Bytes) where
  before_left : (k : Bytes) (b : Bool) (entry : Entry) (entries behind : List Entry) → is_before_all k (keys (entry ∷ entries)) ≡ true
      → is_before_all k (keys behind) ≡ true → is_before_all k (keys (cond b entries (entry ∷ behind))) ≡ true
  before_left k true entry entries behind h rest = second_true (is_lt (cmp k entry.0)) _ h
  before_left k false entry entries behind h rest = both (is_lt (cmp k entry.0)) _ (first_true (is_lt (cmp k entry.0)) _ h) rest

  before_without : (k : Bytes) (entries : List Entry) → is_before_all k (keys entries) ≡ true → is_before_all k (keys (without_entry key entries)) ≡ true
  before_without k [] h = refl
  before_without k (entry ∷ entries) h =
      before_left k (bytes_eq key entry.0) entry entries (without_entry key entries) h
      (before_without k entries (second_true (is_lt (cmp k entry.0)) _ h))

  order_left : (b : Bool) (entry : Entry) (entries behind : List Entry) → are_in_order (keys entries) ≡ true
      → is_before_all entry.0 (keys behind) ≡ true → are_in_order (keys behind) ≡ true → are_in_order (keys (cond b entries (entry ∷ behind))) ≡ true
  order_left true entry entries behind h before rest = h
  order_left false entry entries behind h before rest = both (is_before_all entry.0 (keys behind)) _ before rest

  pub order_without : (entries : List Entry) → are_in_order (keys entries) ≡ true → are_in_order (keys (without_entry key entries)) ≡ true
  order_without [] h = refl
  order_without (entry ∷ entries) h =
      let rest = second_true (is_before_all entry.0 (keys entries)) _ h in
      order_left (bytes_eq key entry.0) entry entries (without_entry key entries) rest
      (before_without entry.0 entries (first_true (is_before_all entry.0 (keys entries)) _ h)) (order_without entries rest)

  each_left : (test : Entry → Bool) (b : Bool) (entry : Entry) (entries behind : List Entry) → list_all test (entry ∷ entries) ≡ true
      → list_all test behind ≡ true → list_all test (cond b entries (entry ∷ behind)) ≡ true
  each_left test true entry entries behind h rest = second_true (test entry) _ h
  each_left test false entry entries behind h rest = both (test entry) _ (first_true (test entry) _ h) rest

  pub each_without : (test : Entry → Bool) (entries : List Entry) → list_all test entries ≡ true → list_all test (without_entry key entries) ≡ true
  each_without test [] h = refl
  each_without test (entry ∷ entries) h =
      each_left test (bytes_eq key entry.0) entry entries (without_entry key entries) h (each_without test entries (second_true (test entry) _ h))

pub all_pushed : (test : Val → Bool) (values : List Val) (v : Val) → test v ≡ true → list_all test values ≡ true → list_all test (values ++ v ∷ []) ≡ true
all_pushed test [] v new h = both (test v) true new refl
all_pushed test (w ∷ values) v new h = both (test w) _ (first_true (test w) _ h) (all_pushed test values v new (second_true (test w) _ h))
