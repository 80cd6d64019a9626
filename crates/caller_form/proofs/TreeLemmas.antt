-- Tokens read as trees, an item or a member at a time, where a number out of range is none.
use Rattle.std.proofs.Common.{◌≡◌, ℕ, zero, suc, ◌-◌, ◌<◌, ◌≤◌, List, [], ◌∷◌, length, Option, Some, None, option_map, option_and_then, refl, ap, ◌∙◌}
use Rattle.json.specs.Token.{Token}
use Rattle.json.specs.Json as json
use Rattle.json.specs.Json.{Parse, parse_map, after_end_array, read_key, items_step, items, members, if_last}
use Rattle.json.proofs.Grammar.{items_end, items_more, members_end, members_no_key, members_more}
use Rattle.serde_json.specs.Data.{Data, array, object, no_items, item, Members, no_members, put}
use Rattle.serde_json.specs.Read.{of_json, of_items, of_members, converted}

-- ---- what is converted

abbrev or_else : {A : Type 0} → A → Option A → A
or_else a None = a
or_else a (Some b) = b

kept : {A B : Type 0} (a : A) (ts rest : List Token) (found : Option B) (b : B) →
    option_map {U = B × List Token} (λ y. (y, ts)) found ≡ Some (b, rest) → (ts ≡ rest) × (found ≡ Some b)
kept a ts rest None b is = absurd cc
kept a ts rest (Some y) b is = let same = ap (or_else (y, ts)) is in (ap (λ p. p.1) same, ap (λ p. Some p.0) same)

pub converted_some : {A B : Type 0} (f : A → Option B) (there : Option (A × List Token)) (b : B) (rest : List Token) →
    converted f there ≡ Some (b, rest) → (a : A) × (there ≡ Some (a, rest)) × (f a ≡ Some b)
converted_some f None b rest is = absurd cc
converted_some f (Some p) b rest is =
    let both = kept p.0 p.1 rest (f p.0) b is in
    (p.0, ap (λ ts. Some (p.0, ts)) both.0, both.1)

not_kept : {B : Type 0} (ts : List Token) (found : Option B) → option_map {U = B × List Token} (λ y. (y, ts)) found ≡ None → found ≡ None
not_kept ts None is = refl
not_kept ts (Some y) is = absurd cc

mapped : {A B : Type 0} (g : A → B) (ts : List Token) (found : Option A) →
    option_map (λ b. (b, ts)) (option_map g found) ≡ parse_map g (option_map (λ a. (a, ts)) found)
mapped g ts None = refl
mapped g ts (Some a) = refl

pub converted-array : (there : Option (json.Items × List Token)) →
    converted of_json (parse_map json.array there) ≡ parse_map array (converted of_items there)
converted-array None = refl
converted-array (Some p) = mapped array p.1 (of_items p.0)

pub converted-object : (there : Option (json.Members × List Token)) →
    converted of_json (parse_map json.object there) ≡ parse_map object (converted (λ ms. of_members ms no_members) there)
converted-object None = refl
converted-object (Some p) = mapped object p.1 (of_members p.0 no_members)

-- ---- items

with_item : (j : json.Json) (tree : Data) → of_json j ≡ Some tree → (there : Option (json.Items × List Token)) →
    converted of_items (parse_map (json.item j) there) ≡ parse_map (item tree) (converted of_items there)
with_item j tree is None = refl
with_item j tree is (Some p) = rw is (mapped (item tree) p.1 (of_items p.0))

without_item : (j : json.Json) → of_json j ≡ None → (there : Option (json.Items × List Token)) →
    converted of_items (parse_map (json.item j) there) ≡ None
without_item j is None = refl
without_item j is (Some p) = rw is

module _ (p : Parse json.Json) where
  pub item_read : (n : ℕ) (ts rest : List Token) (tree : Data) → 0 < n → after_end_array ts ≡ None → converted of_json (p ts) ≡ Some (tree, rest) →
      converted of_items (items p n ts) ≡ parse_map (item tree) (converted of_items (items p (n - 1) rest))
  item_read n ts rest tree some going is =
      let j = converted_some of_json (p ts) tree rest is in
      ap (converted of_items) (items_more p n ts rest j.0 some going j.1) ∙ with_item j.0 tree j.2 _

  no_item : (more : Parse json.Items) (there : Option (json.Json × List Token)) → converted of_json there ≡ None →
      converted of_items (option_and_then (λ q. parse_map (json.item q.0) (more q.1)) there) ≡ None
  no_item more None is = refl
  no_item more (Some q) is = without_item q.0 (not_kept q.1 (of_json q.0) is) (more q.1)

  pub item_refused : (n : ℕ) (ts : List Token) → after_end_array ts ≡ None → converted of_json (p ts) ≡ None →
      converted of_items (items p n ts) ≡ None
  unfolding items
  item_refused zero ts going is = refl
  item_refused (suc n) ts going is =
      ap (λ o. converted of_items (items_step p (items p n) ts o)) going ∙ no_item (items p n) (p ts) is

  pub items_over : (n : ℕ) (ts rest : List Token) → length ts ≤ n → after_end_array ts ≡ Some rest →
      converted of_items (items p n ts) ≡ Some (no_items, rest)
  items_over n ts rest enough is = ap (converted of_items) (items_end p n ts rest enough is)

-- ---- members, behind those found before

module _ (before : Members) where
  with_member : (name : List ℕ) (j : json.Json) (tree : Data) → of_json j ≡ Some tree → (there : Option (json.Members × List Token)) →
      converted (λ ms. of_members ms before) (parse_map (json.member name j) there) ≡ converted (λ ms. of_members ms (put name tree before)) there
  with_member name j tree is None = refl
  with_member name j tree is (Some p) = rw is

  without_member : (name : List ℕ) (j : json.Json) → of_json j ≡ None → (there : Option (json.Members × List Token)) →
      converted (λ ms. of_members ms before) (parse_map (json.member name j) there) ≡ None
  without_member name j is None = refl
  without_member name j is (Some p) = rw is

module _ (p : Parse json.Json) (before : Members) where
  pub member_read : (n : ℕ) (name : List ℕ) (ts behind rest : List Token) (tree : Data) → 0 < n → read_key ts ≡ Some (Some name, behind) → converted of_json (p behind) ≡ Some (tree, rest) →
      converted (λ ms. of_members ms before) (members p n ts) ≡ converted (λ ms. of_members ms (put name tree before)) (members p (n - 1) rest)
  member_read n name ts behind rest tree some key is =
      let j = converted_some of_json (p behind) tree rest is in
      ap (converted (λ ms. of_members ms before)) (members_more p n name ts behind rest j.0 some key j.1) ∙ with_member before name j.0 tree j.2 _

  no_member : (name : List ℕ) (more : Parse json.Members) (there : Option (json.Json × List Token)) → converted of_json there ≡ None →
      converted (λ ms. of_members ms before) (option_and_then (λ q. parse_map (json.member name q.0) (more q.1)) there) ≡ None
  no_member name more None is = refl
  no_member name more (Some q) is = without_member before name q.0 (not_kept q.1 (of_json q.0) is) (more q.1)

  pub member_refused : (n : ℕ) (name : List ℕ) (ts behind : List Token) → read_key ts ≡ Some (Some name, behind) → converted of_json (p behind) ≡ None →
      converted (λ ms. of_members ms before) (members p n ts) ≡ None
  unfolding members
  member_refused zero name ts behind key is = refl
  member_refused (suc n) name ts behind key is = rw key (no_member name (members p n) (p behind) is)

  pub key_refused : (n : ℕ) (ts : List Token) → read_key ts ≡ None → converted (λ ms. of_members ms before) (members p n ts) ≡ None
  key_refused n ts is = ap (converted (λ ms. of_members ms before)) (members_no_key p n ts is)

  pub members_over : (n : ℕ) (ts rest : List Token) → length ts ≤ n → read_key ts ≡ Some (None, rest) →
      converted (λ ms. of_members ms before) (members p n ts) ≡ Some (before, rest)
  members_over n ts rest enough is = ap (converted (λ ms. of_members ms before)) (members_end p n ts rest enough is)

-- ---- the whole text

abbrev whole : Option (json.Json × List Token) → Option Data
whole there = option_and_then of_json (option_and_then (λ p. if_last p.0 p.1) there)

pub whole_read : (there : Option (json.Json × List Token)) (tree : Data) → converted of_json there ≡ Some (tree, []) → whole there ≡ Some tree
whole_read there tree is = let j = converted_some of_json there tree [] is in ap whole j.1 ∙ j.2

pub whole_and_more : (there : Option (json.Json × List Token)) (tree : Data) (t : Token) (ts : List Token) →
    converted of_json there ≡ Some (tree, t ∷ ts) → whole there ≡ None
whole_and_more there tree t ts is = ap whole (converted_some of_json there tree (t ∷ ts) is).1

pub whole_refused : (there : Option (json.Json × List Token)) → converted of_json there ≡ None → whole there ≡ None
whole_refused None is = refl
whole_refused (Some (j, [])) is = not_kept [] (of_json j) is
whole_refused (Some (j, t ∷ ts)) is = refl
