-- The code of a JSON tree, by which a proof tells two trees apart. Each kind of node has a tag of its own.
use Rattle.std.specs.Prelude.{◌≡◌, ℕ, refl}
use Rattle.std.proofs.Common.{ap, arith}
use base.Stored.{Gv, gnil, gnum, gcons, Coded, coded_ℕ, coded_bool, coded_ℤ, coded_list, coded_float, num}
use Rattle.serde_json.specs.Data.{Num, unsigned, negative, float, Data, null, boolean, number, string, array, object, Items, no_items, item, Members, no_members, member}

-- a tag, and what stands under it
abbrev tagged : ℕ → Gv → Gv
tagged tag below = gcons (gnum tag) below

abbrev tag_of : Gv → ℕ
tag_of gnil = 0
tag_of (gnum n) = 0
tag_of (gcons a b) = num a

abbrev first_of : Gv → Gv
first_of gnil = gnil
first_of (gnum n) = gnil
first_of (gcons a b) = a

abbrev below : Gv → Gv
below gnil = gnil
below (gnum n) = gnil
below (gcons a b) = b

apart : (a b : Gv) → a ≡ b → tag_of a ≡ tag_of b
apart a b p = ap tag_of p

abbrev num_code : Num → Gv
num_code (unsigned n) = tagged 1 (gnum n)
num_code (negative z) = tagged 2 (coded_ℤ.code z)
num_code (float x) = tagged 3 (coded_float.code x)

num_inj : (x y : Num) → num_code x ≡ num_code y → x ≡ y
num_inj (unsigned m) (unsigned n) p = ap unsigned (coded_ℕ.inj m n (ap below p))
num_inj (negative y) (negative z) p = ap negative (coded_ℤ.inj y z (ap below p))
num_inj (float x) (float y) p = ap float (coded_float.inj x y (ap below p))
num_inj x y p = absurd (let e = apart _ _ p in omega arith)

abbrev mutual
  data_code : Data → Gv
  data_code null = tagged 1 gnil
  data_code (boolean b) = tagged 2 (coded_bool.code b)
  data_code (number n) = tagged 3 (num_code n)
  data_code (string s) = tagged 4 ((coded_list coded_ℕ).code s)
  data_code (array ds) = tagged 5 (items_code ds)
  data_code (object ms) = tagged 6 (members_code ms)

  items_code : Items → Gv
  items_code no_items = tagged 1 gnil
  items_code (item d ds) = tagged 2 (gcons (data_code d) (items_code ds))

  members_code : Members → Gv
  members_code no_members = tagged 1 gnil
  members_code (member k d ms) =
      tagged 2 (gcons ((coded_list coded_ℕ).code k) (gcons (data_code d) (members_code ms)))

mutual
  pub data_inj : (x y : Data) → data_code x ≡ data_code y → x ≡ y
  data_inj null null p = refl
  data_inj (boolean a) (boolean b) p = ap boolean (coded_bool.inj a b (ap below p))
  data_inj (number m) (number n) p = ap number (num_inj m n (ap below p))
  data_inj (string s) (string t) p = ap string ((coded_list coded_ℕ).inj s t (ap below p))
  data_inj (array ds) (array es) p = ap array (items_inj ds es (ap below p))
  data_inj (object ms) (object ns) p = ap object (members_inj ms ns (ap below p))
  data_inj x y p = absurd (let e = apart _ _ p in omega arith)

  pub items_inj : (x y : Items) → items_code x ≡ items_code y → x ≡ y
  items_inj no_items no_items p = refl
  items_inj (item d ds) (item e es) p =
      λ i. item (data_inj d e (ap first_of (ap below p)) i) (items_inj ds es (ap below (ap below p)) i)
  items_inj x y p = absurd (let e = apart _ _ p in omega arith)

  pub members_inj : (x y : Members) → members_code x ≡ members_code y → x ≡ y
  members_inj no_members no_members p = refl
  members_inj (member k d ms) (member l e ns) p =
      λ i. member ((coded_list coded_ℕ).inj k l (ap first_of (ap below p)) i)
      (data_inj d e (ap first_of (ap below (ap below p))) i) (members_inj ms ns (ap below (ap below (ap below p))) i)
  members_inj x y p = absurd (let e = apart _ _ p in omega arith)

abbrev pub coded_data : Coded Data
coded_data = record { code = data_code; inj = data_inj }
