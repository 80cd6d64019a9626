-- a map's entries in byte order, as the members of an object
use Rattle.std.proofs.Common.{◌≡◌, Bool, true, false, ◌&&◌, List, [], ◌∷◌, map, refl, sym, ap, ◌∙◌, Ordering, Less, Equal, Greater, nat_cmp}
use Rattle.std.specs.Ordering.{ordering_reverse, is_lt}
use Rattle.std.specs.Cmp.Lexicographic.{slice_cmp}
use Rattle.std.proofs.lemmas.Cmp.{nat_list_cmp_total}
use Rattle.serde_json.specs.Data.{Data, Members, no_members, member, put}
use Rattle.idl_tree.specs.Names.{Bytes}
use Rattle.idl_tree.specs.declared.trees.Prefix.{Prefix}
use Rattle.idl_tree.specs.declared.trees.Core.{Core}
use Rattle.typed_value.specs.KeyOrder.{is_before_all, are_in_order}
use Rattle.typed_value.specs.Shows.{Writer, or_null, with_entries}
use Rattle.typed_value.proofs.Distinct.{first_true, second_true}

joined : Members → Members → Members
joined no_members more = more
joined (member k d ms) more = member k d (joined ms more)

-- every key before those keys
all_before : Members → List Bytes → Bool
all_before no_members keys = true
all_before (member k d ms) keys = is_before_all k keys && all_before ms keys

joined_nil : (ms : Members) → joined ms no_members ≡ ms
unfolding joined
joined_nil no_members = refl
joined_nil (member k d ms) = ap (member k d) (joined_nil ms)

joined_assoc : (a b c : Members) → joined (joined a b) c ≡ joined a (joined b c)
unfolding joined
joined_assoc no_members b c = refl
joined_assoc (member k d ms) b c = ap (member k d) (joined_assoc ms b c)

pub less_is : (o : Ordering) → is_lt o ≡ true → o ≡ Less
less_is Less h = refl
less_is Equal h = let no : false ≡ true = h in absurd (cc)
less_is Greater h = let no : false ≡ true = h in absurd (cc)

-- a key behind all others is put at the end
put_end : (ms : Members) (k : Bytes) (d : Data) (keys : List Bytes) → all_before ms (k ∷ keys) ≡ true → put k d ms ≡ joined ms (member k d no_members)
unfolding joined all_before
put_end no_members k d keys h = refl
put_end (member l e ms) k d keys h =
    let here = first_true (is_before_all l (k ∷ keys)) (all_before ms (k ∷ keys)) h in
    let less = less_is (slice_cmp nat_cmp l k) (first_true (is_lt (slice_cmp nat_cmp l k)) (is_before_all l keys) here) in
    let above : slice_cmp nat_cmp k l ≡ Greater = nat_list_cmp_total.antisymm k l ∙ ap ordering_reverse less in
    rw above (ap (member l e) (put_end ms k d keys (second_true (is_before_all l (k ∷ keys)) (all_before ms (k ∷ keys)) h)))

pub both : (a b : Bool) → a ≡ true → b ≡ true → (a && b) ≡ true
both a b h k = rw (h, k) refl

before_more : (ms : Members) (k : Bytes) (d : Data) (keys : List Bytes) → all_before ms (k ∷ keys) ≡ true → is_before_all k keys ≡ true
    → all_before (joined ms (member k d no_members)) keys ≡ true
unfolding joined all_before
before_more no_members k d keys h here = both (is_before_all k keys) true here refl
before_more (member l e ms) k d keys h here =
    both (is_before_all l keys) _
    (second_true (is_lt (slice_cmp nat_cmp l k)) (is_before_all l keys) (first_true (is_before_all l (k ∷ keys)) (all_before ms (k ∷ keys)) h))
    (before_more ms k d keys (second_true (is_before_all l (k ∷ keys)) (all_before ms (k ∷ keys)) h) here)

module _ (prefixes : List Prefix) (core : Core) where
  abbrev pub in_row : List (Bytes × Writer) → Members
  in_row [] = no_members
  in_row (entry ∷ entries) = member entry.0 (or_null (entry.1 prefixes core)) (in_row entries)

  abbrev keys_in : List (Bytes × Writer) → List Bytes
  keys_in entries = map (λ (entry : Bytes × Writer). entry.0) entries

  join_one : (ms : Members) (entry : Bytes × Writer) (entries : List (Bytes × Writer))
      → joined ms (joined (member entry.0 (or_null (entry.1 prefixes core)) no_members) (in_row entries)) ≡ joined ms (in_row (entry ∷ entries))
  unfolding joined
  join_one ms entry entries = refl

  put_all : (entries : List (Bytes × Writer)) (ms : Members) → all_before ms (keys_in entries) ≡ true → are_in_order (keys_in entries) ≡ true
      → with_entries prefixes core entries ms ≡ joined ms (in_row entries)
  put_all [] ms h order = sym (joined_nil ms)
  put_all (entry ∷ entries) ms h order =
      let d = or_null (entry.1 prefixes core) in
      let keys = keys_in entries in
      let here = first_true (is_before_all entry.0 keys) (are_in_order keys) order in
      let rest = second_true (is_before_all entry.0 keys) (are_in_order keys) order in
      let end = put_end ms entry.0 d keys h in
      ap (with_entries prefixes core entries) end
      ∙ put_all entries (joined ms (member entry.0 d no_members)) (before_more ms entry.0 d keys h here) rest
      ∙ joined_assoc ms (member entry.0 d no_members) (in_row entries) ∙ join_one ms entry entries

  pub put_in_order : (entries : List (Bytes × Writer)) → are_in_order (keys_in entries) ≡ true
      → with_entries prefixes core entries no_members ≡ in_row entries
  unfolding joined all_before
  put_in_order entries order = put_all entries no_members refl order
