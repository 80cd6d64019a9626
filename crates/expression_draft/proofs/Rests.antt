-- what is read so far, before what is left to read; and how much is left
use Rattle.std.proofs.Common.{◌≡◌, ℕ, suc, List, [], ◌∷◌, ◌++◌, Option, Some, None, refl, sym, ap, append_assoc}
use Rattle.serde_json.specs.Data.{Items, no_items, item, Members, no_members, member}
use Rattle.expression_draft.specs.Members.{◌>>=◌}

abbrev pub item_count : Items → ℕ
item_count no_items = 0
item_count (item d ds) = suc (item_count ds)

abbrev pub member_count : Members → ℕ
member_count no_members = 0
member_count (member name d ms) = suc (member_count ms)

abbrev pub after : {A : Type 0} → List A → Option (List A) → Option (List A)
after done None = None
after done (Some left) = Some (done ++ left)

pub after_none : {A : Type 0} (left : Option (List A)) → after [] left ≡ left
after_none None = refl
after_none (Some left) = refl

-- one more that is read
pub after_more : {A : Type 0} (done : List A) (x : A) (left : Option (List A))
    → after done (left >>= λ (xs : List A). Some (x ∷ xs)) ≡ after (done ++ x ∷ []) left
after_more done x None = refl
after_more done x (Some left) = ap Some (sym (append_assoc done (x ∷ []) left))
