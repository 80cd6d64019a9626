-- Lists that gain an item at their end, and lists that are read from their last item.
use Rattle.std.proofs.Common.{◌≡◌, ◌⊎◌, ℕ, zero, suc, ◌+◌, ◌<◌, List, [], ◌∷◌, ◌++◌, length, refl, sym, ap, ◌∙◌, subst, inl, inr, arith, ⊎_elim}
use Rattle.std.specs.Prelude.{All, Contains, drop, map, slice_index_or, take}
use Rattle.std.specs.List.{AllZip}
use Rattle.std.proofs.lemmas.List.{length-append, take_at}
use Rattle.std.proofs.lemmas.List.Elements.{All-nil, All-cons, All-head, All-tail, All-push, All-weaker, Contains-push, Contains-append_left, Contains-push_cases}
use Rattle.turn_desk.proofs.Lists.{total_snoc}
use Rattle.turn_desk.specs.Turns.{total}
use Rattle.door_host.specs.Hosts.{AreDistinct}
use Rattle.door_host.specs.Rounds.{from_last}

module _ {A : Type 0} where
  pub contains_nothing : (x : A) → ¬ Contains [] x
  contains_nothing x c = let low = c.1 in omega arith

  pub contains_later : (x y : A) (xs : List A) → Contains xs y → Contains (x ∷ xs) y
  contains_later x y xs c = let low = c.1 in (suc c.0, omega arith, c.2)

  pub contains_first : (x y : A) (xs : List A) → x ≡ y → Contains (x ∷ xs) y
  contains_first x y xs is = (0, omega arith, is)

  pub contains_cases : (x y : A) (xs : List A) → Contains (x ∷ xs) y → (x ≡ y) ⊎ Contains xs y
  contains_cases x y xs c = go c.0 c.1 c.2
    where
      go : (k : ℕ) → k < length (x ∷ xs) → slice_index_or (x ∷ xs) k y ≡ y → (x ≡ y) ⊎ Contains xs y
      go zero low at = inl at
      go (suc k) low at = inr (k, omega arith, at)

  -- what relates two lists place by place
  pub zip_from_places : (R : A → A → Type 0) (xs ys : List A) → length ys ≡ length xs
      → ((i : ℕ) (w : A) → i < length xs → R (slice_index_or xs i w) (slice_index_or ys i w)) → AllZip R xs ys
  zip_from_places R [] [] len at = tt
  zip_from_places R [] (y ∷ ys) len at = absurd (omega arith)
  zip_from_places R (x ∷ xs) [] len at = absurd (omega arith)
  zip_from_places R (x ∷ xs) (y ∷ ys) len at = (at 0 x (omega arith), zip_from_places R xs ys (omega arith) (λ i w low. at (suc i) w (omega arith)))

  pub zip_length : (R : A → A → Type 0) (xs ys : List A) → AllZip R xs ys → length ys ≡ length xs
  zip_length R [] [] z = refl
  zip_length R [] (y ∷ ys) z = absurd z
  zip_length R (x ∷ xs) [] z = absurd z
  zip_length R (x ∷ xs) (y ∷ ys) z = ap suc (zip_length R xs ys z.1)

  -- a list of so many items, once all of them were lent and came back
  pub given_back : (R : A → A → Type 0) (len : ℕ) (old lent new : List A) → len ≡ length old → lent ≡ old → AllZip R lent new
      → (take len (new ++ drop (length new) old) ≡ new) × AllZip R old new
  given_back R len old lent new count same z =
      let long = zip_length R lent new z in
      let alike = ap length same in
      (take_at new (drop (length new) old) len (omega arith), subst (λ (l : List A). AllZip R l new) same z)

-- a number that is not in a list which begins with 0
pub above_first : (first number : ℕ) (numbers : List ℕ) → first ≡ 0 → (¬ Contains (first ∷ numbers) number) → 0 < number
above_first first zero numbers is apart = absurd (apart (contains_first first zero numbers is))
above_first first (suc n) numbers is apart = omega arith

pub distinct_push : (numbers : List ℕ) (number : ℕ) → AreDistinct numbers → (¬ Contains numbers number) → AreDistinct (numbers ++ number ∷ [])
distinct_push [] number d new = (contains_nothing number, tt)
distinct_push (first ∷ numbers) number d new = (
  λ c. ⊎_elim d.0 (λ is. new (contains_first first number numbers (sym is))) (Contains-push_cases numbers number first c),
  distinct_push numbers number d.1 (λ c. new (contains_later first number numbers c)),
)

module _ {A B : Type 0} (f : A → B) where
  pub from_last_push : (xs : List A) (x : A) → from_last f (xs ++ x ∷ []) ≡ f x ∷ from_last f xs
  from_last_push [] x = refl
  from_last_push (y ∷ xs) x = ap (λ l. l ++ f y ∷ []) (from_last_push xs x)

  pub from_last_length : (xs : List A) → length (from_last f xs) ≡ length xs
  from_last_length [] = refl
  from_last_length (x ∷ xs) =
      let more = length-append (from_last f xs) (f x ∷ []) in
      let rest = from_last_length xs in
      omega arith

  pub all_of_last : (P : B → Type 0) (xs : List A) → All P (from_last f xs) → All (λ x. P (f x)) xs
  all_of_last P [] all = All-nil (λ x. P (f x))
  all_of_last P (x ∷ xs) all =
      let parts = All_parts P (from_last f xs) (f x) all in
      All-cons (λ y. P (f y)) x xs parts.1 (all_of_last P xs parts.0)
    where
      All_parts : (Q : B → Type 0) (ys : List B) (y : B) → All Q (ys ++ y ∷ []) → All Q ys × Q y
      All_parts Q [] y all = (All-nil Q, All-head Q y [] all)
      All_parts Q (z ∷ ys) y all =
          let rest = All_parts Q ys y (All-tail Q z (ys ++ y ∷ []) all) in
          (All-cons Q z ys (All-head Q z (ys ++ y ∷ []) all) rest.0, rest.1)

  pub all_from_last : (P : B → Type 0) (xs : List A) → All (λ x. P (f x)) xs → All P (from_last f xs)
  all_from_last P [] all = All-nil P
  all_from_last P (x ∷ xs) all =
      All-push P (from_last f xs) (f x) (all_from_last P xs (All-tail (λ y. P (f y)) x xs all)) (All-head (λ y. P (f y)) x xs all)

  pub total_from_last : (g : B → ℕ) (xs : List A) → total g (from_last f xs) ≡ total (λ x. g (f x)) xs
  total_from_last g [] = refl
  total_from_last g (x ∷ xs) =
      let more = total_snoc g (from_last f xs) (f x) in
      let rest = total_from_last g xs in
      omega arith

  pub members : (xs : List A) → All (λ x. Contains (from_last f xs) (f x)) xs
  members [] = All-nil (λ x. Contains [] (f x))
  members (x ∷ xs) =
      All-cons (λ y. Contains (from_last f xs ++ f x ∷ []) (f y)) x xs (Contains-push (from_last f xs) (f x))
      (All-weaker (λ y. Contains (from_last f xs) (f y)) (λ y. Contains (from_last f xs ++ f x ∷ []) (f y)) (λ y c. Contains-append_left (from_last f xs) (f x ∷ []) (f y) c) xs (members xs))
