-- Lists with no NUL, and the first NUL of a list.
use Rattle.std.proofs.Common.{◌≡◌, ◌≢◌, ℕ, zero, suc, ◌+◌, ◌-◌, ◌<◌, ◌≤◌, List, [], ◌∷◌, ◌++◌}
use Rattle.std.proofs.Common.{length, take, drop, sym, ◌∙◌, ap, subst, arith, slice_index}
use Rattle.std.proofs.Common.{add-one, append_assoc, length-drop}
use Rattle.std.specs.Prelude.{Option, None, Some}
use Rattle.std.proofs.lemmas.List.{take-append-drop, take_all, drop-drop}
use Rattle.std.proofs.Math.Seq.{take-add, drop-cons}
use Rattle.std.proofs.lemmas.Bool.Decides.{nat_tests}
use Rattle.memchr.specs.Find.{IsFirstByte, Passes, is_byte}
use Rattle.message_frame.specs.Pieces.{NoNul}
use Rattle.message_frame.specs.Room.{FirstNulAt, FindsNul}
use Rattle.message_frame.specs.Steps.{Begins}

-- places none of which holds a NUL
pub NoNul-take : (bytes : List ℕ) (n : ℕ) →
    ((k : ℕ) → k < n → k < length bytes → slice_index bytes k ≢ 0) → NoNul (take n bytes)
NoNul-take bytes zero h = tt
NoNul-take [] (suc n) h = tt
NoNul-take (b ∷ bytes) (suc n) h = (
  h 0 (omega arith) (omega arith),
  NoNul-take bytes n (λ k below within. h (suc k) (omega arith) (omega arith)),
)

pub NoNul-append : (xs ys : List ℕ) → NoNul xs → NoNul ys → NoNul (xs ++ ys)
NoNul-append [] ys h k = k
NoNul-append (x ∷ xs) ys h k = (h.0, NoNul-append xs ys h.1 k)

not_passes : (bytes : List ℕ) (k : ℕ) → ¬ Passes (is_byte 0) bytes k → slice_index bytes k ≢ 0
not_passes bytes k h e = h (grind (arith, nat_tests))

pub FindsNul-from_memchr : (bytes : List ℕ) (r : Option ℕ) → IsFirstByte (is_byte 0) bytes r →
    FindsNul bytes r
FindsNul-from_memchr bytes None h =
    subst (λ (xs : List ℕ). NoNul xs) (take_all (length bytes) bytes (omega arith))
    (NoNul-take bytes (length bytes)
    (λ k below within. not_passes bytes k (h k (omega arith) within)))
FindsNul-from_memchr bytes (Some place) h =
    let is_nul : slice_index bytes place ≡ 0 = grind (arith, nat_tests, h.1) in
    record {
      within = h.0.high;
      before = NoNul-take bytes place
          (λ k below within. not_passes bytes k (h.0.before k (omega arith) below));
      here = rw add-one (drop-cons bytes place 0 h.0.high
          ∙ ap (λ x. x ∷ drop (suc place) bytes) is_nul);
    }

-- bytes of which the first n are known to hold no NUL, and the others are searched
pub NoNul-join : (bytes : List ℕ) (n : ℕ) → NoNul (take n bytes) → NoNul (drop n bytes) →
    NoNul bytes
NoNul-join bytes zero h k = k
NoNul-join [] (suc n) h k = tt
NoNul-join (b ∷ bytes) (suc n) h k = (h.0, NoNul-join bytes n h.1 k)

pub FirstNulAt-join : (bytes : List ℕ) (n place : ℕ) → n ≤ length bytes → NoNul (take n bytes) →
    FirstNulAt (drop n bytes) place → FirstNulAt bytes (n + place)
FirstNulAt-join bytes n place all h first =
    let place_within : place < length (drop n bytes) = first.within in
    record {
      within = omega (arith, length-drop n bytes);
      before = rw take-add (NoNul-append (take n bytes) (take place (drop n bytes)) h first.before);
      here = sym (drop-drop place n bytes) ∙ first.here
          ∙ ap (λ (xs : List ℕ). 0 ∷ xs) (drop-drop (place + 1) n bytes
          ∙ ap (λ (k : ℕ). drop k bytes) (omega arith));
    }

-- the message that the first NUL ends
pub Begins-from_first : (bytes : List ℕ) (place : ℕ) → FirstNulAt bytes place →
    Begins bytes (take place bytes) (drop (place + 1) bytes)
Begins-from_first bytes place first = record {
  front = sym (take-append-drop place bytes)
      ∙ ap (λ (xs : List ℕ). take place bytes ++ xs) first.here
      ∙ sym (append_assoc (take place bytes) (0 ∷ []) (drop (place + 1) bytes));
  no_nul = first.before;
}

-- the same of the bytes held from a start on
pub Begins-held : (bytes : List ℕ) (start place : ℕ) → FirstNulAt (drop start bytes) place →
    Begins (drop start bytes) (take (start + place - start) (drop start bytes))
    (drop (start + place + 1) bytes)
Begins-held bytes start place first =
    let count : start + place - start ≡ place = omega arith in
    let rest : drop (place + 1) (drop start bytes) ≡ drop (start + place + 1) bytes =
    drop-drop (place + 1) start bytes ∙ ap (λ (k : ℕ). drop k bytes) (omega arith) in
    rw (count, ← rest) (Begins-from_first (drop start bytes) place first)

pub NoNul-held_all : (bytes : List ℕ) (start n : ℕ) → length bytes ≤ start + n →
    NoNul (drop start bytes) → NoNul (take n (drop start bytes))
NoNul-held_all bytes start n all h =
    let short : length (drop start bytes) ≤ n = omega (arith, length-drop start bytes) in
    rw (take_all n (drop start bytes) short) h

-- what a search of the bytes after the first n finds
found_after : (bytes rest : List ℕ) (n : ℕ) (r s : Option ℕ) → rest ≡ drop n bytes → r ≡ s →
    IsFirstByte (is_byte 0) rest r → FindsNul (drop n bytes) s
found_after bytes rest n r s same is found =
    FindsNul-from_memchr (drop n bytes) s
    (subst (λ (q : Option ℕ). IsFirstByte (is_byte 0) (drop n bytes) q) is
    (subst (λ (xs : List ℕ). IsFirstByte (is_byte 0) xs r) same found))

pub FindsNul-none : (bytes rest : List ℕ) (n : ℕ) (r : Option ℕ) → NoNul (take n bytes) →
    rest ≡ drop n bytes → r ≡ None → IsFirstByte (is_byte 0) rest r → NoNul bytes
FindsNul-none bytes rest n r h same is found =
    NoNul-join bytes n h (found_after bytes rest n r None same is found)

pub FindsNul-some : (bytes rest : List ℕ) (n place : ℕ) (r : Option ℕ) → n ≤ length bytes →
    NoNul (take n bytes) → rest ≡ drop n bytes → r ≡ Some place → IsFirstByte (is_byte 0) rest r →
    FirstNulAt bytes (n + place)
FindsNul-some bytes rest n place r all h same is found =
    FirstNulAt-join bytes n place all h (found_after bytes rest n r (Some place) same is found)
