-- One item more is moved from the front of what is left.
use Rattle.std.proofs.Common.{◌≡◌, ℕ, ◌+◌, ◌<◌, List, [], ◌∷◌, ◌++◌, length, get_or, map, take, drop, reverse, refl, ap, sym, ◌∙◌, arith, length-drop}
use Rattle.std.proofs.Common.{All, Option, Some, None, length-take}
use Rattle.std.proofs.lemmas.List.{drop_more, map_more, reverse-append}
use Rattle.std.proofs.lemmas.List.Elements.{All-same, All-map, All-weaker, All-take, All-drop}
use Rattle.link_doors.specs.Doors.{DoorInMemory, visit_back}
use Rattle.door_binder.specs.Binds.{IsUnused, IsWithin}
use Rattle.door_binder.specs.BoundDoors.{cut, IsFresh}

pub record Moved {X Y : Type 0} (f : X → Y) (all left : List X) (n : ℕ) (x : X) : Type 0 where
  pub made : map f (take (n + 1) all) ≡ map f (take n all) ++ f x ∷ []
  pub rest : drop (n + 1) all ≡ left

pub moved : {X Y : Type 0} (f : X → Y) (all rest : List X) (n : ℕ) (x : X) → drop n all ≡ x ∷ rest → Moved f all rest n x
moved f all rest n x e =
    let inside : n < length all = omega (arith, length-drop n all, ap length e) in
    let here : drop n all ≡ get_or all n x ∷ drop (n + 1) all = drop_more all n x inside in
    let first : get_or all n x ≡ x = cc in
    let more : map f (take (n + 1) all) ≡ map f (take n all) ++ f (get_or all n x) ∷ [] = map_more f all n x inside in
    record { made = more ∙ ap (λ y. map f (take n all) ++ f y ∷ []) first; rest = cc }

-- what is left stands with its last item first
pub moved-reversed : {X Y : Type 0} (f : X → Y) (all left left' : List X) (n : ℕ) (x : X)
    → reverse left ≡ drop n all → left ≡ left' ++ x ∷ [] → Moved f all (reverse left') n x
moved-reversed f all left left' n x e popped =
    moved f all (reverse left') n x (sym e ∙ ap reverse popped ∙ reverse-append left' (x ∷ []))

-- ---- what was bound

-- a part of doors of which none was used, each cut
pub unused : (most : Option ℕ) (n : ℕ) (doors made : List DoorInMemory) → made ≡ map (cut most) (take n doors) → All IsFresh doors
    → All (λ door. IsUnused door.given 0 (Some (map visit_back door.back))) made
unused most n doors made is fresh =
    All-same (λ door. IsUnused door.given 0 (Some (map visit_back door.back))) made (map (cut most) (take n doors)) is
    (All-map (λ door. IsUnused door.given 0 (Some (map visit_back door.back))) (cut most) (take n doors)
    (All-weaker IsFresh (λ door. IsUnused door.given 0 (Some (map visit_back door.back)))
    (λ door none. (none.0, refl, ap (map visit_back) none.1)) (take n doors) (All-take IsFresh n doors fresh)))

cut-within : (most : Option ℕ) (door : DoorInMemory) → IsFresh door
    → IsWithin most (Some ((cut most door).given + length (cut most door).coming))
cut-within None door none = tt
cut-within (Some n) door none = let given : door.given ≡ 0 = none.0 in omega (arith, length-take n door.coming)

pub within : (most : Option ℕ) (n : ℕ) (doors made : List DoorInMemory) → made ≡ map (cut most) (take n doors) → All IsFresh doors
    → All (λ door. IsWithin most (Some (door.given + length door.coming))) made
within most n doors made is fresh =
    All-same (λ door. IsWithin most (Some (door.given + length door.coming))) made (map (cut most) (take n doors)) is
    (All-map (λ door. IsWithin most (Some (door.given + length door.coming))) (cut most) (take n doors)
    (All-weaker IsFresh (λ door. IsWithin most (Some ((cut most door).given + length (cut most door).coming)))
    (cut-within most) (take n doors) (All-take IsFresh n doors fresh)))

-- those that are left
pub still-fresh : (n : ℕ) (doors left : List DoorInMemory) → left ≡ drop n doors → All IsFresh doors → All IsFresh left
still-fresh n doors left is fresh = All-same IsFresh left (drop n doors) is (All-drop IsFresh n doors fresh)
