-- a name that reaches `float` does so in at most as many steps as the interface has members
use Rattle.std.proofs.Common.{◌≡◌, ℕ, zero, suc, ◌+◌, ◌≤◌, ◌<◌, Bool, true, false, ◌||◌, ◌&&◌, cond, List, [], ◌∷◌, Option, Some, None, is_some, option_map, option_and_then, find, length, refl, sym, ap, ◌∙◌, subst, inl, inr, arith}
use Rattle.std.specs.List.{list_any}
use Rattle.std.specs.Str.{bytes_eq}
use Rattle.std.specs.Prelude.{◌⊎◌, ◌↔◌, IsTrue}
use Rattle.std.proofs.lemmas.Bool.{cases_Bool, cases_lt}
use Rattle.std.proofs.lemmas.Slice.Eq.{bytes_eq-Decides}
use Rattle.idl_tree.specs.Names.{Bytes}
use Rattle.idl_tree.specs.Faults.{is_space, space_of, is_named, shape_in, type_named}
use Rattle.idl_tree.specs.Floats.{body_has_float, body_used, body_reaches, found_reaches, name_reaches, BodyReaches}
use Rattle.idl_tree.specs.declared.spaces.Space.TheVariants.{Types}
use Rattle.idl_tree.specs.declared.trees.Interface.{Interface}
use Rattle.idl_tree.specs.declared.trees.Member.{Member}
use Rattle.idl_tree.specs.declared.trees.Body.{Body}
use Rattle.rule_form.specs.Floats.{reaches_float}

abbrev Test : Type 0
Test = Bytes → Bool

-- what the first test holds of, the second does
abbrev Under : Test → Test → Type 0
Under f g = (name : Bytes) → f name ≡ true → g name ≡ true

or_more : (a b c d : Bool) → (a ≡ true → c ≡ true) → (b ≡ true → d ≡ true) → (a || b) ≡ true → (c || d) ≡ true
or_more true b c d h k is = rw (h refl) refl
or_more false b true d h k is = refl
or_more false b false d h k is = k is

any_more : (f g : Test) → Under f g → (names : List Bytes) → list_any f names ≡ true → list_any g names ≡ true
any_more f g h [] is = is
any_more f g h (name ∷ names) is =
    or_more (f name) (list_any f names) (g name) (list_any g names) (h name) (any_more f g h names) is

body_more : (f g : Test) → Under f g → (body : Body) → body_reaches f body ≡ true → body_reaches g body ≡ true
body_more f g h body is =
    or_more (body_has_float body) (list_any f (body_used body)) (body_has_float body) (list_any g (body_used body))
    (λ e. e) (any_more f g h (body_used body)) is

found_more : (f g : Test) → Under f g → (found : Option Body) → found_reaches f found ≡ true → found_reaches g found ≡ true
found_more f g h None is = is
found_more f g h (Some body) is = body_more f g h body is

-- ---- how many members are of a name of which a test holds

marked : Test → List Member → ℕ
marked f [] = 0
marked f (member ∷ members) = cond (f member.name) (suc (marked f members)) (marked f members)

at_most : (b : Bool) (n most : ℕ) → n ≤ most → cond b (suc n) n ≤ suc most
at_most true n most h = omega arith
at_most false n most h = omega arith

marked_most : (f : Test) (members : List Member) → marked f members ≤ length members
unfolding marked
marked_most f [] = omega arith
marked_most f (member ∷ members) =
    at_most (f member.name) (marked f members) (length members) (marked_most f members)

more : (a b : Bool) (n m : ℕ) → (a ≡ true → b ≡ true) → n ≤ m → cond a (suc n) n ≤ cond b (suc m) m
more true true n m h le = omega arith
more true false n m h le = let no : false ≡ true = h refl in absurd (cc)
more false true n m h le = omega arith
more false false n m h le = le

marked_more : (f g : Test) → Under f g → (members : List Member) → marked f members ≤ marked g members
unfolding marked
marked_more f g h [] = omega arith
marked_more f g h (member ∷ members) =
    more (f member.name) (g member.name) (marked f members) (marked g members) (h member.name) (marked_more f g h members)

-- where the counts are the same, so are the tests
first_same : (a b : Bool) (n m : ℕ) → cond b (suc m) m ≤ cond a (suc n) n → n ≤ m → b ≡ true → a ≡ true
first_same true b n m h le is = refl
first_same false true n m h le is = let no : ⊥ = omega arith in absurd no
first_same false false n m h le is = is

rest_same : (a b : Bool) (n m : ℕ) → (a ≡ true → b ≡ true) → cond b (suc m) m ≤ cond a (suc n) n → m ≤ n
rest_same true true n m h le = omega arith
rest_same true false n m h le = let no : false ≡ true = h refl in absurd (cc)
rest_same false true n m h le = omega arith
rest_same false false n m h le = le

second : (a b : Bool) → (a && b) ≡ true → b ≡ true
second true b h = h
second false b h = let no : false ≡ true = h in absurd (cc)

name_is : (name : Bytes) (member : Member) → is_named Types name member ≡ true → member.name ≡ name
name_is name member h =
    (bytes_eq-Decides member.name name).0 (second (is_space Types (space_of member.part)) (bytes_eq member.name name) h)

found_same : (f g : Test) → Under f g → (members : List Member) → marked g members ≤ marked f members
    → (name : Bytes) → is_some (find (is_named Types name) members) ≡ true → g name ≡ true → f name ≡ true
unfolding marked
found_same f g h [] le name found is = let no : false ≡ true = found in absurd (cc)
found_same f g h (member ∷ members) le name found is = elim (cases_Bool (is_named Types name member)) [
  | inl here ↦ (let same = name_is name member here in
      ap f (sym same) ∙ first_same (f member.name) (g member.name) (marked f members) (marked g members) le (marked_more f g h members) (ap g same ∙ is))
  | inr off ↦ (let later : is_some (find (is_named Types name) members) ≡ true =
      ap (λ (b : Bool). is_some (cond b (Some member) (find (is_named Types name) members))) (sym off) ∙ found in
      found_same f g h members
      (rest_same (f member.name) (g member.name) (marked f members) (marked g members) (h member.name) le) name later is)
]

there : (f : Test) (found : Option Member)
    → found_reaches f (option_and_then shape_in (option_map (λ (member : Member). member.part) found)) ≡ true → is_some found ≡ true
there f None h = h
there f (Some member) h = refl

-- so many steps on
later : ℕ → ℕ → ℕ
later zero k = k
later (suc d) k = suc (later d k)

later_is : (d k : ℕ) → later d k ≡ d + k
unfolding later
later_is zero k = omega arith
later_is (suc d) k = let is = later_is d k in omega arith

later_swaps : (d k : ℕ) → later d k ≡ later k d
later_swaps d k = let one = later_is d k in let other = later_is k d in omega arith

module _ (scope : Interface) where
  abbrev within : ℕ → Test
  within = name_reaches scope

  abbrev members : List Member
  members = scope.members

  step_more : (k : ℕ) → Under (within k) (within (suc k))
  step_more zero name is = let no : false ≡ true = is in absurd (cc)
  step_more (suc k) name is = found_more (within k) (within (suc k)) (step_more k) (type_named name scope) is

  steps_more : (d k : ℕ) → Under (within k) (within (later d k))
  unfolding later
  steps_more zero k name is = is
  steps_more (suc d) k name is = step_more (later d k) name (steps_more d k name is)

  -- one more step reaches nothing more
  abbrev Settled : ℕ → Type 0
  Settled k = Under (within (suc k)) (within k)

  settled_at : (k : ℕ) → marked (within (suc k)) members ≤ marked (within k) members → Settled k
  settled_at k le name is = found_same (within k) (within (suc k)) (step_more k) members le name
      (there (within k) (find (is_named Types name) members) is) is

  settled_next : (k : ℕ) → Settled k → Settled (suc k)
  settled_next k h name is = found_more (within (suc k)) (within k) h (type_named name scope) is

  either : (k : ℕ) → (k ≤ marked (within k) members) ⊎ Settled k
  either zero = inl (omega arith)
  either (suc k) = elim (either k) [
    | inl le ↦ elim (cases_lt (marked (within k) members) (marked (within (suc k)) members)) [
      | inl fewer ↦ inl (omega arith)
      | inr same ↦ inr (settled_next k (settled_at k same))
    ]
    | inr h ↦ inr (settled_next k h)
  ]

  settled : Settled (length members)
  settled = elim (either (length members)) [
    | inl le ↦ (let most = marked_most (within (suc (length members))) members in settled_at (length members) (omega arith))
    | inr h ↦ h
  ]

  settled_later : (d : ℕ) → Settled (later d (length members))
  unfolding later
  settled_later zero = settled
  settled_later (suc d) = settled_next (later d (length members)) (settled_later d)

  nothing_later : (d : ℕ) → Under (within (later d (length members))) (within (length members))
  unfolding later
  nothing_later zero name is = is
  nothing_later (suc d) name is = nothing_later d name (settled_later d name is)

  bounded : (steps : ℕ) → Under (within steps) (within (length members))
  bounded steps name is = nothing_later steps name
      (ap (λ (k : ℕ). within k name) (sym (later_swaps (length members) steps)) ∙ steps_more (length members) steps name is)

pub told : (scope : Interface) (body : Body) → IsTrue (reaches_float scope body) ↔ BodyReaches scope body
told scope body = (
  λ h. (length scope.members, h),
  λ reached. body_more (name_reaches scope reached.0) (name_reaches scope (length scope.members)) (bounded scope reached.0) body reached.1,
)

same_test : (a b : Bool) → (a ≡ true → b ≡ true) → (b ≡ true → a ≡ true) → a ≡ b
same_test true b h k = sym (h refl)
same_test false true h k = k refl
same_test false false h k = refl

-- a test that tells it is this test
pub told_by : (scope : Interface) (body : Body) (b : Bool) → (IsTrue b ↔ BodyReaches scope body) → b ≡ reaches_float scope body
told_by scope body b iff =
    same_test b (reaches_float scope body) (λ h. (told scope body).1 (iff.0 h)) (λ h. iff.1 ((told scope body).0 h))
