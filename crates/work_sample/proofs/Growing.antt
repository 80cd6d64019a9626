-- Lists that grow by the numbers below a number.
use Rattle.std.proofs.Common.{◌≡◌, ◌≤◌, ℕ, ◌+◌, ◌*◌, nat_lt, false, List, [], ◌∷◌, ◌++◌, Result, Ok, Err, OnOk}
use Rattle.std.proofs.Common.{refl, ap, sym, ◌∙◌, subst, append_assoc, add-one, arith}
use Rattle.std.proofs.lemmas.Bool.Decides.{nat_tests}
use Rattle.std.proofs.lemmas.List.{append-nil}
use Rattle.work_sample.specs.Texts.{below, under}

pub below-none : {T : Type 0} (list : ℕ → List T) → below list 0 ≡ []
unfolding below
below-none list = refl

-- one number more
pub below-more : {T : Type 0} (list : ℕ → List T) (n : ℕ) → below list (n + 1) ≡ below list n ++ list n
unfolding below
below-more list n = rw add-one refl

pub begins : {T : Type 0} (list : ℕ → List T) (before : List T) → before ≡ before ++ below list 0
begins list before = sym (ap (λ more. before ++ more) (below-none list) ∙ append-nil before)

pub grows : {T : Type 0} (list : ℕ → List T) (n : ℕ) (before so_far after : List T) → so_far ≡ before ++ below list n
    → after ≡ so_far ++ list n → after ≡ before ++ below list (n + 1)
grows list n before so_far after is more =
    more ∙ ap (λ (front : List _). front ++ list n) is ∙ append_assoc before (below list n) (list n)
    ∙ sym (ap (λ (all : List _). before ++ all) (below-more list n))

-- ---- pieces

pub on-ok : {T E P Q : Type 0} (result : Result T E) → (P → Q) → OnOk result P → OnOk result Q
on-ok (Ok x) f p = f p
on-ok (Err why) f p = tt

pub joins : (old a d b e c mid after : List ℕ) → mid ≡ old ++ (a ++ d ++ b) → after ≡ mid ++ ([] ++ e ++ c)
    → after ≡ old ++ (a ++ d ++ b ++ e ++ c)
joins old a d b e c mid after is more = more ∙ ap (λ (m : List ℕ). m ++ (e ++ c)) is ∙ simp append_assoc

-- ---- numbers in the byte order of their digits

not-less : (m n : ℕ) → n ≤ m → nat_lt m n ≡ false
not-less m n h = grind (arith, nat_tests)

under-more : (digits most first : ℕ) → first ≤ most
    → under (digits + 1) most first ≡ first ∷ below (λ digit. under digits most (first * 10 + digit)) 10
unfolding under
under-more digits most first h = rw add-one (rw (not-less most first h) refl)

pub grown-under : (digits digits' most first all : ℕ) (before mid after : List ℕ) → digits' ≡ digits + 1 → first ≤ most → all ≡ 10
    → mid ≡ before ++ first ∷ [] → after ≡ mid ++ below (λ digit. under digits most (first * 10 + digit)) all
    → after ≡ before ++ under digits' most first
grown-under digits digits' most first all before mid after more h ten pushed is =
    let whole : after ≡ mid ++ below (λ digit. under digits most (first * 10 + digit)) 10 =
    subst (λ (n : ℕ). after ≡ mid ++ below (λ digit. under digits most (first * 10 + digit)) n) ten is in
    let there : under digits' most first ≡ first ∷ below (λ digit. under digits most (first * 10 + digit)) 10 =
    subst (λ (n : ℕ). under n most first ≡ first ∷ below (λ digit. under digits most (first * 10 + digit)) 10) (sym more)
    (under-more digits most first h) in
    whole ∙ ap (λ (m : List ℕ). m ++ below (λ digit. under digits most (first * 10 + digit)) 10) pushed
    ∙ append_assoc before (first ∷ []) (below (λ digit. under digits most (first * 10 + digit)) 10)
    ∙ sym (ap (λ (u : List ℕ). before ++ u) there)
