-- The bytes that a take gives, and what it leaves.
use Rattle.std.proofs.Common.{◌≡◌, ◌≢◌, ◌≤◌, ◌<◌, ℕ, zero, suc, List, [], ◌∷◌, ◌++◌, length, take, drop, set, refl, ap, arith}
use Rattle.std.proofs.Common.{Option, Some, None, Result, Ok, Err, sym, subst, ◌∙◌, inl, inr}
use Rattle.std.specs.Prelude.{◌⊎◌, slice_get, slice_set}
use Rattle.std.proofs.Math.Nat.{min-le_right}
use Rattle.std.proofs.lemmas.List.{append-nil, take-append-drop, get_or-set_same, length-set}
use Rattle.std.proofs.lemmas.Option.{slice_get_within, slice_get-get_or}
use Rattle.link_port.specs.Flow.{TakesFront}
use Rattle.link_reach.specs.declared.deeds.Deed.{Deed}
use Rattle.link_reach.specs.declared.deeds.Deed.TheVariants as deed
use Rattle.link_reach.specs.declared.deeds.DialFault.{DialFault}
use Rattle.link_reach.specs.declared.deeds.DialFault.TheVariants.{Failed, Memory}
use Rattle.link_reach.specs.declared.deeds.LinkState.TheVariants.{Open}
use Rattle.link_reach.specs.declared.mem_links.MemLink.{MemLink}
use Rattle.link_reach.specs.declared.mem_links.MemLink.TheVariants as mem
use Rattle.link_reach.specs.Deeds.{Gains, done, taken}
use Rattle.link_reach.specs.Links.{AsBefore, OthersAsBefore}
use Rattle.link_reach.specs.Worlds.{left_of}
use Rattle.link_reach.specs.MemReaches.{ReachInMemory, TakesInMemory, state_of, link_of, left_on, found, count}

take-front : (n : ℕ) (xs ys : List ℕ) → n ≤ length xs → take n (take n xs ++ ys) ≡ take n xs
take-front zero xs ys h = refl
take-front (suc n) [] ys h = absurd (omega (arith, h))
take-front (suc n) (x ∷ xs) ys h = ap (λ (rest : List ℕ). x ∷ rest) (take-front n xs ys (omega (arith, h)))

-- what is found on a link is what a take tells
pub taken-found : (link n : ℕ) (left into : List ℕ) → n ≤ length left
    → taken link (take n left ++ drop n into) n ≡ found link (take n left)
taken-found link zero left into h = refl
taken-found link (suc n) [] into h = absurd (omega (arith, h))
taken-found link (suc n) (x ∷ xs) into h =
    ap (λ (rest : List ℕ). deed.Took link (x ∷ rest)) (take-front n xs (drop (suc n) into) (omega (arith, h)))

-- so the log gains what a take tells
pub log-of-take : (old new : ReachInMemory) (link : ℕ) (into into' : List ℕ) (result : Result ℕ DialFault)
    → TakesInMemory old link into result new into' → Gains (Some old.log) (Some new.log) (done (taken link into') result)
log-of-take old new link into into' (Ok n) is =
    let left = left_on (slice_get old.links link) in
    let within : n ≤ length left = subst (λ (m : ℕ). m ≤ length left) (sym is.1) (min-le_right (length into) (length left)) in
    let told : taken link into' n ≡ found link (take n left) = ap (λ (bytes : List ℕ). taken link bytes n) is.2 ∙ taken-found link n left into within in
    ap (λ (reach : ReachInMemory). Some reach.log) is.3 ∙ ap (λ (d : Deed). Some (old.log ++ d ∷ [])) (sym told)
log-of-take old new link into into' (Err Failed) is = ap (λ (reach : ReachInMemory). Some reach.log) is.2 ∙ sym (ap (λ (log : List Deed). Some log) (append-nil old.log))
log-of-take old new link into into' (Err Memory) is = ap (λ (reach : ReachInMemory). Some reach.log) is.1 ∙ sym (ap (λ (log : List Deed). Some log) (append-nil old.log))

-- ---- what is told of the links

opened : (found : Option MemLink) → state_of found ≡ Open → (left : List ℕ) × (found ≡ Some (mem.Open left))
opened None h = absurd cc
opened (Some (mem.Open left)) h = (left, refl)
opened (Some mem.Closed) h = absurd cc
opened (Some mem.Halved) h = absurd cc

placed : (links : List MemLink) (link : ℕ) (old new : MemLink) → slice_get links link ≡ Some old → slice_get (slice_set links link new) link ≡ Some new
placed links link old new is =
    let within : link < length links = slice_get_within links link old is in
    slice_get-get_or (set links link new) link new (omega (arith, length-set links link new)) ∙ ap Some (get_or-set_same links link new new within)

others : (links : List MemLink) (link other : ℕ) (new : MemLink) → other ≢ link → slice_get (slice_set links link new) other ≡ slice_get links other
others [] link other new apart = refl
others (l ∷ links) zero zero new apart = absurd (apart refl)
others (l ∷ links) zero (suc other) new apart = refl
others (l ∷ links) (suc link) zero new apart = refl
others (l ∷ links) (suc link) (suc other) new apart = others links link other new (λ e. apart (ap suc e))

front : (n : ℕ) (left into : List ℕ) → n ≤ length left → left ≡ take n (take n left ++ drop n into) ++ drop n left
front n left into h = sym (take-append-drop n left) ∙ ap (λ (bytes : List ℕ). bytes ++ drop n left) (sym (take-front n left (drop n into) h))

pub bytes-of-take : (old new : ReachInMemory) (link : ℕ) (into into' : List ℕ) (result : Result ℕ DialFault)
    → state_of (slice_get old.links link) ≡ Open → TakesInMemory old link into result new into'
    → TakesFront (left_of (link_of (slice_get old.links link))) (left_of (link_of (slice_get new.links link))) result into'
bytes-of-take old new link into into' (Ok n) ready is =
    let there = opened (slice_get old.links link) ready in
    let left : left_on (slice_get old.links link) ≡ there.0 = ap left_on there.1 in
    let within : n ≤ length there.0 = subst (λ (m : ℕ). m ≤ length there.0) (sym (is.1 ∙ ap (λ (l : List ℕ). count l into) left)) (min-le_right (length into) (length there.0)) in
    let before : left_of (link_of (slice_get old.links link)) ≡ Some there.0 = ap (λ (o : Option MemLink). left_of (link_of o)) there.1 in
    let links : new.links ≡ slice_set old.links link (mem.Open (drop n there.0)) =
    ap (λ (r : ReachInMemory). r.links) is.3 ∙ ap (λ (l : List ℕ). slice_set old.links link (mem.Open (drop n l))) left in
    let now : left_of (link_of (slice_get new.links link)) ≡ Some (drop n there.0) =
    ap (λ (ls : List MemLink). left_of (link_of (slice_get ls link))) links
    ∙ ap (λ (o : Option MemLink). left_of (link_of o)) (placed old.links link (mem.Open there.0) (mem.Open (drop n there.0)) there.1) in
    let bytes : into' ≡ take n there.0 ++ drop n into = is.2 ∙ ap (λ (l : List ℕ). take n l ++ drop n into) left in
    rw (before, now, bytes) (front n there.0 into within)
bytes-of-take old new link into into' (Err Failed) ready is = ap (λ (r : ReachInMemory). left_of (link_of (slice_get r.links link))) is.2
bytes-of-take old new link into into' (Err Memory) ready is = ap (λ (r : ReachInMemory). left_of (link_of (slice_get r.links link))) is.1

links-of-take : (old new : ReachInMemory) (link : ℕ) (into into' : List ℕ) (result : Result ℕ DialFault) → TakesInMemory old link into result new into'
    → OthersAsBefore link (λ no. slice_get old.links no) (λ no. slice_get new.links no)
links-of-take old new link into into' (Ok n) is m apart =
    ap (λ (r : ReachInMemory). slice_get r.links m) is.3 ∙ others old.links link m (mem.Open (drop n (left_on (slice_get old.links link)))) apart
links-of-take old new link into into' (Err Failed) is m apart = ap (λ (r : ReachInMemory). slice_get r.links m) is.2
links-of-take old new link into into' (Err Memory) is m apart = ap (λ (r : ReachInMemory). slice_get r.links m) is.1

pub leads-of-take : (old new : ReachInMemory) (link : ℕ) (into into' : List ℕ) (result : Result ℕ DialFault) → TakesInMemory old link into result new into'
    → OthersAsBefore link (λ no. link_of (slice_get old.links no)) (λ no. link_of (slice_get new.links no))
leads-of-take old new link into into' result is m apart = ap link_of (links-of-take old new link into into' result is m apart)

-- the link itself stays ready
still-open : (old new : ReachInMemory) (link : ℕ) (into into' : List ℕ) (result : Result ℕ DialFault)
    → state_of (slice_get old.links link) ≡ Open → TakesInMemory old link into result new into' → state_of (slice_get new.links link) ≡ Open
still-open old new link into into' (Ok n) ready is =
    let there = opened (slice_get old.links link) ready in
    ap (λ (r : ReachInMemory). state_of (slice_get r.links link)) is.3
    ∙ ap state_of (placed old.links link (mem.Open there.0) (mem.Open (drop n (left_on (slice_get old.links link)))) there.1)
still-open old new link into into' (Err Failed) ready is = ap (λ (r : ReachInMemory). state_of (slice_get r.links link)) is.2 ∙ ready
still-open old new link into into' (Err Memory) ready is = ap (λ (r : ReachInMemory). state_of (slice_get r.links link)) is.1 ∙ ready

same-or : (m n : ℕ) → (m ≡ n) ⊎ (m ≢ n)
same-or zero zero = inl refl
same-or zero (suc n) = inr (λ e. omega (arith, e))
same-or (suc m) zero = inr (λ e. omega (arith, e))
same-or (suc m) (suc n) = elim (same-or m n) [ inl e ↦ inl (ap suc e) | inr apart ↦ inr (λ e. apart (omega (arith, e))) ]

states-by : (old new : ReachInMemory) (link m : ℕ) → OthersAsBefore link (λ no. slice_get old.links no) (λ no. slice_get new.links no)
    → state_of (slice_get old.links link) ≡ Open → state_of (slice_get new.links link) ≡ Open → (m ≡ link) ⊎ (m ≢ link)
    → state_of (slice_get new.links m) ≡ state_of (slice_get old.links m)
states-by old new link m same ready now (inl e) = subst (λ (k : ℕ). state_of (slice_get new.links k) ≡ state_of (slice_get old.links k)) (sym e) (now ∙ sym ready)
states-by old new link m same ready now (inr apart) = ap state_of (same m apart)

pub states-of-take : (old new : ReachInMemory) (link : ℕ) (into into' : List ℕ) (result : Result ℕ DialFault)
    → state_of (slice_get old.links link) ≡ Open → TakesInMemory old link into result new into'
    → AsBefore (λ no. state_of (slice_get old.links no)) (λ no. state_of (slice_get new.links no))
states-of-take old new link into into' result ready is m =
    states-by old new link m (links-of-take old new link into into' result is) ready (still-open old new link into into' result ready is) (same-or m link)
