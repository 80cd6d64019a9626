-- What the workers of a registry leave, put together by their numbers.
use Rattle.std.proofs.Common.{◌≡◌, ℕ, suc, ◌+◌, sym, List, [], ◌∷◌, ◌++◌, length, subst, arith}
use Rattle.std.specs.List.{AllZip}
use Rattle.std.proofs.lemmas.List.{length-append}
use Rattle.resolver_core.specs.Registries.{Entries}
use Rattle.door_serving.specs.declared.doors.WorkerEnd.{WorkerEnd}
use Rattle.door_host.specs.Doors.{DoorKind}
use Rattle.door_host.specs.Porters.{AreNumberedFrom}
use Rattle.door_host.specs.Resolvers.{AllResolved, ResolvedBy}
use Rattle.door_host.specs.Rounds.{from_last}
use Rattle.door_host.proofs.Lists.{from_last_length, zip_length}

module _ {A : Type 0} (number : A → ℕ) where
  pub numbered_push : (first : ℕ) (xs : List A) (x : A) → AreNumberedFrom number (suc first) xs → number x ≡ first → AreNumberedFrom number first (xs ++ x ∷ [])
  numbered_push first [] x n is = (omega (arith, is), tt)
  numbered_push first (y ∷ xs) x n is =
      let more = length-append xs (x ∷ []) in
      let had = n.0 in
      (omega arith, numbered_push first xs x n.1 is)

module _ {D C : Type 0} (kind : DoorKind D C) (registry : Entries) where
  resolved_push : (first : ℕ) (befores afters : List D) (ends : List WorkerEnd) (before after : D) (end : WorkerEnd)
      → AllResolved kind registry first befores afters ends → ResolvedBy kind registry (length ends + first) before after end
      → AllResolved kind registry first (befores ++ before ∷ []) (afters ++ after ∷ []) (ends ++ end ∷ [])
  resolved_push first [] [] [] before after end all one = (subst (λ (n : ℕ). ResolvedBy kind registry n before after end) (omega arith) one, tt)
  resolved_push first (b ∷ bs) (a ∷ as') (e ∷ es) before after end all one = (
    all.0,
    resolved_push (first + 1) bs as' es before after end all.1 (subst (λ (n : ℕ). ResolvedBy kind registry n before after end) (omega arith) one),
  )
  resolved_push first _ _ _ before after end all one = absurd all

module _ {D C W : Type 0} (kind : DoorKind D C) (door : W → D) (number : W → ℕ) (end : W → WorkerEnd) (registry : Entries) where
  abbrev pub Resolves : W → W → Type 0
  Resolves before after = ResolvedBy kind registry (number before) (door before) (door after) (end after)

  pub all_resolved : (ws xs : List W) → AreNumberedFrom number 0 ws → AllZip Resolves ws xs
      → AllResolved kind registry 0 (from_last door ws) (from_last door xs) (from_last end xs)
  all_resolved [] [] n z = tt
  all_resolved [] (x ∷ xs) n z = absurd z
  all_resolved (w ∷ ws) [] n z = absurd z
  all_resolved (w ∷ ws) (x ∷ xs) n z =
      let mine = n.0 in
      let long = zip_length Resolves ws xs z.1 in
      let many = from_last_length end xs in
      resolved_push kind registry 0 (from_last door ws) (from_last door xs) (from_last end xs) (door w) (door x) (end x) (all_resolved ws xs n.1 z.1)
      (subst (λ (k : ℕ). ResolvedBy kind registry k (door w) (door x) (end x)) (omega arith) z.0)

  pub resolved_there : (before after : List D) (ends : List WorkerEnd) (ws xs : List W) → AreNumberedFrom number 0 ws → AllZip Resolves ws xs
      → before ≡ from_last door ws → after ≡ from_last door xs → ends ≡ from_last end xs → AllResolved kind registry 0 before after ends
  resolved_there before after ends ws xs n z befores afters ends_are =
      let P : List D → List D → List WorkerEnd → Type 0 = AllResolved kind registry 0 in
      subst (λ b. P b after ends) (sym befores) (subst (λ a. P (from_last door ws) a ends) (sym afters) (subst (λ e. P (from_last door ws) (from_last door xs) e) (sym ends_are) (all_resolved ws xs n z)))
