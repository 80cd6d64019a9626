-- What holds of every word, of every call that goes nowhere, and of every call for an upgrade.
use Rattle.std.specs.Prelude.{◌≡◌, ◌≢◌, ◌↔◌, ◌∷◌, ◌++◌, ℕ, List, true, Some, None, IsSome}
use Rattle.std.specs.List.{AllByRecursion}
use Rattle.call_form.specs.declared.Call.{Call}
use Rattle.resolver_core.specs.declared.goals.Goal.TheVariants.{Nowhere}
use Rattle.resolver_core.specs.Registries.{Entries}
use Rattle.resolver_core.specs.Words.{at_dot}
use Rattle.resolver_core.specs.Places.{reply_of}
use Rattle.resolver_core.specs.Goals.{goal_of}

abbrev pub HasNoDot : List ℕ → Type 0
HasNoDot word = AllByRecursion (λ b. b ≢ 46) word

-- behind the last dot there is none
abbrev pub WordsAre : Type 0
WordsAre = (word : List ℕ) →
    ((interface method : List ℕ) → (at_dot word ≡ Some (interface, method)) ↔ ((word ≡ interface ++ 46 ∷ method) × HasNoDot method))
    × ((at_dot word ≡ None) ↔ HasNoDot word)

abbrev pub NowhereIsNoDot : Type 0
NowhereIsNoDot = (call : Call) (word : List ℕ) → (goal_of call ≡ Nowhere word) ↔ (HasNoDot call.method × (word ≡ call.method))

abbrev pub UpgradesAreRefused : Type 0
UpgradesAreRefused = (entries : Entries) (call : Call) → call.upgrade ≡ true → IsSome (reply_of entries call).error
