-- Texts that are put one after the other.
use Rattle.std.specs.Prelude.{◌≡◌, ℕ, List, Result, MatchResult}
use Rattle.std.specs.List.{flat_map}
use Rattle.std.specs.Borrow.{Bor}
use Rattle.std.specs.declared.option.Option.{Option}
use Rattle.std.specs.Io.KnownBytes.{Appends}
use Rattle.link_port.specs.Faults.{Rises}
use Rattle.link_port.specs.Flow.{AppendsFront}

-- the texts, one after the other
abbrev pub joined : List (Bor (List ℕ)) → List ℕ
joined texts = flat_map (λ text. text.now) texts

-- all was appended; or a fault was counted, and a front of it was appended
abbrev pub PutsAll : {T E : Type 0} → Option (List ℕ) → Option (List ℕ) → ℕ → ℕ → Result T E → List ℕ → Type 0
PutsAll before now faults faults' result all = MatchResult result
    (λ _. Appends before now all × (faults' ≡ faults))
    (λ _. AppendsFront before now all × Rises faults faults')
