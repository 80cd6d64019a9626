-- Which links there are, by number. They are numbered from 0 in the order in which they were opened.
use Rattle.std.specs.Prelude.{◌≡◌, ◌≢◌, ℕ, ◌+◌, List, ⊤, Option, None, Result, Ok, Err}
use Rattle.link_reach.specs.declared.deeds.DialFault.{DialFault}
use Rattle.link_reach.specs.declared.deeds.DialFault.TheVariants.{Failed, Memory}
use Rattle.link_reach.specs.declared.deeds.LinkNo.{LinkNo}
use Rattle.link_reach.specs.declared.deeds.LinkState.{LinkState}
use Rattle.link_reach.specs.declared.deeds.LinkState.TheVariants.{Open, Closed, Halved}

abbrev pub AsBefore : {T : Type 0} → (ℕ → T) → (ℕ → T) → Type 0
AsBefore before now = (m : ℕ) → now m ≡ before m

-- each link but this one is as before
abbrev pub OthersAsBefore : {T : Type 0} → ℕ → (ℕ → T) → (ℕ → T) → Type 0
OthersAsBefore link before now = (m : ℕ) → m ≢ link → now m ≡ before m

-- a dial opens a link with the next number, or none
abbrev pub Opens : ℕ → ℕ → (ℕ → LinkState) → (ℕ → LinkState) → Result LinkNo DialFault → Type 0
Opens opened opened' before now (Ok link) =
    (link.0 ≡ opened) × (opened' ≡ opened + 1) × (now opened ≡ Open) × OthersAsBefore opened before now
Opens opened opened' before now (Err why) = (opened' ≡ opened) × AsBefore before now

-- this link has this state now, and the others are as before
abbrev pub Becomes : ℕ → LinkState → (ℕ → LinkState) → (ℕ → LinkState) → Type 0
Becomes link state before now = (now link ≡ state) × OthersAsBefore link before now

-- taking out the ends of a link: it is closed where that failed
abbrev pub Halves : {T : Type 0} → ℕ → (ℕ → LinkState) → (ℕ → LinkState) → Result T DialFault → Type 0
Halves link before now (Ok ends) = Becomes link Halved before now
Halves link before now (Err Failed) = Becomes link Closed before now
Halves link before now (Err Memory) = AsBefore before now
