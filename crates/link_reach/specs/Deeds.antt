-- What a reach did, as the list of its deeds in order.
use Rattle.std.specs.Prelude.{◌≡◌, ℕ, zero, suc, take, List, [], ◌∷◌, ◌++◌, codes, Option, option_map, Result, Ok, Err}
use Rattle.link_port.specs.Faults.{Rises}
use Rattle.link_reach.specs.declared.deeds.Deed.{Deed}
use Rattle.link_reach.specs.declared.deeds.Deed.TheVariants as deed
use Rattle.link_reach.specs.declared.deeds.DialFault.{DialFault}
use Rattle.link_reach.specs.declared.deeds.DialFault.TheVariants.{Failed, Memory}

-- the log, where it is told, has these deeds more
abbrev pub Gains : Option (List Deed) → Option (List Deed) → List Deed → Type 0
Gains before now deeds = now ≡ option_map (λ (log : List Deed). log ++ deeds) before

-- what a dial puts into the log: a dial that failed stands there too, and want of memory puts nothing
abbrev pub dialled : {T : Type 0} → Deed → Result T DialFault → List Deed
dialled deed (Ok link) = deed ∷ []
dialled deed (Err Failed) = deed ∷ []
dialled deed (Err Memory) = []

-- what another call puts there: a deed that was done
abbrev pub done : {T : Type 0} → (T → Deed) → Result T DialFault → List Deed
done deed (Ok x) = deed x ∷ []
done deed (Err why) = []

-- a take that gave so many bytes in the front of a buffer found these, or the end
abbrev pub taken : ℕ → List ℕ → ℕ → Deed
taken link into zero = deed.Ended link
taken link into (suc n) = deed.Took link (take (suc n) into)

-- a call failed only where the count of faults rose; want of memory counts nothing
abbrev pub CountsFault : {T : Type 0} → ℕ → ℕ → Result T DialFault → Type 0
CountsFault before now (Ok x) = now ≡ before
CountsFault before now (Err Failed) = Rises before now
CountsFault before now (Err Memory) = now ≡ before

-- how a fault is told
abbrev pub fault_text : DialFault → List ℕ
fault_text Failed = codes "link fault"
fault_text Memory = codes "out of memory"
