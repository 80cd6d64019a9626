-- What more bytes do to a run.
use Rattle.std.specs.Prelude.{◌≡◌, ℕ, List, ◌++◌, ⊤, Option, Some}
use Rattle.call_form.specs.declared.Outcome.{Outcome}
use Rattle.session_core.specs.declared.stops.Stop.{Stop}
use Rattle.session_core.specs.declared.stops.Stop.TheVariants as stop
use Rattle.session_core.specs.Run.{run}

-- the run stopped at a message, wherever the input ends
abbrev pub IsAtMessage : Option Stop → Type 0
IsAtMessage (Some (stop.NotCall index fault)) = ⊤
IsAtMessage (Some (stop.TooLong index)) = ⊤
IsAtMessage _ = ⊥

-- what stands behind the message at which a run stopped is not looked at
abbrev pub LooksNoFurther : Type 0
LooksNoFurther =
    (limit : ℕ) (bytes more : List ℕ) (outcomes : List Outcome) → IsAtMessage (run limit bytes outcomes).stop →
    run limit (bytes ++ more) outcomes ≡ run limit bytes outcomes

-- what was written stays written: more bytes, with the same outcomes, only add to it
abbrev pub OnlyAdds : Type 0
OnlyAdds =
    (limit : ℕ) (bytes more : List ℕ) (outcomes : List Outcome) →
    (added : List ℕ) × ((run limit (bytes ++ more) outcomes).out ≡ (run limit bytes outcomes).out ++ added)
