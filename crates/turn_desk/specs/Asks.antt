-- What an ask makes of the history that its pass has seen.
use Rattle.std.specs.Prelude.{◌≡◌, ℕ, List, [], ◌∷◌, ◌++◌}
use Rattle.turn_desk.specs.declared.objects.Entry.{Entry}
use Rattle.turn_desk.specs.Histories.{NoneOf, GoesOn}
use Rattle.turn_desk.specs.Passes.{PassView, carried}

-- the history that was seen before, then entries of other passes than these, then this entry
abbrev pub EndsWith : {R : Type 0} → List (Entry R) → List ℕ → Entry R → List (Entry R) → Type 0
EndsWith before numbers entry seen =
    (between : List (Entry _)) × (seen ≡ (before ++ between) ++ entry ∷ []) × NoneOf numbers between

-- The pass has seen what it had seen, then entries of passes whose numbers it does not carry, then its own entry.
abbrev pub SeesOwn : {O R : Type 0} → PassView O R → R → PassView O R → Type 0
SeesOwn before request after =
    EndsWith before.seen (carried before) (record { pass = before.number; request = request }) after.seen

-- The pass has seen what it had seen, then entries of passes whose numbers it does not carry.
abbrev pub SeesOthers : {O R : Type 0} → PassView O R → PassView O R → Type 0
SeesOthers before after = GoesOn before.seen (carried before) after.seen
