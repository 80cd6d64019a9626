-- The texts of places. Numbers are decimal.
use Rattle.std.specs.Prelude.{ℕ, List, ◌++◌, codes, decimal}
use Rattle.sheet_draft.specs.declared.places.Place.{Place}
use Rattle.sheet_draft.specs.declared.places.Place.TheVariants.{Top, Interface, Register, Rule}
use Rattle.sheet_draft.specs.declared.places.Spot.{Spot}
use Rattle.sheet_draft.specs.declared.places.Spot.TheVariants.{Whole, When, Guard, Step, Outcome}

-- what stands behind the name of the rule
abbrev pub spot_text : Spot → List ℕ
spot_text Whole = codes ""
spot_text (When b) = codes " branch " ++ decimal b ++ codes " when"
spot_text (Guard b k) = codes " branch " ++ decimal b ++ codes " guard " ++ decimal k
spot_text (Step b k) = codes " branch " ++ decimal b ++ codes " step " ++ decimal k
spot_text (Outcome b) = codes " branch " ++ decimal b ++ codes " outcome"

abbrev pub place_text : Place → List ℕ
place_text Top = codes "top"
place_text (Interface k) = codes "interface " ++ decimal k
place_text (Register k) = codes "register " ++ decimal k
place_text (Rule name spot) = codes "rule " ++ name ++ spot_text spot
