-- What a forming answers: what is formed, or that nothing is.
use Rattle.std.specs.Prelude.{◌≡◌, Option, Some, None, Result, Ok, Err}
use Rattle.sheet_rules.specs.Types as types
use Rattle.sheet_rules.specs.Views.{typ_of}
use Rattle.sheet_rules.specs.declared.types.Typ.{Typ}
use Rattle.expression_form.specs.declared.faults.Unformed.{Unformed}
use Rattle.expression_form.specs.declared.faults.Unformed.TheVariants.{IllTyped, Memory}

-- want of memory tells nothing
abbrev pub Forms : {A : Type 0} → Result A Unformed → Option A → Type 0
Forms (Ok made) found = found ≡ Some made
Forms (Err IllTyped) found = found ≡ None
Forms (Err Memory) found = Unit {0}

-- the same with a type, whose borrows stand for the type
abbrev pub FormsTyped : {A : Type 0} → Result (A × Typ) Unformed → Option (A × types.Typ) → Type 0
FormsTyped (Ok made) found = found ≡ Some (made.0, typ_of made.1)
FormsTyped (Err IllTyped) found = found ≡ None
FormsTyped (Err Memory) found = Unit {0}
