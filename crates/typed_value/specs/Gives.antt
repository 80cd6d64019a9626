-- What a reader answers: the value that reads, or that nothing reads.
use Rattle.std.specs.Prelude.{◌≡◌, Option, Some, None, Result, Ok, Err}
use Rattle.typed_value.specs.declared.faults.ValueFault.{ValueFault}
use Rattle.idl_tree.specs.Names.{Bytes}
use Rattle.typed_value.specs.declared.faults.ValueFault.TheVariants.{Unfit, Memory}
use Rattle.typed_value.specs.declared.faults.FieldFault.{FieldFault}
use Rattle.typed_value.specs.declared.faults.FieldFault.TheVariants as field

-- want of memory tells nothing
abbrev pub Gives : {A : Type 0} → Result A ValueFault → Option A → Type 0
Gives (Ok value) found = found ≡ Some value
Gives (Err Unfit) found = found ≡ None
Gives (Err Memory) found = Unit {0}

-- What a reader of a struct answers: the value that reads, or that nothing reads, with the first field
-- that does not.
abbrev pub GivesFields : {A : Type 0} → Result A FieldFault → Option A → Option Bytes → Type 0
GivesFields (Ok value) found first = (found ≡ Some value) × (first ≡ None)
GivesFields (Err (field.First name)) found first = (found ≡ None) × (first ≡ Some name)
GivesFields (Err field.Memory) found first = Unit {0}

-- the fault names that field, or is want of memory
abbrev pub IsOfField : FieldFault → Bytes → Type 0
IsOfField (field.First name) of = name ≡ of
IsOfField field.Memory of = Unit {0}
