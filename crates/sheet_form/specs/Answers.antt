-- What the parts of a sheet are read as. A reading says of each answer whether it is the one: what is
-- read, or the first fault.
use Rattle.std.specs.Prelude.{◌≡◌, ◌≢◌, ◌⊎◌, Option, Some, None, Result, Ok, Err}
use Rattle.sheet_form.specs.declared.faults.SheetFault.{SheetFault}
use Rattle.sheet_form.specs.declared.faults.SheetFault.TheVariants.{Memory}

abbrev pub Reading : Type 0 → Type 1
Reading A = Result A SheetFault → Type 0

-- it is this
abbrev pub done : {A : Type 0} → A → Reading A
done x (Ok y) = y ≡ x
done x (Err why) = ⊥

-- there is this fault
abbrev pub refused : {A : Type 0} → SheetFault → Reading A
refused why (Ok x) = ⊥
refused why (Err told) = told ≡ why

-- what is there, or else the fault
abbrev pub given : {A : Type 0} → SheetFault → Option A → Reading A
given why (Some x) = done x
given why None = refused why

-- it is this, unless there is a fault
abbrev pub unless : {A : Type 0} → Option SheetFault → A → Reading A
unless None x = done x
unless (Some why) x = refused why

-- it is this, unless the condition holds; then there is this fault
abbrev pub barred : {A : Type 0} → Type 0 → SheetFault → A → Reading A
barred condition why x (Ok y) = (condition → ⊥) × (y ≡ x)
barred condition why x (Err told) = condition × (told ≡ why)

-- the first part, and then the rest of it; the fault of a part is the fault of all
abbrev pub Then : {A B : Type 0} → Reading A → (A → Reading B) → Reading B
Then {A} first behind (Ok y) = (x : A) × first (Ok x) × behind x (Ok y)
Then {A} first behind (Err why) = first (Err why) ⊎ ((x : A) × first (Ok x) × behind x (Err why))

infixl 10 ◌>>=◌
abbrev pub ◌>>=◌ : {A B : Type 0} → Reading A → (A → Reading B) → Reading B
first >>= behind = Then first behind

-- the answer is the one that the reading has; want of memory tells nothing
abbrev pub Reads : {A : Type 0} → Result A SheetFault → Reading A → Type 0
Reads (Ok x) reading = reading (Ok x)
Reads (Err why) reading = (why ≢ Memory) → reading (Err why)

-- the other is the same answer, want of memory apart
abbrev pub Same : {A : Type 0} → Result A SheetFault → Result A SheetFault → Type 0
Same (Ok x) other = other ≡ Ok x
Same (Err why) other = (why ≢ Memory) → other ≡ Err why

-- the reading has at most one answer
abbrev pub IsOne : {A : Type 0} → Reading A → Type 0
IsOne {A} reading = (one other : Result A SheetFault) → reading one → reading other → one ≡ other
