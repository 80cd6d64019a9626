-- answers of a part, passed on to the whole
use Rattle.std.proofs.Common.{◌≡◌, Option, Some, Result, Ok, Err, refl, inl, inr}
use Rattle.sheet_form.specs.Answers.{Reading, Reads, IsOne, Same, given, ◌>>=◌}
use Rattle.sheet_form.specs.declared.faults.SheetFault.{SheetFault}

module _ {A B : Type 0} (first : Reading A) (behind : A → Reading B) where
  pub passes : (why : SheetFault) → Reads {A = A} (Err why) first → Reads {A = B} (Err why) (first >>= behind)
  passes why h = λ told. inl (h told)

  pub follows : (x : A) (result : Result B SheetFault) → first (Ok x) → Reads result (behind x) → Reads result (first >>= behind)
  follows x (Ok y) here h = (x, here, h)
  follows x (Err why) here h = λ told. inr (x, here, h told)

pub same_answer : {A : Type 0} (reading : Reading A) (result other : Result A SheetFault) → IsOne reading → Reads result reading
    → reading other → Same result other
same_answer reading (Ok x) other one h there = one other (Ok x) there h
same_answer reading (Err why) other one h there = λ told. one other (Err why) there (h told)

pub given_some : {A : Type 0} (why : SheetFault) (found : Option A) (x : A) → found ≡ Some x → given why found (Ok x)
given_some why found x there = rw there refl
