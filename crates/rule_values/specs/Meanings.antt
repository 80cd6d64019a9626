-- What references and expressions mean, by cases on the expression.
use Rattle.std.specs.Prelude.{ℕ, ℤ, pos, ◌+ℤ◌, ◌^◌, ◌-◌, List, [], ◌∷◌, length, min, Option, Some, None, option_map, option_and_then, slice_get, if◌then◌else◌}
use Rattle.std.specs.Int.{w64, saturate_signed}
use Rattle.std.specs.Str.{bytes_eq}
use Rattle.idl_tree.specs.Names.{Bytes}
use Rattle.typed_value.specs.declared.vals.Val.{Val, out-Val}
use Rattle.typed_value.specs.declared.vals.Val.TheVariants as val
use Rattle.typed_value.specs.declared.vals.Val.TheOpen.{Val-F}
use Rattle.sheet_rules.specs.declared.forms.Ref.{Ref}
use Rattle.sheet_rules.specs.declared.forms.Ref.TheVariants as ref
use Rattle.sheet_rules.specs.declared.forms.Expr.{Expr}
use Rattle.sheet_rules.specs.declared.forms.Expr.TheOpen.{Expr-F}
use Rattle.sheet_rules.specs.declared.forms.Expr.TheFolds.{fold-Expr}
use Rattle.rule_values.specs.Parts.{int_of, text_of, entries_of, at_path}

-- the values of the registers and of the parameters, and a stream's item, where there is one
pub record Env : Type 0 where
  pub registers : List Val
  pub parameters : Val
  pub item : Option Val

-- what is referred to
abbrev pub found : Env → Ref → Option Val
found e (ref.Param path) = at_path path e.parameters
found e (ref.Register place path) = option_and_then (at_path path) (slice_get e.registers place)
found e (ref.Item path) = option_and_then (at_path path) e.item

-- the value of an expression, where what it refers to is there and of the kind that is asked for
abbrev pub Meaning : Type 0
Meaning = Env → Option Val

abbrev pub ◌>>=◌ : {A B : Type 0} → Option A → (A → Option B) → Option B
None >>= f = None
(Some x) >>= f = f x

infixl 10 ◌>>=◌
-- all values, one after another
abbrev pub all_of : List Meaning → Env → Option (List Val)
all_of [] e = Some []
all_of (meaning ∷ meanings) e = do
  v ← meaning e
  vs ← all_of meanings e
  Some (v ∷ vs)

-- the value at a key
abbrev pub value_at : Bytes → List (Bytes × Val) → Option Val
value_at key [] = None
value_at key (entry ∷ entries) = if bytes_eq key entry.0 then Some entry.1 else value_at key entries

-- how many items or keys there are
abbrev pub count_part : Val-F Val → Option ℕ
count_part (Val-F.Items items) = Some (length items)
count_part (Val-F.Map entries) = Some (length entries)
count_part x = None

abbrev pub count_of : Val → Option ℕ
count_of v = count_part (out-Val v)

-- a number is held within -2^63 and 2^63 - 1; so is a count
abbrev pub held : ℤ → ℤ
held z = saturate_signed w64 z

abbrev pub held_count : ℕ → Val
held_count n = val.Int (pos (min n (2 ^ 63 - 1)))

-- the sum of two numbers
abbrev pub sum_meaning : Meaning → Meaning → Meaning
sum_meaning one other e = do
  x ← one e >>= int_of
  y ← other e >>= int_of
  Some (val.Int (held (x +ℤ y)))

-- how many items or keys what is referred to has
abbrev pub length_meaning : Ref → Meaning
length_meaning r e = do
  n ← found e r >>= count_of
  Some (held_count n)

-- what the map that is referred to has at a key
abbrev pub looked_up : Env → Ref → Val → Option (Option Val)
looked_up e r key = do
  entries ← found e r >>= entries_of
  text ← text_of key
  Some (value_at text entries)

-- the other is looked at only where the key isn't there
abbrev pub or_else : Option Val → Meaning → Meaning
or_else (Some v) other e = Some v
or_else None other e = other e

abbrev pub at_meaning : Ref → Meaning → Meaning → Meaning
at_meaning r key other e = do
  k ← key e
  there ← looked_up e r k
  or_else there other e

abbrev pub meaning_step : Expr-F Meaning → Meaning
meaning_step (Expr-F.From r) e = found e r
meaning_step (Expr-F.Const v) e = Some v
meaning_step (Expr-F.Struct meanings) e = option_map val.Struct (all_of meanings e)
meaning_step (Expr-F.Items meanings) e = option_map val.Items (all_of meanings e)
meaning_step (Expr-F.Sum one other) e = sum_meaning one other e
meaning_step (Expr-F.Length r) e = length_meaning r e
meaning_step (Expr-F.At r key other) e = at_meaning r key other e

abbrev pub meaning : Expr → Meaning
meaning = fold-Expr Meaning meaning_step
