-- What steps do to the registers, by cases on the step.
use Rattle.std.specs.Prelude.{ℕ, List, [], ◌∷◌, ◌++◌, Option, Some, None, option_map, slice_get, slice_set, if◌then◌else◌}
use Rattle.std.specs.Ordering.{nat_cmp}
use Rattle.std.specs.declared.cmp.Ordering.{Ordering}
use Rattle.std.specs.declared.cmp.Ordering.TheVariants.{Less, Equal, Greater}
use Rattle.std.specs.Cmp.Lexicographic.{slice_cmp}
use Rattle.std.specs.Str.{bytes_eq}
use Rattle.idl_tree.specs.Names.{Bytes}
use Rattle.typed_value.specs.declared.vals.Val.{Val}
use Rattle.typed_value.specs.declared.vals.Val.TheVariants as val
use Rattle.sheet_rules.specs.declared.forms.Expr.{Expr}
use Rattle.sheet_rules.specs.declared.forms.Action.{Action}
use Rattle.sheet_rules.specs.declared.forms.Action.TheVariants as action
use Rattle.rule_values.specs.Parts.{text_of, items_of, entries_of}
use Rattle.rule_values.specs.Meanings.{Env, ◌>>=◌, meaning}

-- a register's value after a change, where it has one
abbrev pub Change : Type 0
Change = Val → Option Val

-- it becomes the value
abbrev pub replaced : Val → Change
replaced v old = Some v

-- the array has the value at its end
abbrev pub pushed : Val → Change
pushed v old = option_map (λ items. val.Items (items ++ v ∷ [])) (items_of old)

-- the entries with a value at the key, in the byte order of the keys
abbrev pub placed : Ordering → Bytes × Val → Bytes × Val → List (Bytes × Val) → List (Bytes × Val) → List (Bytes × Val)
placed Less new entry entries behind = new ∷ entry ∷ entries
placed Equal new entry entries behind = new ∷ entries
placed Greater new entry entries behind = entry ∷ behind

abbrev pub with_entry : Bytes → Val → List (Bytes × Val) → List (Bytes × Val)
with_entry key v [] = (key, v) ∷ []
with_entry key v (entry ∷ entries) = placed (slice_cmp nat_cmp key entry.0) (key, v) entry entries (with_entry key v entries)

-- the entries without the key
abbrev pub without_entry : Bytes → List (Bytes × Val) → List (Bytes × Val)
without_entry key [] = []
without_entry key (entry ∷ entries) = if bytes_eq key entry.0 then entries else entry ∷ without_entry key entries

-- the map has the value at the key; it does not have the key
abbrev pub put : Bytes → Val → Change
put key v old = option_map (λ entries. val.Map (with_entry key v entries)) (entries_of old)

abbrev pub dropped : Bytes → Change
dropped key old = option_map (λ entries. val.Map (without_entry key entries)) (entries_of old)

-- the registers, of which the one at a place is changed
abbrev pub changed : ℕ → Change → List Val → Option (List Val)
changed place change rs = do
  old ← slice_get rs place
  new ← change old
  Some (slice_set rs place new)

-- what a rule's expressions see, outside a stream
abbrev pub seen : Val → List Val → Env
seen parameters rs = record { registers = rs; parameters = parameters; item = None }

-- a key and a value
abbrev pub pair_made : Expr → Expr → Env → Option (Bytes × Val)
pair_made key expr e = do
  k ← meaning key e >>= text_of
  v ← meaning expr e
  Some (k, v)

-- the registers after a step
abbrev pub after_step : Val → Action → List Val → Option (List Val)
after_step parameters (action.Set place expr) rs = do
  v ← meaning expr (seen parameters rs)
  changed place (replaced v) rs
after_step parameters (action.Push place expr) rs = do
  v ← meaning expr (seen parameters rs)
  changed place (pushed v) rs
after_step parameters (action.Put place key expr) rs = do
  entry ← pair_made key expr (seen parameters rs)
  changed place (put entry.0 entry.1) rs
after_step parameters (action.Drop place key) rs = do
  k ← meaning key (seen parameters rs) >>= text_of
  changed place (dropped k) rs

-- the registers after all steps, each on those that the ones before left
abbrev pub after_steps : Val → List Action → List Val → Option (List Val)
after_steps parameters [] rs = Some rs
after_steps parameters (step ∷ steps) rs = do
  next ← after_step parameters step rs
  after_steps parameters steps next
