-- places of the names that are used, and what stands in a body, taken one after another
use Rattle.std.proofs.Common.{◌≡◌, ℕ, zero, suc, ◌+◌, ◌<◌, ◌≤◌, Bool, true, false, ◌||◌, ◌&&◌, ◌==◌, inl, inr, take, List, [], ◌∷◌, ◌++◌, length, get_or, drop, map, refl, sym, ap, ◌∙◌, append_assoc, arith}
use Rattle.std.proofs.Math.Seq.{drop-cons}
use Rattle.std.proofs.lemmas.Bool.{cases_Bool, eqb-true, eq-eqb}
use Rattle.std.proofs.lemmas.List.{take_more, length-take-le}
use Rattle.std.specs.List.{list_any}
use Rattle.idl_tree.specs.Marks.{has}
use Rattle.idl_tree.specs.declared.trees.Member.{Member}
use Rattle.std.specs.BTreeMap.{get_by_text}
use Rattle.idl_tree.specs.Names.{Bytes}
use Rattle.idl_tree.specs.Floats.{Used, body_has_float, type_has_float, body_float_step, core_float_step, field_float_step, type_float_step, type_used, joined, place_or_none, places_of, member_used, used_at}
use Rattle.idl_tree.specs.declared.places.Index.{Index}
use Rattle.idl_tree.specs.declared.trees.Field.{Field}
use Rattle.idl_tree.specs.declared.trees.Body.TheVariants.{Struct}
use Rattle.idl_tree.proofs.Opened.{struct_opens}

any_each : (fields : List Field) → list_any (λ (float : Bool). float) (map (λ (field : Field). type_has_float field.of) fields) ≡ list_any (λ (field : Field). type_has_float field.of) fields
any_each [] = refl
any_each (field ∷ fields) = ap (λ (rest : Bool). type_has_float field.of || rest) (any_each fields)

pub float_in_struct : (fields : List Field) (ending : List Bytes) → body_has_float (Struct fields ending) ≡ list_any (λ (field : Field). type_has_float field.of) fields
float_in_struct fields ending = struct_opens Bool Bool Bool Bool body_float_step core_float_step field_float_step type_float_step fields ending ∙ any_each fields

pub places_append : (index : Index) (names more : Used) → places_of index (names ++ more) ≡ places_of index names ++ places_of index more
places_append index [] more = refl
places_append index (name ∷ names) more =
    ap (λ (ps : List ℕ). place_or_none (get_by_text index.types name) ++ ps) (places_append index names more)
    ∙ sym (append_assoc (place_or_none (get_by_text index.types name)) (places_of index names) (places_of index more))

pub used_here : (index : Index) (fields : List Field) (i : ℕ) (field : Field) (places : List ℕ) → i < length fields → field ≡ get_or fields i field
    → places ++ places_of index (joined (map (λ (f : Field). type_used f.of) (drop i fields)))
    ≡ (places ++ places_of index (type_used field.of)) ++ places_of index (joined (map (λ (f : Field). type_used f.of) (drop (suc i) fields)))
used_here index fields i field places within is =
    let cut : drop i fields ≡ field ∷ drop (suc i) fields = drop-cons fields i field within ∙ ap (λ (f : Field). f ∷ drop (suc i) fields) (sym is) in
    rw (cut, places_append) (sym (append_assoc places (places_of index (type_used field.of)) _))

past_end : (members : List Member) (i : ℕ) → length members ≤ i → used_at members i ≡ []
past_end [] i h = refl
past_end (member ∷ members) zero h = absurd (omega arith)
past_end (member ∷ members) (suc i) h = past_end members i (omega arith)

at_end : (members : List Member) (member : Member) → used_at (members ++ member ∷ []) (length members) ≡ member_used member
at_end [] member = refl
at_end (first ∷ members) member = at_end members member

before_end : (members : List Member) (member : Member) (i : ℕ) → (length members ≡ i → ⊥) → used_at (members ++ member ∷ []) i ≡ used_at members i
before_end [] member zero h = absurd (h refl)
before_end [] member (suc i) h = refl
before_end (first ∷ members) member zero h = refl
before_end (first ∷ members) member (suc i) h = before_end members member i (λ e. h (ap suc e))

or_none : (a : Bool) → (a || false) ≡ a
or_none true = refl
or_none false = refl

pub told_more : (index : Index) (members : List Member) (place : ℕ) (member : Member) (p i : ℕ) → place < length members → member ≡ get_or members place member
    → (has p (places_of index (used_at (take place members) i)) || (place == i && has p (places_of index (member_used member))))
    ≡ has p (places_of index (used_at (take (place + 1) members) i))
told_more index members place member p i within is =
    let more : take (place + 1) members ≡ take place members ++ member ∷ [] =
    take_more members place member within ∙ ap (λ (m : Member). take place members ++ m ∷ []) (sym is) in
    let size : length (take place members) ≡ place = omega (arith, length-take-le {A = Member}) in
    elim (cases_Bool (place == i)) [
      | inl same ↦ (let at : length (take place members) ≡ i = size ∙ eqb-true place i same in
          let none = past_end (take place members) i (omega (arith, at)) in
          let last = ap (used_at (take place members ++ member ∷ [])) (sym at) ∙ at_end (take place members) member in
          rw (more, same, none, last) refl)
      | inr other ↦ (let apart : length (take place members) ≡ i → ⊥ = λ e. (let yes : (place == i) ≡ true = eq-eqb place i (sym size ∙ e) in let both : true ≡ false = sym yes ∙ other in cc) in
          rw (more, other, before_end (take place members) member i apart) (or_none _))
    ]
