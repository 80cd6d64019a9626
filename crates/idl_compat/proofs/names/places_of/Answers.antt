use Rattle.std.proofs.Common.{◌≡◌, Bool, ℕ, ◌+◌, ◌<◌, ◌&&◌, cond, List, [], ◌∷◌, ◌++◌, Some, is_none, length, take, get_or, refl, sym, ap, ◌∙◌, arith}
use Rattle.std.specs.Str.{bytes_eq}
use Rattle.std.specs.List.{position_from}
use Rattle.std.proofs.lemmas.List.{take_more, length-take-le}
use Rattle.idl_tree.specs.Names.{Bytes}
use Rattle.idl_tree.specs.declared.trees.Field.{Field}
use Rattle.idl_tree.proofs.FirstPlaces.{position_from_push}
use Rattle.idl_compat.proofs.names.places_of.Goals as goal

abbrev named : Bytes → Field → Bool
named name field = bytes_eq field.name name

-- the first places among one field more
place_more : (fields : List Field) (i : ℕ) (field : Field) (name : Bytes) → i < length fields → field ≡ get_or fields i field
    → position_from (named name) 0 (take (i + 1) fields)
    ≡ cond (bytes_eq field.name name && is_none (position_from (named name) 0 (take i fields))) (Some i) (position_from (named name) 0 (take i fields))
place_more fields i field name within at =
    let more : take (i + 1) fields ≡ take i fields ++ field ∷ [] =
    take_more fields i field within ∙ ap (λ (f : Field). take i fields ++ f ∷ []) (sym at) in
    let size : 0 + length (take i fields) ≡ i = omega (arith, length-take-le i fields (omega arith)) in
    rw (more, position_from_push, size) refl

pub loop-place-preserved : goal.loop-place-preserved
loop-place-preserved c = λ name.
    rw (
      rw c.as_str.ensures at (c.in_ok-put_first.ensures name),
      c.loop-place.invariant name,
      place_more c.args.fields.now c.loop-place.place c.index-fields-place.result name c.loop-place-test.true c.index-fields-place.is,
    ) refl
