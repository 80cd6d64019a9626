-- a struct's fields, as the members of an object
use Rattle.std.proofs.Common.{◌≡◌, true, false, List, [], ◌∷◌, ◌++◌, Option, Some, None, map, refl, ◌∙◌}
use Rattle.serde_json.specs.Data.{Data, Members}
use Rattle.serde_json.specs.Find.{get_member}
use Rattle.serde_json.proofs.Views.{get_member-put, get_member-put_other}
use Rattle.idl_tree.specs.Names.{Bytes}
use Rattle.idl_tree.specs.Faults.{Found, is_among, bracket_fault}
use Rattle.idl_tree.specs.declared.trees.Field.{Field}
use Rattle.typed_value.specs.Shows.{Writer, with_written, with_fields}
use Rattle.typed_value.proofs.Distinct.{bracket_split, among_split, among_more, apart, not_same}

-- no member has a name that is not among those before
abbrev pub Fresh : List Bytes → Members → Type 0
Fresh before ms = (q : Bytes) → is_among before q ≡ false → get_member q ms ≡ None

written_other : (q name : Bytes) (o : Option Data) (ms : Members) → (q ≡ name → ⊥) → get_member q (with_written name o ms) ≡ get_member q ms
written_other q name None ms other = refl
written_other q name (Some d) ms other = get_member-put_other q name d ms other

pub fresh_more : (before : List Bytes) (name : Bytes) (o : Option Data) (ms : Members) → Fresh before ms → Fresh (before ++ name ∷ []) (with_written name o ms)
fresh_more before name o ms fresh q none =
    let parts = among_split before name q none in
    written_other q name o ms (not_same name q parts.1) ∙ fresh q parts.0

pub written_here : (name : Bytes) (o : Option Data) (ms : Members) → get_member name ms ≡ None → get_member name (with_written name o ms) ≡ o
written_here name None ms none = none
written_here name (Some d) ms none = get_member-put name d ms

module _ (fault : Field → Found) where
  abbrev pub pair_of : Field → Bytes × Found
  pair_of field = (field.name, fault field)

  -- later fields leave a name alone that is among those before them
  pub stays : (fields : List Field) (values : List Writer) (before : List Bytes) (q : Bytes) (ms : Members)
      → bracket_fault before (map pair_of fields) ≡ None → is_among before q ≡ true
      → get_member q (with_fields fields values ms) ≡ get_member q ms
  stays [] values before q ms h here = refl
  stays (field ∷ fields) [] before q ms h here = refl
  stays (field ∷ fields) (writes ∷ values) before q ms h here =
      let parts = bracket_split before (pair_of field) (map pair_of fields) h in
      stays fields values (before ++ field.name ∷ []) q _ parts.2 (among_more before field.name q here)
      ∙ written_other q field.name (writes field.of.prefixes field.of.core) ms (apart before q field.name here parts.0)
