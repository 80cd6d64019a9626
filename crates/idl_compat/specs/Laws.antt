-- What a pair of types that is within means of the values: each value of the one type, shown, reads by the other.
use Rattle.std.specs.Prelude.{◌≡◌, true, None, is_some}
use Rattle.idl_tree.specs.Faults.{Good, defines, body_fault}
use Rattle.idl_tree.specs.Form.{is_struct}
use Rattle.idl_tree.specs.declared.trees.Interface.{Interface}
use Rattle.idl_tree.specs.declared.trees.Body.{Body}
use Rattle.idl_tree.specs.declared.trees.TypeRef.{TypeRef}
use Rattle.value_laws.specs.Laws.{HasNames}
use Rattle.typed_value.specs.OfType.{is_of_type, is_of_body}
use Rattle.typed_value.specs.Reads.{Reads, ReadsBody}
use Rattle.typed_value.specs.Shows.{Shows, ShowsFields}
use Rattle.typed_value.specs.declared.vals.Val.{Val}
use Rattle.idl_compat.specs.Within.{Within, bodies}

-- of types
abbrev pub WithinReads : Type 0
WithinReads = (from to : Interface) (of by : TypeRef) (v : Val) → Good from → HasNames from of
    → Within (from, to) ((of.prefixes, of.core), (by.prefixes, by.core)) → is_of_type from of v ≡ true
    → is_some (Reads to by (Shows from of v)) ≡ true

-- of structs, as those of methods and errors
abbrev pub StructWithinReads : Type 0
StructWithinReads = (from to : Interface) (body reads : Body) (v : Val) → Good from → body_fault (defines from) body ≡ None
    → is_struct body ≡ true → Within (from, to) (bodies body reads) → is_of_body from body v ≡ true
    → is_some (ReadsBody to reads (ShowsFields from body v)) ≡ true
