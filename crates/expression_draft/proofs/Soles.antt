-- what is the only member of an object
use Rattle.std.proofs.Common.{◌≡◌, true, false, Some, None, refl}
use Rattle.serde_json.specs.Data.{Data, Members, no_members, member}
use Rattle.serde_json.specs.Find.{as_object}
use Rattle.idl_tree.specs.Names.{Bytes}
use Rattle.expression_draft.specs.Members.{has_no_member, sole_member, sole_of}

one_member : (name : Bytes) (d : Data) (behind : Members) → has_no_member behind ≡ true
    → Some (name, d) ≡ sole_member (member name d behind)
one_member name d no_members h = refl
one_member name d (member other e ms) h = let no : false ≡ true = h in absurd (cc)

two_members : (name : Bytes) (d : Data) (behind : Members) → has_no_member behind ≡ false
    → None ≡ sole_member (member name d behind)
two_members name d no_members h = let no : true ≡ false = h in absurd (cc)
two_members name d (member other e ms) h = refl

pub sole_left : (d : Data) (ms : Members) (name : Bytes) (e : Data) (behind : Members) → Some ms ≡ as_object d
    → ms ≡ member name e behind → has_no_member behind ≡ true → Some (name, e) ≡ sole_of d
sole_left d ms name e behind is first h = rw (← is, first) (one_member name e behind h)

pub more_left : (d : Data) (ms : Members) (name : Bytes) (e : Data) (behind : Members) → Some ms ≡ as_object d
    → ms ≡ member name e behind → has_no_member behind ≡ false → None ≡ sole_of d
more_left d ms name e behind is first h = rw (← is, first) (two_members name e behind h)

pub none_left : (d : Data) (ms : Members) → Some ms ≡ as_object d → ms ≡ no_members → None ≡ sole_of d
none_left d ms is none = rw (← is, none) refl

pub no_object : (d : Data) → None ≡ as_object d → None ≡ sole_of d
no_object d is = rw (← is) refl
