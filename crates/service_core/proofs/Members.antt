-- methods and errors of an interface in form
use Rattle.std.proofs.Common.{◌≡◌, ℕ, Bool, true, false, ◌&&◌, ◌==◌, cond, List, [], ◌∷◌, ◌++◌, Option, Some, None, find, option_map, option_and_then, refl, sym, ap, ◌∙◌, subst, ◌⊎◌, inl, inr, IsTrue, arith, rules}
use Rattle.std.specs.List.{list_all}
use Rattle.std.specs.Char.{is_ascii_alphanumeric, is_ascii_uppercase}
use Rattle.std.specs.Prelude.{slice_index}
use Rattle.std.specs.Str.{bytes_eq}
use Rattle.std.proofs.lemmas.Bool.{and_parts, cases_Bool}
use Rattle.std.proofs.lemmas.Slice.Eq.{bytes_eq-Decides}
use Rattle.idl_tree.specs.Names.{Bytes, is_member_name, is_interface_name}
use Rattle.idl_tree.specs.Form.{Form, interface_form, member_form, part_form, is_struct, body_form, are_notes}
use Rattle.idl_tree.specs.Faults.{is_named, is_space, space_of, method_in, fault_in, method_named, error_named, part_named}
use Rattle.idl_tree.specs.declared.spaces.Space.{Space}
use Rattle.idl_tree.specs.declared.spaces.Space.TheVariants.{Methods, Errors}
use Rattle.idl_tree.specs.declared.trees.Interface.{Interface}
use Rattle.idl_tree.specs.declared.trees.Member.{Member}
use Rattle.idl_tree.specs.declared.trees.Body.{Body}
use Rattle.idl_tree.specs.declared.trees.Part.{Part}
use Rattle.idl_tree.specs.declared.trees.Part.TheVariants.{Shape, Method, Fault}
use Rattle.typed_value.proofs.ReadsFit.{some_is}
use Rattle.sheet_draft.specs.Outlines.{at_last_dot, with_first}
use Rattle.sheet_step.specs.Step.{qualified}

first_or : (b : Bool) (member m : Member) (later : Option Member) → cond b (Some member) later ≡ Some m → ((b ≡ true) × (member ≡ m)) ⊎ (later ≡ Some m)
first_or true member m later is = inl (refl, some_is is)
first_or false member m later is = inr is

-- what is found passes the test, and is in form as all members are
found : (p : Member → Bool) (members : List Member) (m : Member) → list_all member_form members ≡ true → find p members ≡ Some m → (p m ≡ true) × (member_form m ≡ true)
found p [] m h is = absurd (cc)
found p (member ∷ members) m h is =
    let parts = and_parts (member_form member) (list_all member_form members) h in
    elim (first_or (p member) member m (find p members) is) [
      | inl here ↦ (subst (λ (x : Member). p x ≡ true) here.1 here.0, subst (λ (x : Member). member_form x ≡ true) here.1 parts.0)
      | inr later ↦ found p members m parts.1 later
    ]

members_formed : (home : Interface) → interface_form home ≡ true → list_all member_form home.members ≡ true
members_formed home form =
    let p = and_parts (are_notes home.notes && is_interface_name home.name && list_all member_form home.members) (are_notes home.tail) form in
    (and_parts (are_notes home.notes && is_interface_name home.name) (list_all member_form home.members) p.0).1

-- the form of a member
name_formed : (m : Member) → member_form m ≡ true → is_member_name m.name ≡ true
name_formed m form =
    let p = and_parts (are_notes m.notes && is_member_name m.name) (part_form m.part) form in
    (and_parts (are_notes m.notes) (is_member_name m.name) p.0).1

part_formed : (m : Member) → member_form m ≡ true → part_form m.part ≡ true
part_formed m form = (and_parts (are_notes m.notes && is_member_name m.name) (part_form m.part) form).1

-- a look-up finds a member
there : {A : Type 0} (in_part : Part → Option A) (o : Option Member) (x : A) → option_and_then in_part (option_map (λ (m : Member). m.part) o) ≡ Some x
    → (m : Member) × ((o ≡ Some m) × (in_part m.part ≡ Some x))
there in_part None x is = absurd (cc)
there in_part (Some m) x is = (m, (refl, is))

method_structs : (part : Part) (input output : Body) → part_form part ≡ true → method_in part ≡ Some (input, output)
    → (is_struct input ≡ true) × (is_struct output ≡ true)
method_structs (Shape body) input output form is = absurd (cc)
method_structs (Fault body) input output form is = absurd (cc)
method_structs (Method one other) input output form is =
    let same = some_is is in
    let p = and_parts (is_struct one && body_form one && is_struct other) (body_form other) form in
    let q = and_parts (is_struct one && body_form one) (is_struct other) p.0 in
    let r = and_parts (is_struct one) (body_form one) q.0 in (
      subst (λ (bodies : Body × Body). is_struct bodies.0 ≡ true) same r.0,
      subst (λ (bodies : Body × Body). is_struct bodies.1 ≡ true) same q.1,
    )

fault_struct : (part : Part) (body : Body) → part_form part ≡ true → fault_in part ≡ Some body → is_struct body ≡ true
fault_struct (Shape other) body form is = absurd (cc)
fault_struct (Method input output) body form is = absurd (cc)
fault_struct (Fault other) body form is =
    subst (λ (b : Body). is_struct b ≡ true) (some_is is) (and_parts (is_struct other) (body_form other) form).0

-- the bodies of a method of an interface in form are structs
pub method_formed : (home : Interface) (name : Bytes) (input output : Body) → interface_form home ≡ true → method_named name home ≡ Some (input, output)
    → (is_struct input ≡ true) × (is_struct output ≡ true)
method_formed home name input output form is =
    let m = there method_in (find (is_named Methods name) home.members) (input, output) is in
    let at = found (is_named Methods name) home.members m.0 (members_formed home form) m.1.0 in
    method_structs m.0.part input output (part_formed m.0 at.1) m.1.1

-- an error's body is a struct, and its name is a name of a member
pub error_formed : (home : Interface) (name : Bytes) (body : Body) → interface_form home ≡ true → error_named name home ≡ Some body
    → (is_struct body ≡ true) × (is_member_name name ≡ true)
error_formed home name body form is =
    let m = there fault_in (find (is_named Errors name) home.members) body is in
    let at = found (is_named Errors name) home.members m.0 (members_formed home form) m.1.0 in
    let same = (bytes_eq-Decides m.0.name name).0 (and_parts (is_space Errors (space_of m.0.part)) (bytes_eq m.0.name name) at.0).1 in (
      fault_struct m.0.part body (part_formed m.0 at.1) m.1.1,
      subst (λ (word : Bytes). is_member_name word ≡ true) same (name_formed m.0 at.1),
    )

-- such a name has no dot, so a qualified one is cut before it
abbrev IsPlain : Bytes → Type 0
IsPlain name = list_all is_ascii_alphanumeric name ≡ true

not_dot : (b : ℕ) (name : Bytes) → is_ascii_alphanumeric b ≡ true → with_first b name None ≡ None
not_dot b name h = elim (cases_Bool (b == 46)) [
  | inl dot ↦ (let same : b ≡ 46 = grind (arith, dot) in let no : false ≡ true = subst (λ (x : ℕ). is_ascii_alphanumeric x ≡ true) same h in absurd (cc))
  | inr other ↦ ap (λ (is : Bool). cond is (Some ([], name)) None) other
]

no_dot : (name : Bytes) → IsPlain name → at_last_dot name ≡ None
no_dot [] h = refl
no_dot (b ∷ name) h =
    let parts = and_parts (is_ascii_alphanumeric b) (list_all is_ascii_alphanumeric name) h in
    ap (with_first b name) (no_dot name parts.1) ∙ not_dot b name parts.0

last_dot : (front name : Bytes) → IsPlain name → at_last_dot (front ++ 46 ∷ name) ≡ Some (front, name)
last_dot [] name h = ap (with_first 46 name) (no_dot name h)
last_dot (b ∷ front) name h = ap (with_first b (front ++ 46 ∷ name)) (last_dot front name h)

qualified_is : (interface name : Bytes) → qualified interface name ≡ interface ++ 46 ∷ name
qualified_is [] name = search rules
qualified_is (b ∷ interface) name = ap (λ (l : Bytes). b ∷ l) (qualified_is interface name)

pub qualified_cut : (interface name : Bytes) → is_member_name name ≡ true → at_last_dot (qualified interface name) ≡ Some (interface, name)
qualified_cut interface name h = ap at_last_dot (qualified_is interface name) ∙ last_dot interface name (and_parts (is_ascii_uppercase (slice_index name 0)) (list_all is_ascii_alphanumeric name) h).1

pub input_struct : (home : Interface) (name : Bytes) (bodies : Body × Body) → Form home → Some bodies ≡ method_named name home → is_struct bodies.0 ≡ true
input_struct home name bodies form is = (method_formed home name bodies.0 bodies.1 form (sym is)).0
