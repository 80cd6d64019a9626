-- methods and errors of an interface that is served: what shows a value of their bodies reads again
use Rattle.std.proofs.Common.{◌≡◌, ℕ, Bool, true, false, ◌&&◌, ◌==◌, cond, List, [], ◌∷◌, ◌++◌, Option, Some, None, is_some, find, option_map, option_and_then, refl, ap, ◌∙◌, subst, ◌⊎◌, inl, inr, arith, rules}
use Rattle.std.specs.List.{list_all, list_any}
use Rattle.std.specs.Char.{is_ascii_alphanumeric, is_ascii_uppercase}
use Rattle.std.specs.Prelude.{slice_index}
use Rattle.std.specs.Str.{bytes_eq}
use Rattle.std.proofs.lemmas.Bool.{and_parts, cases_Bool}
use Rattle.std.proofs.lemmas.Slice.Eq.{bytes_eq-Decides}
use Rattle.idl_tree.specs.Names.{Bytes, is_member_name, is_interface_name}
use Rattle.idl_tree.specs.Form.{interface_form, member_form, part_form, is_struct, body_form, are_notes}
use Rattle.idl_tree.specs.Faults.{Found, first_of, is_named, is_space, space_of, twice, defines, method_in, fault_in, method_named, error_named, body_fault, part_fault, members_fault}
use Rattle.idl_tree.specs.declared.spaces.Space.TheVariants.{Methods, Errors}
use Rattle.idl_tree.specs.declared.trees.Interface.{Interface}
use Rattle.idl_tree.specs.declared.trees.Member.{Member}
use Rattle.idl_tree.specs.declared.trees.Body.{Body}
use Rattle.idl_tree.specs.declared.trees.Part.{Part}
use Rattle.idl_tree.specs.declared.trees.Part.TheVariants.{Shape, Method, Fault}
use Rattle.typed_value.specs.OfType.{is_of_body}
use Rattle.typed_value.specs.Reads.{ReadsBody}
use Rattle.typed_value.specs.Shows.{ShowsFields}
use Rattle.typed_value.specs.declared.vals.Val.{Val}
use Rattle.typed_value.proofs.Distinct.{split}
use Rattle.typed_value.proofs.ReadsFit.{some_is}
use Rattle.value_laws.proofs.StructBack.{struct_back}
use Rattle.sheet_draft.specs.Outlines.{at_last_dot, with_first}
use Rattle.sheet_step.specs.Step.{qualified}
use Rattle.service_core.specs.Served.{IsServed}

first_or : (b : Bool) (member m : Member) (later : Option Member) → cond b (Some member) later ≡ Some m → ((b ≡ true) × (member ≡ m)) ⊎ (later ≡ Some m)
first_or true member m later is = inl (refl, some_is is)
first_or false member m later is = inr is

-- what is found passes the test, and is in form and without a fault as all members are
pub record IsFound (home : Interface) (p : Member → Bool) (m : Member) : Type 0 where
  pub passes : p m ≡ true
  pub formed : member_form m ≡ true
  pub good : part_fault (defines home) m.part ≡ None

module _ (home : Interface) (p : Member → Bool) where
  found : (before members : List Member) (m : Member) → list_all member_form members ≡ true → members_fault (defines home) before members ≡ None
      → find p members ≡ Some m → IsFound home p m
  found before [] m form good is = absurd (cc)
  found before (member ∷ members) m form good is =
      let forms = and_parts (member_form member) (list_all member_form members) form in
      let parts = split (twice (space_of member.part) member.name) (list_any (is_named (space_of member.part) member.name) before)
      (part_fault (defines home) member.part) (members_fault (defines home) (before ++ member ∷ []) members) good in
      elim (first_or (p member) member m (find p members) is) [
        | inl here ↦ subst (IsFound home p) here.1 (record { passes = here.0; formed = forms.0; good = parts.1 })
        | inr later ↦ found (before ++ member ∷ []) members m forms.1 parts.2 later
      ]

members_formed : (home : Interface) → interface_form home ≡ true → list_all member_form home.members ≡ true
members_formed home form =
    let p = and_parts (are_notes home.notes && is_interface_name home.name && list_all member_form home.members) (are_notes home.tail) form in
    (and_parts (are_notes home.notes && is_interface_name home.name) (list_all member_form home.members) p.0).1

-- the form of a member
name_formed : (m : Member) → member_form m ≡ true → is_member_name m.name ≡ true
name_formed m form =
    let p = and_parts (are_notes m.notes && is_member_name m.name) (part_form m.part) form in
    (and_parts (are_notes m.notes) (is_member_name m.name) p.0).1

part_formed : (m : Member) → member_form m ≡ true → part_form m.part ≡ true
part_formed m form = (and_parts (are_notes m.notes && is_member_name m.name) (part_form m.part) form).1

-- a look-up finds a member
there : {A : Type 0} (in_part : Part → Option A) (o : Option Member) (x : A) → option_and_then in_part (option_map (λ (m : Member). m.part) o) ≡ Some x
    → (m : Member) × ((o ≡ Some m) × (in_part m.part ≡ Some x))
there in_part None x is = absurd (cc)
there in_part (Some m) x is = (m, (refl, is))

-- a struct whose names are good in the interface
pub record IsSound (home : Interface) (body : Body) : Type 0 where
  pub structs : is_struct body ≡ true
  pub good : body_fault (defines home) body ≡ None

second_none : (one other : Found) → first_of one other ≡ None → other ≡ None
second_none None other is = is
second_none (Some fault) other is = absurd (cc)

module _ (home : Interface) where
  output_sound : (part : Part) (input output : Body) → part_form part ≡ true → part_fault (defines home) part ≡ None → method_in part ≡ Some (input, output)
      → IsSound home output
  output_sound (Shape body) input output form good is = absurd (cc)
  output_sound (Fault body) input output form good is = absurd (cc)
  output_sound (Method one other) input output form good is =
      let p = and_parts (is_struct one && body_form one && is_struct other) (body_form other) form in
      let q = and_parts (is_struct one && body_form one) (is_struct other) p.0 in
      subst (λ (bodies : Body × Body). IsSound home bodies.1) (some_is is)
      (record { structs = q.1; good = second_none (body_fault (defines home) one) (body_fault (defines home) other) good })

  error_sound : (part : Part) (body : Body) → part_form part ≡ true → part_fault (defines home) part ≡ None → fault_in part ≡ Some body → IsSound home body
  error_sound (Shape other) body form good is = absurd (cc)
  error_sound (Method input output) body form good is = absurd (cc)
  error_sound (Fault other) body form good is =
      subst (IsSound home) (some_is is) (record { structs = (and_parts (is_struct other) (body_form other) form).0; good = good })

-- the reply of a method
pub method_sound : (home : Interface) (name : Bytes) (input output : Body) → IsServed home → method_named name home ≡ Some (input, output) → IsSound home output
method_sound home name input output served is =
    let m = there method_in (find (is_named Methods name) home.members) (input, output) is in
    let at = found home (is_named Methods name) [] home.members m.0 (members_formed home served.formed) served.good m.1.0 in
    output_sound home m.0.part input output (part_formed m.0 at.formed) at.good m.1.1

-- the parameters of an error, whose name is a member's
pub named_sound : (home : Interface) (name : Bytes) (body : Body) → IsServed home → error_named name home ≡ Some body
    → IsSound home body × (is_member_name name ≡ true)
named_sound home name body served is =
    let m = there fault_in (find (is_named Errors name) home.members) body is in
    let at = found home (is_named Errors name) [] home.members m.0 (members_formed home served.formed) served.good m.1.0 in
    let same = (bytes_eq-Decides m.0.name name).0 (and_parts (is_space Errors (space_of m.0.part)) (bytes_eq m.0.name name) at.passes).1 in (
      error_sound home m.0.part body (part_formed m.0 at.formed) at.good m.1.1,
      subst (λ (word : Bytes). is_member_name word ≡ true) same (name_formed m.0 at.formed),
    )

-- what shows a value reads
pub shown_reads : (home : Interface) (body : Body) (v : Val) → IsServed home → IsSound home body → is_of_body home body v ≡ true
    → is_some (ReadsBody home body (ShowsFields home body v)) ≡ true
shown_reads home body v served sound fit =
    ap (λ (o : Option Val). is_some o) (struct_back home body (defines home) v served.good sound.good sound.structs fit)

-- a member's name has no dot, so a qualified one is cut before it
not_dot : (b : ℕ) (name : Bytes) → is_ascii_alphanumeric b ≡ true → with_first b name None ≡ None
not_dot b name h = elim (cases_Bool (b == 46)) [
  | inl dot ↦ (let same : b ≡ 46 = grind (arith, dot) in let no : false ≡ true = subst (λ (x : ℕ). is_ascii_alphanumeric x ≡ true) same h in absurd (cc))
  | inr other ↦ ap (λ (is : Bool). cond is (Some ([], name)) None) other
]

no_dot : (name : Bytes) → list_all is_ascii_alphanumeric name ≡ true → at_last_dot name ≡ None
no_dot [] h = refl
no_dot (b ∷ name) h =
    let parts = and_parts (is_ascii_alphanumeric b) (list_all is_ascii_alphanumeric name) h in
    ap (with_first b name) (no_dot name parts.1) ∙ not_dot b name parts.0

last_dot : (front name : Bytes) → list_all is_ascii_alphanumeric name ≡ true → at_last_dot (front ++ 46 ∷ name) ≡ Some (front, name)
last_dot [] name h = ap (with_first 46 name) (no_dot name h)
last_dot (b ∷ front) name h = ap (with_first b (front ++ 46 ∷ name)) (last_dot front name h)

qualified_is : (interface name : Bytes) → qualified interface name ≡ interface ++ 46 ∷ name
qualified_is [] name = search rules
qualified_is (b ∷ interface) name = ap (λ (l : Bytes). b ∷ l) (qualified_is interface name)

pub qualified_cut : (interface name : Bytes) → is_member_name name ≡ true → at_last_dot (qualified interface name) ≡ Some (interface, name)
qualified_cut interface name h = ap at_last_dot (qualified_is interface name) ∙ last_dot interface name (and_parts (is_ascii_uppercase (slice_index name 0)) (list_all is_ascii_alphanumeric name) h).1
