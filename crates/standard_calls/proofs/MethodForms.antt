-- the replies of a method of an interface in form are structs
use Rattle.std.proofs.Common.{◌≡◌, Bool, true, false, ◌&&◌, cond, List, [], ◌∷◌, Option, Some, None, find, option_map, option_and_then, refl, sym, ap, ◌∙◌, subst, ◌⊎◌, inl, inr}
use Rattle.std.specs.List.{list_all}
use Rattle.std.proofs.lemmas.Bool.{and_parts}
use Rattle.idl_tree.specs.Names.{Bytes, is_member_name, is_interface_name}
use Rattle.idl_tree.specs.Form.{Form, interface_form, member_form, part_form, is_struct, body_form, are_notes}
use Rattle.idl_tree.specs.Faults.{is_named, method_in, method_named, part_named}
use Rattle.idl_tree.specs.declared.spaces.Space.TheVariants.{Methods}
use Rattle.idl_tree.specs.declared.trees.Interface.{Interface}
use Rattle.idl_tree.specs.declared.trees.Member.{Member}
use Rattle.idl_tree.specs.declared.trees.Body.{Body}
use Rattle.idl_tree.specs.declared.trees.Part.{Part}
use Rattle.idl_tree.specs.declared.trees.Part.TheVariants.{Shape, Method, Fault}

first_or : (b : Bool) (member m : Member) (later : Option Member) → cond b (Some member) later ≡ Some m → (member ≡ m) ⊎ (later ≡ Some m)
first_or true member m later is = inl cc
first_or false member m later is = inr is

-- what is found is in form, as all members are
found : (p : Member → Bool) (members : List Member) (m : Member) → list_all member_form members ≡ true → find p members ≡ Some m → member_form m ≡ true
found p [] m h is = absurd (cc)
found p (member ∷ members) m h is =
    let parts = and_parts (member_form member) (list_all member_form members) h in
    elim (first_or (p member) member m (find p members) is) [
      | inl here ↦ subst (λ (x : Member). member_form x ≡ true) here parts.0
      | inr later ↦ found p members m parts.1 later
    ]

members_formed : (home : Interface) → interface_form home ≡ true → list_all member_form home.members ≡ true
members_formed home form =
    let p = and_parts (are_notes home.notes && is_interface_name home.name && list_all member_form home.members) (are_notes home.tail) form in
    (and_parts (are_notes home.notes && is_interface_name home.name) (list_all member_form home.members) p.0).1

part_formed : (m : Member) → member_form m ≡ true → part_form m.part ≡ true
part_formed m form = (and_parts (are_notes m.notes && is_member_name m.name) (part_form m.part) form).1

there : (o : Option Member) (bodies : Body × Body) → option_and_then method_in (option_map (λ (m : Member). m.part) o) ≡ Some bodies
    → (m : Member) × ((o ≡ Some m) × (method_in m.part ≡ Some bodies))
there None bodies is = absurd (cc)
there (Some m) bodies is = (m, (refl, is))

replies_struct : (part : Part) (bodies : Body × Body) → part_form part ≡ true → method_in part ≡ Some bodies → is_struct bodies.1 ≡ true
replies_struct (Shape body) bodies form is = absurd (cc)
replies_struct (Fault body) bodies form is = absurd (cc)
replies_struct (Method one other) bodies form is =
    let p = and_parts (is_struct one && body_form one && is_struct other) (body_form other) form in
    let q = and_parts (is_struct one && body_form one) (is_struct other) p.0 in
    let same : ◌≡◌ {A = Body × Body} (one, other) bodies = cc in
    subst (λ (both : Body × Body). is_struct both.1 ≡ true) same q.1

pub output_struct : (home : Interface) (name : Bytes) (bodies : Body × Body) → Form home → Some bodies ≡ method_named name home → is_struct bodies.1 ≡ true
output_struct home name bodies form is =
    let m = there (find (is_named Methods name) home.members) bodies (sym is) in
    replies_struct m.0.part bodies (part_formed m.0 (found (is_named Methods name) home.members m.0 (members_formed home form) m.1.0)) m.1.1
