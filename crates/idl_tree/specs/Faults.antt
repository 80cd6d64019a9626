-- The faults of names: what stands twice and what is used without a definition, in text order.
use Rattle.std.specs.Prelude.{◌≡◌, Bool, true, false, ◌&&◌, List, [], ◌∷◌, ◌++◌, Option, Some, None, Result, Ok, Err, if◌then◌else◌, map, find, option_map, option_and_then}
use Rattle.std.specs.List.{list_any}
use Rattle.std.specs.Str.{bytes_eq}
use Rattle.idl_tree.specs.Names.{Bytes}
use Rattle.idl_tree.specs.declared.faults.NameFault.{NameFault}
use Rattle.idl_tree.specs.declared.faults.NameFault.TheVariants.{TwiceType, TwiceMethod, TwiceError, TwiceField, UnknownType, Memory}
use Rattle.idl_tree.specs.declared.spaces.Space.{Space}
use Rattle.idl_tree.specs.declared.spaces.Space.TheVariants.{Types, Methods, Errors}
use Rattle.idl_tree.specs.declared.trees.Interface.{Interface}
use Rattle.idl_tree.specs.declared.trees.Member.{Member}
use Rattle.idl_tree.specs.declared.trees.Part.{Part}
use Rattle.idl_tree.specs.declared.trees.Part.TheVariants.{Shape, Method, Fault}
use Rattle.idl_tree.specs.declared.trees.Body.{Body}
use Rattle.idl_tree.specs.declared.trees.TypeRef.{TypeRef}
use Rattle.idl_tree.specs.declared.trees.Core.{Core}
use Rattle.idl_tree.specs.declared.trees.Body.TheOpen.{Body-F, Core-F, Field-F, TypeRef-F}
use Rattle.idl_tree.specs.declared.trees.Body.TheFolds.{fold-Body, fold-Core, fold-TypeRef}

abbrev pub Found : Type 0
Found = Option NameFault

-- the earlier of two faults
abbrev pub first_of : Found → Found → Found
first_of None later = later
first_of (Some fault) later = Some fault

-- the name is one of those
abbrev pub is_among : List Bytes → Bytes → Bool
is_among names name = list_any (λ other. bytes_eq other name) names

-- names of one bracket, each with the first fault in its type, behind the names that stood before
abbrev pub bracket_fault : List Bytes → List (Bytes × Found) → Found
bracket_fault before [] = None
bracket_fault before (field ∷ fields) = if is_among before field.0 then Some (TwiceField field.0)
    else first_of field.1 (bracket_fault (before ++ field.0 ∷ []) fields)

-- a body's first fault, where `defined` tells the names that are types
abbrev pub body_fault_step : Body-F Found Found (Bytes × Found) Found → Found
body_fault_step (Body-F.Struct fields ending) = bracket_fault [] fields
body_fault_step (Body-F.Enum names ending) = bracket_fault [] (map (λ named. (named.name, None)) names)

abbrev pub core_fault_step : (Bytes → Bool) → Core-F Found Found (Bytes × Found) Found → Found
core_fault_step defined (Core-F.Name name) = if defined name then None else Some (UnknownType name)
core_fault_step defined (Core-F.Inline body) = body
core_fault_step defined core = None

abbrev pub field_fault_step : Field-F Found Found (Bytes × Found) Found → Bytes × Found
field_fault_step field = (field.name, field.of)

abbrev pub type_fault_step : TypeRef-F Found Found (Bytes × Found) Found → Found
type_fault_step of = of.core

abbrev pub body_fault : (Bytes → Bool) → Body → Found
body_fault defined = fold-Body Found Found (Bytes × Found) Found body_fault_step (core_fault_step defined) field_fault_step type_fault_step

abbrev pub core_fault : (Bytes → Bool) → Core → Found
core_fault defined = fold-Core Found Found (Bytes × Found) Found body_fault_step (core_fault_step defined) field_fault_step type_fault_step

abbrev pub type_fault : (Bytes → Bool) → TypeRef → Found
type_fault defined = fold-TypeRef Found Found (Bytes × Found) Found body_fault_step (core_fault_step defined) field_fault_step type_fault_step

abbrev pub part_fault : (Bytes → Bool) → Part → Found
part_fault defined (Shape body) = body_fault defined body
part_fault defined (Method input output) = first_of (body_fault defined input) (body_fault defined output)
part_fault defined (Fault body) = body_fault defined body

-- types, methods and errors are three name spaces
abbrev pub space_of : Part → Space
space_of (Shape body) = Types
space_of (Method input output) = Methods
space_of (Fault body) = Errors

abbrev pub is_space : Space → Space → Bool
is_space Types Types = true
is_space Methods Methods = true
is_space Errors Errors = true
is_space space other = false

-- the member has that name in that name space
abbrev pub is_named : Space → Bytes → Member → Bool
is_named space name member = is_space space (space_of member.part) && bytes_eq member.name name

abbrev pub twice : Space → Bytes → NameFault
twice Types name = TwiceType name
twice Methods name = TwiceMethod name
twice Errors name = TwiceError name

-- members, behind those that stood before
abbrev pub members_fault : (Bytes → Bool) → List Member → List Member → Found
members_fault defined before [] = None
members_fault defined before (member ∷ members) = if list_any (is_named (space_of member.part) member.name) before
    then Some (twice (space_of member.part) member.name)
    else first_of (part_fault defined member.part) (members_fault defined (before ++ member ∷ []) members)

-- the interface defines a type of that name, before or after its use
abbrev pub defines : Interface → Bytes → Bool
defines tree name = list_any (is_named Types name) tree.members

-- the first fault in text order
abbrev pub first_fault : Interface → Found
first_fault tree = members_fault (defines tree) [] tree.members

-- no name stands twice in its name space or bracket, and each type that is used is defined
abbrev pub Good : Interface → Type 0
Good tree = first_fault tree ≡ None

-- a refusal for want of memory tells nothing, and any other is the first fault
abbrev pub Reports : NameFault → Found → Type 0
Reports Memory found = Unit {0}
Reports fault found = found ≡ Some fault

-- what a check answers: that there is no fault, or the first one
abbrev pub Answers : {A : Type 0} → Result A NameFault → Found → Type 0
Answers (Ok value) found = found ≡ None
Answers (Err fault) found = Reports fault found

-- the bodies of a part, where it is of that kind
abbrev pub shape_in : Part → Option Body
shape_in (Shape body) = Some body
shape_in part = None

abbrev pub method_in : Part → Option (Body × Body)
method_in (Method input output) = Some (input, output)
method_in part = None

abbrev pub fault_in : Part → Option Body
fault_in (Fault body) = Some body
fault_in part = None

-- the part of the member with that name in that name space
abbrev pub part_named : Space → Bytes → Interface → Option Part
part_named space name tree = option_map (λ member. member.part) (find (is_named space name) tree.members)

-- what a look-up finds
abbrev pub type_named : Bytes → Interface → Option Body
type_named name tree = option_and_then shape_in (part_named Types name tree)

abbrev pub method_named : Bytes → Interface → Option (Body × Body)
method_named name tree = option_and_then method_in (part_named Methods name tree)

abbrev pub error_named : Bytes → Interface → Option Body
error_named name tree = option_and_then fault_in (part_named Errors name tree)
