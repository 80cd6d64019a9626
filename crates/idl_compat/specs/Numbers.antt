-- What the numbers of bodies tell.
use Rattle.std.specs.Prelude.{◌≡◌, ℕ, ◌-◌, nat_lt, List, [], ◌∷◌, ◌++◌, length, Option, Some, None, option_map, slice_get, if◌then◌else◌}
use Rattle.idl_tree.specs.declared.trees.Interface.{Interface}
use Rattle.idl_tree.specs.declared.trees.Member.{Member}
use Rattle.idl_tree.specs.declared.trees.Part.{Part}
use Rattle.idl_tree.specs.declared.trees.Part.TheVariants.{Shape, Method, Fault}
use Rattle.idl_tree.specs.declared.trees.Field.{Field}
use Rattle.idl_tree.specs.declared.trees.Body.{Body}
use Rattle.typed_value.specs.Bodies.{body_of, fields_of}
use Rattle.idl_compat.specs.declared.numbers.Entry.{Entry}
use Rattle.idl_compat.specs.declared.numbers.Table.{Table}

abbrev pub first_body : Part → Body
first_body (Shape body) = body
first_body (Method input output) = input
first_body (Fault body) = body

abbrev pub entry_body : List Entry → ℕ → Option Body
entry_body inner place = option_map (λ (entry : Entry). entry.body.now) (slice_get inner place)

-- the body of a number: that of the member at that place, or one of those behind the members
abbrev pub body_at : Interface → List Entry → ℕ → Option Body
body_at scope inner number = if nat_lt number (length scope.members)
    then option_map (λ (member : Member). first_body member.part) (slice_get scope.members number)
    else entry_body inner (number - length scope.members)

abbrev pub Targets : Type 0
Targets = List (Option ℕ)

abbrev pub or_none : Option Targets → Targets
or_none None = []
or_none (Some targets) = targets

abbrev pub entry_targets : List Entry → ℕ → Targets
entry_targets inner place = or_none (option_map (λ (entry : Entry). entry.targets) (slice_get inner place))

abbrev pub targets_at : Interface → List Targets → List Entry → ℕ → Targets
targets_at scope named inner number = if nat_lt number (length scope.members)
    then or_none (slice_get named number) else entry_targets inner (number - length scope.members)

-- the number is that of the body, and there is none where there is no body
abbrev pub IsTarget : Interface → List Entry → Option ℕ → Option Body → Type 0
IsTarget scope inner None found = found ≡ None
IsTarget scope inner (Some number) found = (body : Body) × (found ≡ Some body) × (body_at scope inner number ≡ Some body)

abbrev pub AreTargets : Interface → List Entry → Targets → List Field → Type 0
AreTargets scope inner [] [] = Unit {0}
AreTargets scope inner (target ∷ targets) (field ∷ fields) =
    IsTarget scope inner target (body_of scope field.of.core) × AreTargets scope inner targets fields
AreTargets scope inner targets fields = ⊥

-- each body behind the members has its targets
abbrev pub AllTold : Interface → List Entry → Type 0
AllTold scope inner = (place : ℕ) (entry : Entry) → slice_get inner place ≡ Some entry
    → AreTargets scope inner entry.targets (fields_of entry.body.now)

-- further bodies stand behind those before
pub record Grown (scope : Interface) (before after : List Entry) : Type 0 where
  pub told : AllTold scope after
  pub more : (added : List Entry) × (after ≡ before ++ added)

pub record Gained (scope : Interface) (before after : List Entry) (body : Body) (number : ℕ) : Type 0 where
  pub grown : Grown scope before after
  pub here : body_at scope after number ≡ Some body

-- the bodies of members have their targets, in order
abbrev pub RowsTold : Interface → List Entry → List Targets → List Member → Type 0
RowsTold scope inner [] [] = Unit {0}
RowsTold scope inner (targets ∷ rows) (member ∷ members) =
    AreTargets scope inner targets (fields_of (first_body member.part)) × RowsTold scope inner rows members
RowsTold scope inner rows members = ⊥

-- each body of a table has its targets
pub record IsTable (table : Table) : Type 0 where
  pub rows : RowsTold table.scope.now table.inner.items table.named.items table.scope.now.members
  pub told : AllTold table.scope.now table.inner.items
