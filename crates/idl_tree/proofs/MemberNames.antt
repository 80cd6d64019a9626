-- the members of an interface, taken one after another
use Rattle.std.proofs.Common.{◌≡◌, ℕ, ◌+◌, ◌<◌, Bool, true, false, not, cond, List, [], ◌∷◌, ◌++◌, Some, None, is_some, length, take, drop, get_or, refl, sym, ap, ◌∙◌, subst, arith}
use Rattle.std.specs.List.{list_any, position_from}
use Rattle.std.specs.BTreeMap.{get_by_text}
use Rattle.std.proofs.lemmas.List.{drop_more, take_more}
use Rattle.std.proofs.lemmas.Slice.Eq.{bytes_eq-Decides}
use Rattle.idl_tree.specs.Names.{Bytes}
use Rattle.idl_tree.specs.Faults.{Found, first_of, is_named, is_space, space_of, twice, part_fault, members_fault, Reports}
use Rattle.idl_tree.specs.Places.{Tells, places_in, is_place, is_type}
use Rattle.idl_tree.specs.declared.faults.NameFault.{NameFault}
use Rattle.idl_tree.specs.declared.places.Index.{Index}
use Rattle.idl_tree.specs.declared.spaces.Space.{Space}
use Rattle.idl_tree.specs.declared.spaces.Space.TheVariants.{Types, Methods, Errors}
use Rattle.idl_tree.specs.declared.trees.Member.{Member}
use Rattle.idl_tree.proofs.BracketNames.{Reports-same}
use Rattle.idl_tree.proofs.FirstPlaces.{first_is, is_some-position_from}

abbrev pub defined_in : List Member → Bytes → Bool
defined_in members name = list_any (is_named Types name) members

-- an index knows the types
pub is_type_defined : (index : Index) (members : List Member) → Tells index members → is_type index ≡ defined_in members
is_type_defined index members tells =
    λ i. λ name. (ap is_some (tells Types name) ∙ is_some-position_from (is_named Types name) 0 members) i

-- what the members before place `i` and the rest give
abbrev pub members_from : List Member → ℕ → Found
members_from members i = members_fault (defined_in members) (take i members) (drop i members)

is_space_itself : (space : Space) → is_space space space ≡ true
is_space_itself Types = refl
is_space_itself Methods = refl
is_space_itself Errors = refl

named_itself : (member : Member) → is_named (space_of member.part) member.name member ≡ true
named_itself member = rw (is_space_itself (space_of member.part), (bytes_eq-Decides member.name member.name).1 refl) refl

module _ (members : List Member) (i : ℕ) (member : Member) (within : i < length members) (at : member ≡ get_or members i member) (left : members_from members i ≡ members_from members 0) where
  abbrev stood : Bool
  stood = list_any (is_named (space_of member.part) member.name) (take i members)

  members_more : members_from members i ≡ cond stood (Some (twice (space_of member.part) member.name))
      (first_of (part_fault (defined_in members) member.part) (members_from members (i + 1)))
  members_more =
      let cut : drop i members ≡ member ∷ drop (i + 1) members =
      drop_more members i member within ∙ ap (λ (m : Member). m ∷ drop (i + 1) members) (sym at) in
      let more : take (i + 1) members ≡ take i members ++ member ∷ [] =
      take_more members i member within ∙ ap (λ (m : Member). take i members ++ m ∷ []) (sym at) in
      rw (cut, more) refl

  -- what is found at the member alone
  abbrev pub here : Found
  here = cond stood (Some (twice (space_of member.part) member.name)) (part_fault (defined_in members) member.part)

  -- an index tells whether the name stood before
  pub place_tells : (index : Index) → Tells index members
      → is_place (get_by_text (places_in index (space_of member.part)) member.name) i ≡ not stood
  place_tells index tells =
      let place : 0 + i ≡ i = omega arith in
      let named : is_named (space_of member.part) member.name (get_or members i member) ≡ true = rw (← at) (named_itself member) in
      let first = first_is (is_named (space_of member.part) member.name) 0 members i member within named in
      rw (tells (space_of member.part) member.name)
      (subst (λ (k : ℕ). is_place (position_from (is_named (space_of member.part) member.name) 0 members) k ≡ not stood) place first)

  cond_not : (b : Bool) (one other : Found) → cond (not b) one other ≡ cond b other one
  cond_not true one other = refl
  cond_not false one other = refl

  -- what a check of the member by an index finds
  pub found_by_index : (index : Index) → Tells index members
      → cond (is_place (get_by_text (places_in index (space_of member.part)) member.name) i)
      (part_fault (is_type index) member.part) (Some (twice (space_of member.part) member.name)) ≡ here
  found_by_index index tells =
      rw (place_tells index tells, is_type_defined index members tells)
      (cond_not stood (part_fault (defined_in members) member.part) (Some (twice (space_of member.part) member.name)))

  found_here : (b : Bool) → stood ≡ b → (f : NameFault) → here ≡ Some f → members_from members 0 ≡ Some f
  found_here true e f is =
      sym left ∙ members_more ∙ ap (λ (b : Bool). cond b (Some (twice (space_of member.part) member.name)) (first_of (part_fault (defined_in members) member.part) (members_from members (i + 1)))) e
      ∙ (rw e at is)
  found_here false e f is =
      let part : part_fault (defined_in members) member.part ≡ Some f = rw e at is in
      sym left ∙ members_more ∙ ap (λ (b : Bool). cond b (Some (twice (space_of member.part) member.name)) (first_of (part_fault (defined_in members) member.part) (members_from members (i + 1)))) e
      ∙ ap (λ (found : Found). first_of found (members_from members (i + 1))) part

  pub here_reported : (fault : NameFault) → Reports fault here → Reports fault (members_from members 0)
  here_reported fault is = Reports-same fault here (members_from members 0) is (found_here stood refl)

  past : (b : Bool) → stood ≡ b → here ≡ None → members_from members (i + 1) ≡ members_from members 0
  past true e is = let none : ◌≡◌ {A = Found} (Some (twice (space_of member.part) member.name)) None = rw e at is in absurd (cc)
  past false e is =
      let part : part_fault (defined_in members) member.part ≡ None = rw e at is in
      sym (sym left ∙ members_more ∙ ap (λ (b : Bool). cond b (Some (twice (space_of member.part) member.name)) (first_of (part_fault (defined_in members) member.part) (members_from members (i + 1)))) e
      ∙ ap (λ (found : Found). first_of found (members_from members (i + 1))) part)

  pub past_here : here ≡ None → members_from members (i + 1) ≡ members_from members 0
  past_here is = past stood refl is
