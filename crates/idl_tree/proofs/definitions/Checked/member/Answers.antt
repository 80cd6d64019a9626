use Rattle.std.proofs.Common.{ℕ, List, Option, find, slice_get, option_and_then, sym, ap, ◌∙◌}
use Rattle.idl_tree.specs.Faults.{is_named}
use Rattle.idl_tree.specs.declared.trees.Interface.{Interface}
use Rattle.idl_tree.specs.declared.trees.Member.{Member}
use Rattle.idl_tree.proofs.FirstPlaces.{found_by_place}
use Rattle.idl_tree.proofs.definitions.Checked.member.Goals as goal

abbrev element : List Member → Option ℕ → Option Member
element members place = option_and_then (λ (i : ℕ). slice_get members i) place

pub returns-in-Some : goal.returns-in-Some
returns-in-Some c =
    let tells = c.self.invariant.tells c.args.space c.args.name.now in
    let test = is_named c.args.space c.args.name.now in
    let found = found_by_place test c.self.inside.tree.members c.place.result (c.place.ensures ∙ tells) in
    let same = ap (λ (tree : Interface). find test tree.members) c.self.view_is in
    c.member_at.ensures ∙ ap (λ (members : List Member). slice_get members c.in-Some.place) c.as_slice.ensures
    ∙ sym (found ∙ ap (element c.self.inside.tree.members) c.in-Some.is) ∙ same

pub returns-in-None : goal.returns-in-None
returns-in-None c =
    let tells = c.self.invariant.tells c.args.space c.args.name.now in
    let test = is_named c.args.space c.args.name.now in
    let found = found_by_place test c.self.inside.tree.members c.place.result (c.place.ensures ∙ tells) in
    let same = ap (λ (tree : Interface). find test tree.members) c.self.view_is in
    sym (found ∙ ap (element c.self.inside.tree.members) c.in-None.is) ∙ same
