use Rattle.std.proofs.Common.{◌≡◌, ℕ, ◌+◌, ◌<◌, true, false, ◌&&◌, cond, List, [], ◌∷◌, ◌++◌, Some, is_none, length, take, get_or, refl, sym, ap, ◌∙◌, arith}
use Rattle.std.specs.Str.{bytes_eq}
use Rattle.std.specs.List.{position_from}
use Rattle.std.specs.BTreeMap.{get_by_text}
use Rattle.std.proofs.lemmas.List.{take_more, length-take-le}
use Rattle.idl_tree.specs.Names.{Bytes}
use Rattle.idl_tree.specs.Faults.{is_named, is_space, space_of}
use Rattle.idl_tree.specs.Places.{Places, TellsPlaces}
use Rattle.idl_tree.specs.declared.spaces.Space.{Space}
use Rattle.idl_tree.specs.declared.trees.Member.{Member}
use Rattle.idl_tree.proofs.FirstPlaces.{position_from_push}
use Rattle.idl_tree.proofs.places.places.Goals as goal
use Rattle.idl_tree.proofs.places.places.Goals.{then-stands_in+in_ok-put_first, else-stands_in}

module _ (space : Space) (members : List Member) (i : ℕ) (member : Member) (within : i < length members) (at : member ≡ get_or members i member) where
  -- the first places among one member more
  place_more : (name : Bytes) → position_from (is_named space name) 0 (take (i + 1) members)
      ≡ cond (is_space space (space_of member.part) && bytes_eq member.name name && is_none (position_from (is_named space name) 0 (take i members)))
      (Some i) (position_from (is_named space name) 0 (take i members))
  place_more name =
      let more : take (i + 1) members ≡ take i members ++ member ∷ [] =
      take_more members i member within ∙ ap (λ (m : Member). take i members ++ m ∷ []) (sym at) in
      let size : 0 + length (take i members) ≡ i = omega (arith, length-take-le i members (omega arith)) in
      rw (more, position_from_push, size) refl

  put : (old new : Places) → is_space space (space_of member.part) ≡ true → TellsPlaces old space (take i members)
      → ((q : Bytes) → get_by_text new q ≡ cond (bytes_eq member.name q && is_none (get_by_text old q)) (Some i) (get_by_text old q))
      → TellsPlaces new space (take (i + 1) members)
  put old new here tells changed name = rw (changed name, tells name, place_more name, here) refl

  left : (old : Places) → is_space space (space_of member.part) ≡ false → TellsPlaces old space (take i members)
      → TellsPlaces old space (take (i + 1) members)
  left old away tells name = rw (tells name, place_more name, away) refl

pub loop-place-preserved : goal.loop-place-preserved
loop-place-preserved c = λ name.
    let members = c.args.members.now in
    let i = c.loop-place.place in
    let member = c.index-members-place.result in
    elim c.if-stands_in.branch [
      | then-stands_in+in_ok-put_first w ↦ rw w.places-is
          (put c.args.space members i member c.loop-place-test.true c.index-members-place.is c.loop-place.places w.put_first.new.places
          (sym c.stands_in.ensures ∙ w.if-stands_in.true) c.loop-place.invariant
          (λ q. rw w.as_str.ensures at (w.in_ok-put_first.ensures q)) name)
      | else-stands_in w ↦ rw w.places-is
          (left c.args.space members i member c.loop-place-test.true c.index-members-place.is c.loop-place.places
          (sym c.stands_in.ensures ∙ w.if-stands_in.false) c.loop-place.invariant name)
    ]
