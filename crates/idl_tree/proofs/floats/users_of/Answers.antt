use Rattle.std.proofs.Common.{◌<◌, ◌||◌, ◌&&◌, ◌==◌, Bool, length, ap, ◌∙◌, arith}
use Rattle.idl_tree.specs.Floats.{places_of, member_used}
use Rattle.idl_tree.specs.Marks.{has}
use Rattle.idl_tree.proofs.Using.{told_more}
use Rattle.idl_tree.proofs.floats.users_of.Goals as goal

pub loop-place-preserved : goal.loop-place-preserved
loop-place-preserved c =
    let added = rw (c.as_slice.ensures, c.in_ok-used.ensures) at c.in_ok-add_user.ensures.added in
    record {
      size = c.in_ok-add_user.ensures.size ∙ c.loop-place.invariant.size;
      told = λ p i within.
          let before : p < length c.loop-place.users.items = omega (arith, c.in_ok-add_user.ensures.size) in
          added p i within ∙ ap (λ (b : Bool). b || (c.loop-place.place == i && has p (places_of c.args.index.now (member_used c.index-members-place.result)))) (c.loop-place.invariant.told p i before)
          ∙ told_more c.args.index.now c.args.members.now c.loop-place.place c.index-members-place.result p i c.loop-place-test.true c.index-members-place.is;
    }
