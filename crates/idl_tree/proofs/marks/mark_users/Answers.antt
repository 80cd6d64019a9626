use Rattle.std.proofs.Common.{[], ◌∙◌, refl}
use Rattle.std.proofs.lemmas.Bool.{eq-eqb}
use Rattle.idl_tree.proofs.Marking.{reaches, waits, takes, has_end}
use Rattle.idl_tree.proofs.marks.mark_users.Goals as goal

pub loop-place-preserved-in-Continue-branch-2 : goal.loop-place-preserved-in-Continue-branch-2
loop-place-preserved-in-Continue-branch-2 c =
    let users = c.args.users.now in
    let initial = c.args.marks.now.items in
    let old = c.loop-place.marks.items in
    let new = c.mark_all.new.marks.items in
    let before = c.pop.new.self.items in
    let after = c.mark_all.new.taken.items in
    let place = c.in-Some.place in
    let step = rw (c.as_slice-in-Some-get.ensures, c.in-Some-get.ensures.lookup.3.1 []) at c.in_ok-mark_all.ensures in
    let waiting = rw c.in-Some.ensures.items at c.loop-place.invariant.waiting in
    let taken = rw c.in-Some.ensures.items at c.loop-place.invariant.taken in
    record {
      size = step.size ∙ c.loop-place.invariant.size;
      kept = λ i h. step.kept i (c.loop-place.invariant.kept i h);
      reached = reaches users initial old new before after place step c.loop-place.invariant.reached (waiting place (has_end before place place (eq-eqb place place refl)));
      waiting = waits users initial old new before after place step waiting;
      taken = takes users initial old new before after place step taken;
    }
