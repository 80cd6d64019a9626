use Rattle.expression_form.proofs.FirstPlaces.{put_more}
use Rattle.expression_form.proofs.places.Places.of.Goals as goal

pub loop-place-preserved : goal.loop-place-preserved
loop-place-preserved c = λ name.
    put_more c.args.registers.now c.loop-place.place c.index-registers-place.result c.loop-place-test.true c.index-registers-place.is
    c.loop-place.by_name c.put_first.new.places c.loop-place.invariant (λ q. rw c.as_str.ensures at (c.in_ok-put_first.ensures q)) name
