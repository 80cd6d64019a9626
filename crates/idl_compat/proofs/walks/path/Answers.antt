use Rattle.std.proofs.Common.{◌∙◌, arith, sym, reverse}
use Rattle.idl_compat.proofs.Looking.{take_all}
use Rattle.idl_compat.proofs.Walked.{came_from, root_at, leads_back}
use Rattle.idl_compat.proofs.walks.path.Goals as goal

pub loop-earlier-smaller : goal.loop-earlier-smaller
loop-earlier-smaller c =
    let t = c.requires.trail in
    let came = came_from c.args.walk.now.from.now c.args.walk.now.to.now t.root t.by c.args.trail.now c.loop-earlier.at (c.in-Some.earlier, c.in-Some.field) t.is c.loop-earlier.invariant.within
    (sym c.origin.ensures ∙ c.in-Some.is) in
    came.comes.before

pub loop-earlier-preserved : goal.loop-earlier-preserved
loop-earlier-preserved c =
    let from = c.args.walk.now.from.now in
    let to = c.args.walk.now.to.now in
    let t = c.requires.trail in
    let came = came_from from to t.root t.by c.args.trail.now c.loop-earlier.at (c.in-Some.earlier, c.in-Some.field) t.is c.loop-earlier.invariant.within
    (sym c.origin.ensures ∙ c.in-Some.is) in
    let leads = leads_back from to c.args.trail.now c.loop-earlier.at c.in-Some.earlier c.in-Some.field (reverse c.loop-earlier.backwards.items) came c.loop-earlier.invariant.leads in
    record {
      within = omega (arith, came.comes.before, c.loop-earlier.invariant.within);
      leads = λ body reads visit. rw (c.in_ok-add_words.ensures, c.as_slice.ensures, take_all c.in-Some.field.now.of.prefixes) (leads body reads visit);
    }

pub returns : goal.returns
returns c = λ root by trail_is.
    rw (c.from_vec.ensures, c.reverse.ensures.items)
    (c.loop-earlier.invariant.leads root by (root_at c.args.walk.now.from.now c.args.walk.now.to.now root by c.args.trail.now c.loop-earlier.at trail_is c.loop-earlier.invariant.within
    (sym c.origin.ensures ∙ c.in_default.is)))
