use Rattle.idl_tree.specs.Floats.{body_has_float, body_used}
use Rattle.idl_tree.proofs.Reaching.{reach_iff}
use Rattle.idl_tree.proofs.definitions.Checked.body_reaches_float.Goals as goal

pub returns : goal.returns
returns c =
    let is = c.body_is_marked.ensures in
    let body = c.args.body.now in
    let iff = reach_iff c.self.inside.index c.self.inside.tree c.self.invariant.tells c.self.inside.floats.items (body_has_float body) (body_used body)
    c.self.invariant.floats_told in
    rw (is, c.as_slice.ensures.value, ← c.self.view_is) iff
