use Rattle.idl_tree.specs.Floats.{type_has_float, type_used}
use Rattle.idl_tree.proofs.Reaching.{reach_iff}
use Rattle.idl_tree.proofs.definitions.Checked.reaches_float.Goals as goal

pub returns : goal.returns
returns c =
    let is = c.type_is_marked.ensures in
    let of = c.args.of.now in
    let iff = reach_iff c.self.inside.index c.self.inside.tree c.self.invariant.tells c.self.inside.floats.items (type_has_float of) (type_used of)
    c.self.invariant.floats_told in
    rw (is, c.as_slice.ensures.value, ← c.self.view_is) iff
