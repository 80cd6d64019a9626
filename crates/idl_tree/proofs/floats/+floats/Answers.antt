use Rattle.idl_tree.proofs.Using.{float_in_struct}
use Rattle.idl_tree.proofs.floats.+floats.Goals as goal

pub body_has_float-returns-in-Struct : goal.body_has_float-returns-in-Struct
body_has_float-returns-in-Struct t c =
    rw (c.in-Struct.is, float_in_struct c.in-Struct.fields c.in-Struct.ending, ← c.as_slice.ensures) c.fields_have_float.ensures
