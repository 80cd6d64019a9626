use Rattle.sheet_rules.proofs.Naming.{name_in_struct}
use Rattle.sheet_rules.proofs.names.+names.Goals as goal

pub body_has_name-returns-in-Struct : goal.body_has_name-returns-in-Struct
body_has_name-returns-in-Struct t c =
    rw (c.in-Struct.is, name_in_struct c.in-Struct.fields c.in-Struct.ending, ← c.as_slice.ensures) c.fields_have_name.ensures
