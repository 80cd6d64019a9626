-- A service with registers of its own.
use Rattle.std.specs.Prelude.{List}
use Rattle.typed_value.specs.declared.vals.Val.{Val}
use Rattle.sheet_form.specs.declared.sheets.Contents.{Contents}

-- what it serves, and the values of its registers
pub record State : Type 0 where
  pub sheet : Contents
  pub registers : List Val
