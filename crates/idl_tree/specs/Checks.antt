-- What holds of a checked tree and its index.
use Rattle.std.specs.Prelude.{◌≤◌, Bool, List}
use Rattle.idl_tree.specs.Form.{Form, Deep}
use Rattle.idl_tree.specs.Faults.{Good}
use Rattle.idl_tree.specs.Floats.{TellsFloats}
use Rattle.idl_tree.specs.Places.{Tells}
use Rattle.idl_tree.specs.declared.places.Index.{Index}
use Rattle.idl_tree.specs.declared.trees.Interface.{Interface}

pub record IsChecked (tree : Interface) (index : Index) (floats : List Bool) : Type 0 where
  pub formed : Form tree
  pub within : Deep tree ≤ 64
  pub good : Good tree
  pub tells : Tells index tree.members
  pub floats_told : TellsFloats index tree floats
