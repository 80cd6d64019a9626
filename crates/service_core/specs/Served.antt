-- The interfaces of a service.
use Rattle.std.specs.Prelude.{◌≤◌}
use Rattle.idl_tree.specs.Faults.{Good}
use Rattle.idl_tree.specs.Form.{Form, Deep}
use Rattle.idl_tree.specs.declared.trees.Interface.{Interface}

-- an interface as a sheet has it: in form, its brackets within the limit, its names unique and defined
pub record IsServed (tree : Interface) : Type 0 where
  pub formed : Form tree
  pub within : Deep tree ≤ 64
  pub good : Good tree
