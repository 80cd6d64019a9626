-- How a fault of names is told.
use Rattle.std.specs.Prelude.{ℕ, List, ◌++◌, codes}
use Rattle.idl_tree.specs.declared.faults.NameFault.{NameFault}
use Rattle.idl_tree.specs.declared.faults.NameFault.TheVariants as fault

-- what is wrong with the name of that kind
abbrev pub told : (kind name wrong : List ℕ) → List ℕ
told kind name wrong = kind ++ codes " " ++ name ++ codes " " ++ wrong

abbrev pub fault_text : NameFault → List ℕ
fault_text (fault.TwiceType name) = told (codes "type") name (codes "stands twice")
fault_text (fault.TwiceMethod name) = told (codes "method") name (codes "stands twice")
fault_text (fault.TwiceError name) = told (codes "error") name (codes "stands twice")
fault_text (fault.TwiceField name) = told (codes "name") name (codes "stands twice")
fault_text (fault.UnknownType name) = told (codes "type") name (codes "is not defined")
fault_text fault.Memory = codes "out of memory"
