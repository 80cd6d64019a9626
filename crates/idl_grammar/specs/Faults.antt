-- How a fault is told.
use Rattle.std.specs.Prelude.{ℕ, List, ◌++◌, Option, Some, codes, decimal}
use Rattle.idl_token.specs.declared.tokens.TokenFault.{TokenFault}
use Rattle.idl_tree.specs.declared.faults.NameFault.{NameFault}
use Rattle.idl_grammar.specs.declared.faults.IdlFault.{IdlFault}
use Rattle.idl_grammar.specs.declared.faults.IdlFault.TheVariants as fault

-- a fault of the items or of the names as that is told, where it is stated how
abbrev pub fault_text : (TokenFault → Option (List ℕ)) → (NameFault → Option (List ℕ)) → IdlFault → Option (List ℕ)
fault_text of_token of_name (fault.Token found) = of_token found
fault_text of_token of_name (fault.Syntax at) = Some (codes "syntax at " ++ decimal at)
fault_text of_token of_name (fault.TooDeep at) = Some (codes "too deep at " ++ decimal at)
fault_text of_token of_name (fault.Name found) = of_name found
fault_text of_token of_name fault.Memory = Some (codes "out of memory")
