-- How a fault is told.
use Rattle.std.specs.Prelude.{ℕ, List, ◌++◌, Option, Some, codes}
use Rattle.idl_grammar.specs.declared.faults.IdlFault.{IdlFault}
use Rattle.standard_calls.specs.declared.faults.NoAddress.{NoAddress}
use Rattle.standard_calls.specs.declared.faults.NoAddress.TheVariants as address
use Rattle.standard_calls.specs.declared.faults.NoDescription.{NoDescription}
use Rattle.standard_calls.specs.declared.faults.NoDescription.TheVariants as description

abbrev pub no_address_text : NoAddress → List ℕ
no_address_text address.Missing = codes "interface not found"
no_address_text (address.OtherError name) = codes "error " ++ name
no_address_text address.NoText = codes "no address"
no_address_text address.BadAddress = codes "bad address"
no_address_text address.Memory = codes "out of memory"

-- a fault of the definition as that is told, where it is stated how
abbrev pub no_description_text : (IdlFault → Option (List ℕ)) → NoDescription → Option (List ℕ)
no_description_text of_idl (description.ErrorReply name) = Some (codes "error " ++ name)
no_description_text of_idl description.NoText = Some (codes "no description")
no_description_text of_idl (description.Idl found) = of_idl found
no_description_text of_idl description.NoMethod = Some (codes "no such method")
no_description_text of_idl description.Float = Some (codes "its replies have `float`")
no_description_text of_idl description.Memory = Some (codes "out of memory")
