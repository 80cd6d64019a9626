-- How a fault is told.
use Rattle.std.specs.Prelude.{ℕ, List, ◌++◌, codes, decimal}
use Rattle.idl_print.specs.declared.writing.PrintFault.{PrintFault}
use Rattle.idl_print.specs.declared.writing.PrintFault.TheVariants as fault

abbrev pub fault_text : PrintFault → List ℕ
fault_text (fault.Short short) = codes "cut off after " ++ decimal short.written ++ codes " bytes"
fault_text fault.Memory = codes "out of memory"
