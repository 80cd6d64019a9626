-- How a fault is told.
use Rattle.std.specs.Prelude.{ℕ, List, ◌++◌, codes, decimal}
use Rattle.idl_token.specs.declared.tokens.TokenFault.{TokenFault}
use Rattle.idl_token.specs.declared.tokens.TokenFault.TheVariants as fault

abbrev pub fault_text : TokenFault → List ℕ
fault_text (fault.NotUtf8 at) = codes "not UTF-8 at " ++ decimal at
fault_text (fault.BadByte at) = codes "bad byte at " ++ decimal at
fault_text fault.Memory = codes "out of memory"
