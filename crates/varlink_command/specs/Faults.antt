-- The status that tells a fault, and the number in its text.
use Rattle.std.specs.Prelude.{ℕ}
use Rattle.idl_grammar.specs.declared.faults.IdlFault.{IdlFault}
use Rattle.idl_grammar.specs.declared.faults.IdlFault.TheVariants as idl
use Rattle.idl_token.specs.declared.tokens.TokenFault.TheVariants as token
use Rattle.varlink_command.specs.declared.faults.Fault.{Fault}
use Rattle.varlink_command.specs.declared.faults.Fault.TheVariants as fault

abbrev pub status_of : Fault → ℕ
status_of fault.BadWords = 1
status_of (fault.PastLimit file) = 2
status_of (fault.NoDefinition why) = 2
status_of (fault.NoSheet why) = 2
status_of fault.NoWork = 2
status_of (fault.Cut bytes) = 3
status_of (fault.NotCall index) = 3
status_of (fault.TooLong index) = 3
status_of (fault.Unreadable file) = 5
status_of fault.ReadFault = 5
status_of fault.WriteFault = 6
status_of fault.Memory = 7
status_of fault.Long = 8
status_of (fault.Incompatible line) = 10

abbrev pub refusal_number : IdlFault → ℕ
refusal_number (idl.Token (token.NotUtf8 at)) = at
refusal_number (idl.Token (token.BadByte at)) = at
refusal_number (idl.Syntax at) = at
refusal_number (idl.TooDeep at) = at
refusal_number _ = 0

abbrev pub number_of : Fault → ℕ
number_of (fault.NoDefinition why) = refusal_number why
number_of (fault.Cut bytes) = bytes
number_of (fault.NotCall index) = index
number_of (fault.TooLong index) = index
number_of _ = 0
