-- The lines that tell faults. Numbers are decimal.
use Rattle.std.specs.Prelude.{ℕ, List, ◌++◌, codes, decimal}
use Rattle.idl_token.specs.declared.tokens.TokenFault.TheVariants as token
use Rattle.idl_tree.specs.declared.faults.NameFault.{NameFault}
use Rattle.idl_tree.specs.declared.faults.NameFault.TheVariants as name
use Rattle.idl_grammar.specs.declared.faults.IdlFault.{IdlFault}
use Rattle.idl_grammar.specs.declared.faults.IdlFault.TheVariants as idl
use Rattle.sheet_draft.specs.Places.{place_text}
use Rattle.sheet_form.specs.declared.faults.SheetFault.{SheetFault}
use Rattle.sheet_form.specs.declared.faults.SheetFault.TheVariants as sheet
use Rattle.varlink_command.specs.declared.faults.Fault.{Fault}
use Rattle.varlink_command.specs.declared.faults.Fault.TheVariants as fault
use Rattle.varlink_command.specs.declared.fault_lines.Wording.{Wording}

abbrev pub out_of_memory : List ℕ
out_of_memory = codes "out of memory"

-- the text of a fault of names
abbrev pub name_text : NameFault → List ℕ
name_text (name.TwiceType word) = codes "type " ++ word ++ codes " stands twice"
name_text (name.TwiceMethod word) = codes "method " ++ word ++ codes " stands twice"
name_text (name.TwiceError word) = codes "error " ++ word ++ codes " stands twice"
name_text (name.TwiceField word) = codes "name " ++ word ++ codes " stands twice"
name_text (name.UnknownType word) = codes "type " ++ word ++ codes " is not defined"
name_text name.Memory = out_of_memory

-- the text of a refused definition
abbrev pub refusal_text : IdlFault → List ℕ
refusal_text (idl.Token (token.NotUtf8 at)) = codes "not UTF-8 at " ++ decimal at
refusal_text (idl.Token (token.BadByte at)) = codes "bad byte at " ++ decimal at
refusal_text (idl.Token token.Memory) = out_of_memory
refusal_text (idl.Syntax at) = codes "syntax at " ++ decimal at
refusal_text (idl.TooDeep at) = codes "too deep at " ++ decimal at
refusal_text (idl.Name fault) = name_text fault
refusal_text idl.Memory = out_of_memory

-- the text of a refused sheet, with the place where it is
abbrev pub sheet_text : SheetFault → List ℕ
sheet_text sheet.NotJson = codes "not JSON"
sheet_text (sheet.Shape place) = codes "shape at " ++ place_text place
sheet_text (sheet.Idl which why) = codes "interface " ++ decimal which ++ codes ": " ++ refusal_text why
sheet_text (sheet.Reserved which) = codes "interface " ++ decimal which ++ codes " is reserved"
sheet_text (sheet.TwiceInterface which) = codes "interface " ++ decimal which ++ codes " stands twice"
sheet_text (sheet.Scope register) = codes "register " ++ decimal register ++ codes " has no scope"
sheet_text (sheet.RegisterText register why) = codes "register " ++ decimal register ++ codes ": " ++ refusal_text why
sheet_text (sheet.Float place) = codes "float at " ++ place_text place
sheet_text (sheet.Initial register) = codes "register " ++ decimal register ++ codes " has no initial value"
sheet_text (sheet.NoSuchMethod rule) = codes "no method " ++ rule
sheet_text (sheet.NoSuchRegister place) = codes "no register at " ++ place_text place
sheet_text (sheet.IllTyped place) = codes "ill typed at " ++ place_text place
sheet_text sheet.Memory = out_of_memory

-- the text of a fault of a command on this path
abbrev pub fault_text : List ℕ → Fault → List ℕ
fault_text path fault.BadWords = codes "bad words"
fault_text path (fault.Unreadable file) = codes "cannot read " ++ path
fault_text path (fault.PastLimit file) = path ++ codes " is too long"
fault_text path (fault.NoDefinition why) = refusal_text why
fault_text path (fault.NoSheet why) = sheet_text why
fault_text path fault.NoWork = codes "no work"
fault_text path (fault.Incompatible line) = line
fault_text path (fault.Cut bytes) = codes "cut after " ++ decimal bytes ++ codes " bytes"
fault_text path (fault.NotCall index) = codes "message " ++ decimal index ++ codes " is no call"
fault_text path (fault.TooLong index) = codes "message " ++ decimal index ++ codes " is too long"
fault_text path fault.ReadFault = codes "read fault"
fault_text path fault.WriteFault = codes "write fault"
fault_text path fault.Long = codes "too many bytes"
fault_text path fault.Memory = out_of_memory

-- the line: the program's name, the text, and a line feed
abbrev pub fault_line : List ℕ → Fault → List ℕ
fault_line path fault = codes "varlink: " ++ fault_text path fault ++ codes "\n"

-- a text in three parts
abbrev pub wording : Wording → List ℕ
wording text = text.before.now ++ text.middle.now ++ text.behind.now
