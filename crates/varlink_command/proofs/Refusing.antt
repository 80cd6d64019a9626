-- A text that is refused for another cause than want of memory is accepted as no tree.
use Rattle.std.proofs.Common.{◌≡◌, ℕ, List, Err, true, false}
use Rattle.idl_tree.specs.declared.trees.Interface.{Interface}
use Rattle.idl_rules.specs.Spells.{Accepts}
use Rattle.idl_grammar.specs.Refuses.{Gives, Refuses}
use Rattle.idl_grammar.specs.declared.faults.IdlFault.{IdlFault}
use Rattle.idl_grammar.specs.declared.faults.IdlFault.TheVariants as idl
use Rattle.varlink_command.specs.Definitions.{IsRefused, is_want}

pub refused : (text : List ℕ) (why : IdlFault) → is_want why ≡ false → Refuses why text
    → ((tree : Interface) → Accepts text tree → Gives (Err why) tree) → IsRefused text why
refused text (idl.Token token) caused refuses none = record { caused = caused; refuses = refuses; none = none }
refused text (idl.Syntax at) caused refuses none = record { caused = caused; refuses = refuses; none = none }
refused text (idl.TooDeep at) caused refuses none = record { caused = caused; refuses = refuses; none = none }
refused text (idl.Name name) caused refuses none = record { caused = caused; refuses = refuses; none = none }
refused text idl.Memory caused refuses none = let no : true ≡ false = caused in absurd (cc)
