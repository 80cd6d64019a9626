-- What is printed of a payload that is no reply.
use Rattle.std.specs.Prelude.{ℕ, List, ◌++◌, codes}
use Rattle.std.specs.Fmt.{decimal}
use Rattle.caller_form.specs.declared.faults.ReplyFault.{ReplyFault}
use Rattle.caller_form.specs.declared.faults.ReplyFault.TheVariants.{NotUtf8, NotJson, NotObject}
use Rattle.caller_form.specs.declared.faults.ReplyFault.TheVariants.{BadContinues, BadError, BadParameters, Memory}

abbrev pub fault_text : ReplyFault → List ℕ
fault_text (NotUtf8 at) = codes "not UTF-8 at " ++ decimal at
fault_text NotJson = codes "not JSON"
fault_text NotObject = codes "not an object"
fault_text BadContinues = codes "bad `continues`"
fault_text BadError = codes "bad `error`"
fault_text BadParameters = codes "bad `parameters`"
fault_text Memory = codes "out of memory"
