-- Which replies read by the output of a method (varlink.org, "Interface Definition").
use Rattle.call_form.specs.declared.Call.{Call}
use Rattle.link_exchange.specs.Asked.{Asked, Reading}
use Rattle.client_core.specs.Calls.{asked_of}
use Rattle.standard_calls.specs.Descriptions.{Output, unread}

-- the first field that does not read by the output
abbrev pub reading : Output → Reading
reading output reply = unread output reply.parameters

-- the replies of a call, each of which is read by the output
abbrev pub typed_of : Output → Call → Asked
typed_of output call = asked_of (reading output) call
