-- How a service answers a call before a rule runs (varlink.org, "Method Call" and "Service"): the cases are tried in
-- order, and the first that applies has the reply. Where none applies, the call asks for a step of the sheet.
use Rattle.std.specs.Prelude.{ℕ, Bool, true, false, ◌&&◌, ◌||◌, not, [], ◌∷◌, codes, if◌then◌else◌, Option, Some, None, Result, Ok, Err, is_some, option_map}
use Rattle.std.specs.Str.{bytes_eq}
use Rattle.serde_json.specs.Data.{Data, string, object, no_members, member}
use Rattle.serde_json.specs.Find.{get}
use Rattle.idl_tree.specs.Names.{Bytes}
use Rattle.idl_tree.specs.Faults.{method_named}
use Rattle.idl_tree.specs.declared.trees.Interface.{Interface}
use Rattle.idl_tree.specs.declared.trees.Body.{Body}
use Rattle.typed_value.specs.Reads.{ReadsBody, first_unread}
use Rattle.typed_value.specs.declared.vals.Val.{Val}
use Rattle.sheet_rules.specs.declared.forms.Rule.{Rule}
use Rattle.sheet_draft.specs.Outlines.{at_last_dot}
use Rattle.sheet_form.specs.declared.sheets.Contents.{Contents}
use Rattle.step_laws.specs.Kinds.{raw_of, streams}
use Rattle.call_form.specs.declared.Call.{Call}
use Rattle.call_form.specs.declared.Reply.{Reply}
use Rattle.call_form.specs.declared.Outcome.{Outcome}
use Rattle.call_form.specs.declared.StdError.{StdError}
use Rattle.call_form.specs.declared.StdError.TheVariants.{InterfaceNotFound, MethodNotFound, MethodNotImplemented, InvalidParameter, ExpectedMore}
use Rattle.call_form.specs.StdErrors.{standard_of}
use Rattle.service_core.specs.declared.requests.Request.{Request}
use Rattle.service_core.specs.declared.requests.Placed.{Placed}
use Rattle.service_core.specs.declared.requests.Placed.TheVariants.{Answered, Ask}
use Rattle.service_core.specs.Sheets.{interface_named, rule_named}
use Rattle.service_core.specs.Descriptions.{service_name, info_of, description_of}

-- what is found on the way to a step, or the reply that ends the way
abbrev pub Way : Type 0 → Type 0
Way A = Result A Reply

infixl 10 ◌>>=◌
abbrev pub ◌>>=◌ : {A B : Type 0} → Way A → (A → Way B) → Way B
(Ok x) >>= f = f x
(Err reply) >>= f = Err reply

-- what is there, or else this error
abbrev pub given : {A : Type 0} → StdError → Option A → Way A
given error (Some x) = Ok x
given error None = Err (standard_of error)

-- this error where the condition holds, or else the rest of the way
abbrev pub barred : {A : Type 0} → Bool → StdError → Way A → Way A
barred true error behind = Err (standard_of error)
barred false error behind = behind

-- a reply that is no error, and that no other one follows
abbrev pub plain : Data → Reply
plain parameters = record { parameters = parameters; continues = false; error = None }

abbrev pub with_text : (field text : Bytes) → Reply
with_text field text = plain (object (member field (string text) no_members))

-- the definition of an interface of the service, asked for by its name
abbrev pub described : Bytes → Option Bytes → Reply
described name (Some text) = with_text (codes "description") text
described name None = standard_of (InterfaceNotFound name)

abbrev pub describes : Contents → Option Data → Reply
describes sheet (Some (string name)) = described name (description_of sheet name)
describes sheet found = standard_of (InvalidParameter (codes "interface"))

-- no method of `org.varlink.service` takes an upgrade
abbrev pub unless_upgrade : Call → Reply → Reply
unless_upgrade call reply = if call.upgrade then standard_of (InvalidParameter (codes "upgrade")) else reply

-- the reply to a method of `org.varlink.service`
abbrev pub own_reply : Contents → Call → Bytes → Reply
own_reply sheet call method =
    if bytes_eq method (codes "GetInfo") then unless_upgrade call (plain (info_of sheet))
    else (if bytes_eq method (codes "GetInterfaceDescription") then unless_upgrade call (describes sheet (get (codes "interface") call.parameters))
    else standard_of (MethodNotFound call.method))

-- an upgrade is asked for exactly where the rule is one, and together with neither `oneway` nor `more`
abbrev pub is_upgrade : Rule → Bool
is_upgrade rule = is_some (raw_of rule)

abbrev pub mistakes_upgrade : Call → Rule → Bool
mistakes_upgrade call rule =
    if call.upgrade then not (is_upgrade rule) || (call.oneway || call.more) else is_upgrade rule

-- a stream is asked for without `more`
abbrev pub lacks_more : Call → Rule → Bool
lacks_more call rule = streams rule && not call.more

-- the first parameter that does not read
abbrev pub field_or_none : Option Bytes → Bytes
field_or_none (Some name) = name
field_or_none None = []

abbrev pub unread : Interface → Body → Data → StdError
unread home input parameters = InvalidParameter (field_or_none (first_unread home input parameters))

-- a call of a method that has a rule, which stands at a place
abbrev pub by_parameters : Call → Interface → Body → ℕ → Way Request
by_parameters call home input rule = do
  parameters ← given (unread home input call.parameters) (ReadsBody home input call.parameters)
  Ok (record { rule = rule; parameters = parameters })

abbrev pub by_rule : Call → Interface → Body → ℕ × Rule → Way Request
by_rule call home input rule =
    barred (mistakes_upgrade call rule.1) (InvalidParameter (codes "upgrade"))
    (barred (lacks_more call rule.1) ExpectedMore
    (by_parameters call home input rule.0))

-- the parameters of the method of that name
abbrev pub input_named : Bytes → Interface → Option Body
input_named method home = option_map (λ (bodies : Body × Body). bodies.0) (method_named method home)

-- a call of an interface of the sheet, which stands at a place
abbrev pub by_method : Contents → Call → Bytes → ℕ × Interface → Way Request
by_method sheet call method home = do
  input ← given (MethodNotFound call.method) (input_named method home.1)
  rule ← given (MethodNotImplemented call.method) (rule_named sheet home.0 method)
  by_rule call home.1 input rule

-- a call of another interface than `org.varlink.service`
abbrev pub asked : Contents → Call → (interface method : Bytes) → Way Request
asked sheet call interface method = do
  home ← given (InterfaceNotFound interface) (interface_named sheet interface)
  by_method sheet call method home

abbrev pub by_interface : Contents → Call → Bytes × Bytes → Way Request
by_interface sheet call names =
    if bytes_eq names.0 service_name then Err (own_reply sheet call names.1) else asked sheet call names.0 names.1

-- the request that a call is, or the reply to it. Its word names an interface and, behind the last dot, a method
unfoldable pub place_of : Contents → Call → Way Request
place_of sheet call = do
  names ← given (InterfaceNotFound call.method) (at_last_dot call.method)
  by_interface sheet call names

-- the outcome of one reply
abbrev pub one : Reply → Outcome
one reply = record { replies = reply ∷ []; raw = None }

abbrev pub placed : Way Request → Placed
placed (Ok request) = Ask request
placed (Err reply) = Answered (one reply)
