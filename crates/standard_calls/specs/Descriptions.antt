-- What the reply to a call for a definition says of a method's replies (varlink.org, "Service":
-- `GetInterfaceDescription(interface: string) -> (description: string)`).
use Rattle.std.specs.Prelude.{◌≡◌, ◌≢◌, codes, Option, Some, None, option_map, option_and_then, Result, Ok, Err, ⊤}
use Rattle.serde_json.specs.Data.{Data, string}
use Rattle.serde_json.specs.Find.{get}
use Rattle.call_form.specs.declared.Reply.{Reply}
use Rattle.idl_tree.specs.Names.{Bytes}
use Rattle.idl_tree.specs.Faults.{method_named}
use Rattle.idl_tree.specs.Floats.{BodyReaches}
use Rattle.idl_tree.specs.declared.trees.Interface.{Interface}
use Rattle.idl_tree.specs.declared.trees.Body.{Body}
use Rattle.idl_rules.specs.Spells.{Accepts}
use Rattle.idl_grammar.specs.Refuses.{Refuses}
use Rattle.idl_grammar.specs.declared.faults.IdlFault.TheVariants as idl
use Rattle.typed_value.specs.Reads.{first_unread}
use Rattle.typed_value.specs.declared.faults.FieldFault.{FieldFault}
use Rattle.typed_value.specs.declared.faults.FieldFault.TheVariants as field
use Rattle.standard_calls.specs.declared.faults.NoDescription.{NoDescription}
use Rattle.standard_calls.specs.declared.faults.NoDescription.TheVariants.{ErrorReply, NoText, Idl, NoMethod, Float, Memory}

-- a method by a definition
pub record Output : Type 0 where
  pub scope : Interface
  pub method : Bytes

-- what the replies of a method are
abbrev pub output_named : Interface → Bytes → Option Body
output_named scope name = option_map (λ (bodies : Body × Body). bodies.1) (method_named name scope)

-- the definition has a method of that name, and its replies do not reach `float`
abbrev pub IsMethod : Interface → Bytes → Type 0
IsMethod scope name = (output : Body) × (output_named scope name ≡ Some output) × (BodyReaches scope output → ⊥)

-- the text of the definition
abbrev pub by_member : Option Data → Result Bytes NoDescription
by_member (Some (string text)) = Ok text
by_member found = Err NoText

abbrev pub by_error : Option Bytes → Data → Result Bytes NoDescription
by_error (Some name) parameters = Err (ErrorReply name)
by_error None parameters = by_member (get (codes "description") parameters)

abbrev pub text_in : Reply → Result Bytes NoDescription
text_in reply = by_error reply.error reply.parameters

-- the method of this name is in the definition, whose own name is not asked, and its replies do not reach `float`
abbrev pub MethodIs : Interface → Bytes → Result Output NoDescription → Type 0
MethodIs scope name (Ok output) = (output ≡ record { scope = scope; method = name }) × IsMethod scope name
MethodIs scope name (Err NoMethod) = output_named scope name ≡ None
MethodIs scope name (Err Float) = (output : Body) × (output_named scope name ≡ Some output) × BodyReaches scope output
MethodIs scope name (Err why) = ⊥

-- the text is a definition that has the method so, or it is refused
abbrev pub Defines : Bytes → Bytes → Result Output NoDescription → Type 0
Defines name text (Err (Idl why)) = Refuses why text × (why ≢ idl.Memory)
Defines name text result = (scope : Interface) × Accepts text scope × MethodIs scope name result

-- the text that was found, or why there is none
abbrev pub ByText : Bytes → Result Bytes NoDescription → Result Output NoDescription → Type 0
ByText name (Ok text) result = Defines name text result
ByText name (Err why) result = result ≡ Err why

-- the reply says this of the method of that name
abbrev pub Says : Reply → Bytes → Result Output NoDescription → Type 0
Says reply name result = ByText name (text_in reply) result

-- the first field of a reply's parameters, in declared order, that does not read by the method's output
abbrev pub unread : Output → Data → Option Bytes
unread output parameters =
    option_and_then (λ body. first_unread output.scope body parameters) (output_named output.scope output.method)

abbrev pub TellsField : Result ⊤ FieldFault → Option Bytes → Type 0
TellsField (Ok x) found = found ≡ None
TellsField (Err (field.First name)) found = found ≡ Some name
TellsField (Err field.Memory) found = ⊤

-- the answer is what the reply says, unless memory was wanting
abbrev pub Answers : (Result Output NoDescription → Type 0) → Result Output NoDescription → Type 0
Answers says (Err Memory) = ⊤
Answers says result = says result

-- the other is the same answer, want of memory apart
abbrev pub Same : Result Output NoDescription → Result Output NoDescription → Type 0
Same (Err Memory) other = ⊤
Same result other = other ≡ result

-- ---- for private clauses

-- why there is no text; want of memory tells nothing
abbrev pub IsWhy : NoDescription → Result Bytes NoDescription → Type 0
IsWhy Memory there = ⊤
IsWhy why there = there ≡ Err why

abbrev pub TellsDefinition : Result Interface NoDescription → Bytes → Type 0
TellsDefinition (Ok scope) text = Accepts text scope
TellsDefinition (Err (Idl why)) text = Refuses why text × (why ≢ idl.Memory)
TellsDefinition (Err Memory) text = ⊤
TellsDefinition (Err why) text = ⊥

-- why nothing is read by a method of that name, if anything is
abbrev pub IsRefusal : Interface → Bytes → Option NoDescription → Type 0
IsRefusal scope name None = IsMethod scope name
IsRefusal scope name (Some why) = MethodIs scope name (Err why)
