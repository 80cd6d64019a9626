-- Replies that keep to what the service's interfaces declare (varlink.org, "Method Call" and "Service").
use Rattle.std.specs.Prelude.{Bool, false, ◌&&◌, ◌||◌, List, [], ◌∷◌, Option, Some, None, is_none}
use Rattle.std.specs.Str.{bytes_eq}
use Rattle.serde_json.specs.Data.{Data}
use Rattle.idl_tree.specs.Names.{Bytes}
use Rattle.idl_tree.specs.declared.trees.Interface.{Interface}
use Rattle.call_form.specs.declared.Call.{Call}
use Rattle.call_form.specs.declared.Reply.{Reply}
use Rattle.sheet_draft.specs.Outlines.{at_last_dot}
use Rattle.sheet_form.specs.declared.sheets.Contents.{Contents}
use Rattle.sheet_rules.specs.Types.{passes}
use Rattle.service_core.specs.Descriptions.{service_name}
use Rattle.standard_interfaces.specs.Readings.{reads_as_reply, reads_as_error}
use Rattle.service_laws.specs.Trees.{tree_named}

-- the parameters read by what the interface of the first name declares under the second
abbrev pub reads_at : (Interface → Bytes → Data → Bool) → Contents → Data → Bytes × Bytes → Bool
reads_at reads sheet parameters names =
    passes (λ (tree : Interface). reads tree names.1 parameters) (tree_named sheet names.0)

-- an error is of the interface that is called, or of the one that every service has
abbrev pub may_fail : Call → Bytes → Bool
may_fail call interface =
    bytes_eq interface service_name
    || passes (λ (names : Bytes × Bytes). bytes_eq interface names.0) (at_last_dot call.method)

abbrev pub reads_error : Contents → Call → Data → Bytes × Bytes → Bool
reads_error sheet call parameters names =
    may_fail call names.0 && reads_at reads_as_error sheet parameters names

-- a reply reads by the method that is called, an error by its name
abbrev pub is_declared_by : Contents → Call → Option Bytes → Data → Bool
is_declared_by sheet call None parameters =
    passes (reads_at reads_as_reply sheet parameters) (at_last_dot call.method)
is_declared_by sheet call (Some error) parameters =
    passes (reads_error sheet call parameters) (at_last_dot error)

abbrev pub is_declared : Contents → Call → Reply → Bool
is_declared sheet call reply = is_declared_by sheet call reply.error reply.parameters

-- there are replies, and the last one is no error
abbrev pub ends_well : List Reply → Bool
ends_well [] = false
ends_well (reply ∷ []) = is_none reply.error
ends_well (reply ∷ replies) = ends_well replies
