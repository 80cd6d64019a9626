-- Replies that keep to what the interfaces `org.varlink.service` and `org.varlink.resolver` declare (varlink.org,
-- "Method Call" and "Service").
use Rattle.std.specs.Prelude.{◌≡◌, Bool, true, false, Option, Some, None}
use Rattle.serde_json.specs.Data.{Data}
use Rattle.idl_tree.specs.Names.{Bytes}
use Rattle.idl_tree.specs.declared.trees.Interface.{Interface}
use Rattle.call_form.specs.declared.Call.{Call}
use Rattle.call_form.specs.declared.Reply.{Reply}
use Rattle.standard_interfaces.specs.Definitions.{standard_named}
use Rattle.standard_interfaces.specs.Readings.{reads_as_reply, reads_as_error}
use Rattle.resolver_core.specs.Registries.{Entries}
use Rattle.resolver_core.specs.Words.{at_dot}
use Rattle.resolver_core.specs.Places.{reply_of}

-- the parameters read by what is declared under a name in one of the two interfaces
abbrev pub reads_in : (Interface → Bytes → Data → Bool) → Option Interface → Bytes → Data → Bool
reads_in reads None name parameters = false
reads_in reads (Some tree) name parameters = reads tree name parameters

abbrev pub reads_at : (Interface → Bytes → Data → Bool) → Option (Bytes × Bytes) → Data → Bool
reads_at reads None parameters = false
reads_at reads (Some parts) parameters = reads_in reads (standard_named parts.0) parts.1 parameters

-- a reply by the method that was called, an error by its name
abbrev pub is_declared_by : Call → Option Bytes → Data → Bool
is_declared_by call None parameters = reads_at reads_as_reply (at_dot call.method) parameters
is_declared_by call (Some name) parameters = reads_at reads_as_error (at_dot name) parameters

abbrev pub is_declared : Call → Reply → Bool
is_declared call reply = is_declared_by call reply.error reply.parameters

abbrev pub RepliesAreDeclared : Type 0
RepliesAreDeclared = (entries : Entries) (call : Call) → is_declared call (reply_of entries call) ≡ true
