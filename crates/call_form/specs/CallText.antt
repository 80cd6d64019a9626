-- The text of a call (varlink.org, "Method Call": an object with `method` and optionally `parameters`, `oneway`, `more`
-- and `upgrade`).
use Rattle.std.specs.Prelude.{ℕ, List, Bool, true, false, codes, IsUtf8}
use Rattle.serde_json.specs.Data.{Data, boolean, string, object, Members, no_members, member}
use Rattle.link_port.specs.SoundTrees.{IsSound, HasUtf8}
use Rattle.call_form.specs.CallOf.{IsObject}
use Rattle.call_form.specs.declared.Call.{Call}

-- a flag is written only where it is true
abbrev pub with_flag : List ℕ → Bool → Members → Members
with_flag name true members = member name (boolean true) members
with_flag name false members = members

-- a call as a JSON tree; its members are in the order of their keys, and `parameters` is always among them
unfoldable pub call_tree : Call → Data
call_tree call =
    let behind = member (codes "parameters") call.parameters (with_flag (codes "upgrade") call.upgrade no_members) in
    let flags = with_flag (codes "more") call.more (with_flag (codes "oneway") call.oneway behind) in
    object (member (codes "method") (string call.method) flags)

-- the text of the call stands for it alone: the parameters are an object with its keys in byte order and each once, and
-- hold no number but whole ones, and all strings are UTF-8
pub record IsSendable (call : Call) : Type 0 where
  pub is_object : IsObject call.parameters
  pub is_sound : IsSound call.parameters
  pub is_utf8 : HasUtf8 call.parameters
  pub method_is_utf8 : IsUtf8 call.method
