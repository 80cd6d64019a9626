-- The text of a reply (varlink.org, "Method Call": an object with optionally `parameters`,
-- `continues` and `error`, and a NUL byte after it).
use Rattle.std.specs.Prelude.{ℕ, List, [], ◌∷◌, ◌++◌, Bool, true, false, codes, Option, Some}
use Rattle.std.specs.Prelude.{None, IfSome, IsUtf8}
use Rattle.link_port.specs.SoundTrees.{IsSound, HasUtf8}
use Rattle.serde_json.specs.Data.{Data, boolean, string, object, Members, no_members, member}
use Rattle.serde_json.specs.Written.{compact_text}
use Rattle.call_form.specs.CallOf.{IsObject}
use Rattle.call_form.specs.declared.Reply.{Reply}

-- `continues` is written only where it is true
abbrev pub with_continues : Bool → Members → Members
with_continues true members = member (codes "continues") (boolean true) members
with_continues false members = members

-- `error` is written only where there is one
abbrev pub with_error : Option (List ℕ) → Members → Members
with_error (Some name) members = member (codes "error") (string name) members
with_error None members = members

-- a reply as a JSON tree; its members are in the order of their keys, and `parameters` is always
-- among them
unfoldable pub reply_tree : Reply → Data
reply_tree reply =
    let parameters = member (codes "parameters") reply.parameters no_members in
    object (with_continues reply.continues (with_error reply.error parameters))

-- a reply as a message: its compact text and a NUL
abbrev pub reply_bytes : Reply → List ℕ
reply_bytes reply = compact_text (reply_tree reply) ++ 0 ∷ []

-- the text of the reply stands for it alone: the parameters are an object with its keys in byte order and each once,
-- and hold no number but whole ones, and all strings are UTF-8
pub record IsWritable (reply : Reply) : Type 0 where
  pub is_object : IsObject reply.parameters
  pub is_sound : IsSound reply.parameters
  pub is_utf8 : HasUtf8 reply.parameters
  pub name_is_utf8 : IfSome reply.error IsUtf8

-- the members as they stand in the text
abbrev pub continues_text : Bool → List ℕ
continues_text true = codes "\"continues\":true,"
continues_text false = []

abbrev pub error_text : Option (List ℕ) → List ℕ
error_text (Some name) = codes "\"error\":" ++ (compact_text (string name) ++ codes ",")
error_text None = []
