-- That texts read back: a tree from its compact text, and a reply and a call from theirs.
use Rattle.std.specs.Prelude.{◌≡◌, ◌≢◌, ◌≤◌, Some, Ok, IsUtf8}
use Rattle.std.specs.List.{AllByRecursion}
use Rattle.serde_json.specs.Data.{Data, depth}
use Rattle.serde_json.specs.Read.{read}
use Rattle.serde_json.specs.Written.{compact_text}
use Rattle.link_port.specs.SoundTrees.{IsSound, HasUtf8}
use Rattle.call_form.specs.declared.Call.{Call}
use Rattle.call_form.specs.declared.Reply.{Reply}
use Rattle.call_form.specs.CallOf.{call_of}
use Rattle.call_form.specs.CallText.{IsSendable, call_tree}
use Rattle.call_form.specs.ReplyText.{IsWritable, reply_tree}

-- the compact text of a sound tree of at most 127 levels is read as it, and as no other
abbrev pub TreesReadBack : Type 0
TreesReadBack = (tree : Data) → IsSound tree → depth tree ≤ 127 → read (compact_text tree) ≡ Some tree

-- where the strings are UTF-8, the text is
abbrev pub TextsAreUtf8 : Type 0
TextsAreUtf8 = (tree : Data) → HasUtf8 tree → IsUtf8 (compact_text tree)

-- the text of a reply that can be written, with parameters of at most 126 levels, is read as its tree
abbrev pub RepliesReadBack : Type 0
RepliesReadBack = (reply : Reply) → IsWritable reply → depth reply.parameters ≤ 126
    → (read (compact_text (reply_tree reply)) ≡ Some (reply_tree reply)) × IsUtf8 (compact_text (reply_tree reply))

-- the text of a call that can be written, with parameters of at most 126 levels, is read as this call
abbrev pub CallsReadBack : Type 0
CallsReadBack = (call : Call) → IsSendable call → depth call.parameters ≤ 126
    → call_of (compact_text (call_tree call)) ≡ Ok call

-- and like the text of a reply it holds no NUL
abbrev pub NoNulInCalls : Type 0
NoNulInCalls = (call : Call) → AllByRecursion (λ b. b ≢ 0) (compact_text (call_tree call))
