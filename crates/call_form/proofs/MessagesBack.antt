-- The texts of replies and calls read back.
use Rattle.std.proofs.Common.{◌≡◌, ◌≤◌, Bool, true, false, List, ℕ, inl, inr, refl, arith}
use Rattle.std.specs.Prelude.{codes, IsUtf8, IfSome, Option, Some, None, Ok}
use Rattle.json.proofs.Printed.Utf8.{IsUtf8-are_ascii}
use Rattle.serde_json.specs.Data.{Data, string, object, no_members, member, depth}
use Rattle.serde_json.specs.Find.{get}
use Rattle.serde_json.specs.Read.{read}
use Rattle.serde_json.specs.Written.{compact_text}
use Rattle.link_port.specs.SoundTrees.{IsSound, HasUtf8}
use Rattle.call_form.specs.CallOf.{call_of}
use Rattle.call_form.specs.CallRules.{IsFlag, IsCall}
use Rattle.call_form.specs.CallText.{with_flag, call_tree, IsSendable}
use Rattle.call_form.specs.ReplyText.{with_continues, with_error, reply_tree, IsWritable}
use Rattle.call_form.specs.declared.Call.{Call}
use Rattle.call_form.specs.declared.Reply.{Reply}
use Rattle.call_form.proofs.CallLemmas.{call_of-IsCall}
use Rattle.call_form.proofs.ReadBack.{trees_read_back}
use Rattle.call_form.proofs.Utf8Texts.{compact_text-utf8}

-- ---- replies

module _ (parameters : Data) where
  abbrev reply_of : Bool → Option (List ℕ) → Data
  reply_of continues error = object (with_continues continues (with_error error (member (codes "parameters") parameters no_members)))

  reply_sound : (continues : Bool) (error : Option (List ℕ)) → IsSound parameters → IsSound (reply_of continues error)
  reply_sound true (Some name) h = ((refl, (refl, tt)), tt, ((refl, tt), tt, (tt, h, tt)))
  reply_sound true None h = ((refl, tt), tt, (tt, h, tt))
  reply_sound false (Some name) h = ((refl, tt), tt, (tt, h, tt))
  reply_sound false None h = (tt, h, tt)

  reply_utf8 : (continues : Bool) (error : Option (List ℕ)) → HasUtf8 parameters → IfSome error IsUtf8 → HasUtf8 (reply_of continues error)
  reply_utf8 true (Some name) h named =
      (IsUtf8-are_ascii _ refl, tt, (IsUtf8-are_ascii _ refl, named, (IsUtf8-are_ascii _ refl, h, tt)))
  reply_utf8 true None h named = (IsUtf8-are_ascii _ refl, tt, (IsUtf8-are_ascii _ refl, h, tt))
  reply_utf8 false (Some name) h named = (IsUtf8-are_ascii _ refl, named, (IsUtf8-are_ascii _ refl, h, tt))
  reply_utf8 false None h named = (IsUtf8-are_ascii _ refl, h, tt)

  reply_shallow : (continues : Bool) (error : Option (List ℕ)) → depth parameters ≤ 126 → depth (reply_of continues error) ≤ 127
  reply_shallow true (Some name) h = omega arith
  reply_shallow true None h = omega arith
  reply_shallow false (Some name) h = omega arith
  reply_shallow false None h = omega arith

pub replies_read_back : (reply : Reply) → IsWritable reply → depth reply.parameters ≤ 126
    → (read (compact_text (reply_tree reply)) ≡ Some (reply_tree reply)) × IsUtf8 (compact_text (reply_tree reply))
unfolding reply_tree
replies_read_back reply w shallow = (
  trees_read_back (reply_of reply.parameters reply.continues reply.error) (reply_sound reply.parameters reply.continues reply.error w.is_sound)
      (reply_shallow reply.parameters reply.continues reply.error shallow),
  compact_text-utf8 (reply_of reply.parameters reply.continues reply.error) (reply_utf8 reply.parameters reply.continues reply.error w.is_utf8 w.name_is_utf8),
)

-- ---- calls

module _ (method : List ℕ) (parameters : Data) where
  abbrev call_with : Bool → Bool → Bool → Data
  call_with more oneway upgrade =
      object (member (codes "method") (string method) (with_flag (codes "more") more (with_flag (codes "oneway") oneway
      (member (codes "parameters") parameters (with_flag (codes "upgrade") upgrade no_members)))))

  behind_sound : (upgrade : Bool) → IsSound parameters
      → IsSound (object (member (codes "parameters") parameters (with_flag (codes "upgrade") upgrade no_members)))
  behind_sound true h = ((refl, tt), h, (tt, tt, tt))
  behind_sound false h = (tt, h, tt)

  call_sound : (more oneway upgrade : Bool) → IsSound parameters → IsSound (call_with more oneway upgrade)
  call_sound true true true h = ((refl, (refl, (refl, (refl, tt)))), tt, ((refl, (refl, (refl, tt))), tt, ((refl, (refl, tt)), tt, behind_sound true h)))
  call_sound true true false h = ((refl, (refl, (refl, tt))), tt, ((refl, (refl, tt)), tt, ((refl, tt), tt, behind_sound false h)))
  call_sound true false true h = ((refl, (refl, (refl, tt))), tt, ((refl, (refl, tt)), tt, behind_sound true h))
  call_sound true false false h = ((refl, (refl, tt)), tt, ((refl, tt), tt, behind_sound false h))
  call_sound false true true h = ((refl, (refl, (refl, tt))), tt, ((refl, (refl, tt)), tt, behind_sound true h))
  call_sound false true false h = ((refl, (refl, tt)), tt, ((refl, tt), tt, behind_sound false h))
  call_sound false false true h = ((refl, (refl, tt)), tt, behind_sound true h)
  call_sound false false false h = ((refl, tt), tt, behind_sound false h)

  behind_utf8 : (upgrade : Bool) → HasUtf8 parameters
      → HasUtf8 (object (member (codes "parameters") parameters (with_flag (codes "upgrade") upgrade no_members)))
  behind_utf8 true h = (IsUtf8-are_ascii _ refl, h, (IsUtf8-are_ascii _ refl, tt, tt))
  behind_utf8 false h = (IsUtf8-are_ascii _ refl, h, tt)

  call_utf8 : (more oneway upgrade : Bool) → IsUtf8 method → HasUtf8 parameters → HasUtf8 (call_with more oneway upgrade)
  call_utf8 true true upgrade m h =
      (IsUtf8-are_ascii _ refl, m, (IsUtf8-are_ascii _ refl, tt, (IsUtf8-are_ascii _ refl, tt, behind_utf8 upgrade h)))
  call_utf8 true false upgrade m h = (IsUtf8-are_ascii _ refl, m, (IsUtf8-are_ascii _ refl, tt, behind_utf8 upgrade h))
  call_utf8 false true upgrade m h = (IsUtf8-are_ascii _ refl, m, (IsUtf8-are_ascii _ refl, tt, behind_utf8 upgrade h))
  call_utf8 false false upgrade m h = (IsUtf8-are_ascii _ refl, m, behind_utf8 upgrade h)

  call_shallow : (more oneway upgrade : Bool) → depth parameters ≤ 126 → depth (call_with more oneway upgrade) ≤ 127
  call_shallow true true true h = omega arith
  call_shallow true true false h = omega arith
  call_shallow true false true h = omega arith
  call_shallow true false false h = omega arith
  call_shallow false true true h = omega arith
  call_shallow false true false h = omega arith
  call_shallow false false true h = omega arith
  call_shallow false false false h = omega arith

  given : (more oneway upgrade : Bool) → get (codes "parameters") (call_with more oneway upgrade) ≡ Some parameters
  given true true upgrade = refl
  given true false upgrade = refl
  given false true upgrade = refl
  given false false upgrade = refl

  flag_more : (more oneway upgrade : Bool) → IsFlag (get (codes "more") (call_with more oneway upgrade)) more
  flag_more true oneway upgrade = inl refl
  flag_more false true true = inr (inl refl, refl)
  flag_more false true false = inr (inl refl, refl)
  flag_more false false true = inr (inl refl, refl)
  flag_more false false false = inr (inl refl, refl)

  flag_oneway : (more oneway upgrade : Bool) → IsFlag (get (codes "oneway") (call_with more oneway upgrade)) oneway
  flag_oneway true true upgrade = inl refl
  flag_oneway false true upgrade = inl refl
  flag_oneway true false true = inr (inl refl, refl)
  flag_oneway true false false = inr (inl refl, refl)
  flag_oneway false false true = inr (inl refl, refl)
  flag_oneway false false false = inr (inl refl, refl)

  flag_upgrade : (more oneway upgrade : Bool) → IsFlag (get (codes "upgrade") (call_with more oneway upgrade)) upgrade
  flag_upgrade true true true = inl refl
  flag_upgrade true false true = inl refl
  flag_upgrade false true true = inl refl
  flag_upgrade false false true = inl refl
  flag_upgrade true true false = inr (inl refl, refl)
  flag_upgrade true false false = inr (inl refl, refl)
  flag_upgrade false true false = inr (inl refl, refl)
  flag_upgrade false false false = inr (inl refl, refl)

is_call : (call : Call) → IsSendable call → depth call.parameters ≤ 126 → IsCall (compact_text (call_tree call)) call
unfolding call_tree
is_call call s shallow =
    record {
      tree = call_with call.method call.parameters call.more call.oneway call.upgrade;
      is_utf8 = compact_text-utf8 (call_with call.method call.parameters call.more call.oneway call.upgrade) (call_utf8 call.method call.parameters call.more call.oneway call.upgrade s.method_is_utf8 s.is_utf8);
      is_json = trees_read_back (call_with call.method call.parameters call.more call.oneway call.upgrade) (call_sound call.method call.parameters call.more call.oneway call.upgrade s.is_sound)
          (call_shallow call.method call.parameters call.more call.oneway call.upgrade shallow);
      is_object = refl;
      method = refl;
      oneway = flag_oneway call.method call.parameters call.more call.oneway call.upgrade;
      more = flag_more call.method call.parameters call.more call.oneway call.upgrade;
      upgrade = flag_upgrade call.method call.parameters call.more call.oneway call.upgrade;
      parameters = inl (s.is_object, given call.method call.parameters call.more call.oneway call.upgrade);
    }

pub calls_read_back : (call : Call) → IsSendable call → depth call.parameters ≤ 126 → call_of (compact_text (call_tree call)) ≡ Ok call
calls_read_back call s shallow = call_of-IsCall _ call (is_call call s shallow)
