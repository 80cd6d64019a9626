-- The head of a reply: whether another one follows, and the name of its error. It is read with no tree.
use Rattle.std.specs.Prelude.{◌≡◌, List, [], ◌∷◌, ℕ, codes, Option, Some, None, Result, Ok, Err, ⊤}
use Rattle.json.specs.Token.{Token}
use Rattle.json.specs.declared.reader.Invalid.{Invalid}
use Rattle.serde_json.specs.Data.{Data, object, Members}
use Rattle.serde_json.specs.Find.{get_member}
use Rattle.call_form.specs.CallRules.{IsAbsent}
use Rattle.call_form.specs.declared.Reply.{Reply}
use Rattle.caller_form.specs.declared.faults.ReplyFault.{ReplyFault}
use Rattle.caller_form.specs.declared.heads.Head.{Head}
use Rattle.caller_form.specs.declared.members.Found.{Found}
use Rattle.caller_form.specs.declared.kinds.Kind.{Kind}
use Rattle.caller_form.specs.declared.kinds.Kind.TheVariants as kind
use Rattle.caller_form.specs.Kinds.{IsOfKind, members_at}
use Rattle.caller_form.specs.ReplyOf.{reply_of, json_of, object_of, Reads, Refuses, ◌>>=◌}

abbrev pub head_of : Reply → Head
head_of reply = record { continues = reply.continues; error = reply.error }

abbrev pub head_or_fault : Result Reply ReplyFault → Result Head ReplyFault
head_or_fault (Ok reply) = Ok (head_of reply)
head_or_fault (Err fault) = Err fault

-- reading the head of a payload gave this: it is the head of the reply that the payload is, and a fault is the
-- payload's first one
abbrev pub ReadsHead : List ℕ → Result Head ReplyFault → Type 0
ReadsHead payload result = Reads result (head_or_fault (reply_of payload))

-- the parameters were judged, and not kept
abbrev pub ReadsParameters : Result ⊤ ReplyFault → Result Data ReplyFault → Type 0
ReadsParameters (Ok done) there = (parameters : Data) × (there ≡ Ok parameters)
ReadsParameters (Err fault) there = there ≡ Err fault

-- a member is of this kind, where null stands for none too
abbrev pub IsMember : Kind → Option Data → Type 0
IsMember kind.Null there = IsAbsent there
IsMember kind there = (tree : Data) × (there ≡ Some tree) × IsOfKind kind tree

-- of the members of an object, the kinds of those that a reply has
pub record AreFound (found : Found) (ms : Members) : Type 0 where
  pub continues : IsMember found.continues (get_member (codes "continues") ms)
  pub error : IsMember found.error (get_member (codes "error") ms)
  pub parameters : IsMember found.parameters (get_member (codes "parameters") ms)

-- the members of an object that was opened were passed over, or there are none
abbrev pub Finds : ℕ → List Token → Result Found Invalid → List Token → Type 0
Finds depth old (Ok found) new = (ms : Members) × (members_at depth old ≡ Some (ms, new)) × AreFound found ms
Finds depth old (Err invalid) new = members_at depth old ≡ None

-- no token is left, or one is
abbrev pub Ends : List Token → Result ⊤ Invalid → Type 0
Ends old (Ok done) = old ≡ []
Ends old (Err invalid) = (first : Token) × (rest : List Token) × (old ≡ first ∷ rest)

-- the text is an object with these members, or else this is its first fault
abbrev pub TellsMembers : List ℕ → Result Found ReplyFault → Type 0
TellsMembers text (Ok found) = (ms : Members) × (json_of text ≡ Ok (object ms)) × AreFound found ms
TellsMembers text (Err fault) = Refuses fault (json_of text >>= object_of)
