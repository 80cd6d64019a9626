-- A call that asks for one reply.
use Rattle.std.specs.Prelude.{◌≡◌, ℕ, List, [], ◌∷◌, ◌++◌, Ok, ⊤}
use Rattle.call_form.specs.declared.Reply.{Reply}
use Rattle.caller_form.specs.ReplyOf.{reply_of}
use Rattle.link_exchange.specs.declared.ends.AskEnd.{AskEnd}
use Rattle.link_exchange.specs.declared.ends.AskEnd.TheVariants.{IllTyped}
use Rattle.link_exchange.specs.Taken.{last_end}

-- one reply was passed on, and the call ended with it
pub record IsOneReply (payloads : List (List ℕ)) (end : AskEnd) : Type 0 where
  pub payload : List ℕ
  pub reply : Reply
  pub one : payloads ≡ payload ∷ []
  pub is : reply_of payload ≡ Ok reply
  pub ends : end ≡ last_end 0 reply.error

-- the call did not end with a reply that does not read
abbrev pub IsWellTyped : AskEnd → Type 0
IsWellTyped (IllTyped index field) = ⊥
IsWellTyped _ = ⊤

-- the payload of one reply, and a mark behind it
abbrev pub IsLine : ℕ → List ℕ → Type 0
IsLine mark printed = (payload : List ℕ) × (reply : Reply) × (printed ≡ payload ++ mark ∷ []) × (reply_of payload ≡ Ok reply)
