-- The replies to one call.
use Rattle.std.specs.Prelude.{◌≡◌, true, false, List, [], ◌∷◌, length, ⊤, Option, Some, None, IsSome}
use Rattle.std.specs.List.{AllByRecursion}
use Rattle.call_form.specs.declared.Call.{Call}
use Rattle.call_form.specs.declared.Reply.{Reply}
use Rattle.call_form.specs.declared.Outcome.{Outcome}
use Rattle.link_port.specs.SoundTrees.{IsSound}
use Rattle.call_form.specs.CallOf.{IsObject}

-- the outcome without its first reply
abbrev pub without_first : Outcome → List Reply → Outcome
without_first outcome replies = record outcome { replies = replies }

-- asked for the next reply: the first of those left, which leaves the others, or none where none is left
abbrev pub Nexts : Outcome → Option Reply → Outcome → Type 0
Nexts old (Some reply) new = old ≡ record new { replies = reply ∷ new.replies }
Nexts old None new = (old.replies ≡ []) × (new ≡ old)

-- all replies but the last say that more follow
abbrev pub Continues : List Reply → Type 0
Continues [] = ⊥
Continues (reply ∷ []) = reply.continues ≡ false
Continues (reply ∷ replies) = (reply.continues ≡ true) × Continues replies

-- only the last reply may be an error
abbrev pub OnlyLastFails : List Reply → Type 0
OnlyLastFails [] = ⊤
OnlyLastFails (reply ∷ []) = ⊤
OnlyLastFails (reply ∷ replies) = (reply.error ≡ None) × OnlyLastFails replies

-- the parameters of the reply are an object with its keys in byte order and each once, and hold no number but whole
-- ones. That its texts are UTF-8 is so of each reply that there is
pub record HasSoundParameters (reply : Reply) : Type 0 where
  pub is_object : IsObject reply.parameters
  pub is_sound : IsSound reply.parameters

-- an outcome fits its call (varlink.org, "Method Call"): one reply at least, several only where `more` is set, all but
-- the last with `continues` and without an error, and an upgrade only where `upgrade` is set and neither `oneway` nor
-- `more`. Each reply can be written
pub record Fits (call : Call) (outcome : Outcome) : Type 0 where
  pub continues : Continues outcome.replies
  pub errors : OnlyLastFails outcome.replies
  pub several : call.more ≡ false → length outcome.replies ≡ 1
  pub upgrade : IsSome outcome.raw → (call.upgrade ≡ true) × (call.oneway ≡ false) × (call.more ≡ false)
  pub writable : AllByRecursion HasSoundParameters outcome.replies

-- each of these outcomes fits the call at its place
abbrev pub AllFit : List Call → List Outcome → Type 0
AllFit [] [] = ⊤
AllFit (call ∷ calls) (outcome ∷ outcomes) = Fits call outcome × AllFit calls outcomes
AllFit _ _ = ⊥
