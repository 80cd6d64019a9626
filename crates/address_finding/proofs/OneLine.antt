-- a call that takes one reply and ends with it passed on one payload as a line
use Rattle.std.proofs.Common.{◌≡◌, ℕ, false, List, [], ◌∷◌, ◌++◌, None, Result, refl, sym, ◌∙◌, subst, inl, inr}
use Rattle.call_form.specs.declared.Reply.{Reply}
use Rattle.caller_form.specs.CallBytes.{call_bytes}
use Rattle.link_reach.specs.declared.deeds.Deed.{Deed}
use Rattle.link_reach.specs.declared.deeds.Deed.TheVariants as deed
use Rattle.link_exchange.specs.Asked.{Asked, any_reads}
use Rattle.link_exchange.specs.declared.ends.AskEnd.{AskEnd}
use Rattle.link_exchange.specs.declared.ends.AskEnd.TheVariants as ask
use Rattle.link_exchange.specs.Gathering.{IsLast}
use Rattle.link_exchange.specs.OneReply.{IsWellTyped}
use Rattle.link_exchange.proofs.OneReply.{exchanged_line, exchanged_typed}
use Rattle.client_core.specs.Calls.{Side, CallsOver, asking_of}
use Rattle.standard_calls.specs.Asking.{resolve_call}
use Rattle.address_finding.specs.Finding.{Links, side, Finds, AnswersBy, TellsIn, TellsLine}
use Rattle.link_doors.specs.declared.addresses.Address.{Address}
use Rattle.address_finding.specs.declared.ends.ResolveEnd.{ResolveEnd}

-- one reply is asked for, and passed on as a line
abbrev asks_one : Asked
asks_one = record { oneway = false; more = false; mark = 10; unread = any_reads }

-- what a call over a link of its own passed on
called-line : (dial : Deed) (text : List ℕ) (before after : Links) (printed : List ℕ) (end : AskEnd) → IsLast end
    → CallsOver dial text asks_one (side before []) (side after printed) end → (payload : List ℕ) × (printed ≡ payload ++ 10 ∷ [])
called-line dial text before after printed end last (inl nothing) = absurd (subst IsLast nothing.0 last)
called-line dial text before after printed end last (inr (inl vain)) = absurd (subst IsLast vain.0 last)
called-line dial text before after printed end last (inr (inr on)) =
    let exchanged = on.called.exchanged in
    let line = exchanged_line asks_one _ _ _ _ end exchanged refl refl last in
    (line.0, exchanged.wrote ∙ line.2)

-- no reply of it is ill typed
pub called-typed : (dial : Deed) (text : List ℕ) (asked : Asked) (before after : Side) (end : AskEnd) → ((reply : Reply) → asked.unread reply ≡ None)
    → CallsOver dial text asked before after end → IsWellTyped end
called-typed dial text asked before after end reads (inl nothing) = subst IsWellTyped (sym nothing.0) tt
called-typed dial text asked before after end reads (inr (inl vain)) = subst IsWellTyped (sym vain.0) tt
called-typed dial text asked before after end reads (inr (inr on)) = exchanged_typed asked _ _ _ _ end reads on.called.exchanged

tells-line : (told : Result Address ResolveEnd) (printed : List ℕ) → (payload : List ℕ) × (printed ≡ payload ++ 10 ∷ [])
    → TellsIn told printed → TellsLine told printed
tells-line told printed line tells = (line.0, line.1, tells line.0 line.1)

by-last : (Holds Wanted : Type 0) (told : Result Address ResolveEnd) (end : AskEnd) → (IsLast end → Holds → Wanted)
    → AnswersBy Holds told end → AnswersBy Wanted told end
by-last Holds Wanted told (ask.Done replies) leads by = leads tt by
by-last Holds Wanted told (ask.ErrorReply name) leads by = leads tt by
by-last Holds Wanted told end leads by = by

-- so the answer is what this line tells
pub found : (resolver : Address) (interface : List ℕ) (before after : Links) (told : Result Address ResolveEnd) (end : AskEnd) (printed : List ℕ)
    → CallsOver (deed.Dialled resolver) (call_bytes (resolve_call interface)) (asking_of (resolve_call interface)) (side before []) (side after printed) end
    → AnswersBy (TellsIn told printed) told end → Finds resolver interface before after told
found resolver interface before after told end printed calls by = record {
  end = end;
  printed = printed;
  calls = calls;
  answers = by-last _ _ told end
      (λ last. tells-line told printed (called-line _ _ before after printed end last calls)) by;
}
