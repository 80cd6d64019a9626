-- What stands written of the replies to one call.
use Rattle.std.proofs.Common.{◌≡◌, ℕ, List, [], ◌∷◌, ◌++◌, take, drop, Option, Bool, true, false, refl, sym, ◌∙◌, ap, subst, append_assoc, arith}
use Rattle.std.proofs.lemmas.List.{append-nil, take-append-drop}
use Rattle.std.proofs.lemmas.Grind.{flat_map-append}
use Rattle.std.specs.List.{flat_map}
use Rattle.std.specs.Io.KnownBytes.{Appends}
use Rattle.call_form.specs.declared.Reply.{Reply}
use Rattle.call_form.specs.ReplyText.{reply_bytes}
use Rattle.call_form.specs.declared.Outcome.{Outcome}
use Rattle.session_core.specs.declared.phases.Phase.{Phase}
use Rattle.session_core.specs.declared.phases.Phase.TheVariants.{Waiting}
use Rattle.session_core.specs.Run.{texts}
use Rattle.session_core.specs.Steps.{asked_in}
use Rattle.session_core.specs.declared.stops.Stop.{Stop}
use Rattle.session_core.specs.declared.stops.Stop.TheVariants as stop
use Rattle.link_port.specs.Flow.{AppendsFront}
use Rattle.session_core.specs.Sent.{Sent, Sends, SendsFront}
use Rattle.session_core.specs.Served.{WriteFaults}
use Rattle.session_core.specs.Went.{IsCut}
use Rattle.session_core.specs.Writes.{BreaksWithin, BreaksOff}
use Rattle.session_core.proofs.SentLemmas.{Sends-trans, Appends-sends}

-- a put failed in the text of the reply in hand
pub BreaksWithin-hand : (Wrote : List ℕ → Type 0) (reply : Reply) (text part rest : List ℕ) → text ≡ reply_bytes reply → text ≡ part ++ rest →
    Wrote part → BreaksWithin Wrote (reply ∷ []) [] part
BreaksWithin-hand Wrote reply text part rest is whole wrote = record {
  first = [];
  hand = reply ∷ [];
  rest = rest;
  whole = refl;
  one = omega arith;
  text = append-nil (reply_bytes reply) ∙ sym is ∙ whole;
  wrote = wrote;
}

-- memory ran out before the next reply was there
pub BreaksWithin-none : (old new : Sent) (done all left : List Reply) → all ≡ done ++ left →
    Sends old new (flat_map reply_bytes done) → BreaksWithin (Sends old new) all left []
BreaksWithin-none old new done all left split wrote = record {
  first = done;
  hand = [];
  rest = [];
  whole = split;
  one = omega arith;
  text = refl;
  wrote = rw (append-nil (flat_map reply_bytes done)) wrote;
}

-- the replies before the one at which the writing broke off stand written
within-after : (done : List Reply) (reply : Reply) (left all : List Reply) (part : List ℕ) (old mid new : Sent) →
    all ≡ done ++ reply ∷ left → Sends old mid (flat_map reply_bytes done) →
    BreaksWithin (Sends mid new) (reply ∷ []) [] part → BreaksWithin (Sends old new) all left part
within-after done reply left all part old mid new split wrote broke = record {
  first = done ++ broke.first;
  hand = broke.hand;
  rest = broke.rest;
  whole = split ∙ ap (λ (replies : List Reply). done ++ (replies ++ left)) broke.whole ∙ simp (append_assoc, append-nil);
  one = broke.one;
  text = broke.text;
  wrote = rw (flat_map-append reply_bytes done broke.first, append_assoc (flat_map reply_bytes done) (flat_map reply_bytes broke.first) part)
      (Sends-trans old mid new (flat_map reply_bytes done) (flat_map reply_bytes broke.first ++ part) wrote broke.wrote);
}

pub BreaksOff-after : (why : Stop) (done : List Reply) (reply : Reply) (left all : List Reply) (old mid new : Sent) (before now : ℕ) →
    all ≡ done ++ reply ∷ left → Sends old mid (flat_map reply_bytes done) →
    BreaksOff (Sends mid new) why (reply ∷ []) [] before now → BreaksOff (Sends old new) why all left before now
BreaksOff-after stop.WriteFault done reply left all old mid new before now split wrote broke =
    ((broke.0.0, within-after done reply left all broke.0.0 old mid new split wrote broke.0.1), broke.1)
BreaksOff-after stop.Memory done reply left all old mid new before now split wrote broke =
    (within-after done reply left all [] old mid new split wrote broke.0, broke.1)
BreaksOff-after why done reply left all old mid new before now split wrote broke = absurd broke

-- one more reply stands written
pub Sends-reply : (done : List Reply) (reply : Reply) (old mid new : Sent) → Sends old mid (flat_map reply_bytes done) →
    Sends mid new (reply_bytes reply) → Sends old new (flat_map reply_bytes (done ++ reply ∷ []))
Sends-reply done reply old mid new wrote more =
    rw (flat_map-append reply_bytes done (reply ∷ []), append-nil (reply_bytes reply))
    (Sends-trans old mid new (flat_map reply_bytes done) (reply_bytes reply) wrote more)

-- where nothing waits, what was sent was put
within-put : (replies left : List Reply) (part : List ℕ) (old new : Sent) → old.waiting ≡ [] → new.waiting ≡ [] →
    BreaksWithin (Sends old new) replies left part → BreaksWithin (Appends old.written new.written) replies left part
within-put replies left part old new before now broke = record {
  first = broke.first;
  hand = broke.hand;
  rest = broke.rest;
  whole = broke.whole;
  one = broke.one;
  text = broke.text;
  wrote = Appends-sends old new (flat_map reply_bytes broke.first ++ part) before now broke.wrote;
}

pub BreaksOff-put : (why : Stop) (replies left : List Reply) (old new : Sent) (faults faults' : ℕ) → old.waiting ≡ [] → new.waiting ≡ [] →
    BreaksOff (Sends old new) why replies left faults faults' → BreaksOff (Appends old.written new.written) why replies left faults faults'
BreaksOff-put stop.WriteFault replies left old new faults faults' before now broke =
    ((broke.0.0, within-put replies left broke.0.0 old new before now broke.0.1), broke.1)
BreaksOff-put stop.Memory replies left old new faults faults' before now broke = (within-put replies left [] old new before now broke.0, broke.1)
BreaksOff-put why replies left old new faults faults' before now broke = absurd broke

-- the first bytes of a piece were appended
pub AppendsFront-part : (old new : Option (List ℕ)) (n : ℕ) (bytes all : List ℕ) → bytes ≡ all → Appends old new (take n bytes) →
    AppendsFront old new all
AppendsFront-part old new n bytes all is wrote =
    record { front = take n bytes; rest = drop n bytes; whole = sym is ∙ sym (take-append-drop n bytes); wrote = wrote }

-- where the writing broke off, a front of the bytes stands written
within-front : (replies left : List Reply) (part : List ℕ) (old new : Sent) →
    BreaksWithin (Sends old new) replies left part → SendsFront old new (flat_map reply_bytes replies)
within-front replies left part old new broke = record {
  front = flat_map reply_bytes broke.first ++ part;
  rest = broke.rest ++ flat_map reply_bytes left;
  whole =
      ap (λ (all : List Reply). flat_map reply_bytes all) broke.whole
      ∙ flat_map-append reply_bytes broke.first (broke.hand ++ left)
      ∙ ap (λ (bytes : List ℕ). flat_map reply_bytes broke.first ++ bytes)
      (flat_map-append reply_bytes broke.hand left ∙ ap (λ (bytes : List ℕ). bytes ++ flat_map reply_bytes left) broke.text)
      ∙ simp append_assoc;
  sends = broke.wrote;
}

SendsFront-broke : (why : Stop) (replies left : List Reply) (old new : Sent) (before now : ℕ) →
    BreaksOff (Sends old new) why replies left before now → SendsFront old new (flat_map reply_bytes replies)
SendsFront-broke stop.WriteFault replies left old new before now broke = within-front replies left broke.0.0 old new broke.0.1
SendsFront-broke stop.Memory replies left old new before now broke = within-front replies left [] old new broke.0
SendsFront-broke why replies left old new before now broke = absurd broke

-- it broke off at a fault of the sink or for want of memory
pub cut-broke : (Wrote : List ℕ → Type 0) (why : Stop) (replies left : List Reply) (before now : ℕ) →
    BreaksOff Wrote why replies left before now → IsCut why
cut-broke Wrote stop.WriteFault replies left before now broke = tt
cut-broke Wrote stop.Memory replies left before now broke = tt
cut-broke Wrote why replies left before now broke = absurd broke

pub faults-broke : (Wrote : List ℕ → Type 0) (why : Stop) (replies left : List Reply) (before now : ℕ) →
    BreaksOff Wrote why replies left before now → WriteFaults why before now
faults-broke Wrote stop.WriteFault replies left before now broke = broke.1
faults-broke Wrote stop.Memory replies left before now broke = broke.1
faults-broke Wrote why replies left before now broke = absurd broke

-- the texts of a call's outcome are those of the replies that are asked for
pub texts-asked : (oneway : Bool) (outcome : Outcome) →
    flat_map reply_bytes (asked_in (Waiting oneway) outcome.replies) ≡ texts oneway outcome
texts-asked true outcome = refl
texts-asked false outcome = refl

pub SendsFront-asked : (here : Phase) (oneway : Bool) (outcome : Outcome) (left : List Reply) (why : Stop) (old new : Sent) (before now : ℕ) →
    here ≡ Waiting oneway → BreaksOff (Sends old new) why (asked_in here outcome.replies) left before now →
    SendsFront old new (texts oneway outcome)
SendsFront-asked here oneway outcome left why old new before now is broke =
    subst (λ (bytes : List ℕ). SendsFront old new bytes) (texts-asked oneway outcome)
    (SendsFront-broke why (asked_in (Waiting oneway) outcome.replies) left old new before now (rw is at broke))
