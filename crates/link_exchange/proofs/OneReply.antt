-- A call that asks for one reply passes on one at most; and where each reply reads, none is ill typed.
use Rattle.std.proofs.Common.{◌≡◌, ℕ, ◌+◌, Bool, true, false, cond, nat_lt, List, [], ◌∷◌, ◌++◌, length, Option, None, Some, Result, Ok, Err, refl, sym, ◌∙◌, ap, subst, inl, inr}
use Rattle.std.proofs.lemmas.List.{append-nil}
use Rattle.std.specs.Prelude.{◌&&◌, ◌⊎◌, not, is_none, ◌==◌}
use Rattle.call_form.specs.declared.Reply.{Reply}
use Rattle.caller_form.specs.declared.faults.ReplyFault.{ReplyFault}
use Rattle.caller_form.specs.ReplyOf.{reply_of}
use Rattle.message_frame.specs.Pieces.{pieces}
use Rattle.link_exchange.specs.Asked.{Asked}
use Rattle.link_exchange.specs.declared.ends.AskEnd.{AskEnd}
use Rattle.link_exchange.specs.declared.ends.AskEnd.TheVariants as ask
use Rattle.link_exchange.specs.declared.verdicts.Verdict.TheVariants.{Goes, Last, Astray}
use Rattle.link_exchange.specs.Exchanges.{Exchanged, CameTo, BrokeOff, IsBroken}
use Rattle.link_exchange.specs.Gathering.{IsLast}
use Rattle.link_exchange.specs.Limits.{most_of_reply, most_of_link}
use Rattle.link_exchange.specs.OneReply.{IsOneReply, IsWellTyped, IsLine}
use Rattle.link_exchange.specs.Passing.{Prints}
use Rattle.link_exchange.specs.Stands.{Stand}
use Rattle.link_exchange.specs.Taken.{Taken, takes_none, taken, lines, by_reading, by_field, by_verdict, goes_astray, field_of, last_end, taken_of, taken_on}

-- the call ended with one reply, if it ended with its last one
abbrev EndsWithOne : Taken → Type 0
EndsWithOne there = IsLast there.end → IsOneReply there.payloads there.end

rest-last : (long full : Bool) (index : ℕ) → IsLast (cond long (ask.TooLong index) (cond full ask.Long (ask.Ended index))) → ⊥
rest-last true full index last = last
rest-last false true index last = last
rest-last false false index last = last

passed-one : (payload : List ℕ) (reply : Reply) (later : Taken) (continues : Bool) → reply_of payload ≡ Ok reply → reply.continues ≡ continues
    → goes_astray false reply ≡ false → EndsWithOne (by_verdict payload (cond continues Goes (Last (last_end 0 reply.error))) later)
passed-one payload reply later true is goes fits last =
    let no : true ≡ false = sym (ap (λ (c : Bool). c && not (false && is_none reply.error)) goes) ∙ fits in
    absurd (cc)
passed-one payload reply later false is goes fits last = record { payload = payload; reply = reply; one = refl; is = is; ends = refl }

weighed-one : (payload : List ℕ) (reply : Reply) (later : Taken) (astray : Bool) (field : Option (List ℕ)) → reply_of payload ≡ Ok reply → goes_astray false reply ≡ astray
    → EndsWithOne (by_verdict payload (cond astray (Astray (ask.Continues 0)) (by_field 0 reply field)) later)
weighed-one payload reply later true field is astray last = absurd last
weighed-one payload reply later false (Some name) is astray last = absurd last
weighed-one payload reply later false None is astray last = passed-one payload reply later reply.continues is refl astray last

judged-one : (asked : Asked) (payload : List ℕ) (later : Taken) (long : Bool) (found : Result Reply ReplyFault) → asked.more ≡ false → reply_of payload ≡ found
    → EndsWithOne (by_verdict payload (cond long (Astray (ask.TooLong 0)) (by_reading asked 0 found)) later)
judged-one asked payload later true found single is last = absurd last
judged-one asked payload later false (Err fault) single is last = absurd last
judged-one asked payload later false (Ok reply) single is last =
    weighed-one payload reply later (goes_astray asked.more reply) (field_of asked.unread reply reply.error) is
    (ap (λ (more : Bool). goes_astray more reply) (sym single)) last

of-one : (asked : Asked) (total : ℕ) (payloads : List (List ℕ)) (rest : List ℕ) → asked.more ≡ false → EndsWithOne (taken_of asked total 0 payloads rest)
unfolding taken_of
of-one asked total [] rest single last = absurd (rest-last (nat_lt most_of_reply (length rest)) (total == most_of_link) 0 last)
of-one asked total (payload ∷ payloads) rest single last =
    judged-one asked payload (taken_of asked total 1 payloads rest) (nat_lt most_of_reply (length payload)) (reply_of payload) single refl last

-- what is taken of any bytes where one reply is asked for
pub one_reply : (asked : Asked) (total : ℕ) (bytes : List ℕ) → asked.more ≡ false → IsLast (taken_on asked total 0 bytes).end
    → IsOneReply (taken_on asked total 0 bytes).payloads (taken_on asked total 0 bytes).end
one_reply asked total bytes single last = of-one asked total (pieces bytes).payloads (pieces bytes).rest single last

-- ---- each reply reads

rest-typed : (long full : Bool) (index : ℕ) → IsWellTyped (cond long (ask.TooLong index) (cond full ask.Long (ask.Ended index)))
rest-typed true full index = tt
rest-typed false true index = tt
rest-typed false false index = tt

last-typed : (index : ℕ) (error : Option (List ℕ)) → IsWellTyped (last_end index error)
last-typed index None = tt
last-typed index (Some name) = tt

passed-typed : (index : ℕ) (payload : List ℕ) (reply : Reply) (later : Taken) (continues : Bool) → IsWellTyped later.end
    → IsWellTyped (by_verdict payload (cond continues Goes (Last (last_end index reply.error))) later).end
passed-typed index payload reply later true typed = typed
passed-typed index payload reply later false typed = last-typed index reply.error

weighed-typed : (index : ℕ) (payload : List ℕ) (reply : Reply) (later : Taken) (astray : Bool) (field : Option (List ℕ)) → field ≡ None → IsWellTyped later.end
    → IsWellTyped (by_verdict payload (cond astray (Astray (ask.Continues index)) (by_field index reply field)) later).end
weighed-typed index payload reply later true field reads typed = tt
weighed-typed index payload reply later false None reads typed = passed-typed index payload reply later reply.continues typed
weighed-typed index payload reply later false (Some name) reads typed = absurd (cc)

field-none : (asked : Asked) (reply : Reply) (error : Option (List ℕ)) → asked.unread reply ≡ None → field_of asked.unread reply error ≡ None
field-none asked reply None reads = reads
field-none asked reply (Some name) reads = refl

judged-typed : (asked : Asked) (index : ℕ) (payload : List ℕ) (later : Taken) (long : Bool) (found : Result Reply ReplyFault) → ((reply : Reply) → asked.unread reply ≡ None)
    → IsWellTyped later.end → IsWellTyped (by_verdict payload (cond long (Astray (ask.TooLong index)) (by_reading asked index found)) later).end
judged-typed asked index payload later true found reads typed = tt
judged-typed asked index payload later false (Err fault) reads typed = tt
judged-typed asked index payload later false (Ok reply) reads typed =
    weighed-typed index payload reply later (goes_astray asked.more reply) (field_of asked.unread reply reply.error) (field-none asked reply reply.error (reads reply)) typed

of-typed : (asked : Asked) (total index : ℕ) (payloads : List (List ℕ)) (rest : List ℕ) → ((reply : Reply) → asked.unread reply ≡ None)
    → IsWellTyped (taken_of asked total index payloads rest).end
unfolding taken_of
of-typed asked total index [] rest reads = rest-typed (nat_lt most_of_reply (length rest)) (total == most_of_link) index
of-typed asked total index (payload ∷ payloads) rest reads =
    judged-typed asked index payload (taken_of asked total (index + 1) payloads rest) (nat_lt most_of_reply (length payload)) (reply_of payload) reads
    (of-typed asked total (index + 1) payloads rest reads)

-- what is taken of any bytes where each reply reads
pub well_typed : (asked : Asked) (total : ℕ) (bytes : List ℕ) → ((reply : Reply) → asked.unread reply ≡ None) → IsWellTyped (taken_on asked total 0 bytes).end
well_typed asked total bytes reads = of-typed asked total 0 (pieces bytes).payloads (pieces bytes).rest reads

-- ---- of a whole call

taken-some : (asked : Asked) (total : ℕ) (bytes : List ℕ) → asked.oneway ≡ false → taken asked total bytes ≡ taken_on asked total 0 bytes
taken-some asked total bytes is = ap (λ (b : Bool). cond b (takes_none (ask.Done 0)) (taken_on asked total 0 bytes)) is

prints-last : (mark : ℕ) (end : AskEnd) (printed : List ℕ) (there : Taken) → IsLast end → Prints mark end printed there
    → (printed ≡ lines mark there.payloads) × (end ≡ there.end)
prints-last mark (ask.Done replies) printed there last prints = prints
prints-last mark (ask.ErrorReply name) printed there last prints = prints
prints-last mark end printed there last prints = elim last [ ]

not-broken : (end : AskEnd) → IsLast end → IsBroken end → ⊥
not-broken (ask.Done replies) last broken = broken
not-broken (ask.ErrorReply name) last broken = broken
not-broken end last broken = elim last [ ]

taken-line : (asked : Asked) (total : ℕ) (bytes printed : List ℕ) (end : AskEnd) → asked.more ≡ false → IsLast end → end ≡ (taken_on asked total 0 bytes).end
    → printed ≡ lines asked.mark (taken_on asked total 0 bytes).payloads → IsLine asked.mark printed
taken-line asked total bytes printed end single last ends is =
    let one = one_reply asked total bytes single (subst IsLast ends last) in
    (one.payload, one.reply, is ∙ ap (lines asked.mark) one.one ∙ append-nil (one.payload ++ asked.mark ∷ []), one.is)

comes-line : (asked : Asked) (unsent bytes : List ℕ) (total : ℕ) (fed : List (List ℕ)) (printed held : List ℕ) (end : AskEnd) → asked.oneway ≡ false → asked.more ≡ false
    → IsLast end → (CameTo asked unsent bytes total printed held end) ⊎ (BrokeOff unsent fed printed end) → IsLine asked.mark printed
comes-line asked unsent bytes total fed printed held end some single last (inl came) =
    let prints = prints-last asked.mark end printed (taken_on asked total 0 bytes) last (subst (Prints asked.mark end printed) (taken-some asked total bytes some) came.prints) in
    taken-line asked total bytes printed end single last prints.1 prints.0
comes-line asked unsent bytes total fed printed held end some single last (inr broke) = absurd (not-broken end last broke.why)

-- a call for one reply that ended with it passed on one line
pub exchanged_line : (asked : Asked) (text : List ℕ) (link : ℕ) (old new : Stand) (end : AskEnd) (made : Exchanged asked text link old new end) → asked.oneway ≡ false
    → asked.more ≡ false → IsLast end → IsLine asked.mark made.printed
exchanged_line asked text link old new end made some single last = comes-line asked made.unsent _ _ made.fed made.printed _ end some single last made.comes

taken-typed : (asked : Asked) (total : ℕ) (bytes : List ℕ) (oneway : Bool) → ((reply : Reply) → asked.unread reply ≡ None)
    → IsWellTyped (cond oneway (takes_none (ask.Done 0)) (taken_on asked total 0 bytes)).end
taken-typed asked total bytes true reads = tt
taken-typed asked total bytes false reads = well_typed asked total bytes reads

prints-typed : (mark : ℕ) (end : AskEnd) (printed : List ℕ) (there : Taken) → Prints mark end printed there → IsWellTyped there.end → IsWellTyped end
prints-typed mark (ask.IllTyped i name) printed there prints typed = subst IsWellTyped (sym prints.1) typed
prints-typed mark (ask.Done n) printed there prints typed = tt
prints-typed mark (ask.ErrorReply name) printed there prints typed = tt
prints-typed mark (ask.NotReply i fault) printed there prints typed = tt
prints-typed mark (ask.Continues i) printed there prints typed = tt
prints-typed mark (ask.Ended i) printed there prints typed = tt
prints-typed mark (ask.TooLong i) printed there prints typed = tt
prints-typed mark ask.Long printed there prints typed = tt
prints-typed mark ask.LinkFault printed there prints typed = tt
prints-typed mark ask.WriteFault printed there prints typed = tt
prints-typed mark ask.Memory printed there prints typed = tt

broken-typed : (end : AskEnd) → IsBroken end → IsWellTyped end
broken-typed ask.LinkFault broken = tt
broken-typed ask.Memory broken = tt
broken-typed end broken = elim broken [ ]

comes-typed : (asked : Asked) (unsent bytes : List ℕ) (total : ℕ) (fed : List (List ℕ)) (printed held : List ℕ) (end : AskEnd) → ((reply : Reply) → asked.unread reply ≡ None)
    → (CameTo asked unsent bytes total printed held end) ⊎ (BrokeOff unsent fed printed end) → IsWellTyped end
comes-typed asked unsent bytes total fed printed held end reads (inl came) =
    prints-typed asked.mark end printed (taken asked total bytes) came.prints (taken-typed asked total bytes asked.oneway reads)
comes-typed asked unsent bytes total fed printed held end reads (inr broke) = broken-typed end broke.why

-- a call whose replies all read did not end with one that does not
pub exchanged_typed : (asked : Asked) (text : List ℕ) (link : ℕ) (old new : Stand) (end : AskEnd) → ((reply : Reply) → asked.unread reply ≡ None)
    → Exchanged asked text link old new end → IsWellTyped end
exchanged_typed asked text link old new end reads made = comes-typed asked made.unsent _ _ made.fed made.printed _ end reads made.comes
