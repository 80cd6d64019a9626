-- What is taken, message by message.
use Rattle.std.proofs.Common.{◌≡◌, ℕ, ◌+◌, ◌<◌, ◌≤◌, Bool, true, false, cond, nat_lt, List, [], ◌∷◌, ◌++◌, length, ◌∙◌, ap, append_assoc, arith, length-append}
use Rattle.std.proofs.lemmas.Bool.{lt-ltb}
use Rattle.caller_form.specs.ReplyOf.{reply_of}
use Rattle.message_frame.specs.Pieces.{NoNul, ended, Pieces, pieces}
use Rattle.message_frame.proofs.PieceLemmas.{pieces-ended, pieces-led_all, pieces-no_nul, led_all}
use Rattle.link_exchange.specs.declared.ends.AskEnd.TheVariants.{TooLong}
use Rattle.link_exchange.specs.declared.verdicts.Verdict.TheVariants.{Astray}
use Rattle.link_exchange.specs.Asked.{Asked}
use Rattle.link_exchange.specs.Limits.{most_of_reply}
use Rattle.link_exchange.specs.Gathering.{IsSettled}
use Rattle.link_exchange.specs.Taken.{takes_none, judged, by_reading, by_verdict, at_end, taken_of, taken_on}

longer : (limit n : ℕ) → limit < n → nat_lt limit n ≡ true
longer limit n h = lt-ltb limit n h

not_longer : (limit n : ℕ) → n ≤ limit → nat_lt limit n ≡ false
not_longer limit n h = search (arith)

-- a whole message in front is judged first
pub taken_on-ended : (asked : Asked) (total index : ℕ) (held payload behind bytes : List ℕ) → held ≡ ended payload ++ behind → NoNul payload
    → taken_on asked total index (held ++ bytes) ≡ by_verdict payload (judged asked index payload) (taken_on asked total (index + 1) (behind ++ bytes))
unfolding taken_of
taken_on-ended asked total index held payload behind bytes is no_nul =
    ap (λ (p : Pieces). taken_of asked total index p.payloads p.rest)
    (ap (λ (b : List ℕ). pieces (b ++ bytes)) is ∙ ap pieces (append_assoc (ended payload) behind bytes) ∙ pieces-ended payload (behind ++ bytes) no_nul)

-- asked bytes than a reply may have, with no NUL among them, are too long whatever follows
too_long-led : (asked : Asked) (total index : ℕ) (held : List ℕ) (payloads : List (List ℕ)) (rest : List ℕ) → most_of_reply < length held
    → taken_of asked total index (led_all held payloads rest).payloads (led_all held payloads rest).rest ≡ takes_none (TooLong index)
unfolding taken_of
too_long-led asked total index held [] rest long =
    ap (λ (b : Bool). takes_none (cond b (TooLong index) (at_end total index)))
    (longer most_of_reply (length (held ++ rest)) (omega (arith, length-append held rest)))
too_long-led asked total index held (payload ∷ payloads) rest long =
    ap (λ (b : Bool). by_verdict (held ++ payload) (cond b (Astray (TooLong index)) (by_reading asked index (reply_of (held ++ payload)))) (taken_of asked total (index + 1) payloads rest))
    (longer most_of_reply (length (held ++ payload)) (omega (arith, length-append held payload)))

pub taken_on-too_long : (asked : Asked) (total index : ℕ) (held bytes : List ℕ) → NoNul held → most_of_reply < length held
    → taken_on asked total index (held ++ bytes) ≡ takes_none (TooLong index)
taken_on-too_long asked total index held bytes no_nul long =
    ap (λ (p : Pieces). taken_of asked total index p.payloads p.rest) (pieces-led_all held bytes no_nul)
    ∙ too_long-led asked total index held (pieces bytes).payloads (pieces bytes).rest long

-- where no whole message is held, the call waits for asked bytes
pub taken_on-settled : (asked : Asked) (total index : ℕ) (held : List ℕ) → IsSettled held → taken_on asked total index held ≡ takes_none (at_end total index)
unfolding taken_of
taken_on-settled asked total index held settled =
    ap (λ (p : Pieces). taken_of asked total index p.payloads p.rest) (pieces-no_nul held settled.no_nul)
    ∙ ap (λ (b : Bool). takes_none (cond b (TooLong index) (at_end total index))) (not_longer most_of_reply (length held) settled.short)
