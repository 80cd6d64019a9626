-- Gathering, message by message.
use Rattle.std.proofs.Common.{◌≡◌, ℕ, ◌+◌, ◌<◌, ◌≤◌, List, [], ◌∷◌, ◌++◌, length, refl, sym, ◌∙◌, ap, subst, append_assoc, arith, length-append}
use Rattle.std.proofs.lemmas.List.{append-nil}
use Rattle.std.proofs.lemmas.Grind.{flat_map-append}
use Rattle.std.specs.List.{flat_map}
use Rattle.message_frame.specs.Pieces.{NoNul, ended}
use Rattle.message_frame.specs.Held.{Held}
use Rattle.message_frame.specs.Steps.{Begins, Gives}
use Rattle.message_frame.specs.declared.framing.Next.{Next}
use Rattle.message_frame.specs.declared.framing.Next.TheVariants as next
use Rattle.link_exchange.specs.Asked.{Asked}
use Rattle.link_exchange.specs.declared.ends.AskEnd.{AskEnd}
use Rattle.link_exchange.specs.declared.ends.AskEnd.TheVariants as end
use Rattle.link_exchange.specs.declared.gathering.Step.{Step}
use Rattle.link_exchange.specs.declared.gathering.Step.TheVariants.{Passed, Ends, NeedMore}
use Rattle.link_exchange.specs.declared.verdicts.Verdict.{Verdict}
use Rattle.link_exchange.specs.declared.verdicts.Verdict.TheVariants.{Last, Astray}
use Rattle.link_exchange.specs.Limits.{most_of_reply}
use Rattle.link_exchange.specs.Gathering.{Judges, IsLast, IsAstray, EndsWith, Gathers, GatherEnds, LineEnds, PutsLine, Steps, WaitsOn}
use Rattle.link_exchange.specs.Taken.{Taken, takes, judged, by_verdict, taken_on, marked, lines}
use Rattle.link_exchange.proofs.TakenLemmas.{taken_on-ended, taken_on-too_long}

-- ---- one payload

ends-last : (end : AskEnd) (payload : List ℕ) (there : Verdict) (later : Taken) → IsLast end → there ≡ Last end → EndsWith end (payload ∷ []) (by_verdict payload there later)
ends-last (end.Done n) payload there later last is = ap (λ (v : Verdict). by_verdict payload v later) is
ends-last (end.ErrorReply name) payload there later last is = ap (λ (v : Verdict). by_verdict payload v later) is
ends-last (end.NotReply i fault) payload there later last is = absurd last
ends-last (end.Continues i) payload there later last is = absurd last
ends-last (end.Ended i) payload there later last is = absurd last
ends-last (end.TooLong i) payload there later last is = absurd last
ends-last (end.IllTyped i name) payload there later last is = absurd last
ends-last end.Long payload there later last is = absurd last
ends-last end.LinkFault payload there later last is = absurd last
ends-last end.WriteFault payload there later last is = absurd last
ends-last end.Memory payload there later last is = absurd last

pub LineEnds-last : (asking : Asked) (index : ℕ) (payload before now : List ℕ) (end : AskEnd) → IsLast end
    → judged asking index payload ≡ Last end → now ≡ before ++ marked asking.mark payload → LineEnds asking index payload before now end
LineEnds-last asking index payload before now end last is added = record {
  payloads = payload ∷ [];
  added = added ∙ ap (λ (l : List ℕ). before ++ l) (sym (append-nil (marked asking.mark payload)));
  whole = λ _. refl;
  ends = λ later. ends-last end payload _ later last is;
}

ends-astray : (end : AskEnd) (payload : List ℕ) (there : Verdict) (later : Taken) → IsAstray end → Judges (Astray end) there → EndsWith end [] (by_verdict payload there later)
ends-astray (end.Done n) payload there later astray is = absurd astray
ends-astray (end.ErrorReply name) payload there later astray is = absurd astray
ends-astray (end.NotReply i fault) payload there later astray is = ap (λ (v : Verdict). by_verdict payload v later) is
ends-astray (end.Continues i) payload there later astray is = ap (λ (v : Verdict). by_verdict payload v later) is
ends-astray (end.Ended i) payload there later astray is = absurd astray
ends-astray (end.TooLong i) payload there later astray is = ap (λ (v : Verdict). by_verdict payload v later) is
ends-astray (end.IllTyped i name) payload there later astray is = ap (λ (v : Verdict). by_verdict payload v later) is
ends-astray end.Long payload there later astray is = absurd astray
ends-astray end.LinkFault payload there later astray is = absurd astray
ends-astray end.WriteFault payload there later astray is = absurd astray
ends-astray end.Memory payload there later astray is = (by_verdict payload there later, refl)

last-astray : (end : AskEnd) (P : Type 0) → IsAstray end → IsLast end → P
last-astray (end.Done n) P astray last = absurd astray
last-astray (end.ErrorReply name) P astray last = absurd astray
last-astray (end.NotReply i fault) P astray last = absurd last
last-astray (end.Continues i) P astray last = absurd last
last-astray (end.Ended i) P astray last = absurd last
last-astray (end.TooLong i) P astray last = absurd last
last-astray (end.IllTyped i name) P astray last = absurd last
last-astray end.Long P astray last = absurd last
last-astray end.LinkFault P astray last = absurd last
last-astray end.WriteFault P astray last = absurd last
last-astray end.Memory P astray last = absurd last

pub LineEnds-astray : (asking : Asked) (index : ℕ) (payload before now : List ℕ) (end : AskEnd) → IsAstray end
    → Judges (Astray end) (judged asking index payload) → now ≡ before → LineEnds asking index payload before now end
LineEnds-astray asking index payload before now end astray is same = record {
  payloads = [];
  added = same ∙ sym (append-nil before);
  whole = λ last. last-astray end _ astray last;
  ends = λ later. ends-astray end payload _ later astray is;
}

-- ---- the first message held

Gathers-passed : (asking : Asked) (index : ℕ) (old new : Held) (payload before now : List ℕ) → Begins old.bytes payload new.bytes
    → PutsLine asking index payload before now Passed → Steps asking index old new before now Passed
Gathers-passed asking index old new payload before now begins puts =
    let lengths = ap length begins.front ∙ length-append (ended payload) new.bytes in
    let long = length-append payload (0 ∷ []) in (
      record {
        payloads = payload ∷ [];
        added = puts.1 ∙ ap (λ (l : List ℕ). before ++ l) (sym (append-nil (marked asking.mark payload)));
        whole = begins.front ∙ ap (λ (l : List ℕ). l ++ new.bytes) (sym (append-nil (ended payload)));
        counted = omega (arith, lengths, long);
        on = λ total bytes. taken_on-ended asking total index old.bytes payload new.bytes bytes begins.front begins.no_nul
            ∙ ap (λ (v : Verdict). by_verdict payload v (taken_on asking total (index + 1) (new.bytes ++ bytes))) puts.0;
      },
      omega (arith, lengths, long),
    )

GatherEnds-line : (asking : Asked) (index : ℕ) (old new : Held) (payload before now : List ℕ) (end : AskEnd) → Begins old.bytes payload new.bytes
    → LineEnds asking index payload before now end → GatherEnds asking index old.bytes new.bytes before now end
GatherEnds-line asking index old new payload before now end begins line =
    let lengths = ap length begins.front ∙ length-append (ended payload) new.bytes in
    record {
      payloads = line.payloads;
      added = line.added;
      whole = λ last. begins.front ∙ ap (λ (l : List ℕ). l ++ new.bytes) (sym (ap (flat_map ended) (line.whole last) ∙ append-nil (ended payload)));
      shorter = omega (arith, lengths);
      ends = λ total bytes. subst (EndsWith end line.payloads)
          (sym (taken_on-ended asking total index old.bytes payload new.bytes bytes begins.front begins.no_nul))
          (line.ends (taken_on asking total (index + 1) (new.bytes ++ bytes)));
    }

pub Steps-payload : (asking : Asked) (index : ℕ) (old new : Held) (payload before now : List ℕ) (step : Step) → Begins old.bytes payload new.bytes
    → PutsLine asking index payload before now step → Steps asking index old new before now step
Steps-payload asking index old new payload before now Passed begins puts = Gathers-passed asking index old new payload before now begins puts
Steps-payload asking index old new payload before now (Ends end) begins puts = GatherEnds-line asking index old new payload before now end begins puts
Steps-payload asking index old new payload before now NeedMore begins puts = absurd puts

GatherEnds-too_long : (asking : Asked) (index : ℕ) (old new : Held) (before : List ℕ) → NoNul old.bytes → most_of_reply < length old.bytes → new ≡ old
    → GatherEnds asking index old.bytes new.bytes before before (end.TooLong index)
GatherEnds-too_long asking index old new before no_nul long same = record {
  payloads = [];
  added = sym (append-nil before);
  whole = λ last. absurd last;
  shorter = omega (arith, ap (λ (h : Held). length h.bytes) same);
  ends = λ total bytes. taken_on-too_long asking total index old.bytes bytes no_nul long;
}

pub Steps-too_long : (asking : Asked) (index : ℕ) (old new : Held) (before : List ℕ) → NoNul old.bytes → most_of_reply < length old.bytes → new ≡ old
    → Steps asking index old new before before (Ends (end.TooLong index))
Steps-too_long asking index old new before no_nul long same = GatherEnds-too_long asking index old new before no_nul long same

pub Steps-waits : (asking : Asked) (index : ℕ) (old new : Held) (held before : List ℕ) (step : Step) → NoNul old.bytes → held ≡ new.bytes → new ≡ old
    → WaitsOn index held step → Steps asking index old new before before step
Steps-waits asking index old new held before Passed no_nul is same waits = absurd waits
Steps-waits asking index old new held before (Ends end) no_nul is same waits =
    let long : most_of_reply < length old.bytes = subst (λ (h : List ℕ). most_of_reply < length h) (is ∙ ap (λ (h : Held). h.bytes) same) waits.0 in
    subst (λ (e : AskEnd). Steps asking index old new before before (Ends e)) (sym waits.1) (GatherEnds-too_long asking index old new before no_nul long same)
Steps-waits asking index old new held before NeedMore no_nul is same waits =
    let short : length old.bytes ≤ most_of_reply = subst (λ (h : List ℕ). length h ≤ most_of_reply) (is ∙ ap (λ (h : Held). h.bytes) same) waits in
    (record { no_nul = no_nul; short = short }, same, refl)

-- ---- the answers of the frames

pub Steps-given : (asking : Asked) (index : ℕ) (old new : Held) (answer : Next) (before now : List ℕ) (step : Step) → Gives old answer new
    → (payload : _) → answer ≡ next.Payload payload → PutsLine asking index payload.now before now step → Steps asking index old new before now step
Steps-given asking index old new answer before now step gives payload is puts =
    let given = subst (λ (n : Next). Gives old n new) is gives in
    Steps-payload asking index old new payload.now before now step given.0 puts

pub Steps-full : (asking : Asked) (index : ℕ) (old new : Held) (answer : Next) (before : List ℕ) → Gives old answer new → answer ≡ next.TooLong
    → most_of_reply ≤ old.limit → Steps asking index old new before before (Ends (end.TooLong index))
Steps-full asking index old new answer before gives is limit =
    let given = subst (λ (n : Next). Gives old n new) is gives in
    Steps-too_long asking index old new before given.0 (omega (arith, given.1)) given.2

pub Steps-short : (asking : Asked) (index : ℕ) (old new : Held) (answer : Next) (held before : List ℕ) (step : Step) → Gives old answer new → answer ≡ next.NeedMore
    → held ≡ new.bytes → WaitsOn index held step → Steps asking index old new before before step
Steps-short asking index old new answer held before step gives is lent waits =
    let given = subst (λ (n : Next). Gives old n new) is gives in
    Steps-waits asking index old new held before step given.0 lent given.2 waits

-- ---- one after another

pub Gathers-none : (asking : Asked) (index : ℕ) (held before : List ℕ) → Gathers asking index index held held before before
Gathers-none asking index held before = record {
  payloads = [];
  added = sym (append-nil before);
  whole = refl;
  counted = omega arith;
  on = λ total bytes. refl;
}

whole-trans : (one two : List (List ℕ)) (held held' held'' : List ℕ) → held ≡ flat_map ended one ++ held' → held' ≡ flat_map ended two ++ held''
    → held ≡ flat_map ended (one ++ two) ++ held''
whole-trans one two held held' held'' first second =
    first ∙ ap (λ (l : List ℕ). flat_map ended one ++ l) second ∙ sym (append_assoc (flat_map ended one) (flat_map ended two) held'')
    ∙ ap (λ (l : List ℕ). l ++ held'') (sym (flat_map-append ended one two))

added-trans : (mark : ℕ) (one two : List (List ℕ)) (a b c : List ℕ) → b ≡ a ++ lines mark one → c ≡ b ++ lines mark two → c ≡ a ++ lines mark (one ++ two)
added-trans mark one two a b c first second =
    second ∙ ap (λ (l : List ℕ). l ++ lines mark two) first ∙ append_assoc a (lines mark one) (lines mark two)
    ∙ ap (λ (l : List ℕ). a ++ l) (sym (flat_map-append (marked mark) one two))

pub takes-takes : (one two : List (List ℕ)) (later : Taken) → takes one (takes two later) ≡ takes (one ++ two) later
takes-takes one two later = ap (λ (l : List (List ℕ)). record { payloads = l; end = later.end }) (sym (append_assoc one two later.payloads))

pub Gathers-trans : (asking : Asked) (i j k : ℕ) (h h' h'' a b c : List ℕ) → Gathers asking i j h h' a b → Gathers asking j k h' h'' b c → Gathers asking i k h h'' a c
Gathers-trans asking i j k h h' h'' a b c first second = record {
  payloads = first.payloads ++ second.payloads;
  added = added-trans asking.mark first.payloads second.payloads a b c first.added second.added;
  whole = whole-trans first.payloads second.payloads h h' h'' first.whole second.whole;
  counted = omega (arith, first.counted, second.counted);
  on = λ total bytes. first.on total bytes ∙ ap (takes first.payloads) (second.on total bytes) ∙ takes-takes first.payloads second.payloads _;
}

pub EndsWith-after : (end : AskEnd) (one two : List (List ℕ)) (there later : Taken) → there ≡ takes one later → EndsWith end two later → EndsWith end (one ++ two) there
EndsWith-after (end.Done n) one two there later is ends = is ∙ ap (takes one) ends
EndsWith-after (end.ErrorReply name) one two there later is ends = is ∙ ap (takes one) ends
EndsWith-after (end.NotReply i fault) one two there later is ends = is ∙ ap (takes one) ends
EndsWith-after (end.Continues i) one two there later is ends = is ∙ ap (takes one) ends
EndsWith-after (end.Ended i) one two there later is ends = absurd ends
EndsWith-after (end.TooLong i) one two there later is ends = is ∙ ap (takes one) ends
EndsWith-after (end.IllTyped i name) one two there later is ends = is ∙ ap (takes one) ends
EndsWith-after end.Long one two there later is ends = absurd ends
EndsWith-after end.LinkFault one two there later is ends = absurd ends
EndsWith-after end.WriteFault one two there later is ends = absurd ends
EndsWith-after end.Memory one two there later is ends = (ends.0, is ∙ ap (takes one) ends.1 ∙ takes-takes one two ends.0)

pub GatherEnds-after : (asking : Asked) (i j : ℕ) (h h' h'' a b c : List ℕ) (end : AskEnd) → Gathers asking i j h h' a b
    → GatherEnds asking j h' h'' b c end → GatherEnds asking i h h'' a c end
GatherEnds-after asking i j h h' h'' a b c end first second =
    let lengths = ap length first.whole ∙ length-append (flat_map ended first.payloads) h' in
    record {
      payloads = first.payloads ++ second.payloads;
      added = added-trans asking.mark first.payloads second.payloads a b c first.added second.added;
      whole = λ last. whole-trans first.payloads second.payloads h h' h'' first.whole (second.whole last);
      shorter = omega (arith, lengths, second.shorter);
      ends = λ total bytes. EndsWith-after end first.payloads second.payloads _ _ (first.on total bytes) (second.ends total bytes);
    }
