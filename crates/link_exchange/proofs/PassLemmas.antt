-- What is passed on of the bytes held.
use Rattle.std.proofs.Common.{◌≡◌, ℕ, List, [], ◌++◌, Option, None, Some, IfNone, IfSome, MatchOption, refl, sym, ◌∙◌, ap, subst, append_assoc, inl, inr}
use Rattle.std.proofs.lemmas.List.{append-nil}
use Rattle.std.proofs.lemmas.Grind.{flat_map-append}
use Rattle.std.specs.Io.KnownBytes.{Appends}
use Rattle.std.specs.List.{flat_map}
use Rattle.message_frame.specs.Pieces.{ended}
use Rattle.link_exchange.specs.Asked.{Asked}
use Rattle.link_exchange.specs.declared.ends.AskEnd.{AskEnd}
use Rattle.link_exchange.specs.declared.ends.AskEnd.TheVariants as ask
use Rattle.link_exchange.specs.Gathering.{IsLast, EndsWith, Gathers, GatherEnds}
use Rattle.link_exchange.specs.Passing.{IsFront, IsOwn, Prints, WriteFaults, PassEnds, PutsLines, LinesBroke}
use Rattle.link_exchange.specs.Taken.{Taken, taken_on, marked, lines}

prints-ends : (mark : ℕ) (end : AskEnd) (payloads : List (List ℕ)) (there : Taken) → EndsWith end payloads there → Prints mark end (lines mark payloads) there
prints-ends mark (ask.Done n) payloads there ends = (ap (λ (t : Taken). lines mark t.payloads) (sym ends), ap (λ (t : Taken). t.end) (sym ends))
prints-ends mark (ask.ErrorReply name) payloads there ends = (ap (λ (t : Taken). lines mark t.payloads) (sym ends), ap (λ (t : Taken). t.end) (sym ends))
prints-ends mark (ask.NotReply i fault) payloads there ends = (ap (λ (t : Taken). lines mark t.payloads) (sym ends), ap (λ (t : Taken). t.end) (sym ends))
prints-ends mark (ask.Continues i) payloads there ends = (ap (λ (t : Taken). lines mark t.payloads) (sym ends), ap (λ (t : Taken). t.end) (sym ends))
prints-ends mark (ask.Ended i) payloads there ends = absurd ends
prints-ends mark (ask.TooLong i) payloads there ends = (ap (λ (t : Taken). lines mark t.payloads) (sym ends), ap (λ (t : Taken). t.end) (sym ends))
prints-ends mark (ask.IllTyped i name) payloads there ends = (ap (λ (t : Taken). lines mark t.payloads) (sym ends), ap (λ (t : Taken). t.end) (sym ends))
prints-ends mark ask.Long payloads there ends = absurd ends
prints-ends mark ask.LinkFault payloads there ends = absurd ends
prints-ends mark ask.WriteFault payloads there ends = absurd ends
prints-ends mark ask.Memory payloads there ends =
    (lines mark ends.0.payloads, ap (λ (t : Taken). lines mark t.payloads) ends.1 ∙ flat_map-append (marked mark) payloads ends.0.payloads)

-- the payloads that come first
abbrev Leads : List (List ℕ) → Taken → Type 0
Leads payloads there = (more : List (List ℕ)) × (there.payloads ≡ payloads ++ more)

all-lead : (payloads : List (List ℕ)) (end : AskEnd) (there : Taken) → there ≡ record { payloads = payloads; end = end } → Leads payloads there
all-lead payloads end there is = ([], ap (λ (t : Taken). t.payloads) is ∙ sym (append-nil payloads))

leads-ends : (end : AskEnd) (payloads : List (List ℕ)) (there : Taken) → EndsWith end payloads there → Leads payloads there
leads-ends (ask.Done n) payloads there ends = all-lead payloads _ there ends
leads-ends (ask.ErrorReply name) payloads there ends = all-lead payloads _ there ends
leads-ends (ask.NotReply i fault) payloads there ends = all-lead payloads _ there ends
leads-ends (ask.Continues i) payloads there ends = all-lead payloads _ there ends
leads-ends (ask.Ended i) payloads there ends = absurd ends
leads-ends (ask.TooLong i) payloads there ends = all-lead payloads _ there ends
leads-ends (ask.IllTyped i name) payloads there ends = all-lead payloads _ there ends
leads-ends ask.Long payloads there ends = absurd ends
leads-ends ask.LinkFault payloads there ends = absurd ends
leads-ends ask.WriteFault payloads there ends = absurd ends
leads-ends ask.Memory payloads there ends = (ends.0.payloads, ap (λ (t : Taken). t.payloads) ends.1)

last-ends : (end : AskEnd) (payloads : List (List ℕ)) (there : Taken) → IsLast end → EndsWith end payloads there → payloads ≡ there.payloads
last-ends (ask.Done n) payloads there last ends = ap (λ (t : Taken). t.payloads) (sym ends)
last-ends (ask.ErrorReply name) payloads there last ends = ap (λ (t : Taken). t.payloads) (sym ends)
last-ends (ask.NotReply i fault) payloads there last ends = absurd last
last-ends (ask.Continues i) payloads there last ends = absurd last
last-ends (ask.Ended i) payloads there last ends = absurd last
last-ends (ask.TooLong i) payloads there last ends = absurd last
last-ends (ask.IllTyped i name) payloads there last ends = absurd last
last-ends ask.Long payloads there last ends = absurd last
last-ends ask.LinkFault payloads there last ends = absurd last
last-ends ask.WriteFault payloads there last ends = absurd last
last-ends ask.Memory payloads there last ends = absurd last

-- a front of the lines is one of all that is passed on
front-leads : (mark : ℕ) (payloads : List (List ℕ)) (there : Taken) (front : List ℕ) → Leads payloads there → IsFront front (lines mark payloads) → IsFront front (lines mark there.payloads)
front-leads mark payloads there front leads part = (
  part.0 ++ lines mark leads.0,
  ap (lines mark) leads.1 ∙ flat_map-append (marked mark) payloads leads.0 ∙ ap (λ (l : List ℕ). l ++ lines mark leads.0) part.1
      ∙ append_assoc front part.0 (lines mark leads.0),
)

PassEnds-put : (asking : Asked) (index total : ℕ) (held held' before now all : List ℕ) (written written' : Option (List ℕ)) (end : AskEnd) → before ≡ [] → all ≡ now
    → IsOwn end → GatherEnds asking index held held' before now end → Appends written written' all
    → PassEnds asking index (record { held = held; taken = total }) (record { held = held'; taken = total }) written written' end
PassEnds-put asking index total held held' before now all written written' end none is own gathered wrote = record {
  printed = lines asking.mark gathered.payloads;
  wrote = subst (Appends written written') (is ∙ gathered.added ∙ ap (λ (l : List ℕ). l ++ lines asking.mark gathered.payloads) none) wrote;
  same = refl;
  prints = λ t bytes. prints-ends asking.mark end gathered.payloads _ (gathered.ends t bytes);
  behind = λ last t bytes. gathered.whole last ∙ ap (λ (ps : List (List ℕ)). flat_map ended ps ++ held') (last-ends end gathered.payloads _ last (gathered.ends t bytes));
  own = own;
}

PassEnds-broke : (asking : Asked) (index total : ℕ) (held held' before now all : List ℕ) (payloads : List (List ℕ)) (written written' : Option (List ℕ)) (faults faults' : ℕ)
    (result : Option AskEnd) → before ≡ [] → all ≡ now → now ≡ before ++ lines asking.mark payloads
    → ((t : ℕ) (bytes : List ℕ) → Leads payloads (taken_on asking t index (held ++ bytes))) → LinesBroke all written written' faults faults' result
    → PassEnds asking index (record { held = held; taken = total }) (record { held = held'; taken = total }) written written' ask.WriteFault
PassEnds-broke asking index total held held' before now all payloads written written' faults faults' result none is added leads broke =
    let same : all ≡ lines asking.mark payloads = is ∙ added ∙ ap (λ (l : List ℕ). l ++ lines asking.mark payloads) none in
    record {
      printed = broke.front;
      wrote = broke.wrote;
      same = refl;
      prints = λ t bytes. front-leads asking.mark payloads (taken_on asking t index (held ++ bytes)) broke.front (leads t bytes) (subst (IsFront broke.front) same broke.part);
      behind = λ last. absurd last;
      own = tt;
    }

own-ends : (end : AskEnd) (payloads : List (List ℕ)) (there : Taken) → EndsWith end payloads there → IsOwn end
own-ends (ask.Done n) payloads there ends = tt
own-ends (ask.ErrorReply name) payloads there ends = tt
own-ends (ask.NotReply i fault) payloads there ends = tt
own-ends (ask.Continues i) payloads there ends = tt
own-ends (ask.Ended i) payloads there ends = absurd ends
own-ends (ask.TooLong i) payloads there ends = tt
own-ends (ask.IllTyped i name) payloads there ends = tt
own-ends ask.Long payloads there ends = absurd ends
own-ends ask.LinkFault payloads there ends = absurd ends
own-ends ask.WriteFault payloads there ends = absurd ends
own-ends ask.Memory payloads there ends = tt

sound-ends : (end : AskEnd) (payloads : List (List ℕ)) (there : Taken) (faults faults' : ℕ) → EndsWith end payloads there → faults' ≡ faults → WriteFaults end faults faults'
sound-ends (ask.Done n) payloads there faults faults' ends sound = sound
sound-ends (ask.ErrorReply name) payloads there faults faults' ends sound = sound
sound-ends (ask.NotReply i fault) payloads there faults faults' ends sound = sound
sound-ends (ask.Continues i) payloads there faults faults' ends sound = sound
sound-ends (ask.Ended i) payloads there faults faults' ends sound = absurd ends
sound-ends (ask.TooLong i) payloads there faults faults' ends sound = sound
sound-ends (ask.IllTyped i name) payloads there faults faults' ends sound = sound
sound-ends ask.Long payloads there faults faults' ends sound = absurd ends
sound-ends ask.LinkFault payloads there faults faults' ends sound = absurd ends
sound-ends ask.WriteFault payloads there faults faults' ends sound = absurd ends
sound-ends ask.Memory payloads there faults faults' ends sound = sound

-- what was gathered, as it was put
pub pass-ended : (asking : Asked) (index index' total : ℕ) (held held' before now all : List ℕ) (written written' : Option (List ℕ)) (faults faults' : ℕ)
    (end result : Option AskEnd) → IfNone end (Gathers asking index index' held held' before now)
    → IfSome end (GatherEnds asking index held held' before now) → PutsLines end all written written' faults faults' result → before ≡ [] → all ≡ now
    → IfSome result (PassEnds asking index (record { held = held; taken = total }) (record { held = held'; taken = total }) written written')
pass-ended asking index index' total held held' before now all written written' faults faults' end None on gathered puts none is = tt
pass-ended asking index index' total held held' before now all written written' faults faults' None (Some e) on gathered (inl put) none is =
    absurd (let no : ⊥ = cc put.same in no)
pass-ended asking index index' total held held' before now all written written' faults faults' None (Some e) on gathered (inr broke) none is =
    let same : ask.WriteFault ≡ e = cc broke.is in
    subst (PassEnds asking index (record { held = held; taken = total }) (record { held = held'; taken = total }) written written') same
    (PassEnds-broke asking index total held held' before now all on.payloads written written' faults faults' (Some e) none is on.added
    (λ t bytes. ((taken_on asking t index' (held' ++ bytes)).payloads, ap (λ (there : Taken). there.payloads) (on.on t bytes))) broke)
pass-ended asking index index' total held held' before now all written written' faults faults' (Some end) (Some e) on gathered (inl put) none is =
    let same : end ≡ e = cc put.same in
    subst (PassEnds asking index (record { held = held; taken = total }) (record { held = held'; taken = total }) written written') same
    (PassEnds-put asking index total held held' before now all written written' end none is (own-ends end gathered.payloads _ (gathered.ends 0 [])) gathered put.wrote)
pass-ended asking index index' total held held' before now all written written' faults faults' (Some end) (Some e) on gathered (inr broke) none is =
    let same : ask.WriteFault ≡ e = cc broke.is in
    subst (PassEnds asking index (record { held = held; taken = total }) (record { held = held'; taken = total }) written written') same
    (PassEnds-broke asking index total held held' before now all gathered.payloads written written' faults faults' (Some e) none is gathered.added
    (λ t bytes. leads-ends end gathered.payloads _ (gathered.ends t bytes)) broke)

pub pass-faults : (asking : Asked) (index : ℕ) (held held' before now all : List ℕ) (written written' : Option (List ℕ)) (faults faults' : ℕ)
    (end result : Option AskEnd) → IfSome end (GatherEnds asking index held held' before now) → PutsLines end all written written' faults faults' result
    → MatchOption result (faults' ≡ faults) (λ e. WriteFaults e faults faults')
pass-faults asking index held held' before now all written written' faults faults' end None gathered (inl put) = put.sound
pass-faults asking index held held' before now all written written' faults faults' end None gathered (inr broke) = absurd (let no : ⊥ = cc broke.is in no)
pass-faults asking index held held' before now all written written' faults faults' None (Some e) gathered (inl put) = absurd (let no : ⊥ = cc put.same in no)
pass-faults asking index held held' before now all written written' faults faults' (Some end) (Some e) gathered (inl put) =
    let same : end ≡ e = cc put.same in
    subst (λ (e : AskEnd). WriteFaults e faults faults') same (sound-ends end gathered.payloads _ faults faults' (gathered.ends 0 []) put.sound)
pass-faults asking index held held' before now all written written' faults faults' end (Some e) gathered (inr broke) =
    let same : ask.WriteFault ≡ e = cc broke.is in
    subst (λ (e : AskEnd). WriteFaults e faults faults') same broke.fault
