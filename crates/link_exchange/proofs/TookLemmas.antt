-- What a call comes to, of the bytes that were taken and of all that is left on the link.
use Rattle.std.proofs.Common.{◌≡◌, ◌+◌, ◌-◌, ◌≤◌, ℕ, zero, suc, Bool, true, false, cond, nat_lt, List, [], ◌∷◌, ◌++◌, length, take, Option, None, Some, Err, refl, sym, ◌∙◌, ap, subst, append_assoc, arith, inl, inr}
use Rattle.std.proofs.lemmas.Bool.{ltb-true}
use Rattle.std.proofs.lemmas.List.{append-nil, take_all}
use Rattle.std.proofs.KnownBytes.{Appends-nil}
use Rattle.std.specs.Io.KnownBytes.{Appends, Consumes}
use Rattle.std.specs.List.{AllByRecursion, flat_map, concat}
use Rattle.std.specs.Prelude.{option_map}
use Rattle.message_frame.specs.Pieces.{NoNul, ended, pieces}
use Rattle.message_frame.proofs.PieceLemmas.{ArePieces-pieces}
use Rattle.link_reach.specs.declared.deeds.Deed.{Deed}
use Rattle.link_reach.specs.declared.deeds.DialFault.{DialFault}
use Rattle.link_reach.specs.declared.deeds.DialFault.TheVariants as dial_fault
use Rattle.link_reach.specs.Deeds.{Gains}
use Rattle.link_reach.specs.Worlds.{Said, Link, Spot, spot, sends, left_of}
use Rattle.link_exchange.specs.Asked.{Asked}
use Rattle.link_exchange.specs.declared.ends.AskEnd.{AskEnd}
use Rattle.link_exchange.specs.declared.ends.AskEnd.TheVariants as ask
use Rattle.link_exchange.specs.declared.verdicts.Verdict.{Verdict}
use Rattle.link_exchange.specs.declared.verdicts.Verdict.TheVariants.{Goes, Last, Astray}
use Rattle.link_exchange.specs.Exchanges.{Took, Exchanged, ExchangedIn, IsBroken, IsTold, TakesLeft, TakesAll, IsFull, within_most, found_end, sends_on, takes_on}
use Rattle.link_exchange.specs.Limits.{most_of_reply, most_of_link}
use Rattle.link_exchange.specs.Passing.{Prints, SendsAll, SendsPieces, link_end}
use Rattle.link_exchange.specs.Stands.{Unread, Stand, stand}
use Rattle.link_exchange.specs.Taken.{Taken, takes, takes_none, judged, by_verdict, at_end, taken_of, taken_on, taken, lines}
use Rattle.link_exchange.proofs.SendLemmas.{Gains-trans}
use Rattle.link_exchange.proofs.TakingLemmas.{none-needed}
use Rattle.link_exchange.proofs.TakenLemmas.{taken_on-ended, taken_on-too_long}

-- ---- what stands behind the message that ended a call is not looked at

abbrev IsAtMessage : AskEnd → Type 0
IsAtMessage (ask.Ended index) = ⊥
IsAtMessage ask.Long = ⊥
IsAtMessage ask.LinkFault = ⊥
IsAtMessage ask.WriteFault = ⊥
IsAtMessage ask.Memory = ⊥
IsAtMessage _ = Unit {0}

not-at-end : (full : Bool) (index : ℕ) → IsAtMessage (cond full ask.Long (ask.Ended index)) → ⊥
not-at-end true index at = at
not-at-end false index at = at

further-rest : (asked : Asked) (total total' index : ℕ) (rest extra : List ℕ) (long : Bool) → nat_lt most_of_reply (length rest) ≡ long → NoNul rest
    → IsAtMessage (cond long (ask.TooLong index) (at_end total index)) → taken_on asked total' index (rest ++ extra) ≡ takes_none (cond long (ask.TooLong index) (at_end total index))
further-rest asked total total' index rest extra true is no_nul at = taken_on-too_long asked total' index rest extra no_nul (ltb-true _ _ is)
further-rest asked total total' index rest extra false is no_nul at = absurd (not-at-end _ index at)

by-same : (payload : List ℕ) (verdict : Verdict) (a b : Taken) → (IsAtMessage b.end → a ≡ b) → IsAtMessage (by_verdict payload verdict b).end
    → by_verdict payload verdict a ≡ by_verdict payload verdict b
by-same payload Goes a b same at = ap (takes (payload ∷ [])) (same at)
by-same payload (Last end) a b same at = refl
by-same payload (Astray end) a b same at = refl

further : (asked : Asked) (total total' index : ℕ) (payloads : List (List ℕ)) (rest extra : List ℕ) → AllByRecursion NoNul payloads → NoNul rest
    → IsAtMessage (taken_of asked total index payloads rest).end
    → taken_on asked total' index ((flat_map ended payloads ++ rest) ++ extra) ≡ taken_of asked total index payloads rest
unfolding taken_of
further asked total total' index [] rest extra each no_nul at = further-rest asked total total' index rest extra (nat_lt most_of_reply (length rest)) refl no_nul at
further asked total total' index (payload ∷ payloads) rest extra each no_nul at =
    taken_on-ended asked total' index _ payload (flat_map ended payloads ++ rest) extra (append_assoc (ended payload) (flat_map ended payloads) rest) each.0
    ∙ by-same payload (judged asked index payload) _ _ (further asked total total' (index + 1) payloads rest extra each.1 no_nul) at

further-on : (asked : Asked) (total total' index : ℕ) (bytes extra : List ℕ) → IsAtMessage (taken_on asked total index bytes).end
    → taken_on asked total' index (bytes ++ extra) ≡ taken_on asked total index bytes
further-on asked total total' index bytes extra at =
    let are = ArePieces-pieces bytes in
    ap (λ (b : List ℕ). taken_on asked total' index (b ++ extra)) are.whole
    ∙ further asked total total' index (pieces bytes).payloads (pieces bytes).rest extra are.each are.open_end at

-- ---- all that is left on the link

front-taken : (most : ℕ) (front rest : List ℕ) → length front ≤ most → take most (front ++ rest) ≡ front ++ take (most - length front) rest
front-taken most [] rest within = ap (λ (n : ℕ). take n rest) (omega arith)
front-taken zero (x ∷ front) rest within = absurd (omega (arith, within))
front-taken (suc most) (x ∷ front) rest within =
    ap (λ (l : List ℕ). x ∷ l) (front-taken most front rest (omega (arith, within)) ∙ ap (λ (n : ℕ). front ++ take n rest) (omega arith))

front-left : (left : List ℕ) (now : Option (List ℕ)) (fed : List ℕ) → Consumes (Some left) now fed → (rest : List ℕ) × (left ≡ fed ++ rest)
front-left left None fed took = absurd took
front-left left (Some rest) fed took = (rest, took)

-- what is taken of all that is left, where as much was taken as there is, or a message ended the call
left-all : (asked : Asked) (before total : ℕ) (held fed left : List ℕ) → total ≡ before + length fed → within_most before left ≡ fed
    → taken_on asked (before + length (within_most before left)) 0 (held ++ within_most before left) ≡ taken_on asked total 0 (held ++ fed)
left-all asked before total held fed left counted is =
    ap (λ (b : List ℕ). taken_on asked (before + length b) 0 (held ++ b)) is ∙ ap (λ (n : ℕ). taken_on asked n 0 (held ++ fed)) (sym counted)

left-message : (asked : Asked) (before total : ℕ) (held fed rest left : List ℕ) → total ≡ before + length fed → total ≤ most_of_link → left ≡ fed ++ rest
    → IsAtMessage (taken_on asked total 0 (held ++ fed)).end
    → taken_on asked (before + length (within_most before left)) 0 (held ++ within_most before left) ≡ taken_on asked total 0 (held ++ fed)
left-message asked before total held fed rest left counted most is at =
    let extra : List ℕ = take (most_of_link - before - length fed) rest in
    let bytes : within_most before left ≡ fed ++ extra = ap (take (most_of_link - before)) is ∙ front-taken (most_of_link - before) fed rest (omega arith) in
    ap (λ (b : List ℕ). taken_on asked (before + length b) 0 (held ++ b)) bytes
    ∙ ap (taken_on asked (before + length (fed ++ extra)) 0) (sym (append_assoc held fed extra))
    ∙ further-on asked total (before + length (fed ++ extra)) 0 (held ++ fed) extra at

taken-left : (asked : Asked) (before total : ℕ) (held fed left : List ℕ) (now : Option (List ℕ)) (end : AskEnd) → total ≡ before + length fed → total ≤ most_of_link
    → Consumes (Some left) now fed → IsTold end → end ≡ (taken_on asked total 0 (held ++ fed)).end → TakesAll end (Some left) fed → IsFull end total
    → taken_on asked (before + length (within_most before left)) 0 (held ++ within_most before left) ≡ taken_on asked total 0 (held ++ fed)
taken-left asked before total held fed left now (ask.Done n) counted most took told is all full =
    let front = front-left left now fed took in
    left-message asked before total held fed front.0 left counted most front.1 (subst IsAtMessage is tt)
taken-left asked before total held fed left now (ask.ErrorReply name) counted most took told is all full =
    let front = front-left left now fed took in
    left-message asked before total held fed front.0 left counted most front.1 (subst IsAtMessage is tt)
taken-left asked before total held fed left now (ask.NotReply i fault) counted most took told is all full =
    let front = front-left left now fed took in
    left-message asked before total held fed front.0 left counted most front.1 (subst IsAtMessage is tt)
taken-left asked before total held fed left now (ask.Continues i) counted most took told is all full =
    let front = front-left left now fed took in
    left-message asked before total held fed front.0 left counted most front.1 (subst IsAtMessage is tt)
taken-left asked before total held fed left now (ask.Ended i) counted most took told is all full = left-all asked before total held fed left counted (take_all (most_of_link - before) left (omega (arith, ap length all, counted, most)) ∙ sym all)
taken-left asked before total held fed left now (ask.TooLong i) counted most took told is all full =
    let front = front-left left now fed took in
    left-message asked before total held fed front.0 left counted most front.1 (subst IsAtMessage is tt)
taken-left asked before total held fed left now (ask.IllTyped i name) counted most took told is all full =
    let front = front-left left now fed took in
    left-message asked before total held fed front.0 left counted most front.1 (subst IsAtMessage is tt)
taken-left asked before total held fed left now ask.Long counted most took told is all full =
    let front = front-left left now fed took in
    left-all asked before total held fed left counted (ap (take (most_of_link - before)) front.1 ∙ front-taken (most_of_link - before) fed front.0 (omega (arith, counted, full))
    ∙ ap (λ (n : ℕ). fed ++ take n front.0) (let none : most_of_link - before - length fed ≡ 0 = omega (arith, counted, full) in none) ∙ append-nil fed)
taken-left asked before total held fed left now ask.LinkFault counted most took told is all full = absurd told
taken-left asked before total held fed left now ask.WriteFault counted most took told is all full = absurd told
taken-left asked before total held fed left now ask.Memory counted most took told is all full = absurd told

told-prints : (mark : ℕ) (end : AskEnd) (printed : List ℕ) (there : Taken) → IsTold end → Prints mark end printed there → (printed ≡ lines mark there.payloads) × (end ≡ there.end)
told-prints mark (ask.Done n) printed there told prints = prints
told-prints mark (ask.ErrorReply name) printed there told prints = prints
told-prints mark (ask.NotReply i fault) printed there told prints = prints
told-prints mark (ask.Continues i) printed there told prints = prints
told-prints mark (ask.Ended i) printed there told prints = prints
told-prints mark (ask.TooLong i) printed there told prints = prints
told-prints mark (ask.IllTyped i name) printed there told prints = prints
told-prints mark ask.Long printed there told prints = prints
told-prints mark ask.LinkFault printed there told prints = absurd told
told-prints mark ask.WriteFault printed there told prints = absurd told
told-prints mark ask.Memory printed there told prints = absurd told

taken-answered : (asking : Asked) (total : ℕ) (bytes : List ℕ) → asking.oneway ≡ false → taken asking total bytes ≡ taken_on asking total 0 bytes
taken-answered asking total bytes is = ap (λ (b : Bool). cond b (takes_none (ask.Done 0)) (taken_on asking total 0 bytes)) is

taken-oneway : (asking : Asked) (total : ℕ) (bytes : List ℕ) → asking.oneway ≡ true → taken asking total bytes ≡ takes_none (ask.Done 0)
taken-oneway asking total bytes is = ap (λ (b : Bool). cond b (takes_none (ask.Done 0)) (taken_on asking total 0 bytes)) is

Took-left : (asking : Asked) (link : ℕ) (old new : Stand) (end : AskEnd) (left : List ℕ) → asking.oneway ≡ false → Took asking link old new end → old.left ≡ Some left → IsTold end
    → TakesLeft asking old.inbox left old.written new.written end
Took-left asking link old new end left answered took is told =
    let fed : List ℕ = concat took.fed in
    let held : List ℕ = old.inbox.held in
    let bytes : List ℕ = within_most old.inbox.taken left in
    let prints = told-prints asking.mark end took.printed _ told took.prints in
    let same : taken_on asking (old.inbox.taken + length bytes) 0 (held ++ bytes) ≡ taken_on asking new.inbox.taken 0 (held ++ fed) =
    taken-left asking old.inbox.taken new.inbox.taken held fed left new.left end took.counted took.most
    (subst (λ (l : Option (List ℕ)). Consumes l new.left fed) is took.consumed) told prints.1 (subst (λ (l : Option (List ℕ)). TakesAll end l fed) is took.all) took.full in
    let there : taken asking (old.inbox.taken + length bytes) (held ++ bytes) ≡ taken_on asking new.inbox.taken 0 (held ++ fed) =
    taken-answered asking _ _ answered ∙ same in
    (subst (Appends old.written new.written) (prints.0 ∙ ap (λ (t : Taken). lines asking.mark t.payloads) (sym there)) took.wrote, prints.1 ∙ ap (λ (t : Taken). t.end) (sym there))

spot-world : {W : Type 0} (world : Option W) (link : Option Link) (at : Spot W) → spot world link ≡ Some at → world ≡ Some at.world
spot-world None None at is = absurd (let no : ⊥ = cc is in no)
spot-world None (Some link) at is = absurd (let no : ⊥ = cc is in no)
spot-world (Some world) None at is = absurd (let no : ⊥ = cc is in no)
spot-world (Some world) (Some link) at is = let same : record { world = world; link = link } ≡ at = cc is in ap (λ (s : Spot _). Some s.world) same

spot-left : {W : Type 0} (world : Option W) (link : Option Link) (at : Spot W) → spot world link ≡ Some at → left_of link ≡ Some at.link.left
spot-left None None at is = absurd (let no : ⊥ = cc is in no)
spot-left None (Some link) at is = absurd (let no : ⊥ = cc is in no)
spot-left (Some world) None at is = absurd (let no : ⊥ = cc is in no)
spot-left (Some world) (Some link) at is = let same : record { world = world; link = link } ≡ at = cc is in ap (λ (s : Spot _). Some s.link.left) same

pub ExchangedIn-took : {W : Type 0} (says : W → List ℕ → List ℕ → Said W) (asking : Asked) (text : List ℕ) (link : ℕ) (log : Option (List Deed)) (written : Option (List ℕ))
    (inbox : Unread) (new : Stand) (at : Option (Spot W)) (world world' : Option W) (leads : Option Link) (end : AskEnd) → asking.oneway ≡ false
    → spot world leads ≡ option_map (sends says text) at → world' ≡ world → Took asking link (stand log (left_of leads) written inbox) new end → IsTold end
    → ExchangedIn says asking text inbox at world' written new.written end
ExchangedIn-took says asking text link log written inbox new None world world' leads end answered is same took told = tt
ExchangedIn-took says asking text link log written inbox new (Some at) world world' leads end answered is same took told = (
  same ∙ spot-world world leads (sends says text at) is,
  Took-left asking link (stand log (left_of leads) written inbox) new end (sends says text at).link.left answered took (spot-left world leads (sends says text at) is) told,
)

-- ---- the whole call

pub Exchanged-took : (asking : Asked) (text : List ℕ) (link : ℕ) (old new : Stand) (log' : Option (List Deed)) (left' : Option (List ℕ)) (end : AskEnd) → asking.oneway ≡ false
    → SendsPieces link text old.log log' [] → Took asking link (stand log' left' old.written old.inbox) new end → Exchanged asking text link old new end
Exchanged-took asking text link old new log' left' end answered sent took =
    let there = sym (taken-answered asking new.inbox.taken (old.inbox.held ++ concat took.fed) answered) in
    record {
      sent = sent.sent;
      unsent = [];
      fed = took.fed;
      printed = took.printed;
      text_is = sent.whole;
      log = Gains-trans old.log log' new.log (sends_on link sent.sent) (takes_on link took.fed ++ found_end link end) sent.log took.log;
      silent = λ oneway. absurd (let no : ⊥ = cc (answered, oneway) in no);
      needed = took.needed;
      counted = took.counted;
      wrote = took.wrote;
      comes = inl (record {
        whole = refl;
        prints = subst (Prints asking.mark end took.printed) there took.prints;
        behind = λ last. took.behind last ∙ ap (λ (t : Taken). flat_map ended t.payloads ++ new.inbox.held) there;
      });
    }

pub Exchanged-oneway : (asking : Asked) (text : List ℕ) (link : ℕ) (old : Stand) (log' : Option (List Deed)) (left' : Option (List ℕ)) → asking.oneway ≡ true
    → SendsPieces link text old.log log' [] → Exchanged asking text link old (stand log' left' old.written old.inbox) (ask.Done 0)
Exchanged-oneway asking text link old log' left' oneway sent =
    let there = sym (taken-oneway asking old.inbox.taken (old.inbox.held ++ []) oneway) in
    record {
      sent = sent.sent;
      unsent = [];
      fed = [];
      printed = [];
      text_is = sent.whole;
      log = subst (Gains old.log log') (sym (append-nil (sends_on link sent.sent))) sent.log;
      silent = λ is. refl;
      needed = none-needed asking old.inbox;
      counted = omega arith;
      wrote = Appends-nil old.written;
      comes = inl (record {
        whole = refl;
        prints = (ap (λ (t : Taken). lines asking.mark t.payloads) there, ap (λ (t : Taken). t.end) there);
        behind = λ last. append-nil old.inbox.held ∙ ap (λ (t : Taken). flat_map ended t.payloads ++ old.inbox.held) there;
      });
    }

broken-found : (link : ℕ) (fault : DialFault) → found_end link (link_end fault) ≡ []
broken-found link dial_fault.Failed = refl
broken-found link dial_fault.Memory = refl

is-broken : (fault : DialFault) → IsBroken (link_end fault)
is-broken dial_fault.Failed = tt
is-broken dial_fault.Memory = tt

pub Exchanged-broken : (asking : Asked) (text : List ℕ) (link : ℕ) (old : Stand) (log' : Option (List Deed)) (left' : Option (List ℕ)) (fault : DialFault) (end : AskEnd)
    → end ≡ link_end fault → SendsAll link text old.log log' (Err fault) → Exchanged asking text link old (stand log' left' old.written old.inbox) end
Exchanged-broken asking text link old log' left' fault end is sent =
    subst (Exchanged asking text link old (stand log' left' old.written old.inbox)) (sym is) (record {
      sent = sent.2.sent;
      unsent = sent.0;
      fed = [];
      printed = [];
      text_is = sent.2.whole;
      log = subst (Gains old.log log') (sym (ap (λ (d : List Deed). sends_on link sent.2.sent ++ d) (broken-found link fault) ∙ append-nil (sends_on link sent.2.sent))) sent.2.log;
      silent = λ is. refl;
      needed = none-needed asking old.inbox;
      counted = omega arith;
      wrote = Appends-nil old.written;
      comes = inr (record { part = sent.1; none_taken = refl; none_passed = refl; why = is-broken fault });
    })
