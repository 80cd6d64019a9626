-- Replies are taken, take by take.
use Rattle.std.proofs.Common.{◌≡◌, ◌+◌, ◌<◌, ◌≤◌, ℕ, Bool, true, false, cond, List, [], ◌∷◌, ◌++◌, length, Option, None, Some, IfSome, refl, sym, ◌∙◌, ap, subst, append_assoc, arith, length-append, eq-eqb}
use Rattle.std.proofs.KnownBytes.{Appends-trans, Appends-nil, Consumes-trans, Consumes-nil}
use Rattle.std.proofs.lemmas.Bool.{ne_eqb}
use Rattle.std.proofs.lemmas.Grind.{flat_map-append}
use Rattle.std.proofs.lemmas.List.{append-nil, map-append}
use Rattle.std.proofs.lemmas.List.Folds.{concat-append}
use Rattle.std.specs.Io.KnownBytes.{Appends, Consumes, IsAtEnd}
use Rattle.std.specs.List.{flat_map, concat}
use Rattle.message_frame.specs.Pieces.{ended}
use Rattle.link_reach.specs.declared.deeds.Deed.{Deed}
use Rattle.link_reach.specs.declared.deeds.Deed.TheVariants as deed
use Rattle.link_reach.specs.Deeds.{Gains}
use Rattle.link_exchange.specs.Asked.{Asked}
use Rattle.link_exchange.specs.declared.ends.AskEnd.{AskEnd}
use Rattle.link_exchange.specs.declared.ends.AskEnd.TheVariants as ask
use Rattle.link_exchange.specs.Limits.{most_of_link}
use Rattle.link_exchange.specs.Gathering.{IsLast, IsSettled}
use Rattle.link_exchange.specs.Passing.{AwaitsMore, IsOwn, LinkFaults, PassEnds, PassesOn, Prints, TakesMore, TakesNoMore, WriteFaults}
use Rattle.link_exchange.specs.Exchanges.{AreNeeded, Taking, Took, TakesAll, IsFull, found_end, takes_on}
use Rattle.link_exchange.specs.Stands.{Unread, Stand, stand}
use Rattle.link_exchange.specs.Taken.{Taken, takes, at_end, taken_on, marked, lines}
use Rattle.link_exchange.proofs.TakenLemmas.{taken_on-settled}
use Rattle.link_exchange.proofs.GatherLemmas.{takes-takes}
use Rattle.link_exchange.proofs.SendLemmas.{Gains-none, Gains-trans}

-- ---- each piece is needed

snoc-some : (pieces : List (List ℕ)) (last : List ℕ) → [] ≡ pieces ++ last ∷ [] → ⊥
snoc-some [] last is = cc is
snoc-some (piece ∷ pieces) last is = cc is

snoc-front : (one two : List (List ℕ)) (x y : List ℕ) → one ++ x ∷ [] ≡ two ++ y ∷ [] → one ≡ two
snoc-front [] [] x y is = refl
snoc-front [] (b ∷ two) x y is = absurd (snoc-some two y (let rest : [] ≡ two ++ y ∷ [] = cc is in rest))
snoc-front (a ∷ one) [] x y is = absurd (snoc-some one x (let rest : [] ≡ one ++ x ∷ [] = cc is in rest))
snoc-front (a ∷ one) (b ∷ two) x y is =
    let first : a ≡ b = cc is in
    let rest : one ++ x ∷ [] ≡ two ++ y ∷ [] = cc is in
    let later : one ≡ two = snoc-front one two x y rest in
    cc (first, later)

pub none-needed : (asking : Asked) (inbox : Unread) → AreNeeded asking inbox []
none-needed asking inbox earlier last is = absurd (snoc-some earlier last is)

needed-more : (asking : Asked) (inbox : Unread) (fed : List (List ℕ)) (piece : List ℕ)
    → AwaitsMore (taken_on asking (inbox.taken + length (concat fed)) 0 (inbox.held ++ concat fed)).end → AreNeeded asking inbox (fed ++ piece ∷ [])
needed-more asking inbox fed piece awaits earlier last is =
    subst (λ (e : List (List ℕ)). AwaitsMore (taken_on asking (inbox.taken + length (concat e)) 0 (inbox.held ++ concat e)).end)
    (snoc-front fed earlier piece last is) awaits

at_end-awaits : (full : Bool) (index : ℕ) → AwaitsMore (cond full ask.Long (ask.Ended index))
at_end-awaits true index = tt
at_end-awaits false index = tt

-- ---- so far

pub Taking-none : (asking : Asked) (link : ℕ) (now : Stand) → length now.inbox.held ≤ now.inbox.taken → now.inbox.taken ≤ most_of_link → Taking asking link 0 now now
Taking-none asking link now counted most = record {
  fed = [];
  payloads = [];
  log = Gains-none now.log;
  consumed = Consumes-nil now.left;
  needed = none-needed asking now.inbox;
  counted = omega arith;
  most = most;
  below = omega arith;
  wrote = Appends-nil now.written;
  whole = append-nil now.inbox.held;
  on = λ total bytes. ap (λ (l : List ℕ). taken_on asking total 0 (l ++ bytes)) (append-nil now.inbox.held);
}

whole-more : (one two : List (List ℕ)) (all held held' : List ℕ) → all ≡ flat_map ended one ++ held → held ≡ flat_map ended two ++ held' → all ≡ flat_map ended (one ++ two) ++ held'
whole-more one two all held held' first second =
    first ∙ ap (λ (l : List ℕ). flat_map ended one ++ l) second ∙ sym (append_assoc (flat_map ended one) (flat_map ended two) held')
    ∙ ap (λ (l : List ℕ). l ++ held') (sym (flat_map-append ended one two))

lines-more : (mark : ℕ) (one two : List (List ℕ)) → lines mark one ++ lines mark two ≡ lines mark (one ++ two)
lines-more mark one two = sym (flat_map-append (marked mark) one two)

pub Taking-passed : (asking : Asked) (link index index' : ℕ) (old mid : Stand) (written' : Option (List ℕ)) (inbox' : Unread) → Taking asking link index old mid
    → PassesOn asking index index' mid.inbox inbox' mid.written written' → Taking asking link index' old (stand mid.log mid.left written' inbox')
Taking-passed asking link index index' old mid written' inbox' taking passes = record {
  fed = taking.fed;
  payloads = taking.payloads ++ passes.payloads;
  log = taking.log;
  consumed = taking.consumed;
  needed = taking.needed;
  counted = passes.same ∙ taking.counted;
  most = omega (arith, passes.same, taking.most);
  below = omega (arith, passes.same, taking.below, passes.counted);
  wrote = subst (Appends old.written written') (lines-more asking.mark taking.payloads passes.payloads)
      (Appends-trans old.written mid.written written' (lines asking.mark taking.payloads) (lines asking.mark passes.payloads) taking.wrote passes.wrote);
  whole = whole-more taking.payloads passes.payloads _ _ _ taking.whole passes.whole;
  on = λ total bytes. taking.on total bytes ∙ ap (takes taking.payloads) (passes.on total bytes) ∙ takes-takes taking.payloads passes.payloads _;
}

concat-more : (pieces : List (List ℕ)) (piece : List ℕ) → concat (pieces ++ piece ∷ []) ≡ concat pieces ++ piece
concat-more pieces piece = concat-append pieces (piece ∷ []) ∙ ap (λ (l : List ℕ). concat pieces ++ l) (append-nil piece)

-- what is taken of all that was taken so far
taking-now : (asking : Asked) (link index : ℕ) (old mid : Stand) (total : ℕ) → (taking : Taking asking link index old mid)
    → taken_on asking total 0 (old.inbox.held ++ concat taking.fed) ≡ takes taking.payloads (taken_on asking total index (mid.inbox.held ++ []))
taking-now asking link index old mid total taking =
    ap (taken_on asking total 0) (sym (append-nil (old.inbox.held ++ concat taking.fed))) ∙ taking.on total []

-- ---- ended by a message

prints-after : (mark : ℕ) (end : AskEnd) (payloads : List (List ℕ)) (printed : List ℕ) (there later : Taken) → there ≡ takes payloads later → Prints mark end printed later
    → Prints mark end (lines mark payloads ++ printed) there
prints-after mark (ask.Done n) payloads printed there later is prints = (ap (λ (l : List ℕ). lines mark payloads ++ l) prints.0 ∙ lines-more mark payloads later.payloads ∙ ap (λ (t : Taken). lines mark t.payloads) (sym is), prints.1 ∙ ap (λ (t : Taken). t.end) (sym is))
prints-after mark (ask.ErrorReply name) payloads printed there later is prints = (ap (λ (l : List ℕ). lines mark payloads ++ l) prints.0 ∙ lines-more mark payloads later.payloads ∙ ap (λ (t : Taken). lines mark t.payloads) (sym is), prints.1 ∙ ap (λ (t : Taken). t.end) (sym is))
prints-after mark (ask.NotReply i fault) payloads printed there later is prints = (ap (λ (l : List ℕ). lines mark payloads ++ l) prints.0 ∙ lines-more mark payloads later.payloads ∙ ap (λ (t : Taken). lines mark t.payloads) (sym is), prints.1 ∙ ap (λ (t : Taken). t.end) (sym is))
prints-after mark (ask.Continues i) payloads printed there later is prints = (ap (λ (l : List ℕ). lines mark payloads ++ l) prints.0 ∙ lines-more mark payloads later.payloads ∙ ap (λ (t : Taken). lines mark t.payloads) (sym is), prints.1 ∙ ap (λ (t : Taken). t.end) (sym is))
prints-after mark (ask.Ended i) payloads printed there later is prints = (ap (λ (l : List ℕ). lines mark payloads ++ l) prints.0 ∙ lines-more mark payloads later.payloads ∙ ap (λ (t : Taken). lines mark t.payloads) (sym is), prints.1 ∙ ap (λ (t : Taken). t.end) (sym is))
prints-after mark (ask.TooLong i) payloads printed there later is prints = (ap (λ (l : List ℕ). lines mark payloads ++ l) prints.0 ∙ lines-more mark payloads later.payloads ∙ ap (λ (t : Taken). lines mark t.payloads) (sym is), prints.1 ∙ ap (λ (t : Taken). t.end) (sym is))
prints-after mark (ask.IllTyped i name) payloads printed there later is prints = (ap (λ (l : List ℕ). lines mark payloads ++ l) prints.0 ∙ lines-more mark payloads later.payloads ∙ ap (λ (t : Taken). lines mark t.payloads) (sym is), prints.1 ∙ ap (λ (t : Taken). t.end) (sym is))
prints-after mark ask.Long payloads printed there later is prints = (ap (λ (l : List ℕ). lines mark payloads ++ l) prints.0 ∙ lines-more mark payloads later.payloads ∙ ap (λ (t : Taken). lines mark t.payloads) (sym is), prints.1 ∙ ap (λ (t : Taken). t.end) (sym is))
prints-after mark ask.LinkFault payloads printed there later is prints = (ap (λ (l : List ℕ). lines mark payloads ++ l) prints.0 ∙ lines-more mark payloads later.payloads ∙ ap (λ (t : Taken). lines mark t.payloads) (sym is), subst AwaitsMore (ap (λ (t : Taken). t.end) (sym is)) prints.1)
prints-after mark ask.WriteFault payloads printed there later is prints = (prints.0, ap (λ (t : Taken). lines mark t.payloads) is ∙ sym (lines-more mark payloads later.payloads) ∙ ap (λ (l : List ℕ). lines mark payloads ++ l) prints.1 ∙ sym (append_assoc (lines mark payloads) printed prints.0))
prints-after mark ask.Memory payloads printed there later is prints = (prints.0, ap (λ (t : Taken). lines mark t.payloads) is ∙ sym (lines-more mark payloads later.payloads) ∙ ap (λ (l : List ℕ). lines mark payloads ++ l) prints.1 ∙ sym (append_assoc (lines mark payloads) printed prints.0))

own-found : (link : ℕ) (end : AskEnd) → IsOwn end → found_end link end ≡ []
own-found link (ask.Done n) own = refl
own-found link (ask.ErrorReply name) own = refl
own-found link (ask.NotReply i fault) own = refl
own-found link (ask.Continues i) own = refl
own-found link (ask.Ended i) own = absurd own
own-found link (ask.TooLong i) own = refl
own-found link (ask.IllTyped i name) own = refl
own-found link ask.Long own = absurd own
own-found link ask.LinkFault own = absurd own
own-found link ask.WriteFault own = refl
own-found link ask.Memory own = refl

own-all : (end : AskEnd) (left : Option (List ℕ)) (fed : List ℕ) → IsOwn end → TakesAll end left fed
own-all (ask.Done n) left fed own = tt
own-all (ask.ErrorReply name) left fed own = tt
own-all (ask.NotReply i fault) left fed own = tt
own-all (ask.Continues i) left fed own = tt
own-all (ask.Ended i) left fed own = absurd own
own-all (ask.TooLong i) left fed own = tt
own-all (ask.IllTyped i name) left fed own = tt
own-all ask.Long left fed own = absurd own
own-all ask.LinkFault left fed own = absurd own
own-all ask.WriteFault left fed own = tt
own-all ask.Memory left fed own = tt

own-full : (end : AskEnd) (total : ℕ) → IsOwn end → IsFull end total
own-full (ask.Done n) total own = tt
own-full (ask.ErrorReply name) total own = tt
own-full (ask.NotReply i fault) total own = tt
own-full (ask.Continues i) total own = tt
own-full (ask.Ended i) total own = absurd own
own-full (ask.TooLong i) total own = tt
own-full (ask.IllTyped i name) total own = tt
own-full ask.Long total own = absurd own
own-full ask.LinkFault total own = absurd own
own-full ask.WriteFault total own = tt
own-full ask.Memory total own = tt

pub own-faults : (end : AskEnd) (faults faults' : ℕ) → IsOwn end → faults' ≡ faults → LinkFaults end faults faults'
own-faults (ask.Done n) faults faults' own same = same
own-faults (ask.ErrorReply name) faults faults' own same = same
own-faults (ask.NotReply i fault) faults faults' own same = same
own-faults (ask.Continues i) faults faults' own same = same
own-faults (ask.Ended i) faults faults' own same = absurd own
own-faults (ask.TooLong i) faults faults' own same = same
own-faults (ask.IllTyped i name) faults faults' own same = same
own-faults ask.Long faults faults' own same = absurd own
own-faults ask.LinkFault faults faults' own same = absurd own
own-faults ask.WriteFault faults faults' own same = same
own-faults ask.Memory faults faults' own same = same

pub Taking-ended : (asking : Asked) (link index : ℕ) (old mid : Stand) (written' : Option (List ℕ)) (inbox' : Unread) (end : AskEnd) → Taking asking link index old mid
    → PassEnds asking index mid.inbox inbox' mid.written written' end → Took asking link old (stand mid.log mid.left written' inbox') end
Taking-ended asking link index old mid written' inbox' end taking ends =
    let now = taking-now asking link index old mid inbox'.taken taking in
    record {
      fed = taking.fed;
      printed = lines asking.mark taking.payloads ++ ends.printed;
      log = subst (Gains old.log mid.log) (sym (ap (λ (d : List Deed). takes_on link taking.fed ++ d) (own-found link end ends.own) ∙ append-nil (takes_on link taking.fed))) taking.log;
      consumed = taking.consumed;
      needed = taking.needed;
      counted = ends.same ∙ taking.counted;
      most = omega (arith, ends.same, taking.most);
      wrote = Appends-trans old.written mid.written written' (lines asking.mark taking.payloads) ends.printed taking.wrote ends.wrote;
      prints = prints-after asking.mark end taking.payloads ends.printed _ _ now (ends.prints inbox'.taken []);
      behind = λ last. whole-more taking.payloads (taken_on asking inbox'.taken index (mid.inbox.held ++ [])).payloads _ _ _ taking.whole (ends.behind last inbox'.taken [])
          ∙ ap (λ (t : Taken). flat_map ended t.payloads ++ inbox'.held) (sym now);
      all = own-all end old.left (concat taking.fed) ends.own;
      full = own-full end inbox'.taken ends.own;
    }

-- ---- ended by the link

-- no message so far ended the call
waits : (asking : Asked) (link index : ℕ) (old mid : Stand) (total : ℕ) → (taking : Taking asking link index old mid) → IsSettled mid.inbox.held
    → taken_on asking total 0 (old.inbox.held ++ concat taking.fed) ≡ record { payloads = taking.payloads; end = at_end total index }
waits asking link index old mid total taking settled =
    taking-now asking link index old mid total taking
    ∙ ap (λ (l : List ℕ). takes taking.payloads (taken_on asking total index l)) (append-nil mid.inbox.held)
    ∙ ap (takes taking.payloads) (taken_on-settled asking total index mid.inbox.held settled)
    ∙ ap (λ (ps : List (List ℕ)). record { payloads = ps; end = at_end total index }) (append-nil taking.payloads)

pub Taking-took : (asking : Asked) (link index : ℕ) (old mid : Stand) (log' : Option (List Deed)) (left' : Option (List ℕ)) (inbox' : Unread) → Taking asking link index old mid → IsSettled mid.inbox.held
    → TakesMore link (stand mid.log mid.left None mid.inbox) (stand log' left' None inbox') → Taking asking link index old (stand log' left' mid.written inbox')
Taking-took asking link index old mid log' left' inbox' taking settled took =
    let total : ℕ = old.inbox.taken + length (concat taking.fed) in
    let awaits : AwaitsMore (taken_on asking total 0 (old.inbox.held ++ concat taking.fed)).end =
    subst (λ (t : Taken). AwaitsMore t.end) (sym (waits asking link index old mid total taking settled)) (at_end-awaits _ index) in
    let fed : List (List ℕ) = taking.fed ++ took.piece ∷ [] in
    let joined : concat fed ≡ concat taking.fed ++ took.piece = concat-more taking.fed took.piece in
    let more : inbox'.taken ≡ mid.inbox.taken + length took.piece = ap (λ (u : Unread). u.taken) took.inbox in
    let held : inbox'.held ≡ mid.inbox.held ++ took.piece = ap (λ (u : Unread). u.held) took.inbox in
    let long = length-append (concat taking.fed) took.piece in
    let longer = length-append mid.inbox.held took.piece in
    record {
      fed = fed;
      payloads = taking.payloads;
      log = subst (Gains old.log log') (sym (map-append (λ (p : List ℕ). deed.Took link p) taking.fed (took.piece ∷ [])))
          (Gains-trans old.log mid.log log' (takes_on link taking.fed) (deed.Took link took.piece ∷ []) taking.log took.log);
      consumed = subst (Consumes old.left left') (sym joined) (Consumes-trans old.left mid.left left' (concat taking.fed) took.piece taking.consumed took.consumed);
      needed = needed-more asking old.inbox taking.fed took.piece awaits;
      counted = more ∙ ap (λ (n : ℕ). n + length took.piece) taking.counted ∙ omega (arith, long, ap length joined);
      most = took.most;
      below = omega (arith, more, ap length held, longer, taking.below);
      wrote = taking.wrote;
      whole = ap (λ (l : List ℕ). old.inbox.held ++ l) joined ∙ sym (append_assoc old.inbox.held (concat taking.fed) took.piece)
          ∙ ap (λ (l : List ℕ). l ++ took.piece) taking.whole ∙ append_assoc (flat_map ended taking.payloads) mid.inbox.held took.piece
          ∙ ap (λ (l : List ℕ). flat_map ended taking.payloads ++ l) (sym held);
      on = λ total bytes. ap (taken_on asking total 0) (ap (λ (l : List ℕ). (old.inbox.held ++ l) ++ bytes) joined
          ∙ ap (λ (l : List ℕ). l ++ bytes) (sym (append_assoc old.inbox.held (concat taking.fed) took.piece))
          ∙ append_assoc (old.inbox.held ++ concat taking.fed) took.piece bytes)
          ∙ taking.on total (took.piece ++ bytes)
          ∙ ap (λ (l : List ℕ). takes taking.payloads (taken_on asking total index l)) (sym (append_assoc mid.inbox.held took.piece bytes)
          ∙ ap (λ (l : List ℕ). l ++ bytes) (sym held));
    }

at_end-open : (total index : ℕ) → total < most_of_link → at_end total index ≡ ask.Ended index
at_end-open total index h = ap (λ (b : Bool). cond b ask.Long (ask.Ended index)) (ne_eqb total most_of_link (λ e. omega (arith, e, h)))

at_end-full : (total index : ℕ) → total ≡ most_of_link → at_end total index ≡ ask.Long
at_end-full total index h = ap (λ (b : Bool). cond b ask.Long (ask.Ended index)) (eq-eqb total most_of_link h)

-- the parts of which each end by the link is made
stops : (asking : Asked) (link index : ℕ) (old mid : Stand) (log' : Option (List Deed)) (left' : Option (List ℕ)) (inbox' : Unread) (end : AskEnd) (gained : List Deed)
    → (taking : Taking asking link index old mid) → Gains mid.log log' gained → found_end link end ≡ gained → Consumes mid.left left' [] → inbox' ≡ mid.inbox
    → Prints asking.mark end (lines asking.mark taking.payloads) (taken_on asking inbox'.taken 0 (old.inbox.held ++ concat taking.fed))
    → (IsLast end → ⊥) → TakesAll end old.left (concat taking.fed) → IsFull end inbox'.taken → Took asking link old (stand log' left' mid.written inbox') end
stops asking link index old mid log' left' inbox' end gained taking gains found none same prints open_ all full =
    let kept : inbox'.taken ≡ mid.inbox.taken = ap (λ (u : Unread). u.taken) same in
    record {
      fed = taking.fed;
      printed = lines asking.mark taking.payloads;
      log = subst (λ (d : List Deed). Gains old.log log' (takes_on link taking.fed ++ d)) (sym found) (Gains-trans old.log mid.log log' (takes_on link taking.fed) gained taking.log gains);
      consumed = subst (Consumes old.left left') (append-nil (concat taking.fed)) (Consumes-trans old.left mid.left left' (concat taking.fed) [] taking.consumed none);
      needed = taking.needed;
      counted = kept ∙ taking.counted;
      most = omega (arith, kept, taking.most);
      wrote = taking.wrote;
      prints = prints;
      behind = λ last. absurd (open_ last);
      all = all;
      full = full;
    }

left-same : (left left' : Option (List ℕ)) → left' ≡ left → Consumes left left' []
left-same left left' same = subst (λ (l : Option (List ℕ)). Consumes left l []) (sym same) (Consumes-nil left)

all-left : (left mid : Option (List ℕ)) (fed : List ℕ) → Consumes left mid fed → IsAtEnd mid → IfSome left (λ bytes. fed ≡ bytes)
all-left None mid fed took ends = tt
all-left (Some bytes) None fed took ends = absurd took
all-left (Some bytes) (Some rest) fed took ends = sym (took ∙ ap (λ (l : List ℕ). fed ++ l) ends ∙ append-nil fed)

end-is : (payloads : List (List ℕ)) (there : Taken) (end other : AskEnd) → there ≡ record { payloads = payloads; end = end } → end ≡ other → other ≡ there.end
end-is payloads there end other is same = sym (ap (λ (t : Taken). t.end) is ∙ same)

lines-is : (mark : ℕ) (payloads : List (List ℕ)) (there : Taken) (end : AskEnd) → there ≡ record { payloads = payloads; end = end } → lines mark payloads ≡ lines mark there.payloads
lines-is mark payloads there end is = ap (λ (t : Taken). lines mark t.payloads) (sym is)

pub Taking-stopped : (asking : Asked) (link index : ℕ) (old mid : Stand) (log' : Option (List Deed)) (left' : Option (List ℕ)) (inbox' : Unread) (end : AskEnd)
    → Taking asking link index old mid → IsSettled mid.inbox.held → TakesNoMore link index (stand mid.log mid.left None mid.inbox) (stand log' left' None inbox') end
    → Took asking link old (stand log' left' mid.written inbox') end
Taking-stopped asking link index old mid log' left' inbox' (ask.Ended at) taking settled none =
    let there = waits asking link index old mid inbox'.taken taking settled in
    let below : inbox'.taken < most_of_link = omega (arith, none.1, ap (λ (u : Unread). u.taken) none.4.inbox) in
    stops asking link index old mid log' left' inbox' (ask.Ended at) _ taking none.4.log refl none.3 none.4.inbox
    (lines-is asking.mark taking.payloads _ _ there, end-is taking.payloads _ _ _ there (at_end-open inbox'.taken index below ∙ ap ask.Ended (sym none.0)))
    (λ last. last) (all-left old.left mid.left (concat taking.fed) taking.consumed none.2) tt
Taking-stopped asking link index old mid log' left' inbox' ask.Long taking settled none =
    let there = waits asking link index old mid inbox'.taken taking settled in
    let full : inbox'.taken ≡ most_of_link = ap (λ (u : Unread). u.taken) none.2.inbox ∙ none.0 in
    stops asking link index old mid log' left' inbox' ask.Long _ taking none.2.log refl (left-same mid.left left' none.1) none.2.inbox
    (lines-is asking.mark taking.payloads _ _ there, end-is taking.payloads _ _ _ there (at_end-full inbox'.taken index full)) (λ last. last) tt full
Taking-stopped asking link index old mid log' left' inbox' ask.LinkFault taking settled none =
    let there = waits asking link index old mid inbox'.taken taking settled in
    let below : inbox'.taken < most_of_link = omega (arith, none.0, ap (λ (u : Unread). u.taken) none.2.inbox) in
    stops asking link index old mid log' left' inbox' ask.LinkFault _ taking none.2.log refl (left-same mid.left left' none.1) none.2.inbox (
      lines-is asking.mark taking.payloads _ _ there,
      subst AwaitsMore (end-is taking.payloads _ _ _ there (at_end-open inbox'.taken index below)) tt,
    ) (λ last. last) tt tt
Taking-stopped asking link index old mid log' left' inbox' ask.Memory taking settled none =
    let there = waits asking link index old mid inbox'.taken taking settled in
    stops asking link index old mid log' left' inbox' ask.Memory _ taking none.1.log refl (left-same mid.left left' none.0) none.1.inbox
    ([], ap (λ (t : Taken). lines asking.mark t.payloads) there ∙ sym (append-nil (lines asking.mark taking.payloads))) (λ last. last) tt tt
Taking-stopped asking link index old mid log' left' inbox' (ask.Done n) taking settled none = absurd none
Taking-stopped asking link index old mid log' left' inbox' (ask.ErrorReply name) taking settled none = absurd none
Taking-stopped asking link index old mid log' left' inbox' (ask.NotReply i fault) taking settled none = absurd none
Taking-stopped asking link index old mid log' left' inbox' (ask.Continues i) taking settled none = absurd none
Taking-stopped asking link index old mid log' left' inbox' (ask.TooLong i) taking settled none = absurd none
Taking-stopped asking link index old mid log' left' inbox' (ask.IllTyped i name) taking settled none = absurd none
Taking-stopped asking link index old mid log' left' inbox' ask.WriteFault taking settled none = absurd none

pub stopped-writes : (link index : ℕ) (old new : Stand) (end : AskEnd) → TakesNoMore link index old new end → (faults faults' : ℕ) → faults' ≡ faults → WriteFaults end faults faults'
stopped-writes link index old new (ask.Done n) none faults faults' same = absurd none
stopped-writes link index old new (ask.ErrorReply name) none faults faults' same = absurd none
stopped-writes link index old new (ask.NotReply i fault) none faults faults' same = absurd none
stopped-writes link index old new (ask.Continues i) none faults faults' same = absurd none
stopped-writes link index old new (ask.Ended i) none faults faults' same = same
stopped-writes link index old new (ask.TooLong i) none faults faults' same = absurd none
stopped-writes link index old new (ask.IllTyped i name) none faults faults' same = absurd none
stopped-writes link index old new ask.Long none faults faults' same = same
stopped-writes link index old new ask.LinkFault none faults faults' same = same
stopped-writes link index old new ask.WriteFault none faults faults' same = absurd none
stopped-writes link index old new ask.Memory none faults faults' same = same
