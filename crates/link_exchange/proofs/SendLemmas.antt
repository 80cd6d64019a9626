-- A text is sent piece by piece.
use Rattle.std.proofs.Common.{◌≡◌, ◌+◌, ◌-◌, ◌<◌, ◌≤◌, ℕ, List, [], ◌∷◌, ◌++◌, length, take, drop, Option, None, Some, Err, refl, sym, ◌∙◌, ap, subst, append_assoc, arith, length-drop}
use Rattle.std.proofs.Math.Seq.{take-add}
use Rattle.std.proofs.lemmas.List.{append-nil, map-append, take_rest, take-append-drop, take_all}
use Rattle.std.proofs.lemmas.List.Folds.{concat-append}
use Rattle.std.specs.List.{concat}
use Rattle.std.specs.Prelude.{option_map, ◌==◌, if◌then◌else◌}
use Rattle.link_reach.specs.declared.deeds.Deed.{Deed}
use Rattle.link_reach.specs.declared.deeds.Deed.TheVariants as deed
use Rattle.link_reach.specs.declared.deeds.DialFault.{DialFault}
use Rattle.link_reach.specs.Deeds.{Gains}
use Rattle.link_reach.specs.Worlds.{Said, Spot, sends, hears, holds}
use Rattle.link_exchange.specs.Passing.{SendsPieces, SendsAll}

pub Gains-none : (a : Option (List Deed)) → Gains a a []
Gains-none None = refl
Gains-none (Some log) = ap Some (sym (append-nil log))

pub Gains-trans : (a b c : Option (List Deed)) (one two : List Deed) → Gains a b one → Gains b c two → Gains a c (one ++ two)
Gains-trans None b c one two first second = second ∙ ap (option_map (λ (log : List Deed). log ++ two)) first
Gains-trans (Some log) b c one two first second =
    second ∙ ap (option_map (λ (log : List Deed). log ++ two)) first ∙ ap Some (append_assoc log one two)

pub Gains-nothing : (a b c : Option (List Deed)) (one : List Deed) → Gains a b one → Gains b c [] → Gains a c one
Gains-nothing a b c one first second = subst (Gains a c) (append-nil one) (Gains-trans a b c one [] first second)

pub SendsPieces-none : (link : ℕ) (log : Option (List Deed)) → SendsPieces link [] log log []
SendsPieces-none link log = record { sent = []; whole = refl; log = Gains-none log }

concat-more : (pieces : List (List ℕ)) (piece : List ℕ) → concat (pieces ++ piece ∷ []) ≡ concat pieces ++ piece
concat-more pieces piece = concat-append pieces (piece ∷ []) ∙ ap (λ (l : List ℕ). concat pieces ++ l) (append-nil piece)

pub SendsPieces-more : (link done count : ℕ) (text : List ℕ) (a b c : Option (List Deed)) → SendsPieces link (take done text) a b []
    → Gains b c (deed.Sent link (take count (take (length text - done) (drop done text))) ∷ []) → SendsPieces link (take (done + count) text) a c []
SendsPieces-more link done count text a b c first gains =
    let piece : List ℕ = take count (drop done text) in
    let second : Gains b c (deed.Sent link piece ∷ []) = subst (λ (l : List ℕ). Gains b c (deed.Sent link (take count l) ∷ [])) (take_rest text done) gains in
    record {
      sent = first.sent ++ piece ∷ [];
      whole = take-add done count text ∙ ap (λ (l : List ℕ). l ++ piece) (first.whole ∙ append-nil (concat first.sent))
          ∙ sym (concat-more first.sent piece) ∙ sym (append-nil (concat (first.sent ++ piece ∷ [])));
      log = subst (Gains a c) (sym (map-append (λ (p : List ℕ). deed.Sent link p) first.sent (piece ∷ []))) (Gains-trans a b c _ _ first.log second);
    }

pub SendsAll-broken : (link done : ℕ) (text : List ℕ) (a b c : Option (List Deed)) (fault : DialFault) → done < length text → SendsPieces link (take done text) a b []
    → Gains b c [] → SendsAll link text a c (Err fault)
SendsAll-broken link done text a b c fault part first gains = (
  drop done text,
  omega (arith, length-drop done text),
  record {
    sent = first.sent;
    whole = sym (take-append-drop done text) ∙ ap (λ (l : List ℕ). l ++ drop done text) (first.whole ∙ append-nil (concat first.sent));
    log = Gains-nothing a b c _ first.log gains;
  },
)

pub SendsPieces-all : (link done : ℕ) (text : List ℕ) (a b : Option (List Deed)) → length text ≤ done → SendsPieces link (take done text) a b [] → SendsPieces link text a b []
SendsPieces-all link done text a b all first = subst (λ (l : List ℕ). SendsPieces link l a b []) (take_all done text all) first

-- ---- the world

sends-append : {W : Type 0} (says : W → List ℕ → List ℕ → Said W) (one two : List ℕ) (at : Spot W) → sends says (one ++ two) at ≡ sends says two (sends says one at)
sends-append says [] two at = refl
sends-append says (b ∷ one) two at = sends-append says one two (if b == 0 then hears says at else holds b at)

pub sent-none : {W : Type 0} (says : W → List ℕ → List ℕ → Said W) (at : Option (Spot W)) → at ≡ option_map (sends says []) at
sent-none says None = refl
sent-none says (Some at) = refl

sent-append : {W : Type 0} (says : W → List ℕ → List ℕ → Said W) (one two : List ℕ) (at : Option (Spot W))
    → option_map (sends says two) (option_map (sends says one) at) ≡ option_map (sends says (one ++ two)) at
sent-append says one two None = refl
sent-append says one two (Some at) = ap Some (sym (sends-append says one two at))

pub sent-more : {W : Type 0} (says : W → List ℕ → List ℕ → Said W) (done count : ℕ) (text : List ℕ) (a b c : Option (Spot W)) → b ≡ option_map (sends says (take done text)) a
    → c ≡ option_map (sends says (take count (take (length text - done) (drop done text)))) b → c ≡ option_map (sends says (take (done + count) text)) a
sent-more says done count text a b c first second =
    second ∙ ap (λ (l : List ℕ). option_map (sends says (take count l)) b) (take_rest text done)
    ∙ ap (option_map (sends says (take count (drop done text)))) first ∙ sent-append says (take done text) (take count (drop done text)) a
    ∙ ap (λ (l : List ℕ). option_map (sends says l) a) (sym (take-add done count text))

pub sent-all : {W : Type 0} (says : W → List ℕ → List ℕ → Said W) (done : ℕ) (text : List ℕ) (a b : Option (Spot W)) → length text ≤ done
    → b ≡ option_map (sends says (take done text)) a → b ≡ option_map (sends says text) a
sent-all says done text a b all first = first ∙ ap (λ (l : List ℕ). option_map (sends says l) a) (take_all done text all)
