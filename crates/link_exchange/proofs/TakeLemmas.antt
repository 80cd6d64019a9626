-- What a take of the link gives.
use Rattle.std.proofs.Common.{◌≡◌, ◌≢◌, ◌↔◌, ℕ, zero, suc, ◌+◌, ◌-◌, ◌≤◌, List, [], ◌∷◌, ◌++◌, length, take, Option, None, Some, IfSome, refl, sym, ◌∙◌, ap, subst, arith}
use Rattle.std.proofs.lemmas.List.{length-take, take_all}
use Rattle.std.specs.Io.KnownBytes.{Consumes, IsAtEnd}
use Rattle.link_reach.specs.declared.deeds.Deed.{Deed}
use Rattle.link_reach.specs.declared.deeds.Deed.TheVariants as deed
use Rattle.link_reach.specs.Deeds.{Gains, taken}
use Rattle.message_frame.specs.Held.{Held}
use Rattle.message_frame.specs.Steps.{Feeds}
use Rattle.link_exchange.specs.Limits.{most_of_reply, most_of_take, most_of_link}
use Rattle.link_exchange.specs.Passing.{TakesMore, TakesNoMore}
use Rattle.link_exchange.specs.Stands.{Unread, stand}
use Rattle.link_exchange.specs.declared.ends.AskEnd.TheVariants as ask

at-end : (left : Option (List ℕ)) (n : ℕ) → n ≡ 0 → IfSome left (λ bytes. (n ≡ 0) ↔ (bytes ≡ [])) → IsAtEnd left
at-end None n is h = tt
at-end (Some bytes) n is h = h.0 is

pub ends-nothing_left : (link index : ℕ) (log log' : Option (List Deed)) (left left' : Option (List ℕ)) (old new : Unread) (buffer : List ℕ) (n : ℕ)
    → n ≡ 0 → old.taken ≤ most_of_link → old.taken ≢ most_of_link → Gains log log' (taken link buffer n ∷ []) → IfSome left (λ bytes. (n ≡ 0) ↔ (bytes ≡ []))
    → Consumes left left' (take n buffer) → new ≡ old → TakesNoMore link index (stand log left None old) (stand log' left' None new) (ask.Ended index)
ends-nothing_left link index log log' left left' old new buffer n is most open_ gains found took same = (
  refl,
  omega arith,
  at-end left n is found,
  subst (λ (m : ℕ). Consumes left left' (take m buffer)) is took,
  record { log = subst (λ (m : ℕ). Gains log log' (taken link buffer m ∷ [])) is gains; inbox = same },
)

taken-some : (link n : ℕ) (buffer : List ℕ) → n ≢ 0 → taken link buffer n ≡ deed.Took link (take n buffer)
taken-some link zero buffer some = absurd (some refl)
taken-some link (suc n) buffer some = refl

-- what is taken is held whole, as there is room
fed-all : (frames frames' : Held) (piece : List ℕ) (n : ℕ) → frames.limit ≡ most_of_reply + most_of_take → length frames.bytes ≤ most_of_reply → length piece ≤ most_of_take
    → Feeds frames piece n frames' → n ≡ length piece
fed-all frames frames' piece n limit short few feeds = feeds.count ∙ omega (arith, limit)

take-take : (n m : ℕ) (xs ys : List ℕ) → n ≤ m → n ≤ length xs → take n (take m (xs ++ ys)) ≡ take n xs
take-take zero m xs ys below within = refl
take-take (suc n) zero xs ys below within = absurd (omega (arith, below))
take-take (suc n) (suc m) [] ys below within = absurd (omega (arith, within))
take-take (suc n) (suc m) (x ∷ xs) ys below within = ap (λ (l : List ℕ). x ∷ l) (take-take n m xs ys (omega (arith, below)) (omega (arith, within)))

pub takes-more : (link total n fed m : ℕ) (log log' : Option (List Deed)) (left left' : Option (List ℕ)) (frames frames' : Held) (buffer extra lent : List ℕ)
    → n ≢ 0 → n ≤ length buffer → n ≤ most_of_take → n ≤ m → n ≤ most_of_link - total → total ≤ most_of_link → frames.limit ≡ most_of_reply + most_of_take
    → length frames.bytes ≤ most_of_reply → lent ≡ take m (buffer ++ extra) → Gains log log' (taken link buffer n ∷ []) → Consumes left left' (take n buffer)
    → Feeds frames (take n lent) fed frames'
    → TakesMore link (stand log left None (record { held = frames.bytes; taken = total })) (stand log' left' None (record { held = frames'.bytes; taken = total + fed }))
takes-more link total n fed m log log' left left' frames frames' buffer extra lent some within few covered below most limit short lends gains took feeds =
    let piece : List ℕ = take n lent in
    let is : piece ≡ take n buffer = ap (take n) lends ∙ take-take n m buffer extra covered within in
    let long : length piece ≡ n = ap length is ∙ length-take n buffer ∙ omega arith in
    let all : fed ≡ length piece = fed-all frames frames' piece fed limit short (omega arith) feeds in
    record {
      piece = piece;
      some = omega arith;
      log = subst (λ (d : Deed). Gains log log' (d ∷ [])) (taken-some link n buffer some ∙ ap (deed.Took link) (sym is)) gains;
      consumed = subst (Consumes left left') (sym is) took;
      inbox = ap (λ (b : List ℕ). record { held = b; taken = total + fed }) (ap (λ (h : Held). h.bytes) feeds.after
          ∙ ap (λ (l : List ℕ). frames.bytes ++ l) (take_all fed piece (omega arith)))
          ∙ ap (λ (m : ℕ). record { held = frames.bytes ++ piece; taken = total + m }) all;
      most = omega arith;
    }
