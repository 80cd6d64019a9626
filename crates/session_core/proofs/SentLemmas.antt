-- Bytes that are sent, one piece behind the other.
use Rattle.std.proofs.Common.{◌≡◌, List, ℕ, [], ◌++◌, take, drop, Result, Ok, Err, OnErr, refl, sym, ◌∙◌, ap, subst, append_assoc}
use Rattle.std.proofs.lemmas.List.{append-nil, take-append-drop}
use Rattle.std.proofs.KnownBytes.{Appends-nil, Appends-trans}
use Rattle.std.specs.Io.KnownBytes.{Appends}
use Rattle.link_port.specs.Flow.{AppendsFront}
use Rattle.session_core.specs.Sent.{Sent, Sends, SendsFront}

pub Sends-nil : (a : Sent) → Sends a a []
Sends-nil a = record { put = []; wrote = Appends-nil a.written; whole = append-nil a.waiting }

pub Sends-trans : (a b c : Sent) (bytes more : List ℕ) → Sends a b bytes → Sends b c more → Sends a c (bytes ++ more)
Sends-trans a b c bytes more first second = record {
  put = first.put ++ second.put;
  wrote = Appends-trans a.written b.written c.written first.put second.put first.wrote second.wrote;
  whole =
      sym (append_assoc a.waiting bytes more)
      ∙ ap (λ (all : List ℕ). all ++ more) first.whole
      ∙ append_assoc first.put b.waiting more
      ∙ ap (λ (all : List ℕ). first.put ++ all) second.whole
      ∙ sym (append_assoc first.put second.put c.waiting);
}

-- where nothing waits, what is put is sent
pub Sends-put : (old new : Sent) (bytes : List ℕ) → old.waiting ≡ [] → new.waiting ≡ [] → Appends old.written new.written bytes → Sends old new bytes
Sends-put old new bytes before now wrote = record {
  put = bytes;
  wrote = wrote;
  whole = ap (λ (all : List ℕ). all ++ bytes) before ∙ sym (append-nil bytes) ∙ ap (λ (all : List ℕ). bytes ++ all) (sym now);
}

-- where nothing waited, what was sent is what was put and then what waits
pub Sends-whole : (old new : Sent) (bytes : List ℕ) → old.waiting ≡ [] → (sends : Sends old new bytes) → bytes ≡ sends.put ++ new.waiting
Sends-whole old new bytes before sends = ap (λ (all : List ℕ). all ++ bytes) (sym before) ∙ sends.whole

-- where nothing waits before and after, what was sent was put
pub Appends-sends : (old new : Sent) (bytes : List ℕ) → old.waiting ≡ [] → new.waiting ≡ [] → Sends old new bytes →
    Appends old.written new.written bytes
Appends-sends old new bytes before now sends =
    subst (λ (all : List ℕ). Appends old.written new.written all)
    (sym (Sends-whole old new bytes before sends ∙ ap (λ (all : List ℕ). sends.put ++ all) now ∙ append-nil sends.put)) sends.wrote

pub Sends-same : (old new : Sent) → new ≡ old → Sends old new []
Sends-same old new is = subst (λ (now : Sent). Sends old now []) (sym is) (Sends-nil old)

-- a front, after what waited was put
pub SendsFront-after : (a b c : Sent) (all : List ℕ) → Sends a b [] → SendsFront b c all → SendsFront a c all
SendsFront-after a b c all first part = record {
  front = part.front;
  rest = part.rest;
  whole = part.whole;
  sends = Sends-trans a b c [] part.front first part.sends;
}

pub SendsFront-none : (a b : Sent) (all : List ℕ) → Sends a b [] → SendsFront a b all
SendsFront-none a b all sends = record { front = []; rest = all; whole = refl; sends = sends }

pub SendsFront-take : (a b c : Sent) (n : ℕ) (piece : List ℕ) → Sends a b [] → b.waiting ≡ [] → c.waiting ≡ [] →
    Appends b.written c.written (take n piece) → SendsFront a c piece
SendsFront-take a b c n piece first before now wrote = record {
  front = take n piece;
  rest = drop n piece;
  whole = sym (take-append-drop n piece);
  sends = Sends-trans a b c [] (take n piece) first (Sends-put b c (take n piece) before now wrote);
}

pub SendsFront-put : (a b c : Sent) (all : List ℕ) → Sends a b [] → b.waiting ≡ [] → c.waiting ≡ [] →
    AppendsFront b.written c.written all → SendsFront a c all
SendsFront-put a b c all first before now part = record {
  front = part.front;
  rest = part.rest;
  whole = part.whole;
  sends = Sends-trans a b c [] part.front first (Sends-put b c part.front before now part.wrote);
}

-- a piece was sent, and then what waited was put, or a part of it
pub Sends-then : (a b c : Sent) (piece : List ℕ) → Sends a b piece → Sends b c [] → Sends a c piece
Sends-then a b c piece first flushed =
    subst (λ (all : List ℕ). Sends a c all) (append-nil piece) (Sends-trans a b c piece [] first flushed)

pub SendsFront-then : (a b c : Sent) (piece : List ℕ) → Sends a b piece → Sends b c [] → SendsFront a c piece
SendsFront-then a b c piece first flushed =
    record { front = piece; rest = []; whole = sym (append-nil piece); sends = Sends-then a b c piece first flushed }

-- what holds whatever the result is holds at an error
pub at-err : {T E : Type 0} (result : Result T E) (P : Type 0) → P → OnErr result P
at-err (Ok value) P holds = tt
at-err (Err fault) P holds = holds

-- what waited was put, and then these bytes
pub Sends-after : (a b c : Sent) (bytes : List ℕ) → Sends a b [] → b.waiting ≡ [] → c.waiting ≡ [] → Appends b.written c.written bytes → Sends a c bytes
Sends-after a b c bytes first before now wrote = Sends-trans a b c [] bytes first (Sends-put b c bytes before now wrote)
