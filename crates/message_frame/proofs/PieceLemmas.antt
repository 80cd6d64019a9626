-- The pieces of a stream: what they are, and that there are no others.
use Rattle.std.proofs.Common.{◌≡◌, ◌≢◌, ℕ, Bool, cond, List, [], ◌∷◌, ◌++◌, refl, sym, ◌∙◌, ap}
use Rattle.std.proofs.Common.{append_assoc, inl, inr}
use Rattle.std.specs.List.{AllByRecursion, flat_map}
use Rattle.std.proofs.lemmas.Bool.{ne_eqb}
use Rattle.std.proofs.lemmas.List.{append-nil}
use Rattle.std.proofs.lemmas.Bool.Decides.{eqb_tells}
use Rattle.message_frame.specs.Pieces.{NoNul, ended, ArePieces, Pieces, led, pieces}

-- a NUL ends an empty payload
pub pieces-nul : (bytes : List ℕ) →
    pieces (0 ∷ bytes) ≡ record {
      payloads = [] ∷ (pieces bytes).payloads;
      rest =
          (pieces bytes).rest;
    }
unfolding pieces
pieces-nul bytes = refl

-- any other byte belongs to the piece that it leads
pub pieces-led : (b : ℕ) (bytes : List ℕ) → b ≢ 0 →
    pieces (b ∷ bytes) ≡ led b (pieces bytes).payloads (pieces bytes).rest
unfolding pieces
pieces-led b bytes other =
    let later = pieces bytes in
    ap (λ (t : Bool). cond t (record { payloads = [] ∷ later.payloads; rest = later.rest })
    (led b later.payloads later.rest)) (ne_eqb b 0 other)

-- bytes held before a stream, none of them NUL, are the front of its first piece
abbrev pub led_all : List ℕ → List (List ℕ) → List ℕ → Pieces
led_all held [] rest = record { payloads = []; rest = held ++ rest }
led_all held (payload ∷ payloads) rest = record { payloads = (held ++ payload) ∷ payloads; rest = rest }

led-led_all : (b : ℕ) (held : List ℕ) (payloads : List (List ℕ)) (rest : List ℕ) →
    led b (led_all held payloads rest).payloads (led_all held payloads rest).rest ≡ led_all (b ∷ held) payloads rest
led-led_all b held [] rest = refl
led-led_all b held (payload ∷ payloads) rest = refl

led_all-nil : (payloads : List (List ℕ)) (rest : List ℕ) →
    (record { payloads = payloads; rest = rest }) ≡ led_all [] payloads rest
led_all-nil [] rest = refl
led_all-nil (payload ∷ payloads) rest = refl

pub pieces-led_all : (held bytes : List ℕ) → NoNul held →
    pieces (held ++ bytes) ≡ led_all held (pieces bytes).payloads (pieces bytes).rest
pieces-led_all [] bytes no_nul = led_all-nil (pieces bytes).payloads (pieces bytes).rest
pieces-led_all (b ∷ held) bytes no_nul =
    pieces-led b (held ++ bytes) no_nul.0
    ∙ ap (λ (p : Pieces). led b p.payloads p.rest) (pieces-led_all held bytes no_nul.1)
    ∙ led-led_all b held (pieces bytes).payloads (pieces bytes).rest

-- bytes with no NUL are all rest
pub pieces-no_nul : (bytes : List ℕ) → NoNul bytes →
    pieces bytes ≡ record { payloads = []; rest = bytes }
unfolding pieces
pieces-no_nul [] h = refl
pieces-no_nul (b ∷ bytes) h =
    pieces-led b bytes h.0
    ∙ ap (λ (later : Pieces). led b later.payloads later.rest) (pieces-no_nul bytes h.1)

-- a whole message in front is the first payload
pub pieces-ended : (payload bytes : List ℕ) → NoNul payload →
    pieces (ended payload ++ bytes) ≡ record {
      payloads =
          payload ∷ (pieces bytes).payloads;
      rest = (pieces bytes).rest;
    }
pieces-ended [] bytes h = pieces-nul bytes
pieces-ended (b ∷ payload) bytes h =
    pieces-led b (ended payload ++ bytes) h.0
    ∙ ap (λ (later : Pieces). led b later.payloads later.rest)
    (pieces-ended payload bytes h.1)

-- so are whole messages
pub pieces-flat_map : (payloads : List (List ℕ)) (bytes : List ℕ) → AllByRecursion NoNul payloads →
    pieces (flat_map ended payloads ++ bytes) ≡ record {
      payloads =
          payloads ++ (pieces bytes).payloads;
      rest = (pieces bytes).rest;
    }
pieces-flat_map [] bytes h = refl
pieces-flat_map (payload ∷ payloads) bytes h =
    let rest = flat_map ended payloads ++ bytes in
    ap pieces (append_assoc (ended payload) (flat_map ended payloads) bytes)
    ∙ pieces-ended payload rest h.0
    ∙ ap (λ (later : Pieces). record { payloads = payload ∷ later.payloads; rest = later.rest })
    (pieces-flat_map payloads bytes h.1)

led_are : (b : ℕ) (bytes : List ℕ) (payloads : List (List ℕ)) (rest : List ℕ) → b ≢ 0 →
    ArePieces bytes payloads rest →
    ArePieces (b ∷ bytes) (led b payloads rest).payloads (led b payloads rest).rest
led_are b bytes [] rest other are =
    record {
      whole = ap (λ (xs : List ℕ). b ∷ xs) are.whole;
      each = tt;
      open_end =
          (other, are.open_end);
    }
led_are b bytes (payload ∷ payloads) rest other are = record {
  whole = ap (λ (xs : List ℕ). b ∷ xs) are.whole;
  each = ((other, are.each.0), are.each.1);
  open_end = are.open_end;
}

nul_are : (bytes : List ℕ) (payloads : List (List ℕ)) (rest : List ℕ) →
    ArePieces bytes payloads rest → ArePieces (0 ∷ bytes) ([] ∷ payloads) rest
nul_are bytes payloads rest are =
    record {
      whole = ap (λ (xs : List ℕ). 0 ∷ xs) are.whole;
      each = (tt, are.each);
      open_end =
          are.open_end;
    }

are_with : (b : ℕ) (bytes : List ℕ) →
    ArePieces bytes (pieces bytes).payloads (pieces bytes).rest →
    ArePieces (b ∷ bytes) (pieces (b ∷ bytes)).payloads (pieces (b ∷ bytes)).rest
are_with b bytes later =
    elim (eqb_tells b 0) [
      | inl is ↦ rw (is.1, pieces-nul bytes) (nul_are bytes _ _ later)
      | inr is ↦ rw (pieces-led b bytes is.1) (led_are b bytes _ _ is.1 later)
    ]

-- `pieces` are the pieces
pub ArePieces-pieces : (bytes : List ℕ) →
    ArePieces bytes (pieces bytes).payloads (pieces bytes).rest
unfolding pieces
ArePieces-pieces [] = record { whole = refl; each = tt; open_end = tt }
ArePieces-pieces (b ∷ bytes) = are_with b bytes (ArePieces-pieces bytes)

-- and no others are
pub ArePieces-only : (bytes : List ℕ) (payloads : List (List ℕ)) (rest : List ℕ) →
    ArePieces bytes payloads rest →
    (payloads ≡ (pieces bytes).payloads) × (rest ≡ (pieces bytes).rest)
ArePieces-only bytes payloads rest are =
    let e : pieces bytes ≡ record { payloads = payloads; rest = rest } =
    ap pieces are.whole ∙ pieces-flat_map payloads rest are.each
    ∙ ap (λ (later : Pieces). record {
      payloads = payloads ++ later.payloads;
      rest =
          later.rest;
    }) (pieces-no_nul rest are.open_end)
    ∙ ap (λ (all : List (List ℕ)). record { payloads = all; rest = rest }) (append-nil payloads) in
    (sym (ap (λ (p : Pieces). p.payloads) e), sym (ap (λ (p : Pieces). p.rest) e))
