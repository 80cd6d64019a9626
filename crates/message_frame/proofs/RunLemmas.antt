-- What the calls of a run took is what they gave and what is left.
use Rattle.std.proofs.Common.{◌≡◌, ◌⊎◌, ℕ, Bool, true, false, cond, List, [], ◌∷◌, ◌++◌, take}
use Rattle.std.proofs.Common.{refl, sym, ◌∙◌, ap, subst, append_assoc, inl, inr}
use Rattle.std.specs.List.{AllByRecursion, flat_map, list_any}
use Rattle.std.proofs.lemmas.List.{append-nil}
use Rattle.message_frame.specs.Pieces.{NoNul, ended, pieces, Pieces}
use Rattle.message_frame.specs.Held.{Held}
use Rattle.message_frame.specs.Runs.{Call, Feed, Ask, Clear, Run, is_clear, since_clear}
use Rattle.message_frame.specs.Runs.{bytes_taken, payloads_given, Accounts}
use Rattle.message_frame.specs.declared.framing.Next.TheVariants.{Payload, TooLong, NeedMore}
use Rattle.message_frame.proofs.PieceLemmas.{pieces-flat_map}

-- the bytes of before, of which nothing was given yet, count among those taken
record Kept (old : List ℕ) (calls : List Call) (new : List ℕ) : Type 0 where
  all : old ++ bytes_taken calls ≡ flat_map ended (payloads_given calls) ++ new
  each : AllByRecursion NoNul (payloads_given calls)

kept_along : (before old : List ℕ) (calls : List Call) (new : List ℕ) → before ≡ old →
    Kept before calls new → Kept old calls new
kept_along before old calls new same k = subst (λ (bytes : List ℕ). Kept bytes calls new) same k

kept : (old : Held) (calls : List Call) (new : Held) → Run old calls new →
    list_any is_clear calls ≡ false → Kept old.bytes calls new.bytes
kept old [] new run none =
    record { all = append-nil old.bytes ∙ ap (λ (h : Held). h.bytes) (sym run); each = tt }
kept old (Feed piece taken ∷ calls) new run none =
    let later = kept run.0 calls new run.1.1 none in
    let held : run.0.bytes ≡ old.bytes ++ take taken piece =
    ap (λ (h : Held). h.bytes) run.1.0.after in
    record {
      all = sym (append_assoc old.bytes (take taken piece) (bytes_taken calls))
          ∙ ap (λ (xs : List ℕ). xs ++ bytes_taken calls) (sym held) ∙ later.all;
      each = later.each;
    }
kept old (Ask (Payload payload) ∷ calls) new run none =
    let later = kept run.0 calls new run.1.1 none in
    let began = run.1.0.0 in
    record {
      all = ap (λ (xs : List ℕ). xs ++ bytes_taken calls) began.front
          ∙ append_assoc (ended payload.now) run.0.bytes (bytes_taken calls)
          ∙ ap (λ (xs : List ℕ). ended payload.now ++ xs) later.all
          ∙ sym
          (append_assoc (ended payload.now) (flat_map ended (payloads_given calls))
          new.bytes);
      each = (began.no_nul, later.each);
    }
kept old (Ask TooLong ∷ calls) new run none =
    let later =
    kept_along run.0.bytes old.bytes calls new.bytes (ap (λ (h : Held). h.bytes) run.1.0.2)
    (kept run.0 calls new run.1.1 none) in
    record { all = later.all; each = later.each }
kept old (Ask NeedMore ∷ calls) new run none =
    let later =
    kept_along run.0.bytes old.bytes calls new.bytes (ap (λ (h : Held). h.bytes) run.1.0.2)
    (kept run.0 calls new run.1.1 none) in
    record { all = later.all; each = later.each }
kept old (Clear ∷ calls) new run none = absurd cc

true_or_false : (b : Bool) → (b ≡ true) ⊎ (b ≡ false)
true_or_false true = inl refl
true_or_false false = inr refl

since_all : (calls : List Call) → list_any is_clear calls ≡ false → since_clear calls ≡ calls
since_all [] none = refl
since_all (call ∷ calls) none = ap (λ (t : Bool). cond t (since_clear calls) (call ∷ calls)) none

since_later : (call : Call) (calls : List Call) → list_any is_clear (call ∷ calls) ≡ true →
    since_clear (call ∷ calls) ≡ since_clear calls
since_later call calls some = ap (λ (t : Bool). cond t (since_clear calls) (call ∷ calls)) some

-- after the last `clear` nothing is held
kept_after : (old : Held) (call : Call) (calls : List Call) (new : Held) →
    Run old (call ∷ calls) new → list_any is_clear (call ∷ calls) ≡ true →
    list_any is_clear calls ≡ false → Kept [] calls new.bytes
kept_after old (Feed piece taken) calls new run some none = absurd cc
kept_after old (Ask answer) calls new run some none = absurd cc
kept_after old Clear calls new run some none =
    kept_along run.0.bytes [] calls new.bytes (ap (λ (h : Held). h.bytes) run.1.0)
    (kept run.0 calls new run.1.1 none)

kept_since : (old : Held) (calls : List Call) (new : Held) → Run old calls new →
    list_any is_clear calls ≡ true → Kept [] (since_clear calls) new.bytes
kept_since old [] new run some = absurd cc
kept_since old (call ∷ calls) new run some =
    let here : Kept [] (since_clear calls) new.bytes =
    elim (true_or_false (list_any is_clear calls)) [
      | inl later ↦ kept_since run.0 calls new run.1.1 later
      | inr none ↦ rw (since_all calls none) (kept_after old call calls new run some none)
    ] in
    rw (since_later call calls some) here

Accounts-from_kept : (calls : List Call) (rest : List ℕ) → Kept [] calls rest → Accounts calls rest
Accounts-from_kept calls rest k = record {
  all = sym k.all;
  first = sym (ap (λ (bytes : List ℕ). (pieces bytes).payloads) k.all
      ∙ ap (λ (p : Pieces). p.payloads) (pieces-flat_map (payloads_given calls) rest k.each));
}

pub nothing_lost : (limit : ℕ) (calls : List Call) (new : Held) →
    Run (record { limit = limit; bytes = [] }) calls new → Accounts (since_clear calls) new.bytes
nothing_lost limit calls new run =
    let old : Held = record { limit = limit; bytes = [] } in
    elim (true_or_false (list_any is_clear calls)) [
      | inl some ↦ Accounts-from_kept (since_clear calls) new.bytes
          (kept_since old calls new run some)
      | inr none ↦ rw (since_all calls none)
          (Accounts-from_kept calls new.bytes (kept old calls new run none))
    ]
