-- Calls, histories and outcomes that follow each other.
use Rattle.std.proofs.Common.{◌≡◌, ◌≢◌, ℕ, eqb, Bool, true, false, cond, List, [], ◌∷◌, ◌++◌, length, map, filter, Ok, Err, refl, ap, ◌∙◌, arith, ne_eqb, eq-eqb}
use Rattle.std.specs.Prelude.{All}
use Rattle.std.proofs.lemmas.List.Elements.{All-head, All-tail}
use Rattle.sheet_step.specs.declared.dones.Done.{Done}
use Rattle.sheet_form.specs.declared.sheets.Contents.{Contents}
use Rattle.call_form.specs.declared.Call.{Call}
use Rattle.call_form.specs.declared.Outcome.{Outcome}
use Rattle.turn_desk.specs.declared.objects.Entry.{Entry}
use Rattle.turn_desk.specs.Histories.{requests_of, state_of}
use Rattle.service_core.specs.declared.requests.Request.{Request}
use Rattle.service_core.specs.Outcomes.{outcome_of}
use Rattle.service_core.specs.Places.{Way, place_of, one}
use Rattle.service_core.specs.States.{State}
use Rattle.service_desk.specs.Boards.{answer_of, state_after}
use Rattle.service_desk.specs.Hearing.{asked_first, asked_by, heard_first, heard, dones_at}

asked_first_more : (way : Way Request) (xs ys zs : List Request) → xs ≡ ys ++ zs → asked_first way xs ≡ asked_first way ys ++ zs
asked_first_more (Ok request) xs ys zs is = ap (λ l. request ∷ l) is
asked_first_more (Err reply) xs ys zs is = is

pub asked_more : (sheet : Contents) (calls more : List Call) → asked_by sheet (calls ++ more) ≡ asked_by sheet calls ++ asked_by sheet more
asked_more sheet [] more = refl
asked_more sheet (call ∷ calls) more =
    asked_first_more (place_of sheet call) (asked_by sheet (calls ++ more)) (asked_by sheet calls) (asked_by sheet more) (asked_more sheet calls more)

put_more : (b : Bool) (d : Done) (xs ys zs : List Done) → xs ≡ ys ++ zs → cond b (d ∷ xs) xs ≡ cond b (d ∷ ys) ys ++ zs
put_more true d xs ys zs is = ap (λ l. d ∷ l) is
put_more false d xs ys zs is = is

pub dones_more : (number : ℕ) (state : State) (history more : List (Entry Request))
    → dones_at number state (history ++ more) ≡ dones_at number state history ++ dones_at number (state_of state_after state history) more
dones_more number state [] more = refl
dones_more number state (e ∷ es) more =
    let after = state_after state e.request in
    put_more (eqb e.pass number) (answer_of state e.request) (dones_at number after (es ++ more)) (dones_at number after es)
    (dones_at number (state_of state_after after es) more) (dones_more number after es more)

pub dones_none : (number : ℕ) (state : State) (history : List (Entry Request)) → All (λ (e : Entry Request). e.pass ≢ number) history → dones_at number state history ≡ []
dones_none number state [] all = refl
dones_none number state (e ∷ es) all =
    let after = state_after state e.request in
    let other : eqb e.pass number ≡ false = ne_eqb e.pass number (All-head (λ (x : Entry Request). x.pass ≢ number) e es all) in
    ap (λ b. cond b (answer_of state e.request ∷ dones_at number after es) (dones_at number after es)) other
    ∙ dones_none number after es (All-tail (λ (x : Entry Request). x.pass ≢ number) e es all)

pub dones_last : (state : State) (e : Entry Request) → dones_at e.pass state (e ∷ []) ≡ answer_of state e.request ∷ []
dones_last state e = ap (λ b. cond b (answer_of state e.request ∷ []) []) (eq-eqb e.pass e.pass refl)

one_longer : (b : Bool) (d : Done) (ds : List Done) (e : Entry Request) (es : List (Entry Request)) → length ds ≡ length (map (λ (x : Entry Request). x.request) es)
    → length (cond b (d ∷ ds) ds) ≡ length (map (λ (x : Entry Request). x.request) (cond b (e ∷ es) es))
one_longer true d ds e es is = omega arith
one_longer false d ds e es is = is

pub dones_count : (number : ℕ) (state : State) (history : List (Entry Request)) → length (dones_at number state history) ≡ length (requests_of number history)
dones_count number state [] = refl
dones_count number state (e ∷ es) =
    let after = state_after state e.request in
    one_longer (eqb e.pass number) (answer_of state e.request) (dones_at number after es) e (filter (λ (x : Entry Request). eqb x.pass number) es) (dones_count number after es)

module _ (sheet : Contents) (fs : List Done) (all front : List Done → List Outcome) (back : List Outcome) (later : List Request)
    (each : (es : List Done) → length es ≡ length later → all (es ++ fs) ≡ front es ++ back) where
  heard_first_more : (way : Way Request) (es : List Done) → length es ≡ length (asked_first way later)
      → heard_first sheet way all (es ++ fs) ≡ heard_first sheet way front es ++ back
  heard_first_more (Err reply) es is = ap (λ l. one reply ∷ l) (each es is)
  heard_first_more (Ok request) [] is = absurd (omega arith)
  heard_first_more (Ok request) (e ∷ es) is = ap (λ l. outcome_of sheet request.rule e ∷ l) (each es (omega arith))

pub heard_more : (sheet : Contents) (calls more : List Call) (es fs : List Done) → length es ≡ length (asked_by sheet calls)
    → heard sheet (calls ++ more) (es ++ fs) ≡ heard sheet calls es ++ heard sheet more fs
heard_more sheet [] more [] fs is = refl
heard_more sheet [] more (e ∷ es) fs is = absurd (omega arith)
heard_more sheet (call ∷ calls) more es fs is =
    heard_first_more sheet fs (heard sheet (calls ++ more)) (heard sheet calls) (heard sheet more fs) (asked_by sheet calls)
    (λ ds so. heard_more sheet calls more ds fs so) (place_of sheet call) es is
