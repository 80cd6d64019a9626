-- The requests of a history of which each is of a worker.
use Rattle.std.proofs.Common.{◌≡◌, ◌⊎◌, ℕ, zero, suc, ◌<◌, Bool, true, false, cond, List, [], ◌∷◌, length, refl, sym, ap, ◌∙◌, subst, inl, inr, arith, ⊎_elim, true≢false, eq-eqb}
use Rattle.std.specs.Prelude.{All, Contains, eqb, filter, map, slice_index_or}
use Rattle.std.proofs.lemmas.List.Elements.{All-nil, All-cons, All-head, All-tail}
use Rattle.turn_desk.specs.declared.objects.Entry.{Entry}
use Rattle.turn_desk.specs.Histories.{requests_of}
use Rattle.turn_desk.proofs.Lists.{requests_same}
use Rattle.sheet_form.specs.declared.sheets.Contents.{Contents}
use Rattle.service_core.specs.declared.requests.Request.{Request}
use Rattle.service_desk.specs.Seats.{Seat}
use Rattle.door_serving.specs.declared.doors.WorkerEnd.{WorkerEnd}
use Rattle.door_host.specs.Doors.{DoorKind}
use Rattle.door_host.specs.Hosts.{AllServedOver, Hosted, ServedOver, passes_of}
use Rattle.host_laws.specs.Laws.{EntriesAreShallow, IsShallow}
use Rattle.host_laws.proofs.SeatDepths.{ShallowAt, attended}

-- an entry of this pass is shallow
abbrev IfOf : ℕ → Entry Request → Type 0
IfOf n entry = entry.pass ≡ n → IsShallow entry.request

kept_or_not : (n : ℕ) (b : Bool) (entry : Entry Request) (rest : List (Entry Request)) → eqb entry.pass n ≡ b
    → All IsShallow (map (λ (e : Entry Request). e.request) (cond b (entry ∷ rest) rest)) → IfOf n entry × All IsShallow (map (λ (e : Entry Request). e.request) rest)
kept_or_not n true entry rest is all = (
  λ of. All-head IsShallow entry.request (map (λ (e : Entry Request). e.request) rest) all,
  All-tail IsShallow entry.request (map (λ (e : Entry Request). e.request) rest) all,
)
kept_or_not n false entry rest is all = (λ of. absurd (true≢false (sym (eq-eqb entry.pass n of) ∙ is)), all)

by_pass : (n : ℕ) (history : List (Entry Request)) → All IsShallow (requests_of n history) → All (IfOf n) history
by_pass n [] all = All-nil (IfOf n)
by_pass n (entry ∷ history) all =
    let parts = kept_or_not n (eqb entry.pass n) entry (filter (λ (e : Entry Request). eqb e.pass n) history) refl all in
    All-cons (IfOf n) entry history parts.0 (by_pass n history parts.1)

among : (x y : ℕ) (xs : List ℕ) → Contains (x ∷ xs) y → (x ≡ y) ⊎ Contains xs y
among x y xs c = go c.0 c.1 c.2
  where
    go : (k : ℕ) → k < length (x ∷ xs) → slice_index_or (x ∷ xs) k y ≡ y → (x ≡ y) ⊎ Contains xs y
    go zero low at = inl at
    go (suc k) low at = inr (k, omega arith, at)

module _ {D C : Type 0} (door : DoorKind D C) (sheet : Contents) (limit : ℕ) (history : List (Entry Request)) where
  of_worker : (before after : D) (end : WorkerEnd) → ServedOver door sheet limit history before after end → All IsShallow (requests_of end.pass history)
  of_worker before after end s =
      let first : ShallowAt end.pass s.first = (sym s.worked.pass, subst (λ (l : List (Entry Request)). All IsShallow (requests_of end.pass l)) (sym s.begins.seen) (All-nil IsShallow)) in
      let last = attended door.left door.written end.pass s.first s.last s.worked.serves.conns s.worked.serves.visits s.worked.serves.attended first in
      subst (All IsShallow) (sym (requests_same end.pass [] s.last.pass.seen history s.others)) last.1

  of_workers : (befores afters : List D) (ends : List WorkerEnd) → AllServedOver door sheet limit history befores afters ends
      → (number : ℕ) → Contains (passes_of ends) number → All IsShallow (requests_of number history)
  of_workers [] [] [] all number c = absurd (let low = c.1 in omega arith)
  of_workers (b ∷ bs) (a ∷ as') (e ∷ es) all number c =
      ⊎_elim (λ is. subst (λ (m : ℕ). All IsShallow (requests_of m history)) is (of_worker b a e all.0)) (λ later. of_workers bs as' es all.1 number later) (among e.pass number (passes_of es) c)
  of_workers _ _ _ all number c = absurd all

pub entries_are_shallow : {D C : Type 0} (door : DoorKind D C) → EntriesAreShallow door
entries_are_shallow door sheet limit history before after entries ends hosted =
    λ k d low. by_pass (slice_index_or history k d).pass history
    (of_workers door sheet limit history before after ends hosted.doors (slice_index_or history k d).pass (hosted.owned k d low)) k d low refl
