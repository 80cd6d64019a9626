-- what is read so far, before what is left to read
use Rattle.std.proofs.Common.{◌≡◌, ℕ, suc, List, [], ◌∷◌, ◌++◌, length, Option, Some, Result, Ok, Err, refl, sym, ap, ◌∙◌, append_assoc, length-append, arith}
use Rattle.serde_json.specs.Data.{Data, Items, item}
use Rattle.idl_tree.specs.Names.{Bytes}
use Rattle.sheet_draft.specs.Answers as answer
use Rattle.sheet_draft.specs.Sheets.{each, branches_from, draft_of_branch}
use Rattle.sheet_draft.specs.declared.branches.BranchParts.{BranchParts}
use Rattle.sheet_draft.specs.declared.drafts.BranchDraft.{BranchDraft}
use Rattle.sheet_draft.specs.declared.faults.DraftFault.{DraftFault}
use Rattle.sheet_draft.specs.declared.places.Place.{Place}

abbrev pub behind : {A : Type 0} → List A → Result (List A) DraftFault → Result (List A) DraftFault
behind done (Err fault) = Err fault
behind done (Ok left) = Ok (done ++ left)

pub behind_none : {A : Type 0} (left : Result (List A) DraftFault) → behind [] left ≡ left
behind_none (Err fault) = refl
behind_none (Ok left) = refl

-- one more that is read
pub behind_more : {A : Type 0} (done : List A) (x : A) (left : Result (List A) DraftFault)
    → behind done (answer.◌>>=◌ left (λ (xs : List A). Ok (x ∷ xs))) ≡ behind (done ++ x ∷ []) left
behind_more done x (Err fault) = refl
behind_more done x (Ok left) = ap Ok (sym (append_assoc done (x ∷ []) left))

one_longer : {A : Type 0} (done : List A) (x : A) → suc (length done) ≡ length (done ++ x ∷ [])
one_longer done x = grind (arith, length-append)

pub each_more : {A : Type 0} (place : ℕ → Place) (reads : Data → Option A) (done : List A) (x : A) (d : Data) (ds : Items) (all : Result (List A) DraftFault)
    → behind done (each place reads (length done) (item d ds)) ≡ all → reads d ≡ Some x
    → behind (done ++ x ∷ []) (each place reads (length (done ++ x ∷ [])) ds) ≡ all
each_more place reads done x d ds all is here =
    let opened = rw here at is in
    rw (← one_longer done x) (sym (behind_more done x (each place reads (suc (length done)) ds)) ∙ opened)

pub branch_more : (name : Bytes) (done : List BranchDraft) (x : BranchDraft) (part : BranchParts) (parts : List BranchParts) (all : Result (List BranchDraft) DraftFault)
    → behind done (branches_from name (length done) (part ∷ parts)) ≡ all → draft_of_branch name (length done) part ≡ Ok x
    → behind (done ++ x ∷ []) (branches_from name (length (done ++ x ∷ [])) parts) ≡ all
branch_more name done x part parts all is here =
    let opened = rw here at is in
    rw (← one_longer done x) (sym (behind_more done x (branches_from name (suc (length done)) parts)) ∙ opened)
