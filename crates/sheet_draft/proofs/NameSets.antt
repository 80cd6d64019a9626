-- registers read one after another, beside a set of their names
use Rattle.std.proofs.Common.{◌≡◌, suc, Bool, true, false, ◌||◌, ◌&&◌, not, cond, List, [], ◌∷◌, ◌++◌, length, map, Option, Some, None, Result, refl, sym, ap, ◌∙◌, arith, length-append}
use Rattle.std.specs.Str.{bytes_eq}
use Rattle.serde_json.specs.Data.{Data, Items, item}
use Rattle.idl_tree.specs.Names.{Bytes, is_field_name}
use Rattle.expression_draft.specs.Members.{◌>>=◌, only_if}
use Rattle.sheet_draft.specs.Outlines.{register_of, register_behind, stood}
use Rattle.sheet_draft.specs.Sheets.{registers_from}
use Rattle.sheet_draft.specs.declared.drafts.RegisterDraft.{RegisterDraft}
use Rattle.sheet_draft.specs.declared.faults.DraftFault.{DraftFault}
use Rattle.sheet_draft.proofs.Rests.{behind, behind_more}

pub cond_or : (a b : Bool) → cond a true b ≡ (a || b)
cond_or true b = refl
cond_or false b = refl

abbrev pub names_of : List RegisterDraft → List Bytes
names_of registers = map (λ (register : RegisterDraft). register.name) registers

names_more : (registers : List RegisterDraft) (register : RegisterDraft)
    → names_of (registers ++ register ∷ []) ≡ names_of registers ++ register.name ∷ []
names_more [] register = refl
names_more (r ∷ registers) register = ap (λ (names : List Bytes). r.name ∷ names) (names_more registers register)

swapped : (a b c : Bool) → (a || (b || c)) ≡ (b || (a || c))
swapped true true c = refl
swapped true false c = refl
swapped false b c = refl

stood_more : (before : List Bytes) (name q : Bytes) → stood (before ++ name ∷ []) q ≡ (bytes_eq name q || stood before q)
stood_more [] name q = refl
stood_more (other ∷ before) name q =
    ap (λ (b : Bool). bytes_eq other q || b) (stood_more before name q) ∙ swapped (bytes_eq other q) (bytes_eq name q) (stood before q)

pub names_stood : (registers : List RegisterDraft) (register : RegisterDraft) (q : Bytes) (before after : Bool)
    → after ≡ (bytes_eq register.name q || before) → before ≡ stood (names_of registers) q
    → after ≡ stood (names_of (registers ++ register ∷ [])) q
names_stood registers register q before after is same =
    is ∙ ap (λ (b : Bool). bytes_eq register.name q || b) same ∙ sym (stood_more (names_of registers) register.name q)
    ∙ ap (λ (names : List Bytes). stood names q) (sym (names_more registers register))

same_behind : (found : Option RegisterDraft) (f g : Bytes → Bool) → ((q : Bytes) → f q ≡ g q)
    → (found >>= λ (register : RegisterDraft). only_if (is_field_name register.name && not (f register.name)) (Some register))
    ≡ (found >>= λ (register : RegisterDraft). only_if (is_field_name register.name && not (g register.name)) (Some register))
same_behind None f g same = refl
same_behind (Some register) f g same =
    ap (λ (b : Bool). only_if (is_field_name register.name && not b) (Some register)) (same register.name)

pub register_same : (d : Data) (f g : Bytes → Bool) → ((q : Bytes) → f q ≡ g q) → register_behind f d ≡ register_behind g d
register_same d f g same = same_behind (register_of d) f g same

one_longer : (done : List RegisterDraft) (x : RegisterDraft) → suc (length done) ≡ length (done ++ x ∷ [])
one_longer done x = grind (arith, length-append)

pub register_more : (done : List RegisterDraft) (x : RegisterDraft) (d : Data) (ds : Items) (all : Result (List RegisterDraft) DraftFault)
    → behind done (registers_from (names_of done) (length done) (item d ds)) ≡ all → register_behind (stood (names_of done)) d ≡ Some x
    → behind (done ++ x ∷ []) (registers_from (names_of (done ++ x ∷ [])) (length (done ++ x ∷ [])) ds) ≡ all
register_more done x d ds all is here =
    let opened = rw here at is in
    rw (← one_longer done x, names_more done x)
    (sym (behind_more done x (registers_from (names_of done ++ x.name ∷ []) (suc (length done)) ds)) ∙ opened)
