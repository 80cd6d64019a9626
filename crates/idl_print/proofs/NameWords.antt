-- each name is a word
use Rattle.std.proofs.Common.{◌≡◌, ℕ, Bool, true, ◌&&◌, ◌||◌, cond, eqb, List, [], ◌∷◌, refl, sym, ap, ◌∙◌, arith, eqb-true}
use Rattle.std.specs.List.{list_all, onto_first}
use Rattle.std.specs.Char.{is_ascii_alphanumeric, is_ascii_alphabetic, is_ascii_uppercase}
use Rattle.std.specs.Prelude.{length, nat_lt, slice_index}
use Rattle.std.proofs.lemmas.Bool.{and_parts, and_from, true≢false}
use Rattle.std.proofs.lemmas.Bool.Decides.{nat_tests}
use Rattle.idl_token.specs.Lex.{Bytes, is_word_byte}
use Rattle.idl_tree.specs.Names.{parts, is_run, is_label, is_interface_name, is_member_name, is_field_name}
use Rattle.idl_rules.proofs.Runs.{by_bool}
use Rattle.idl_print.proofs.Lexing.{is_spelt}

all_pass : {X : Type 0} (p q : X → Bool) → ((x : X) → p x ≡ true → q x ≡ true) → (xs : List X) → list_all p xs ≡ true → list_all q xs ≡ true
all_pass p q more [] h = refl
all_pass p q more (x ∷ xs) h = let r = and_parts (p x) (list_all p xs) h in and_from (q x) (list_all q xs) (more x r.0) (all_pass p q more xs r.1)

alphanumeric_word : (b : ℕ) → is_ascii_alphanumeric b ≡ true → is_word_byte b ≡ true
alphanumeric_word b h = grind (arith, nat_tests)

label_word : (b : ℕ) → (is_ascii_alphanumeric b || eqb b 45) ≡ true → is_word_byte b ≡ true
label_word b h = grind (arith, nat_tests)

alphabetic_first : (b : ℕ) → is_ascii_alphabetic b ≡ true → is_ascii_alphanumeric b ≡ true
alphabetic_first b h = grind (arith, nat_tests)

abbrev of_word : Bytes → Bool
of_word bytes = list_all is_word_byte bytes

first_passes : (b : ℕ) (pieces : List Bytes) → list_all of_word (onto_first b pieces) ≡ true → (is_word_byte b ≡ true) × (list_all of_word pieces ≡ true)
first_passes b [] h = let p = and_parts (is_word_byte b && true) true h in ((and_parts (is_word_byte b) true p.0).0, refl)
first_passes b (piece ∷ pieces) h =
    let p = and_parts (is_word_byte b && of_word piece) (list_all of_word pieces) h in
    let q = and_parts (is_word_byte b) (of_word piece) p.0 in
    (q.0, and_from (of_word piece) (list_all of_word pieces) q.1 p.1)

-- where the parts are of bytes of words, and so is what stands between them, the whole is
parts_word : (c : ℕ) → is_word_byte c ≡ true → (name : Bytes) → list_all of_word (parts c name) ≡ true → of_word name ≡ true
parts_word c h [] g = refl
parts_word c h (b ∷ name) g =
    by_bool (λ (t : Bool). eqb b c ≡ t → list_all of_word (cond t ([] ∷ parts c name) (onto_first b (parts c name))) ≡ true → of_word (b ∷ name) ≡ true) (eqb b c)
    (λ e again k. and_from (is_word_byte b) (of_word name) (ap is_word_byte (eqb-true b c e) ∙ h) (parts_word c h name k))
    (λ e again k. let p = first_passes b (parts c name) k in and_from (is_word_byte b) (of_word name) p.0 (parts_word c h name p.1))
    refl g

run_word : (part : Bytes) → is_run part ≡ true → of_word part ≡ true
run_word part h = all_pass is_ascii_alphanumeric is_word_byte alphanumeric_word part (and_parts _ (list_all is_ascii_alphanumeric part) h).1

label_of_word : (part : Bytes) → is_label part ≡ true → of_word part ≡ true
label_of_word part h = all_pass (λ b. is_ascii_alphanumeric b || eqb b 45) is_word_byte label_word part (and_parts _ (list_all (λ b. is_ascii_alphanumeric b || eqb b 45) part) h).1

spelt : (name : Bytes) → is_ascii_alphabetic (slice_index name 0) ≡ true → of_word name ≡ true → is_spelt name ≡ true
spelt [] h k = absurd (true≢false (sym h))
spelt (b ∷ name) h k = and_from (is_ascii_alphanumeric b) (of_word name) (alphabetic_first b h) (and_parts (is_word_byte b) (of_word name) k).1

pub field_spelt : (name : Bytes) → is_field_name name ≡ true → is_spelt name ≡ true
field_spelt name h =
    let p = and_parts (is_ascii_alphabetic (slice_index name 0)) (list_all is_run (parts 95 name)) h in
    spelt name p.0 (parts_word 95 refl name (all_pass is_run of_word run_word (parts 95 name) p.1))

pub interface_spelt : (name : Bytes) → is_interface_name name ≡ true → is_spelt name ≡ true
interface_spelt name h =
    let p = and_parts (is_ascii_alphabetic (slice_index name 0) && nat_lt 1 (length (parts 46 name))) (list_all is_label (parts 46 name)) h in
    let q = and_parts (is_ascii_alphabetic (slice_index name 0)) (nat_lt 1 (length (parts 46 name))) p.0 in
    spelt name q.0 (parts_word 46 refl name (all_pass is_label of_word label_of_word (parts 46 name) p.1))

uppercase_letter : (b : ℕ) → is_ascii_uppercase b ≡ true → is_ascii_alphabetic b ≡ true
uppercase_letter b h = grind (arith, nat_tests)

pub member_spelt : (name : Bytes) → is_member_name name ≡ true → is_spelt name ≡ true
member_spelt name h =
    let p = and_parts (is_ascii_uppercase (slice_index name 0)) (list_all is_ascii_alphanumeric name) h in
    spelt name (uppercase_letter (slice_index name 0) p.0) (all_pass is_ascii_alphanumeric is_word_byte alphanumeric_word name p.1)
