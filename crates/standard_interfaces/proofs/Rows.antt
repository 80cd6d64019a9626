-- the members of the two interfaces as rows of texts: what is laid out, in form and without a fault
use Rattle.std.proofs.Common.{◌≡◌, ℕ, Bool, true, ◌&&◌, max, List, [], ◌∷◌, ◌++◌, map, Some, None, codes, refl}
use Rattle.std.specs.Prelude.{if◌then◌else◌, ◌||◌, ◌==◌, ◌-◌, not, nat_lt, length, slice_index}
use Rattle.std.specs.Str.{IsAscii}
use Rattle.std.proofs.lemmas.Bool.{and_parts, ltb-true}
use Rattle.std.proofs.lemmas.Str.{is_utf8-from_IsUtf8, IsUtf8-from_ascii}
use Rattle.std.proofs.lemmas.Str.Ascii.{IsAscii-nil, IsAscii-cons}
use Rattle.std.specs.List.{flat_map, list_all, list_any}
use Rattle.idl_tree.specs.Names.{Bytes, is_member_name}
use Rattle.idl_tree.specs.Form.{body_form, body_form_step, core_form_step, field_form_step, type_form_step, member_form, is_note, are_notes, is_struct, part_depth, body_depth, body_depth_step, core_depth_step, field_depth_step, type_depth_step}
use Rattle.idl_tree.specs.Faults.{Found, first_of, body_fault, body_fault_step, core_fault_step, field_fault_step, type_fault_step, part_fault, members_fault, is_named, space_of, twice}
use Rattle.idl_tree.specs.declared.trees.Member.{Member}
use Rattle.idl_tree.specs.declared.trees.Body.TheVariants.{outs-Struct}
use Rattle.idl_tree.specs.declared.trees.Body.TheOpen.{Body-F}
use Rattle.idl_rules.specs.Canon.{Layout, Entry, line_end, note_lines, behind, body_layout, body_step, core_step, field_step, type_step, part_text, member_text}
use Rattle.standard_interfaces.specs.Definitions.{Texts, fields, method, error}
use Rattle.standard_interfaces.proofs.TextFields.{texts_open, folded}

pub data Row : Type 0 where
  of_method : (note name : Bytes) → (input output : Texts) → Row
  of_error : (note name : Bytes) → Texts → Row

abbrev pub member_of : Row → Member
member_of (of_method note name input output) = method note name input output
member_of (of_error note name texts) = error note name texts

-- the layout
abbrev pub laid : Texts → Layout
laid texts = body_step (Body-F.Struct (map (folded Layout Layout Entry Layout body_step core_step field_step type_step) texts) [])

body_laid : (texts : Texts) → body_layout (fields texts) ≡ laid texts
body_laid texts = texts_open Layout Layout Entry Layout body_step core_step field_step type_step texts

abbrev pub method_laid : Bytes → Layout → Layout → Layout
method_laid name input output = record {
  flat = codes "method " ++ name ++ input.flat ++ codes " -> " ++ output.flat;
  noted = input.noted || output.noted;
  opened = λ indent. codes "method " ++ name ++ input.opened indent ++ codes " -> " ++ output.opened indent;
}

abbrev pub text_with : Bytes → Layout → Bytes
text_with note part = line_end ++ note_lines 0 (note ∷ []) ++ part_text part ++ line_end

abbrev pub row_text : Row → Bytes
row_text (of_method note name input output) = text_with note (method_laid name (laid input) (laid output))
row_text (of_error note name texts) = text_with note (behind (codes "error " ++ name ++ codes " ") (laid texts))

row_laid : (row : Row) → member_text (member_of row) ≡ row_text row
row_laid (of_method note name input output) =
    λ i. text_with note (method_laid name (body_laid input i) (body_laid output i))
row_laid (of_error note name texts) = λ i. text_with note (behind (codes "error " ++ name ++ codes " ") (body_laid texts i))

pub rows_laid : (rows : List Row) → flat_map member_text (map member_of rows) ≡ flat_map row_text rows
rows_laid [] = refl
rows_laid (row ∷ rows) = λ i. row_laid row i ++ rows_laid rows i

-- the form, where notes are ASCII
ascii_from : (bs : Bytes) → list_all (λ b. nat_lt b 128) bs ≡ true → IsAscii bs
ascii_from [] h = IsAscii-nil
ascii_from (b ∷ bs) h = let parts = and_parts (nat_lt b 128) (list_all (λ b. nat_lt b 128) bs) h in
    IsAscii-cons b bs (ltb-true b 128 parts.0) (ascii_from bs parts.1)

abbrev pub is_line : Bytes → Bool
is_line note = list_all (λ b. not (b == 13 || b == 10)) note
    && not (slice_index note (length note - 1) == 32 || slice_index note (length note - 1) == 9)

note_formed : (note : Bytes) → list_all (λ b. nat_lt b 128) note ≡ true → is_note note ≡ is_line note
note_formed note h = rw (is_utf8-from_IsUtf8 note (IsUtf8-from_ascii note (ascii_from note h))) refl

pub notes_formed : (note : Bytes) → list_all (λ b. nat_lt b 128) note ≡ true → are_notes (note ∷ []) ≡ is_line note && true
notes_formed note h = λ i. note_formed note h i && true

abbrev pub formed : Texts → Bool
formed texts = body_form_step (Body-F.Struct (map (folded Bool Bool Bool Bool body_form_step core_form_step field_form_step type_form_step) texts) [])

body_formed : (texts : Texts) → body_form (fields texts) ≡ formed texts
body_formed texts = texts_open Bool Bool Bool Bool body_form_step core_form_step field_form_step type_form_step texts

struct_is : (texts : Texts) → is_struct (fields texts) ≡ true
struct_is texts = rw outs-Struct refl

abbrev pub note_of : Row → Bytes
note_of (of_method note name input output) = note
note_of (of_error note name texts) = note

abbrev pub row_form : Row → Bool
row_form (of_method note name input output) = (is_line note && true) && is_member_name name && (true && formed input && true && formed output)
row_form (of_error note name texts) = (is_line note && true) && is_member_name name && (true && formed texts)

row_formed : (row : Row) → list_all (λ b. nat_lt b 128) (note_of row) ≡ true → member_form (member_of row) ≡ row_form row
row_formed (of_method note name input output) h = λ i. notes_formed note h i && is_member_name name
    && (struct_is input i && body_formed input i && struct_is output i && body_formed output i)
row_formed (of_error note name texts) h = λ i. notes_formed note h i && is_member_name name && (struct_is texts i && body_formed texts i)

abbrev pub are_ascii : List Row → Bool
are_ascii [] = true
are_ascii (row ∷ rows) = list_all (λ b. nat_lt b 128) (note_of row) && are_ascii rows

pub rows_formed : (rows : List Row) → are_ascii rows ≡ true → list_all member_form (map member_of rows) ≡ list_all row_form rows
rows_formed [] h = refl
rows_formed (row ∷ rows) h = let parts = and_parts (list_all (λ b. nat_lt b 128) (note_of row)) (are_ascii rows) h in
    λ i. row_formed row parts.0 i && rows_formed rows parts.1 i

-- the depth
abbrev pub deep : Texts → ℕ
deep texts = body_depth_step (Body-F.Struct (map (folded ℕ ℕ ℕ ℕ body_depth_step core_depth_step field_depth_step type_depth_step) texts) [])

body_deep : (texts : Texts) → body_depth (fields texts) ≡ deep texts
body_deep texts = texts_open ℕ ℕ ℕ ℕ body_depth_step core_depth_step field_depth_step type_depth_step texts

abbrev pub row_depth : Row → ℕ
row_depth (of_method note name input output) = max (deep input) (deep output)
row_depth (of_error note name texts) = deep texts

row_deep : (row : Row) → part_depth (member_of row).part ≡ row_depth row
row_deep (of_method note name input output) = λ i. max (body_deep input i) (body_deep output i)
row_deep (of_error note name texts) = body_deep texts

pub rows_deep : (rows : List Row) → map (λ (m : Member). part_depth m.part) (map member_of rows) ≡ map row_depth rows
rows_deep [] = refl
rows_deep (row ∷ rows) = λ i. row_deep row i ∷ rows_deep rows i

-- the faults
abbrev pub fault_in : (Bytes → Bool) → Texts → Found
fault_in defined texts = body_fault_step (Body-F.Struct (map (folded Found Found (Bytes × Found) Found body_fault_step (core_fault_step defined) field_fault_step type_fault_step) texts) [])

body_faulty : (defined : Bytes → Bool) (texts : Texts) → body_fault defined (fields texts) ≡ fault_in defined texts
body_faulty defined texts = texts_open Found Found (Bytes × Found) Found body_fault_step (core_fault_step defined) field_fault_step type_fault_step texts

abbrev pub row_fault : (Bytes → Bool) → Row → Found
row_fault defined (of_method note name input output) = first_of (fault_in defined input) (fault_in defined output)
row_fault defined (of_error note name texts) = fault_in defined texts

row_faulty : (defined : Bytes → Bool) (row : Row) → part_fault defined (member_of row).part ≡ row_fault defined row
row_faulty defined (of_method note name input output) = λ i. first_of (body_faulty defined input i) (body_faulty defined output i)
row_faulty defined (of_error note name texts) = body_faulty defined texts

abbrev pub rows_fault : (Bytes → Bool) → List Member → List Row → Found
rows_fault defined before [] = None
rows_fault defined before (row ∷ rows) = if list_any (is_named (space_of (member_of row).part) (member_of row).name) before
    then Some (twice (space_of (member_of row).part) (member_of row).name)
    else first_of (row_fault defined row) (rows_fault defined (before ++ member_of row ∷ []) rows)

pub rows_faulty : (defined : Bytes → Bool) (before : List Member) (rows : List Row)
    → members_fault defined before (map member_of rows) ≡ rows_fault defined before rows
rows_faulty defined before [] = refl
rows_faulty defined before (row ∷ rows) = λ i. if list_any (is_named (space_of (member_of row).part) (member_of row).name) before
    then Some (twice (space_of (member_of row).part) (member_of row).name)
    else first_of (row_faulty defined row i) (rows_faulty defined (before ++ member_of row ∷ []) rows i)
