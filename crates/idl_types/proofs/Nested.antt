-- in a whole spelling of a type each `,` and each `)` stands within a bracket, and no note does
use Rattle.std.proofs.Common.{◌≡◌, ℕ, zero, suc, Bool, true, false, ◌&&◌, not, [], ◌∷◌, ◌++◌, codes, refl, sym, ap, subst, ◌∙◌, append_assoc}
use Rattle.std.specs.List.{list_all}
use Rattle.std.specs.Str.{bytes_eq}
use Rattle.std.proofs.lemmas.List.{append-nil}
use Rattle.std.proofs.lemmas.Bool.{and_parts, true≢false}
use Rattle.idl_token.specs.Lex.{Bytes, Lexeme, Lexemes}
use Rattle.idl_token.specs.declared.tokens.ItemKind.TheVariants.{Word, Mark, Note}
use Rattle.idl_tree.specs.Names.{is_member_name, is_field_name}
use Rattle.idl_rules.specs.Items.{mark}
use Rattle.idl_rules.specs.Settle.{depth_after}
use Rattle.idl_rules.specs.Spells.{is_bare, depth_at_end}
use Rattle.idl_rules.specs.Grammar.{Grammar, one, in_row, either, many, a_type, type_rule, plain, field, a_list, a_struct, body, the_word, the_mark, a_name, Whole, an_item, a_row, on_left, on_right, no_turn, a_turn, the_type}
use Rattle.idl_fronts.proofs.Passes.{word_is, mark_is, name_is}

-- a mark that may stand behind so many brackets that are open
abbrev pub is_within : ℕ → Bytes → Bool
is_within zero spelling = not (bytes_eq spelling (codes ",")) && not (bytes_eq spelling (codes ")"))
is_within (suc depth) spelling = true

abbrev pub nested : ℕ → Lexemes → Bool
nested depth [] = true
nested depth ((Note, spelling) ∷ items) = false
nested depth ((Word, spelling) ∷ items) = nested depth items
nested depth ((Mark, spelling) ∷ items) =
    is_within depth spelling && nested (depth_after depth spelling) items

pub nested_bare : (depth : ℕ) (items : Lexemes) → nested depth items ≡ true → list_all is_bare items ≡ true
nested_bare depth [] h = refl
nested_bare depth ((Note, w) ∷ items) h = absurd (true≢false (sym h))
nested_bare depth ((Word, w) ∷ items) h = nested_bare depth items h
nested_bare depth ((Mark, w) ∷ items) h =
    nested_bare (depth_after depth w) items (and_parts (is_within depth w)
    (nested (depth_after depth w) items) h).1

-- behind the first items of such a list
pub nested_behind : (depth : ℕ) (front rest : Lexemes) → nested depth (front ++ rest) ≡ true
    → nested (depth_at_end depth front) rest ≡ true
nested_behind depth [] rest h = h
nested_behind depth ((Note, w) ∷ front) rest h = absurd (true≢false (sym h))
nested_behind depth ((Word, w) ∷ front) rest h = nested_behind depth front rest h
nested_behind depth ((Mark, w) ∷ front) rest h =
    nested_behind (depth_after depth w) front rest
    (and_parts (is_within depth w) (nested (depth_after depth w) (front ++ rest)) h).1

-- items that lead from so many open brackets to so many
abbrev Leads : ℕ → ℕ → Lexemes → Type 0
Leads depth next items = (more : Lexemes) → nested depth (items ++ more) ≡ nested next more

-- each spelling of the part does
abbrev Keeps : ℕ → ℕ → Grammar → Type 0
Keeps depth next (one test) = (item : Lexeme) → test item ≡ true → Leads depth next (item ∷ [])
Keeps depth next (in_row first second) = (between : ℕ) × Keeps depth between first × Keeps between next second
Keeps depth next (either left right) = Keeps depth next left × Keeps depth next right
Keeps depth next (many turn) = (depth ≡ next) × Keeps depth depth turn
Keeps depth next a_type = depth ≡ next

word_keeps : (depth : ℕ) (w : Bytes) → Keeps depth depth (the_word w)
word_keeps depth w item h more = ap (λ (i : Lexeme). nested depth (i ∷ more)) (word_is w item h)

name_keeps : (depth : ℕ) (form : Bytes → Bool) → Keeps depth depth (a_name form)
name_keeps depth form item h more = ap (λ (i : Lexeme). nested depth (i ∷ more)) (name_is form item h).1

mark_keeps : (depth next : ℕ) (w : Bytes)
    → ((more : Lexemes) → nested depth (mark w ∷ more) ≡ nested next more) → Keeps depth next (the_mark w)
mark_keeps depth next w goes item h more = ap (λ (i : Lexeme). nested depth (i ∷ more)) (mark_is w item h)
    ∙ goes more

opens : (depth : ℕ) → Keeps depth (suc depth) (the_mark (codes "("))
opens zero = mark_keeps zero 1 (codes "(") (λ more. refl)
opens (suc depth) = mark_keeps (suc depth) (suc (suc depth)) (codes "(") (λ more. refl)

closes : (depth : ℕ) → Keeps (suc depth) depth (the_mark (codes ")"))
closes depth = mark_keeps (suc depth) depth (codes ")") (λ more. refl)

commas : (depth : ℕ) → Keeps (suc depth) (suc depth) (the_mark (codes ","))
commas depth = mark_keeps (suc depth) (suc depth) (codes ",") (λ more. refl)

left_squares : (depth : ℕ) → Keeps depth depth (the_mark (codes "["))
left_squares zero = mark_keeps zero zero (codes "[") (λ more. refl)
left_squares (suc depth) = mark_keeps (suc depth) (suc depth) (codes "[") (λ more. refl)

right_squares : (depth : ℕ) → Keeps depth depth (the_mark (codes "]"))
right_squares zero = mark_keeps zero zero (codes "]") (λ more. refl)
right_squares (suc depth) = mark_keeps (suc depth) (suc depth) (codes "]") (λ more. refl)

questions : (depth : ℕ) → Keeps depth depth (the_mark (codes "?"))
questions zero = mark_keeps zero zero (codes "?") (λ more. refl)
questions (suc depth) = mark_keeps (suc depth) (suc depth) (codes "?") (λ more. refl)

colons : (depth : ℕ) → Keeps (suc depth) (suc depth) (the_mark (codes ":"))
colons depth = mark_keeps (suc depth) (suc depth) (codes ":") (λ more. refl)

list_keeps : (depth : ℕ) (entry : Grammar) → Keeps (suc depth) (suc depth) entry
    → Keeps depth depth (a_list entry)
list_keeps depth entry keeps = (
  suc depth,
  opens depth,
  (suc depth, keeps, (suc depth, (refl, (suc depth, commas depth, keeps)), closes depth)),
)

field_keeps : (depth : ℕ) → Keeps (suc depth) (suc depth) field
field_keeps depth = (suc depth, name_keeps (suc depth) is_field_name, (suc depth, colons depth, refl))

struct_keeps : (depth : ℕ) → Keeps depth depth a_struct
struct_keeps depth = ((suc depth, opens depth, closes depth), list_keeps depth field (field_keeps depth))

body_keeps : (depth : ℕ) → Keeps depth depth body
body_keeps depth = (
  struct_keeps depth,
  list_keeps depth (a_name is_field_name) (name_keeps (suc depth) is_field_name),
)

plain_keeps : (depth : ℕ) → Keeps depth depth plain
plain_keeps depth = (
  (depth, left_squares depth, (depth, right_squares depth, refl)),
  (
    (
      depth,
      left_squares depth,
      (
        depth,
        word_keeps depth (codes "string"),
        (depth, right_squares depth, refl),
      ),
    ),
    (
      (
        word_keeps depth (codes "bool"),
        (
          word_keeps depth (codes "int"),
          (
            word_keeps depth (codes "float"),
            (word_keeps depth (codes "string"), word_keeps depth (codes "object")),
          ),
        ),
      ),
      (name_keeps depth is_member_name, body_keeps depth),
    ),
  ),
)

type_keeps : (depth : ℕ) → Keeps depth depth type_rule
type_keeps depth = (plain_keeps depth, (depth, questions depth, plain_keeps depth))

two_lead : (depth between next : ℕ) (items more all : Lexemes) → all ≡ items ++ more
    → Leads depth between items → Leads between next more → Leads depth next all
two_lead depth between next items more all e first second rest =
    ap (λ (x : Lexemes). nested depth (x ++ rest)) e ∙ ap (nested depth) (append_assoc items more rest)
    ∙ first (more ++ rest) ∙ second rest

whole_leads : (part : Grammar) (items : Lexemes) → Whole part items → (depth next : ℕ)
    → Keeps depth next part → Leads depth next items
whole_leads part items (an_item {item = item} h) depth next keeps = keeps item h
whole_leads part items (a_row {first = first} {next = second} {items = front} {more = back} w v e) depth next
    (between, one_keeps, other) =
    two_lead depth between next front back items e (whole_leads first front w depth between one_keeps)
    (whole_leads second back v between next other)
whole_leads part items (on_left {left = left} w) depth next (keeps, other) =
    whole_leads left items w depth next keeps
whole_leads part items (on_right {right = right} w) depth next (other, keeps) =
    whole_leads right items w depth next keeps
whole_leads part items no_turn depth next (same, keeps) = λ more. ap (λ (d : ℕ). nested d more) same
whole_leads part items (a_turn {turn = turn} {items = front} {more = back} w v e) depth next (same, keeps) =
    two_lead depth depth next front back items e (whole_leads turn front w depth depth keeps)
    (whole_leads (many turn) back v depth next (same, keeps))
whole_leads part items (the_type w) depth next same =
    subst (λ (d : ℕ). Leads depth d items) same (whole_leads type_rule items w depth depth (type_keeps depth))

pub type_nested : (items : Lexemes) → Whole a_type items → nested 0 items ≡ true
type_nested items w = ap (nested 0) (sym (append-nil items)) ∙ whole_leads a_type items w 0 0 refl []
