-- a run of items with places, as a reader makes it
use Rattle.std.proofs.Common.{◌≡◌, ℕ, ◌+◌, ◌-◌, ◌<◌, ◌≤◌, List, [], ◌∷◌, ◌++◌, Some, length, take, drop, map, refl, sym, ap, ◌∙◌, subst, arith}
use Rattle.std.specs.List.{prefix_len}
use Rattle.std.proofs.lemmas.List.{drop-drop, drop_all, length-drop, length-take-le}
use Rattle.std.proofs.lemmas.Simd.{map-map}
use Rattle.idl_token.specs.Lex.{Bytes, Lexeme, Lexemes, Placed, Begins, LexAt, first_item, after_blanks, is_blank, lexeme, placed}
use Rattle.idl_token.specs.declared.tokens.Item.{Item}
use Rattle.idl_token.specs.declared.tokens.ItemKind.{ItemKind}
use Rattle.idl_token.proofs.Starts.{Ends}

-- an item without its place
abbrev pub unplaced : Placed → Lexeme
unplaced item = (item.0, item.2)

-- the items with their places follow each other from the front of the text, and leave `rest`
abbrev pub BeginsAt : ℕ → List Placed → Bytes → Bytes → Type 0
BeginsAt whole [] text rest = text ≡ rest
BeginsAt whole (item ∷ items) text rest = (more : Bytes) × (first_item (after_blanks text) ≡ Some (unplaced item, more))
    × (item.1 + length (after_blanks text) ≡ whole) × BeginsAt whole items more rest

-- one item more
pub BeginsAt-push : (whole : ℕ) (items : List Placed) (item : Placed) (text rest more : Bytes) → BeginsAt whole items text rest
    → first_item (after_blanks rest) ≡ Some (unplaced item, more) → item.1 + length (after_blanks rest) ≡ whole
    → BeginsAt whole (items ++ item ∷ []) text more
BeginsAt-push whole [] item text rest more b found place =
    let found' : first_item (after_blanks text) ≡ Some (unplaced item, more) = ap (λ (t : Bytes). first_item (after_blanks t)) b ∙ found in
    let place' : item.1 + length (after_blanks text) ≡ whole = ap (λ (t : Bytes). item.1 + length (after_blanks t)) b ∙ place in
    (more, found', place', refl)
BeginsAt-push whole (i ∷ is) item text rest more (next, first, at, b) found place =
    (next, first, at, BeginsAt-push whole is item next rest more b found place)

-- where nothing but blanks is left, that are all items of the text
pub LexAt-from_BeginsAt : (whole : ℕ) (items : List Placed) (text rest : Bytes) → BeginsAt whole items text rest
    → after_blanks rest ≡ [] → LexAt whole items text
LexAt-from_BeginsAt whole [] text rest b e = ap after_blanks b ∙ e
LexAt-from_BeginsAt whole (i ∷ is) text rest (next, first, at, b) e =
    (next, first, at, LexAt-from_BeginsAt whole is next rest b e)

pub Begins-from_BeginsAt : (whole : ℕ) (items : List Placed) (text rest : Bytes) → BeginsAt whole items text rest
    → Begins (map unplaced items) text rest
Begins-from_BeginsAt whole [] text rest b = b
Begins-from_BeginsAt whole (i ∷ is) text rest (next, first, at, b) =
    (next, first, Begins-from_BeginsAt whole is next rest b)

-- what stands behind the blanks at `end`, where these end at `at`
pub blanks_gone : (text : Bytes) (end at : ℕ) → at ≡ end + prefix_len is_blank (drop end text) → after_blanks (drop end text) ≡ drop at text
blanks_gone text end at e = drop-drop (prefix_len is_blank (drop end text)) end text ∙ ap (λ k. drop k text) (sym e)

pub nothing_left : (text : Bytes) (end at : ℕ) → at ≡ end + prefix_len is_blank (drop end text) → at ≡ length text
    → after_blanks (drop end text) ≡ []
nothing_left text end at e all = blanks_gone text end at e ∙ drop_all at text (omega arith)

pub begun_lexemes : (items : List Item) (text rest : Bytes) → BeginsAt (length text) (map placed items) text rest
    → Begins (map lexeme items) text rest
begun_lexemes items text rest b =
    let same : map unplaced (map placed items) ≡ map lexeme items = map-map unplaced placed items in
    subst (λ (is : Lexemes). Begins is text rest) same (Begins-from_BeginsAt (length text) (map placed items) text rest b)

-- the item from `at` to `next`, behind the blanks at `end`
pub begun_more : (items : List Item) (kind : ItemKind) (text : Bytes) (end at next : ℕ)
    → BeginsAt (length text) (map placed items) text (drop end text)
    → at ≡ end + prefix_len is_blank (drop end text) → at ≤ length text → Ends kind at next text
    → BeginsAt (length text) (map placed items ++ (kind, at, take (next - at) (drop at text)) ∷ []) text (drop next text)
begun_more items kind text end at next b e within item =
    let gone = blanks_gone text end at e in
    let size : at + length (drop at text) ≡ length text = omega (arith, length-drop at text) in
    BeginsAt-push (length text) (map placed items) (kind, at, take (next - at) (drop at text)) text (drop end text) (drop next text)
    b (rw gone item) (rw gone size)

pub slice_is : (text : Bytes) (at next : ℕ) → at < next → next ≤ length text
    → take (length (take (next - at) (drop at text))) (drop at text) ≡ take (next - at) (drop at text)
slice_is text at next h within =
    let size : length (take (next - at) (drop at text)) ≡ next - at = length-take-le (next - at) (drop at text) (omega (arith, length-drop at text)) in
    ap (λ k. take k (drop at text)) size
