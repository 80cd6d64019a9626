-- The compact text of a sound tree reads back as it.
use Rattle.std.proofs.Common.{◌≡◌, ℕ, suc, ◌<◌, ◌≤◌, pos, negsuc, List, [], ◌∷◌, Some, decimal, refl, sym, ap, ◌∙◌, arith, append-nil, option_and_then, option_map, ne_eqb}
use Rattle.std.specs.Prelude.{⊤, slice_index, Option}
use Rattle.json.specs.Token.{Token}
use Rattle.std.proofs.lemmas.Fmt.{first_decimal}
use Rattle.json.specs.Json as json
use Rattle.json.specs.Lex.{tokens}
use Rattle.json.specs.Print.{IsNumber}
use Rattle.json.specs.Tree as tree
use Rattle.json.specs.Word.{after_number}
use Rattle.json.proofs.Printed.Decimals.{IsNumber-decimal}
use Rattle.json.proofs.Printed.Tokens.{tokens-print}
use Rattle.json.proofs.Printed.Trees.{value-json_tokens, ArePrintable-json_tokens}
use Rattle.serde_json.specs.Data.{Num, unsigned, negative, float, Data, null, boolean, number, string, array, object}
use Rattle.serde_json.specs.Data.{Items, no_items, item, Members, no_members, member, put, depth, items_depth, members_depth}
use Rattle.serde_json.specs.Read.{read, number_of, of_json, of_items, of_members, max_depth}
use Rattle.serde_json.specs.Written.{number_text, outline, items_outline, members_outline, compact_text}
use Rattle.serde_json.proofs.Numbers.{number_of-decimal, number_of-negative}
use Rattle.serde_json.proofs.Texts.{print-outline}
use Rattle.link_port.specs.SoundTrees.{IsWhole, AreBehind, IsSound, AreSoundItems, AreSoundMembers}

-- ---- numbers

number_back : (n : Num) → IsWhole n → number_of (number_text n) ≡ Some n
number_back (unsigned n) h = number_of-decimal n h
number_back (negative (pos n)) h = absurd h
number_back (negative (negsuc n)) h = number_of-negative n h
number_back (float x) h = absurd h

-- digits behind a minus are a number where they are one without it
behind_minus : (ds : List ℕ) → 48 < slice_index ds 0 → IsNumber ds → IsNumber (45 ∷ ds)
unfolding after_number
behind_minus [] first h = absurd (omega arith)
behind_minus (d ∷ ds) first h = rw (ne_eqb d 45 (λ e. omega arith)) at h

is_number : (n : Num) → IsWhole n → IsNumber (number_text n)
is_number (unsigned n) h = IsNumber-decimal n h
is_number (negative (pos n)) h = absurd h
is_number (negative (negsuc n)) h =
    behind_minus (decimal (suc n)) (first_decimal (suc n) (omega arith) (omega arith)) (IsNumber-decimal (suc n) (omega arith))
is_number (float x) h = absurd h

-- ---- members are put behind those that were read

abbrev joined : Members → Members → Members
joined no_members later = later
joined (member key tree members) later = member key tree (joined members later)

-- each key of the later ones is behind each of the earlier ones
abbrev Follow : Members → Members → Type 0
Follow no_members later = ⊤
Follow (member key tree members) later = AreBehind key later × Follow members later

put_behind : (found : Members) (key : List ℕ) (tree : Data) (later : Members) → Follow found (member key tree later)
    → put key tree found ≡ joined found (member key tree no_members)
put_behind no_members key tree later follow = refl
put_behind (member first other found) key tree later follow =
    rw follow.0.0 (ap (member first other) (put_behind found key tree later follow.1))

follow_more : (found : Members) (key : List ℕ) (tree : Data) (later : Members) → Follow found (member key tree later) → AreBehind key later
    → Follow (joined found (member key tree no_members)) later
follow_more no_members key tree later follow behind = (behind, tt)
follow_more (member first other found) key tree later follow behind =
    (follow.0.1, follow_more found key tree later follow.1 behind)

joined_more : (found : Members) (key : List ℕ) (tree : Data) (later : Members)
    → joined (joined found (member key tree no_members)) later ≡ joined found (member key tree later)
joined_more no_members key tree later = refl
joined_more (member first other found) key tree later = ap (member first other) (joined_more found key tree later)

joined_none : (found : Members) → found ≡ joined found no_members
joined_none no_members = refl
joined_none (member key tree found) = ap (member key tree) (joined_none found)

-- ---- the tree of a tree's outline

mutual
  of_outline : (d : Data) → IsSound d → of_json (outline d) ≡ Some d
  of_outline null h = refl
  of_outline (boolean b) h = refl
  of_outline (number n) h = ap (option_map number) (number_back n h)
  of_outline (string s) h = refl
  of_outline (array ds) h = ap (option_map array) (of_items_outline ds h)
  of_outline (object ms) h = ap (option_map object) (of_members_outline ms no_members h tt)

  of_items_outline : (ds : Items) → AreSoundItems ds → of_items (items_outline ds) ≡ Some ds
  of_items_outline no_items h = refl
  of_items_outline (item d ds) h = rw (of_outline d h.0, of_items_outline ds h.1) refl

  of_members_outline : (ms found : Members) → AreSoundMembers ms → Follow found ms
      → of_members (members_outline ms) found ≡ Some (joined found ms)
  of_members_outline no_members found h follow = ap Some (joined_none found)
  of_members_outline (member k d ms) found h follow =
      ap (option_and_then (λ t. of_members (members_outline ms) (put k t found))) (of_outline d h.1)
      ∙ ap (of_members (members_outline ms)) (put_behind found k d ms follow)
      ∙ of_members_outline ms (joined found (member k d no_members)) h.2 (follow_more found k d ms follow h.0)
      ∙ ap Some (joined_more found k d ms)

mutual
  numbers : (d : Data) → IsSound d → tree.HasNumbers (outline d)
  numbers null h = tt
  numbers (boolean b) h = tt
  numbers (number n) h = is_number n h
  numbers (string s) h = tt
  numbers (array ds) h = items_numbers ds h
  numbers (object ms) h = members_numbers ms h

  items_numbers : (ds : Items) → AreSoundItems ds → tree.ItemsHaveNumbers (items_outline ds)
  items_numbers no_items h = tt
  items_numbers (item d ds) h = (numbers d h.0, items_numbers ds h.1)

  members_numbers : (ms : Members) → AreSoundMembers ms → tree.MembersHaveNumbers (members_outline ms)
  members_numbers no_members h = tt
  members_numbers (member k d ms) h = (numbers d h.1, members_numbers ms h.2)

mutual
  outline_depth : (d : Data) → tree.depth (outline d) ≡ depth d
  outline_depth null = refl
  outline_depth (boolean b) = refl
  outline_depth (number n) = refl
  outline_depth (string s) = refl
  outline_depth (array ds) = ap suc (items_outline_depth ds)
  outline_depth (object ms) = ap suc (members_outline_depth ms)

  items_outline_depth : (ds : Items) → tree.items_depth (items_outline ds) ≡ items_depth ds
  items_outline_depth no_items = refl
  items_outline_depth (item d ds) = rw (outline_depth d, items_outline_depth ds) refl

  members_outline_depth : (ms : Members) → tree.members_depth (members_outline ms) ≡ members_depth ms
  members_outline_depth no_members = refl
  members_outline_depth (member k d ms) = rw (outline_depth d, members_outline_depth ms) refl

abbrev whole : Option (json.Json × List Token) → Option Data
whole read = option_and_then of_json (option_and_then (λ p. json.if_last p.0 p.1) read)

pub trees_read_back : (d : Data) → IsSound d → depth d ≤ max_depth → read (compact_text d) ≡ Some d
trees_read_back d sound shallow =
    let ts = tree.json_tokens (outline d) in
    let text : tokens (compact_text d) ≡ ts =
    ap tokens (sym (print-outline d)) ∙ tokens-print ts (ArePrintable-json_tokens (outline d) (numbers d sound)) in
    let enough : tree.depth (outline d) ≤ max_depth = omega (arith, outline_depth d) in
    ap whole (ap (json.value max_depth) (text ∙ sym (append-nil ts)) ∙ value-json_tokens (outline d) max_depth [] enough)
    ∙ of_outline d sound
