-- Compact texts: what is passed over is a value of JSON, and the reader of tokens reads it as that.
use Rattle.std.proofs.Common.{◌≡◌, ℕ, ◌+◌, ◌-◌, ◌<◌, ◌≤◌, List, [], ◌∷◌, ◌++◌, length, take, get_or, codes, Bool, true, false, true≢false, is_some, Option, Some, None, option_map, option_and_then, Ok, refl, sym, ap, ◌∙◌, subst, arith, append_assoc, append-nil}
use Rattle.std.specs.Prelude.{IfSome}
use Rattle.std.proofs.lemmas.List.{take_more}
use Rattle.std.proofs.lemmas.Grind.{flat_map-append}
use Rattle.std.proofs.lemmas.Slice.Eq.{bytes_eq-Decides}
use Rattle.json.specs.Token.{Token}
use Rattle.json.specs.Json as json
use Rattle.json.specs.Json.{value, if_last}
use Rattle.json.specs.Lex.{tokens}
use Rattle.json.specs.Word.{after_number}
use Rattle.json.specs.Print.{print_from, quoted, escape, escape_byte, IsNumber}
use Rattle.json.specs.Tree.{json_tokens, items_tokens, members_tokens, HasNumbers}
use Rattle.json.proofs.Printed.Strings.{escape_byte_plain}
use Rattle.json.proofs.Printed.Tokens.{tokens-print}
use Rattle.json.proofs.Printed.Trees.{value-json_tokens, ArePrintable-json_tokens}
use Rattle.serde_json.specs.Data.{Data, Num, null, boolean, number, string, array, object, Items, no_items, item, Members, no_members, put}
use Rattle.serde_json.specs.Find.{get_member}
use Rattle.serde_json.specs.Read.{of_json, of_items, of_members, number_of, read}
use Rattle.serde_json.proofs.Views.{get_member-put, get_member-put_other}
use Rattle.caller_form.specs.declared.compact.Sort.{Sort}
use Rattle.caller_form.specs.declared.compact.Sort.TheVariants as sort
use Rattle.caller_form.specs.ReplyOf.{utf8_of, json_of, found_json, continues_of, error_of, parameters_of, reply_in, reply_of}
use Rattle.caller_form.specs.Compact.{IsPlain, text_of, items_text, members_text, HasPlain, ItemsHavePlain, MembersHavePlain, IsCompact, AreCompactItems, AreCompactMembers, IsWord, IsOfSort, TakesValue, TakesMember, TakesItems, TakesMembers, TakesReply, AreBare, TellsHead}

pub on_some : {A : Type 0} (r : Option A) (P Q : A → Type 0) → IfSome r P → ((a : A) → P a → Q a) → IfSome r Q
on_some None P Q is f = tt
on_some (Some a) P Q is f = f a is

pub nothing_left : (rest : List ℕ) → length rest ≡ 0 → rest ≡ []
nothing_left [] is = refl
nothing_left (x ∷ rest) is = absurd (omega (arith, is))

-- ---- one value

pub plain_more : (text : List ℕ) (end : ℕ) → end < length text → (get_or text end 0 ≡ 34 → ⊥) → (get_or text end 0 ≡ 92 → ⊥) → 32 ≤ get_or text end 0 →
    IsPlain (take end text) → IsPlain (take (end + 1) text)
plain_more text end within q b l is =
    let longer = take_more text end 0 within in
    ap escape longer
    ∙ flat_map-append escape_byte (take end text) (get_or text end 0 ∷ [])
    ∙ ap (λ s. s ++ escape (get_or text end 0 ∷ [])) is
    ∙ ap (λ x. take end text ++ (x ++ [])) (escape_byte_plain (get_or text end 0) q b l)
    ∙ sym longer

pub string_takes : (text s rest : List ℕ) → text ≡ 34 ∷ (s ++ 34 ∷ rest) → IsPlain s → TakesValue 0 text sort.Text rest
string_takes text s rest front is = record {
  j = json.string s;
  tree = string s;
  front = front ∙ ap (λ (l : List ℕ). 34 ∷ l) (sym (append_assoc s (34 ∷ []) rest));
  compact = record { numbers = tt; plain = is; shallow = omega arith; reads = refl };
  sort = tt;
}

pub array_takes : (most : ℕ) (text inside rest : List ℕ) → text ≡ 91 ∷ inside → 0 < most → TakesItems (most - 1) inside rest → TakesValue most text sort.Other rest
array_takes most text inside rest opens some t = record {
  j = json.array t.js;
  tree = array t.trees;
  front = opens ∙ t.front;
  compact = record { numbers = t.compact.numbers; plain = t.compact.plain; shallow = omega (arith, t.compact.shallow); reads = ap (option_map array) t.compact.reads };
  sort = tt;
}

pub object_takes : (most : ℕ) (text inside rest : List ℕ) → text ≡ 123 ∷ inside → 0 < most → TakesMembers (most - 1) inside rest → TakesValue most text sort.Object rest
object_takes most text inside rest opens some t =
    let after = t.compact no_members in
    record {
      j = json.object t.ms;
      tree = object after.0;
      front = opens ∙ t.front;
      compact = record { numbers = after.1.numbers; plain = after.1.plain; shallow = omega (arith, after.1.shallow); reads = ap (option_map object) after.1.reads };
      sort = refl;
    }

pub word_takes : (found : Sort) (text word rest : List ℕ) → IsWord found word → text ≡ word ++ rest → TakesValue 0 text found rest
word_takes sort.Null text word rest is front = record {
  j = json.null;
  tree = null;
  front = front ∙ ap (λ w. w ++ rest) is;
  compact = record { numbers = tt; plain = tt; shallow = omega arith; reads = refl };
  sort = refl;
}
word_takes sort.True text word rest is front = record {
  j = json.boolean true;
  tree = boolean true;
  front = front ∙ ap (λ w. w ++ rest) is;
  compact = record { numbers = tt; plain = tt; shallow = omega arith; reads = refl };
  sort = refl;
}
word_takes sort.False text word rest is front = record {
  j = json.boolean false;
  tree = boolean false;
  front = front ∙ ap (λ w. w ++ rest) is;
  compact = record { numbers = tt; plain = tt; shallow = omega arith; reads = refl };
  sort = refl;
}
word_takes sort.Text text word rest is front = absurd is
word_takes sort.Object text word rest is front = absurd is
word_takes sort.Other text word rest is front = absurd is

pub word_some : (found : Sort) (word : List ℕ) → IsWord found word → 0 < length word
word_some sort.Null word is = omega (arith, ap length is)
word_some sort.True word is = omega (arith, ap length is)
word_some sort.False word is = omega (arith, ap length is)
word_some sort.Text word is = absurd is
word_some sort.Object word is = absurd is
word_some sort.Other word is = absurd is

found_number : (there : Option Num) → is_some there ≡ true → (n : Num) × (there ≡ Some n)
found_number None is = absurd cc
found_number (Some n) is = (n, refl)

pub number_takes : (text s rest : List ℕ) → text ≡ s ++ rest → IsNumber s → is_some (number_of s) ≡ true → TakesValue 0 text sort.Other rest
number_takes text s rest front is ranged =
    let n = found_number (number_of s) ranged in
    record {
      j = json.number s;
      tree = number n.0;
      front = front;
      compact = record { numbers = is; plain = tt; shallow = omega arith; reads = ap (option_map number) n.1 };
      sort = tt;
    }

pub number_some : (s : List ℕ) → IsNumber s → 0 < length s
unfolding after_number
number_some [] is = absurd cc
number_some (x ∷ s) is = omega arith

-- ---- items

no_more_items : (most : ℕ) → AreCompactItems most json.no_items no_items
no_more_items most = record { numbers = tt; plain = tt; shallow = omega arith; reads = refl }

pub no_items_take : (most : ℕ) (text rest : List ℕ) → text ≡ 93 ∷ rest → TakesItems most text rest
no_items_take most text rest is = record { js = json.no_items; trees = no_items; front = ap (λ (l : List ℕ). 91 ∷ l) is; compact = no_more_items most }

items_more : (most : ℕ) (j : json.Json) (tree : Data) (js : json.Items) (trees : Items) → IsCompact most j tree → AreCompactItems most js trees →
    AreCompactItems most (json.item j js) (item tree trees)
items_more most j tree js trees one are = record {
  numbers = (one.numbers, are.numbers);
  plain = (one.plain, are.plain);
  shallow = omega (arith, one.shallow, are.shallow);
  reads = ap (option_and_then (λ d. option_map (item d) (of_items js))) one.reads ∙ ap (option_map (item tree)) are.reads;
}

behind_value : (text front left more rest : List ℕ) → text ≡ front ++ left → left ≡ more ++ rest → text ≡ (front ++ more) ++ rest
behind_value text front left more rest is on = is ∙ ap (λ (l : List ℕ). front ++ l) on ∙ sym (append_assoc front more rest)

abbrev pub CompletesItems : ℕ → List ℕ → List ℕ → Type 0
CompletesItems most text left =
    (more : json.Items) (trees : Items) (rest : List ℕ) → left ≡ items_text more ++ rest → AreCompactItems most more trees → TakesItems most text rest

pub first_item : (most : ℕ) (text left : List ℕ) (found : Sort) → TakesValue most text found left → CompletesItems most text left
first_item most text left found t more trees rest is are = record {
  js = json.item t.j more;
  trees = item t.tree trees;
  front = ap (λ (l : List ℕ). 91 ∷ l) (behind_value text (text_of t.j) left (items_text more) rest t.front is);
  compact = items_more most t.j t.tree more trees t.compact are;
}

pub next_item : (most : ℕ) (text left next after : List ℕ) (found : Sort) → left ≡ 44 ∷ next → TakesValue most next found after → CompletesItems most text left →
    CompletesItems most text after
next_item most text left next after found comma t completes more trees rest is are =
    completes (json.item t.j more) (item t.tree trees) rest
    (comma ∙ ap (λ (l : List ℕ). 44 ∷ l) (behind_value next (text_of t.j) after (items_text more) rest t.front is))
    (items_more most t.j t.tree more trees t.compact are)

pub all_items : (most : ℕ) (text left rest : List ℕ) → left ≡ 93 ∷ rest → CompletesItems most text left → TakesItems most text rest
all_items most text left rest is completes = completes json.no_items no_items rest is (no_more_items most)

-- ---- members

no_more_members : (most : ℕ) (before : Members) → AreCompactMembers most json.no_members before before
no_more_members most before = record { numbers = tt; plain = tt; shallow = omega arith; reads = refl }

pub no_members_take : (most : ℕ) (text rest : List ℕ) → text ≡ 125 ∷ rest → TakesMembers most text rest
no_members_take most text rest is =
    record { ms = json.no_members; front = ap (λ (l : List ℕ). 123 ∷ l) is; compact = λ before. (before, no_more_members most before) }

members_more : (most : ℕ) (key : List ℕ) (j : json.Json) (tree : Data) (ms : json.Members) (before after : Members) → IsPlain key → IsCompact most j tree →
    AreCompactMembers most ms (put key tree before) after → AreCompactMembers most (json.member key j ms) before after
members_more most key j tree ms before after is one are = record {
  numbers = (one.numbers, are.numbers);
  plain = (is, one.plain, are.plain);
  shallow = omega (arith, one.shallow, are.shallow);
  reads = ap (option_and_then (λ d. of_members ms (put key d before))) one.reads ∙ are.reads;
}

behind_member : (text key front left more rest : List ℕ) → text ≡ 34 ∷ (key ++ 34 ∷ 58 ∷ (front ++ left)) → left ≡ more ++ rest →
    text ≡ (34 ∷ (key ++ 34 ∷ 58 ∷ (front ++ more))) ++ rest
behind_member text key front left more rest is on =
    is
    ∙ ap (λ (l : List ℕ). 34 ∷ (key ++ 34 ∷ 58 ∷ l)) (ap (λ (l : List ℕ). front ++ l) on ∙ sym (append_assoc front more rest))
    ∙ ap (λ (l : List ℕ). 34 ∷ l) (sym (append_assoc key (34 ∷ 58 ∷ (front ++ more)) rest))

abbrev pub CompletesMembers : ℕ → List ℕ → List ℕ → Type 0
CompletesMembers most text left =
    (more : json.Members) (rest : List ℕ) → left ≡ members_text more ++ rest → ((before : Members) → (after : Members) × AreCompactMembers most more before after) →
    TakesMembers most text rest

pub first_member : (most : ℕ) (text name left : List ℕ) (found : Sort) → TakesMember most text name found left → CompletesMembers most text left
first_member most text name left found t more rest is are = record {
  ms = json.member name t.j more;
  front = ap (λ (l : List ℕ). 123 ∷ l) (behind_member text name (text_of t.j) left (members_text more) rest t.front is);
  compact = λ before.
      let after = are (put name t.tree before) in
      (after.0, members_more most name t.j t.tree more before after.0 t.is_plain t.compact after.1);
}

pub next_member : (most : ℕ) (text left next name after : List ℕ) (found : Sort) → left ≡ 44 ∷ next → TakesMember most next name found after →
    CompletesMembers most text left → CompletesMembers most text after
next_member most text left next name after found comma t completes more rest is are =
    completes (json.member name t.j more) rest
    (comma ∙ ap (λ (l : List ℕ). 44 ∷ l) (behind_member next name (text_of t.j) after (members_text more) rest t.front is))
    (λ before.
    let end = are (put name t.tree before) in
    (end.0, members_more most name t.j t.tree more before end.0 t.is_plain t.compact end.1))

pub all_members : (most : ℕ) (text left rest : List ℕ) → left ≡ 125 ∷ rest → CompletesMembers most text left → TakesMembers most text rest
all_members most text left rest is completes = completes json.no_members rest is (λ before. (before, no_more_members most before))

-- ---- what is written compactly is what a writer of tokens prints

comma : (j : json.Json) (ts : List Token) → print_from true (json_tokens j ++ ts) ≡ 44 ∷ print_from false (json_tokens j ++ ts)
unfolding print_from
comma json.null ts = refl
comma (json.boolean b) ts = refl
comma (json.number s) ts = refl
comma (json.string s) ts = refl
comma (json.array js) ts = refl
comma (json.object ms) ts = refl

quoted_printed : (s on : List ℕ) → IsPlain s → quoted s ++ on ≡ (34 ∷ (s ++ 34 ∷ [])) ++ on
quoted_printed s on is = ap (λ (e : List ℕ). (34 ∷ (e ++ 34 ∷ [])) ++ on) is

key_printed : (key on : List ℕ) → IsPlain key → (quoted key ++ 58 ∷ []) ++ on ≡ 34 ∷ (key ++ 34 ∷ 58 ∷ on)
key_printed key on is =
    ap (λ (e : List ℕ). ((34 ∷ (e ++ 34 ∷ [])) ++ 58 ∷ []) ++ on) is
    ∙ ap (λ (l : List ℕ). 34 ∷ l) (ap (λ (l : List ℕ). l ++ on) (append_assoc key (34 ∷ []) (58 ∷ [])) ∙ append_assoc key (34 ∷ 58 ∷ []) on)

member_printed : (key front on text : List ℕ) → IsPlain key → text ≡ front ++ on →
    (quoted key ++ 58 ∷ []) ++ text ≡ (34 ∷ (key ++ 34 ∷ 58 ∷ front)) ++ on
member_printed key front on text plain is =
    key_printed key text plain
    ∙ ap (λ (l : List ℕ). 34 ∷ (key ++ 34 ∷ 58 ∷ l)) is
    ∙ ap (λ (l : List ℕ). 34 ∷ l) (sym (append_assoc key (34 ∷ 58 ∷ front) on))

mutual
  unfolding print_from

  printed : (j : json.Json) (ts : List Token) → HasPlain j → print_from false (json_tokens j ++ ts) ≡ text_of j ++ print_from true ts
  printed json.null ts is = refl
  printed (json.boolean true) ts is = refl
  printed (json.boolean false) ts is = refl
  printed (json.number s) ts is = refl
  printed (json.string s) ts is = quoted_printed s (print_from true ts) is
  printed (json.array json.no_items) ts is = refl
  printed (json.array (json.item j js)) ts is =
      ap (λ (l : List ℕ). 91 ∷ l)
      (ap (print_from false) (append_assoc (json_tokens j) (items_tokens js) ts)
      ∙ printed j (items_tokens js ++ ts) is.0
      ∙ ap (λ (l : List ℕ). text_of j ++ l) (items_printed js ts is.1)
      ∙ sym (append_assoc (text_of j) (items_text js) (print_from true ts)))
  printed (json.object json.no_members) ts is = refl
  printed (json.object (json.member key j ms)) ts is =
      ap (λ (l : List ℕ). 123 ∷ l)
      (member_printed key (text_of j ++ members_text ms) (print_from true ts) (print_from false ((json_tokens j ++ members_tokens ms) ++ ts)) is.0
      (ap (print_from false) (append_assoc (json_tokens j) (members_tokens ms) ts)
      ∙ printed j (members_tokens ms ++ ts) is.1
      ∙ ap (λ (l : List ℕ). text_of j ++ l) (members_printed ms ts is.2)
      ∙ sym (append_assoc (text_of j) (members_text ms) (print_from true ts))))

  items_printed : (js : json.Items) (ts : List Token) → ItemsHavePlain js → print_from true (items_tokens js ++ ts) ≡ items_text js ++ print_from true ts
  items_printed json.no_items ts is = refl
  items_printed (json.item j js) ts is =
      ap (print_from true) (append_assoc (json_tokens j) (items_tokens js) ts)
      ∙ comma j (items_tokens js ++ ts)
      ∙ ap (λ (l : List ℕ). 44 ∷ l)
      (printed j (items_tokens js ++ ts) is.0
      ∙ ap (λ (l : List ℕ). text_of j ++ l) (items_printed js ts is.1)
      ∙ sym (append_assoc (text_of j) (items_text js) (print_from true ts)))

  members_printed : (ms : json.Members) (ts : List Token) → MembersHavePlain ms → print_from true (members_tokens ms ++ ts) ≡ members_text ms ++ print_from true ts
  members_printed json.no_members ts is = refl
  members_printed (json.member key j ms) ts is =
      ap (λ (l : List ℕ). 44 ∷ l)
      (member_printed key (text_of j ++ members_text ms) (print_from true ts) (print_from false ((json_tokens j ++ members_tokens ms) ++ ts)) is.0
      (ap (print_from false) (append_assoc (json_tokens j) (members_tokens ms) ts)
      ∙ printed j (members_tokens ms ++ ts) is.1
      ∙ ap (λ (l : List ℕ). text_of j ++ l) (members_printed ms ts is.2)
      ∙ sym (append_assoc (text_of j) (members_text ms) (print_from true ts))))

compact_text : (j : json.Json) → HasPlain j → text_of j ≡ print_from false (json_tokens j)
unfolding print_from
compact_text j is = sym (append-nil (text_of j)) ∙ sym (printed j [] is) ∙ ap (print_from false) (append-nil (json_tokens j))

compact_tokens : (j : json.Json) → HasNumbers j → HasPlain j → tokens (text_of j) ≡ json_tokens j ++ []
compact_tokens j numbers is =
    ap tokens (compact_text j is) ∙ tokens-print (json_tokens j) (ArePrintable-json_tokens j numbers) ∙ sym (append-nil (json_tokens j))

compact_read : (j : json.Json) (tree : Data) → IsCompact 127 j tree → read (text_of j) ≡ Some tree
compact_read j tree is =
    ap (option_and_then of_json)
    (ap (option_and_then (λ p. if_last p.0 p.1)) (ap (value 127) (compact_tokens j is.numbers is.plain) ∙ value-json_tokens j 127 [] is.shallow))
    ∙ is.reads

pub tells_head : (text inside : List ℕ) (continues : Bool) → text ≡ 123 ∷ inside → TakesReply 126 inside continues [] → TellsHead text continues
unfolding reply_in
tells_head text inside continues opens t =
    let whole : text ≡ text_of (json.object t.ms) = opens ∙ t.front ∙ append-nil (text_of (json.object t.ms)) in
    let compact : IsCompact 127 (json.object t.ms) (object t.trees) = record {
      numbers = t.compact.numbers;
      plain = t.compact.plain;
      shallow = omega (arith, t.compact.shallow);
      reads = ap (option_map object) t.compact.reads;
    } in
    (t.trees, ap json_of whole ∙ ap found_json (compact_read (json.object t.ms) (object t.trees) compact), rw (t.bare.follows, t.bare.no_error, t.bare.given.1))

pub reply_told : (payload : List ℕ) (ms : Members) → utf8_of payload ≡ Ok payload → json_of payload ≡ Ok (object ms) → reply_of payload ≡ reply_in (object ms)
unfolding reply_of
reply_told payload ms utf8 json = rw (utf8, json)

-- ---- the members of a reply without an error

none_bare : AreBare false no_members
none_bare = record { follows = refl; no_error = refl; given = (object no_members, refl) }

pub none_take : (most : ℕ) (text rest : List ℕ) → text ≡ 125 ∷ rest → TakesReply most text false rest
none_take most text rest is = record {
  ms = json.no_members;
  trees = no_members;
  front = ap (λ (l : List ℕ). 123 ∷ l) is;
  compact = no_more_members most no_members;
  bare = none_bare;
}

module _ (name : List ℕ) (tree : Data) (ms : Members) (before : Bool) (are : AreBare before ms) where
  placed : (there : List ℕ) → name ≡ there → get_member there (put name tree ms) ≡ Some tree
  placed there same = subst (λ (n : List ℕ). get_member n (put name tree ms) ≡ Some tree) same (get_member-put name tree ms)

  stays : (there : List ℕ) → (there ≡ name → ⊥) → get_member there (put name tree ms) ≡ get_member there ms
  stays there other = get_member-put_other there name tree ms other

  pub bare_continues : (after : Bool) → name ≡ codes "continues" → continues_of (Some tree) ≡ Ok after → AreBare after (put name tree ms)
  bare_continues after same is = record {
    follows = ap continues_of (placed (codes "continues") same) ∙ is;
    no_error = ap error_of (stays (codes "error") (λ e. true≢false (sym ((bytes_eq-Decides (codes "error") (codes "continues")).1 (e ∙ same))))) ∙ are.no_error;
    given = (are.given.0, ap parameters_of (stays (codes "parameters") (λ e. true≢false (sym ((bytes_eq-Decides (codes "parameters") (codes "continues")).1 (e ∙ same))))) ∙ are.given.1);
  }

  pub bare_error : name ≡ codes "error" → error_of (Some tree) ≡ Ok None → AreBare before (put name tree ms)
  bare_error same is = record {
    follows = ap continues_of (stays (codes "continues") (λ e. true≢false (sym ((bytes_eq-Decides (codes "continues") (codes "error")).1 (e ∙ same))))) ∙ are.follows;
    no_error = ap error_of (placed (codes "error") same) ∙ is;
    given = (are.given.0, ap parameters_of (stays (codes "parameters") (λ e. true≢false (sym ((bytes_eq-Decides (codes "parameters") (codes "error")).1 (e ∙ same))))) ∙ are.given.1);
  }

  pub bare_parameters : name ≡ codes "parameters" → (parameters : Data) × (parameters_of (Some tree) ≡ Ok parameters) → AreBare before (put name tree ms)
  bare_parameters same is = record {
    follows = ap continues_of (stays (codes "continues") (λ e. true≢false (sym ((bytes_eq-Decides (codes "continues") (codes "parameters")).1 (e ∙ same))))) ∙ are.follows;
    no_error = ap error_of (stays (codes "error") (λ e. true≢false (sym ((bytes_eq-Decides (codes "error") (codes "parameters")).1 (e ∙ same))))) ∙ are.no_error;
    given = (is.0, ap parameters_of (placed (codes "parameters") same) ∙ is.1);
  }

  pub bare_other : (name ≡ codes "continues" → ⊥) → (name ≡ codes "error" → ⊥) → (name ≡ codes "parameters" → ⊥) → AreBare before (put name tree ms)
  bare_other a b d = record {
    follows = ap continues_of (stays (codes "continues") (λ e. a (sym e))) ∙ are.follows;
    no_error = ap error_of (stays (codes "error") (λ e. b (sym e))) ∙ are.no_error;
    given = (are.given.0, ap parameters_of (stays (codes "parameters") (λ e. d (sym e))) ∙ are.given.1);
  }

-- what an object or null gives as parameters
pub null_given : (tree : Data) → tree ≡ null → (parameters : Data) × (parameters_of (Some tree) ≡ Ok parameters)
null_given tree is = (object no_members, ap (λ (d : Data). parameters_of (Some d)) is)

-- what completes the members before, completes all
abbrev pub Completes : ℕ → List ℕ → List ℕ → Members → Type 0
Completes most text left before =
    (more : json.Members) (after : Members) (rest : List ℕ) → left ≡ members_text more ++ rest → AreCompactMembers most more before after →
    (ms : json.Members) × (123 ∷ text ≡ text_of (json.object ms) ++ rest) × AreCompactMembers most ms no_members after

pub first_bare : (most : ℕ) (text name left : List ℕ) (found : Sort) (t : TakesMember most text name found left) (continues : Bool) →
    ((ms : Members) (tree : Data) → AreBare false ms → IsOfSort found tree → AreBare continues (put name tree ms)) → AreBare continues (put name t.tree no_members)
first_bare most text name left found t continues more = more no_members t.tree none_bare t.sort

pub first_completes : (most : ℕ) (text name left : List ℕ) (found : Sort) (t : TakesMember most text name found left) → Completes most text left (put name t.tree no_members)
first_completes most text name left found t more after rest is are = (
  json.member name t.j more,
  ap (λ (l : List ℕ). 123 ∷ l) (behind_member text name (text_of t.j) left (members_text more) rest t.front is),
  members_more most name t.j t.tree more no_members after t.is_plain t.compact are,
)

pub next_completes : (most : ℕ) (text left next name after : List ℕ) (found : Sort) (before : Members) → left ≡ 44 ∷ next → (t : TakesMember most next name found after) →
    Completes most text left before → Completes most text after (put name t.tree before)
next_completes most text left next name after found before comma t completes more end rest is are =
    completes (json.member name t.j more) end rest
    (comma ∙ ap (λ (l : List ℕ). 44 ∷ l) (behind_member next name (text_of t.j) after (members_text more) rest t.front is))
    (members_more most name t.j t.tree more before end t.is_plain t.compact are)

pub all_taken : (most : ℕ) (text left rest : List ℕ) (continues : Bool) (before : Members) → left ≡ 125 ∷ rest → Completes most text left before → AreBare continues before →
    TakesReply most text continues rest
all_taken most text left rest continues before is completes are =
    let done = completes json.no_members before rest is (no_more_members most before) in
    record { ms = done.0; trees = before; front = done.1; compact = done.2; bare = are }
