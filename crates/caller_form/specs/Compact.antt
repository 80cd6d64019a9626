-- JSON values written compactly, with strings that have no escapes (RFC 8259, 2 "JSON Grammar"): no byte stands between
-- the tokens but commas and colons.
use Rattle.std.specs.Prelude.{◌≡◌, ℕ, ◌≤◌, List, [], ◌∷◌, ◌++◌, Bool, true, false, codes, Some, None, Ok, ⊤}
use Rattle.json.specs.Json as json
use Rattle.json.specs.Print.{escape}
use Rattle.json.specs.Tree.{depth, items_depth, members_depth, HasNumbers, ItemsHaveNumbers, MembersHaveNumbers}
use Rattle.serde_json.specs.Data.{Data, null, boolean, object, Items, Members, no_members}
use Rattle.serde_json.specs.Find.{get_member}
use Rattle.serde_json.specs.Read.{of_json, of_items, of_members}
use Rattle.call_form.specs.CallOf.{IsObject}
use Rattle.caller_form.specs.Kinds.{IsOther}
use Rattle.caller_form.specs.ReplyOf.{continues_of, error_of, parameters_of, json_of, reply_in}
use Rattle.caller_form.specs.HeadOf.{head_or_fault}
use Rattle.caller_form.specs.declared.compact.Sort.{Sort}
use Rattle.caller_form.specs.declared.compact.Sort.TheVariants as sort

-- a string that is written without escapes
abbrev pub IsPlain : List ℕ → Type 0
IsPlain s = escape s ≡ s

abbrev mutual
  pub text_of : json.Json → List ℕ
  text_of json.null = 110 ∷ 117 ∷ 108 ∷ 108 ∷ []
  text_of (json.boolean true) = 116 ∷ 114 ∷ 117 ∷ 101 ∷ []
  text_of (json.boolean false) = 102 ∷ 97 ∷ 108 ∷ 115 ∷ 101 ∷ []
  text_of (json.number s) = s
  text_of (json.string s) = 34 ∷ (s ++ 34 ∷ [])
  text_of (json.array json.no_items) = 91 ∷ 93 ∷ []
  text_of (json.array (json.item j js)) = 91 ∷ (text_of j ++ items_text js)
  text_of (json.object json.no_members) = 123 ∷ 125 ∷ []
  text_of (json.object (json.member key j ms)) = 123 ∷ 34 ∷ (key ++ 34 ∷ 58 ∷ (text_of j ++ members_text ms))

  -- what stands behind an item
  pub items_text : json.Items → List ℕ
  items_text json.no_items = 93 ∷ []
  items_text (json.item j js) = 44 ∷ (text_of j ++ items_text js)

  -- what stands behind a member
  pub members_text : json.Members → List ℕ
  members_text json.no_members = 125 ∷ []
  members_text (json.member key j ms) = 44 ∷ 34 ∷ (key ++ 34 ∷ 58 ∷ (text_of j ++ members_text ms))

-- no string and no key needs an escape
abbrev mutual
  pub HasPlain : json.Json → Type 0
  HasPlain json.null = ⊤
  HasPlain (json.boolean b) = ⊤
  HasPlain (json.number s) = ⊤
  HasPlain (json.string s) = IsPlain s
  HasPlain (json.array js) = ItemsHavePlain js
  HasPlain (json.object ms) = MembersHavePlain ms

  pub ItemsHavePlain : json.Items → Type 0
  ItemsHavePlain json.no_items = ⊤
  ItemsHavePlain (json.item j js) = HasPlain j × ItemsHavePlain js

  pub MembersHavePlain : json.Members → Type 0
  MembersHavePlain json.no_members = ⊤
  MembersHavePlain (json.member key j ms) = IsPlain key × HasPlain j × MembersHavePlain ms

-- the value can be written so, nests so deep at most, and is this tree
pub record IsCompact (most : ℕ) (j : json.Json) (tree : Data) : Type 0 where
  pub numbers : HasNumbers j
  pub plain : HasPlain j
  pub shallow : depth j ≤ most
  pub reads : of_json j ≡ Some tree

pub record AreCompactItems (most : ℕ) (js : json.Items) (trees : Items) : Type 0 where
  pub numbers : ItemsHaveNumbers js
  pub plain : ItemsHavePlain js
  pub shallow : items_depth js ≤ most
  pub reads : of_items js ≡ Some trees

-- behind the members found before
pub record AreCompactMembers (most : ℕ) (ms : json.Members) (before after : Members) : Type 0 where
  pub numbers : MembersHaveNumbers ms
  pub plain : MembersHavePlain ms
  pub shallow : members_depth ms ≤ most
  pub reads : of_members ms before ≡ Some after

-- the word that a value of this sort is written as, if its sort tells it
abbrev pub IsWord : Sort → List ℕ → Type 0
IsWord sort.Null word = word ≡ 110 ∷ 117 ∷ 108 ∷ 108 ∷ []
IsWord sort.True word = word ≡ 116 ∷ 114 ∷ 117 ∷ 101 ∷ []
IsWord sort.False word = word ≡ 102 ∷ 97 ∷ 108 ∷ 115 ∷ 101 ∷ []
IsWord _ word = ⊥

-- of a string nothing is told
abbrev pub IsOfSort : Sort → Data → Type 0
IsOfSort sort.Null tree = tree ≡ null
IsOfSort sort.True tree = tree ≡ boolean true
IsOfSort sort.False tree = tree ≡ boolean false
IsOfSort sort.Text tree = ⊤
IsOfSort sort.Object tree = IsObject tree
IsOfSort sort.Other tree = IsOther tree

-- a compact value stands at the front of the text, and this behind it
pub record TakesValue (most : ℕ) (text : List ℕ) (found : Sort) (rest : List ℕ) : Type 0 where
  pub j : json.Json
  pub tree : Data
  pub front : text ≡ text_of j ++ rest
  pub compact : IsCompact most j tree
  pub sort : IsOfSort found tree

-- a member
pub record TakesMember (most : ℕ) (text name : List ℕ) (found : Sort) (rest : List ℕ) : Type 0 where
  pub j : json.Json
  pub tree : Data
  pub front : text ≡ 34 ∷ (name ++ 34 ∷ 58 ∷ (text_of j ++ rest))
  pub is_plain : IsPlain name
  pub compact : IsCompact most j tree
  pub sort : IsOfSort found tree

-- the items of an array that was opened
pub record TakesItems (most : ℕ) (text rest : List ℕ) : Type 0 where
  pub js : json.Items
  pub trees : Items
  pub front : 91 ∷ text ≡ text_of (json.array js) ++ rest
  pub compact : AreCompactItems most js trees

-- the members of an object that was opened
pub record TakesMembers (most : ℕ) (text rest : List ℕ) : Type 0 where
  pub ms : json.Members
  pub front : 123 ∷ text ≡ text_of (json.object ms) ++ rest
  pub compact : (before : Members) → (after : Members) × AreCompactMembers most ms before after

-- the members of a reply without an error, which tells this of the next one
pub record AreBare (continues : Bool) (ms : Members) : Type 0 where
  pub follows : continues_of (get_member (codes "continues") ms) ≡ Ok continues
  pub no_error : error_of (get_member (codes "error") ms) ≡ Ok None
  pub given : (parameters : Data) × (parameters_of (get_member (codes "parameters") ms) ≡ Ok parameters)

-- the members of such a reply, whose object was opened
pub record TakesReply (most : ℕ) (text : List ℕ) (continues : Bool) (rest : List ℕ) : Type 0 where
  pub ms : json.Members
  pub trees : Members
  pub front : 123 ∷ text ≡ text_of (json.object ms) ++ rest
  pub compact : AreCompactMembers most ms no_members trees
  pub bare : AreBare continues trees

-- the text is such a reply
abbrev pub TellsHead : List ℕ → Bool → Type 0
TellsHead text continues =
    (ms : Members) × (json_of text ≡ Ok (object ms)) × (head_or_fault (reply_in (object ms)) ≡ Ok (record { continues = continues; error = None }))
