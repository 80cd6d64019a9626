-- The members of a reply, found one after another, and what the whole text is.
use Rattle.std.proofs.Common.{◌≡◌, ℕ, suc, ◌-◌, List, [], ◌∷◌, codes, Option, Some, None, option_map, arith, Result, Ok, Err, true≢false, refl, sym, ap, ◌∙◌, subst, inl, inr}
use Rattle.std.proofs.lemmas.Slice.Eq.{bytes_eq-Decides}
use Rattle.json.specs.Token.{Token}
use Rattle.json.specs.Json.{value, parse_map}
use Rattle.json.specs.Reads.{token_of}
use Rattle.json.specs.declared.token.Token as declared
use Rattle.json.specs.declared.token.Token.TheVariants as token
use Rattle.json.specs.Lex.{tokens}
use Rattle.json.proofs.Grammar.{value_is}
use Rattle.serde_json.specs.Data.{Data, Num, null, boolean, number, string, array, object, Items, Members, no_members, put}
use Rattle.serde_json.specs.Find.{get_member}
use Rattle.serde_json.specs.Read.{of_json, converted, number_of}
use Rattle.serde_json.proofs.Views.{get_member-put, get_member-put_other}
use Rattle.caller_form.proofs.TreeLemmas.{whole_read, whole_and_more, whole_refused}
use Rattle.caller_form.specs.declared.faults.ReplyFault.{ReplyFault}
use Rattle.caller_form.specs.declared.faults.ReplyFault.TheVariants.{NotJson, NotObject}
use Rattle.caller_form.specs.declared.kinds.Kind.{Kind}
use Rattle.caller_form.specs.declared.kinds.Kind.TheVariants as kind
use Rattle.caller_form.specs.declared.members.Found.{Found}
use Rattle.caller_form.specs.Kinds.{IsOfKind, tree_at, items_at, members_at}
use Rattle.caller_form.specs.HeadOf.{IsMember, AreFound}
use Rattle.caller_form.specs.ReplyOf.{json_of, found_json, object_of, parameters_of, ◌>>=◌}
use Rattle.call_form.specs.CallRules.{IsAbsent}
use Rattle.caller_form.proofs.KindLemmas.{opens_array, opens_object}
use Rattle.caller_form.proofs.ReplyLemmas.{parameters_of-object}

-- ---- one member more

is_member : (k : Kind) (tree : Data) → IsOfKind k tree → IsMember k (Some tree)
is_member kind.Null tree is = inr (ap (λ (d : Data). Some d) is)
is_member (kind.Flag flag) tree is = (tree, refl, is)
is_member (kind.Text text) tree is = (tree, refl, is)
is_member kind.Object tree is = (tree, refl, is)
is_member kind.Other tree is = (tree, refl, is)

module _ (name : List ℕ) (tree : Data) (ms : Members) where
  placed : (k : Kind) (there : List ℕ) → name ≡ there → IsOfKind k tree → IsMember k (get_member there (put name tree ms))
  placed k there same is =
      subst (λ (n : List ℕ). IsMember k (get_member n (put name tree ms))) same
      (subst (λ (o : Option Data). IsMember k o) (sym (get_member-put name tree ms)) (is_member k tree is))

  kept : (k : Kind) (there : List ℕ) → (there ≡ name → ⊥) → IsMember k (get_member there ms) → IsMember k (get_member there (put name tree ms))
  kept k there other is =
      subst (λ (o : Option Data). IsMember k o) (sym (get_member-put_other there name tree ms other)) is

  pub with_continues : (found : Found) (k : Kind) → name ≡ codes "continues" → AreFound found ms → IsOfKind k tree →
      AreFound (record { continues = k; error = found.error; parameters = found.parameters }) (put name tree ms)
  with_continues found k same are is = record {
    continues = placed k (codes "continues") same is;
    error = kept found.error (codes "error") (λ e. true≢false (sym ((bytes_eq-Decides (codes "error") (codes "continues")).1 (e ∙ same)))) are.error;
    parameters = kept found.parameters (codes "parameters") (λ e. true≢false (sym ((bytes_eq-Decides (codes "parameters") (codes "continues")).1 (e ∙ same)))) are.parameters;
  }

  pub with_error : (found : Found) (k : Kind) → name ≡ codes "error" → AreFound found ms → IsOfKind k tree →
      AreFound (record { continues = found.continues; error = k; parameters = found.parameters }) (put name tree ms)
  with_error found k same are is = record {
    continues = kept found.continues (codes "continues") (λ e. true≢false (sym ((bytes_eq-Decides (codes "continues") (codes "error")).1 (e ∙ same)))) are.continues;
    error = placed k (codes "error") same is;
    parameters = kept found.parameters (codes "parameters") (λ e. true≢false (sym ((bytes_eq-Decides (codes "parameters") (codes "error")).1 (e ∙ same)))) are.parameters;
  }

  pub with_parameters : (found : Found) (k : Kind) → name ≡ codes "parameters" → AreFound found ms → IsOfKind k tree →
      AreFound (record { continues = found.continues; error = found.error; parameters = k }) (put name tree ms)
  with_parameters found k same are is = record {
    continues = kept found.continues (codes "continues") (λ e. true≢false (sym ((bytes_eq-Decides (codes "continues") (codes "parameters")).1 (e ∙ same)))) are.continues;
    error = kept found.error (codes "error") (λ e. true≢false (sym ((bytes_eq-Decides (codes "error") (codes "parameters")).1 (e ∙ same)))) are.error;
    parameters = placed k (codes "parameters") same is;
  }

  pub with_other : (found : Found) → (name ≡ codes "continues" → ⊥) → (name ≡ codes "error" → ⊥) → (name ≡ codes "parameters" → ⊥) →
      AreFound found ms → AreFound found (put name tree ms)
  with_other found a b d are = record {
    continues = kept found.continues (codes "continues") (λ e. a (sym e)) are.continues;
    error = kept found.error (codes "error") (λ e. b (sym e)) are.error;
    parameters = kept found.parameters (codes "parameters") (λ e. d (sym e)) are.parameters;
  }

-- ---- the whole text

pub json_read : (text : List ℕ) (tree : Data) → tree_at 127 (tokens text) ≡ Some (tree, []) → json_of text ≡ Ok tree
json_read text tree is = ap found_json (whole_read (value 127 (tokens text)) tree is)

pub json_and_more : (text : List ℕ) (tree : Data) (t : Token) (ts : List Token) → tree_at 127 (tokens text) ≡ Some (tree, t ∷ ts) → json_of text ≡ Err NotJson
json_and_more text tree t ts is = ap found_json (whole_and_more (value 127 (tokens text)) tree t ts is)

pub json_refused : (text : List ℕ) → tree_at 127 (tokens text) ≡ None → json_of text ≡ Err NotJson
json_refused text is = ap found_json (whole_refused (value 127 (tokens text)) is)

-- ---- the parameters

absent : (there : Option Data) → IsAbsent there → (parameters : Data) × (parameters_of there ≡ Ok parameters)
absent there is = elim is [
  | inl none ↦ (object no_members, ap parameters_of none)
  | inr empty ↦ (object no_members, ap parameters_of empty)
]

pub takes_none : (k : Kind) (there : Option Data) → k ≡ kind.Null → IsMember k there → (parameters : Data) × (parameters_of there ≡ Ok parameters)
takes_none k there same is = absent there (subst (λ (k : Kind). IsMember k there) same is)

pub takes_object : (k : Kind) (there : Option Data) → k ≡ kind.Object → IsMember k there → (parameters : Data) × (parameters_of there ≡ Ok parameters)
takes_object k there whole is =
    let found : IsMember kind.Object there = subst (λ (k : Kind). IsMember k there) whole is in
    (found.0, ap parameters_of found.1 ∙ parameters_of-object found.0 found.2)

-- ---- what is no object

abbrev or_else : {A : Type 0} → A → Option A → A
or_else a None = a
or_else a (Some b) = b

of_tree : (made tree : Data) (ts rest : List Token) → ◌≡◌ {A = Option (Data × List Token)} (Some (made, ts)) (Some (tree, rest)) → object_of made ≡ Err NotObject → object_of tree ≡ Err NotObject
of_tree made tree ts rest is none = ap object_of (sym (ap (λ (o : Option (Data × List Token)). (or_else (made, ts) o).0) is)) ∙ none

of_number : (found : Option Num) (tree : Data) (ts rest : List Token) → option_map {U = Data × List Token} (λ d. (d, ts)) (option_map number found) ≡ Some (tree, rest) → object_of tree ≡ Err NotObject
of_number None tree ts rest is = absurd cc
of_number (Some n) tree ts rest is = of_tree (number n) tree ts rest is refl

of_items : (found : Option (Items × List Token)) (tree : Data) (rest : List Token) → parse_map array found ≡ Some (tree, rest) → object_of tree ≡ Err NotObject
of_items None tree rest is = absurd cc
of_items (Some p) tree rest is = of_tree (array p.0) tree p.1 rest is refl

of_none : {A : Type 0} (tree : Data) (rest : List Token) (there : Option (Data × List Token)) → there ≡ None → there ≡ Some (tree, rest) → A
of_none tree rest there none is = absurd cc

pub no_object : (t : Token) (depth : ℕ) (ts rest : List Token) (tree : Data) → (t ≡ Token.begin_object → ⊥) → tree_at (suc depth) (t ∷ ts) ≡ Some (tree, rest) → object_of tree ≡ Err NotObject
no_object Token.begin_object depth ts rest tree other is = absurd (other refl)
no_object Token.end_object depth ts rest tree other is = of_none tree rest _ (ap (converted of_json) (value_is (suc depth) (Token.end_object ∷ ts))) is
no_object Token.begin_array depth ts rest tree other is =
    let same : suc depth - 1 ≡ depth = omega arith in
    let opened = opens_array (suc depth) ts (omega arith) ∙ ap (λ d. parse_map array (items_at d ts)) same in
    of_items (items_at depth ts) tree rest (sym opened ∙ is)
no_object Token.end_array depth ts rest tree other is = of_none tree rest _ (ap (converted of_json) (value_is (suc depth) (Token.end_array ∷ ts))) is
no_object (Token.key s) depth ts rest tree other is = of_none tree rest _ (ap (converted of_json) (value_is (suc depth) (Token.key s ∷ ts))) is
no_object (Token.string s) depth ts rest tree other is = of_tree (string s) tree ts rest (sym (ap (converted of_json) (value_is (suc depth) (Token.string s ∷ ts))) ∙ is) refl
no_object (Token.number s) depth ts rest tree other is = of_number (number_of s) tree ts rest (sym (ap (converted of_json) (value_is (suc depth) (Token.number s ∷ ts))) ∙ is)
no_object (Token.boolean b) depth ts rest tree other is = of_tree (boolean b) tree ts rest (sym (ap (converted of_json) (value_is (suc depth) (Token.boolean b ∷ ts))) ∙ is) refl
no_object Token.null depth ts rest tree other is = of_tree null tree ts rest (sym (ap (converted of_json) (value_is (suc depth) (Token.null ∷ ts))) ∙ is) refl
no_object Token.bad depth ts rest tree other is = of_none tree rest _ (ap (converted of_json) (value_is (suc depth) (Token.bad ∷ ts))) is

pub token_of-begin_object : (t : declared.Token) → token_of t ≡ Token.begin_object → t ≡ token.BeginObject
token_of-begin_object token.BeginObject is = refl
token_of-begin_object token.EndObject is = absurd cc
token_of-begin_object token.BeginArray is = absurd cc
token_of-begin_object token.EndArray is = absurd cc
token_of-begin_object (token.Key s) is = absurd cc
token_of-begin_object (token.String s) is = absurd cc
token_of-begin_object (token.Number s) is = absurd cc
token_of-begin_object (token.Bool b) is = absurd cc
token_of-begin_object token.Null is = absurd cc
token_of-begin_object token.Bad is = absurd cc

pub an_object : (text : List ℕ) (ts rest : List Token) (ms : Members) → tokens text ≡ Token.begin_object ∷ ts → members_at 126 ts ≡ Some (ms, rest) →
    tree_at 127 (tokens text) ≡ Some (object ms, rest)
an_object text ts rest ms first found = ap (tree_at 127) first ∙ opens_object 127 ts (omega arith) ∙ ap (parse_map object) found

pub no_members_there : (text : List ℕ) (ts : List Token) → tokens text ≡ Token.begin_object ∷ ts → members_at 126 ts ≡ None →
    tree_at 127 (tokens text) ≡ None
no_members_there text ts first none = ap (tree_at 127) first ∙ opens_object 127 ts (omega arith) ∙ ap (parse_map object) none

pub not_json : (text : List ℕ) → json_of text ≡ Err NotJson → (json_of text >>= object_of) ≡ Err NotJson
not_json text is = ap (λ (r : Result Data ReplyFault). r >>= object_of) is

pub not_object : (text : List ℕ) (tree : Data) → json_of text ≡ Ok tree → object_of tree ≡ Err NotObject → (json_of text >>= object_of) ≡ Err NotObject
not_object text tree is none = ap (λ (r : Result Data ReplyFault). r >>= object_of) is ∙ none
