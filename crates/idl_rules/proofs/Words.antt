-- what the tests of words and marks tell of their spelling
use Rattle.std.proofs.Common.{◌≡◌, ℕ, ◌&&◌, eqb, Bool, true, false, cond, [], ◌∷◌, Option, Some, None, codes, refl, sym, ap, subst, ◌∙◌, inl, inr, eqb-true}
use Rattle.std.specs.Str.{bytes_eq}
use Rattle.std.proofs.lemmas.Slice.Eq.{bytes_eq-Decides}
use Rattle.std.proofs.lemmas.Bool.{cases_Bool, and_parts}
use Rattle.idl_token.specs.Lex.{Bytes}
use Rattle.idl_tree.specs.Names.{is_member_name}
use Rattle.idl_tree.specs.Form.{core_form}
use Rattle.idl_tree.specs.declared.trees.Core.{Core}
use Rattle.idl_tree.specs.declared.trees.Body.TheVariants.{Bool as BoolCore, Int, Float, Str, Object, Name}
use Rattle.idl_rules.specs.Items.{word, core_items}
use Rattle.idl_rules.specs.Reading.{mark_of, keyword_of, core_of}
use Rattle.idl_rules.specs.declared.states.Keyword.{Keyword}
use Rattle.idl_rules.specs.declared.states.Keyword.TheVariants.{Types, Methods, Errors}
use Rattle.idl_rules.specs.declared.states.Mark.{Mark as Sign}
use Rattle.idl_rules.specs.declared.states.Mark.TheVariants.{Open, Close, Comma, Colon, Question, LeftSquare, RightSquare, Arrow}
use Rattle.idl_rules.proofs.Folds.{name_items, name_form, name_depth, core_depth, bool_items, bool_form, bool_depth, int_items, int_form, int_depth, float_items, float_form, float_depth, string_items, string_form, string_depth, object_items, object_form, object_depth}

pub same_bytes : (one other : Bytes) → bytes_eq one other ≡ true → one ≡ other
same_bytes one other e = (bytes_eq-Decides one other).0 e

pub bytes_same : (one : Bytes) → bytes_eq one one ≡ true
bytes_same one = (bytes_eq-Decides one one).1 refl

-- a test either fits or not
module _ {A : Type 0} (P : A → Type 0) (test : Bool) (one other : A) where
  pub by_test : (test ≡ true → P one) → (test ≡ false → P other) → P (cond test one other)
  by_test fit other_fit = elim (cases_Bool test) [
    | inl e ↦ subst (λ (b : Bool). P (cond b one other)) (sym e) (fit e)
    | inr e ↦ subst (λ (b : Bool). P (cond b one other)) (sym e) (other_fit e)
  ]

abbrev pub sign_text : Sign → Bytes
sign_text Open = codes "("
sign_text Close = codes ")"
sign_text Comma = codes ","
sign_text Colon = codes ":"
sign_text Question = codes "?"
sign_text LeftSquare = codes "["
sign_text RightSquare = codes "]"
sign_text Arrow = codes "->"

abbrev SignOf : Bytes → Option Sign → Type 0
SignOf spelling None = Unit {0}
SignOf spelling (Some sign) = spelling ≡ sign_text sign

one_text : (b c : ℕ) (bs : Bytes) → eqb b c ≡ true → ◌≡◌ {A = Bytes} (b ∷ bs) (c ∷ bs)
one_text b c bs e = ap (λ (x : ℕ). x ∷ bs) (eqb-true b c e)

pub mark_spelt : (spelling : Bytes) → SignOf spelling (mark_of spelling)
mark_spelt [] = tt
mark_spelt (b ∷ []) =
    let P = SignOf (b ∷ []) in
    by_test P (eqb b 40) (Some Open) _ (λ e. one_text b 40 [] e) (λ e.
    by_test P (eqb b 41) (Some Close) _ (λ e. one_text b 41 [] e) (λ e.
    by_test P (eqb b 44) (Some Comma) _ (λ e. one_text b 44 [] e) (λ e.
    by_test P (eqb b 58) (Some Colon) _ (λ e. one_text b 58 [] e) (λ e.
    by_test P (eqb b 63) (Some Question) _ (λ e. one_text b 63 [] e) (λ e.
    by_test P (eqb b 91) (Some LeftSquare) _ (λ e. one_text b 91 [] e) (λ e.
    by_test P (eqb b 93) (Some RightSquare) None (λ e. one_text b 93 [] e) (λ e. tt)))))))
mark_spelt (b ∷ c ∷ []) =
    by_test (SignOf (b ∷ c ∷ [])) (eqb b 45 && eqb c 62) (Some Arrow) None
    (λ e. let p = and_parts (eqb b 45) (eqb c 62) e in one_text b 45 (c ∷ []) p.0 ∙ ap (λ (x : ℕ). 45 ∷ x ∷ []) (eqb-true c 62 p.1)) (λ e. tt)
mark_spelt (b ∷ c ∷ d ∷ bs) = tt

pub sign_spelt : (spelling : Bytes) (sign : Sign) → mark_of spelling ≡ Some sign → spelling ≡ sign_text sign
sign_spelt spelling sign e = subst (λ (found : Option Sign). SignOf spelling found) e (mark_spelt spelling)

abbrev pub keyword_text : Keyword → Bytes
keyword_text Types = codes "type"
keyword_text Methods = codes "method"
keyword_text Errors = codes "error"

abbrev KeywordOf : Bytes → Option Keyword → Type 0
KeywordOf w None = Unit {0}
KeywordOf w (Some keyword) = w ≡ keyword_text keyword

pub keyword_spelt : (w : Bytes) (keyword : Keyword) → keyword_of w ≡ Some keyword → w ≡ keyword_text keyword
keyword_spelt w keyword e =
    let P = KeywordOf w in
    subst (λ (found : Option Keyword). KeywordOf w found) e (
    by_test P (bytes_eq w (codes "type")) (Some Types) _ (λ e. same_bytes w _ e) (λ e.
    by_test P (bytes_eq w (codes "method")) (Some Methods) _ (λ e. same_bytes w _ e) (λ e.
    by_test P (bytes_eq w (codes "error")) (Some Errors) None (λ e. same_bytes w _ e) (λ e. tt))))

-- a word that is a type has the items, the form and the depth of that type
pub record CoreIs (w : Bytes) (core : Core) : Type 0 where
  pub items : core_items core ≡ word w ∷ []
  pub form : core_form core ≡ true
  pub depth : core_depth core ≡ 0

abbrev CoreOf : Bytes → Option Core → Type 0
CoreOf w None = Unit {0}
CoreOf w (Some core) = CoreIs w core

core_word : (w v : Bytes) (core : Core) → core_items core ≡ word v ∷ [] → core_form core ≡ true → core_depth core ≡ 0 → bytes_eq w v ≡ true → CoreIs w core
core_word w v core items form depth e =
    record { items = items ∙ ap (λ (x : Bytes). word x ∷ []) (sym (same_bytes w v e)); form = form; depth = depth }

pub core_spelt : (w : Bytes) (core : Core) → core_of w ≡ Some core → CoreIs w core
core_spelt w core e =
    let P = CoreOf w in
    subst (λ (found : Option Core). CoreOf w found) e (
    by_test P (bytes_eq w (codes "bool")) (Some BoolCore) _ (λ e. core_word w _ BoolCore bool_items bool_form bool_depth e) (λ e.
    by_test P (bytes_eq w (codes "int")) (Some Int) _ (λ e. core_word w _ Int int_items int_form int_depth e) (λ e.
    by_test P (bytes_eq w (codes "float")) (Some Float) _ (λ e. core_word w _ Float float_items float_form float_depth e) (λ e.
    by_test P (bytes_eq w (codes "string")) (Some Str) _ (λ e. core_word w _ Str string_items string_form string_depth e) (λ e.
    by_test P (bytes_eq w (codes "object")) (Some Object) _ (λ e. core_word w _ Object object_items object_form object_depth e) (λ e.
    by_test P (is_member_name w) (Some (Name w)) None
    (λ e. record { items = name_items w; form = name_form w ∙ e; depth = name_depth w }) (λ e. tt)))))))
