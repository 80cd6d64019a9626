-- The text of a reply, piece by piece.
use Rattle.std.proofs.Common.{◌≡◌, ℕ, Bool, true, false, List, [], ◌∷◌, ◌++◌, refl, append_assoc}
use Rattle.std.specs.Prelude.{codes, Option, Some, None}
use Rattle.serde_json.specs.Data.{Num, unsigned, negative, float, Data, null, boolean, number, string, array, object}
use Rattle.serde_json.specs.Data.{Items, no_items, item, Members, no_members, member}
use Rattle.serde_json.specs.Find.{is_float}
use Rattle.link_port.specs.SoundTrees.{IsWhole, IsSound, AreSoundItems, AreSoundMembers}
use Rattle.serde_json.specs.Written.{compact_text, has_float, items_have_float, members_have_float}
use Rattle.serde_json.proofs.OnLiterals.{serde_json_on_literals}
use Rattle.call_form.specs.ReplyText.{with_continues, with_error, continues_text, error_text}

pub pieces_are : (continues : Bool) (error : Option (List ℕ)) (parameters : Data) →
    codes "{" ++ continues_text continues ++ error_text error ++ codes "\"parameters\":" ++
    compact_text parameters ++ (125 ∷ 0 ∷ [])
    ≡ compact_text
    (object
    (with_continues continues
    (with_error error (member (codes "parameters") parameters no_members)))) ++ 0 ∷ []
unfolding serde_json_on_literals
pieces_are true (Some name) parameters = simp append_assoc
pieces_are true None parameters = simp append_assoc
pieces_are false (Some name) parameters = simp append_assoc
pieces_are false None parameters = simp append_assoc

-- six pieces put one after another
pub put_together : {t₀ t₁ t₂ t₃ t₄ t₅ t₆ : List ℕ} (a b c d e f : List ℕ) →
    t₀ ≡ [] → t₁ ≡ t₀ ++ a → t₂ ≡ t₁ ++ b → t₃ ≡ t₂ ++ c → t₄ ≡ t₃ ++ d → t₅ ≡ t₄ ++ e →
    t₆ ≡ t₅ ++ f →
    t₆ ≡ a ++ b ++ c ++ d ++ e ++ f
put_together a b c d e f e₀ e₁ e₂ e₃ e₄ e₅ e₆ = rw (e₆, e₅, e₄, e₃, e₂, e₁, e₀) refl

-- a sound tree has no number but whole ones

whole_no_float : (n : Num) → IsWhole n → is_float n ≡ false
whole_no_float (unsigned n) h = refl
whole_no_float (negative z) h = refl
whole_no_float (float x) h = absurd h

mutual
  pub sound_no_float : (tree : Data) → IsSound tree → has_float tree ≡ false
  sound_no_float null h = refl
  sound_no_float (boolean b) h = refl
  sound_no_float (number n) h = whole_no_float n h
  sound_no_float (string s) h = refl
  sound_no_float (array items) h = items_no_float items h
  sound_no_float (object members) h = members_no_float members h

  items_no_float : (items : Items) → AreSoundItems items → items_have_float items ≡ false
  items_no_float no_items h = refl
  items_no_float (item tree items) h = rw (sound_no_float tree h.0) (items_no_float items h.1)

  members_no_float : (members : Members) → AreSoundMembers members → members_have_float members ≡ false
  members_no_float no_members h = refl
  members_no_float (member key tree members) h = rw (sound_no_float tree h.1) (members_no_float members h.2)
