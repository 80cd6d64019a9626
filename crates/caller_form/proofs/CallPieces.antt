-- The text of a call, piece by piece.
use Rattle.std.proofs.Common.{◌≡◌, ℕ, Bool, true, false, List, [], ◌∷◌, ◌++◌, refl, append_assoc}
use Rattle.std.specs.Prelude.{codes}
use Rattle.serde_json.specs.Data.{Data, string, object, no_members, member}
use Rattle.serde_json.specs.Written.{compact_text}
use Rattle.serde_json.proofs.OnLiterals.{serde_json_on_literals}
use Rattle.call_form.specs.CallText.{with_flag}
use Rattle.caller_form.specs.CallBytes.{method_text, flag_text}

pub pieces_are : (method : List ℕ) (parameters : Data) (more oneway upgrade : Bool) →
    method_text method ++ flag_text (codes ",\"more\":true") more ++ flag_text (codes ",\"oneway\":true") oneway
    ++ codes ",\"parameters\":" ++ compact_text parameters ++ flag_text (codes ",\"upgrade\":true") upgrade ++ (125 ∷ 0 ∷ [])
    ≡ compact_text (object (member (codes "method") (string method) (with_flag (codes "more") more (with_flag (codes "oneway") oneway
    (member (codes "parameters") parameters (with_flag (codes "upgrade") upgrade no_members)))))) ++ 0 ∷ []
unfolding serde_json_on_literals
pieces_are method parameters true true true = simp append_assoc
pieces_are method parameters true true false = simp append_assoc
pieces_are method parameters true false true = simp append_assoc
pieces_are method parameters true false false = simp append_assoc
pieces_are method parameters false true true = simp append_assoc
pieces_are method parameters false true false = simp append_assoc
pieces_are method parameters false false true = simp append_assoc
pieces_are method parameters false false false = simp append_assoc

-- seven pieces put one after another
pub put_together : {t₀ t₁ t₂ t₃ t₄ t₅ t₆ t₇ : List ℕ} (a b c d e f g : List ℕ) →
    t₀ ≡ [] → t₁ ≡ t₀ ++ a → t₂ ≡ t₁ ++ b → t₃ ≡ t₂ ++ c → t₄ ≡ t₃ ++ d → t₅ ≡ t₄ ++ e → t₆ ≡ t₅ ++ f → t₇ ≡ t₆ ++ g →
    t₇ ≡ a ++ b ++ c ++ d ++ e ++ f ++ g
put_together a b c d e f g e₀ e₁ e₂ e₃ e₄ e₅ e₆ e₇ = rw (e₇, e₆, e₅, e₄, e₃, e₂, e₁, e₀) refl
