-- the replies to values in a row
use Rattle.std.proofs.Common.{◌≡◌, ℕ, suc, true, false, List, [], ◌∷◌, length, Option, Some, Bool, refl, ap, subst}
use Rattle.std.specs.List.{AllByRecursion, list_all}
use Rattle.std.proofs.lemmas.Bool.{and_parts}
use Rattle.idl_tree.specs.Form.{is_struct}
use Rattle.idl_tree.specs.declared.trees.Interface.{Interface}
use Rattle.idl_tree.specs.declared.trees.Body.{Body}
use Rattle.typed_value.specs.OfType.{is_of_body}
use Rattle.typed_value.specs.declared.vals.Val.{Val}
use Rattle.idl_tree.specs.declared.trees.Core.TheVariants.{Inline}
use Rattle.value_laws.proofs.ShownSound.{shows_sound}
use Rattle.value_laws.proofs.StructBack.{shown as shown_is, shown_object}
use Rattle.link_port.specs.SoundTrees.{IsSound}
use Rattle.typed_value.specs.Shows.{ShowsFields}
use Rattle.session_core.specs.Outcomes.{Continues, OnlyLastFails, HasSoundParameters}
use Rattle.call_form.specs.CallOf.{IsObject}
use Rattle.call_form.specs.declared.Reply.{Reply}
use Rattle.service_core.specs.Sheets.{Shape}
use Rattle.service_core.specs.Outcomes.{are_more, shown, replies_of}

pub continues_of : (shape : Option Shape) (v : Val) (vs : List Val) → Continues (replies_of shape (v ∷ vs))
continues_of shape v [] = refl
continues_of shape v (w ∷ vs) = (refl, continues_of shape w vs)

pub errors_of : (shape : Option Shape) (vs : List Val) → OnlyLastFails (replies_of shape vs)
errors_of shape [] = tt
errors_of shape (v ∷ []) = tt
errors_of shape (v ∷ w ∷ vs) = (refl, errors_of shape (w ∷ vs))

pub length_of : (shape : Option Shape) (vs : List Val) → length (replies_of shape vs) ≡ length vs
length_of shape [] = refl
length_of shape (v ∷ vs) = ap suc (length_of shape vs)

-- a value of a struct is shown as an object that can be written
pub sound_shown : (home : Interface) (body : Body) (v : Val) → is_struct body ≡ true → is_of_body home body v ≡ true
    → IsObject (ShowsFields home body v) × IsSound (ShowsFields home body v)
sound_shown home body v of_struct fit =
    (shown_object home body v of_struct fit, subst IsSound (shown_is home body v of_struct fit) (shows_sound home v [] (Inline body) fit))

pub sound_replies : (home : Interface) (body : Body) (vs : List Val) → is_struct body ≡ true → list_all (is_of_body home body) vs ≡ true
    → AllByRecursion HasSoundParameters (replies_of (Some (home, body)) vs)
sound_replies home body [] of_struct fit = tt
sound_replies home body (v ∷ vs) of_struct fit =
    let parts = and_parts (is_of_body home body v) (list_all (is_of_body home body) vs) fit in
    let here = sound_shown home body v of_struct parts.0 in
    (record { is_object = here.0; is_sound = here.1 }, sound_replies home body vs of_struct parts.1)
