-- What stands written of the replies to a call, and which are left, where the writing broke off.
use Rattle.std.specs.Prelude.{◌≡◌, ℕ, ◌≤◌, List, [], ◌++◌, length}
use Rattle.std.specs.List.{flat_map}
use Rattle.link_port.specs.Faults.{Rises}
use Rattle.call_form.specs.declared.Reply.{Reply}
use Rattle.call_form.specs.ReplyText.{reply_bytes}
use Rattle.session_core.specs.declared.stops.Stop.{Stop}
use Rattle.session_core.specs.declared.stops.Stop.TheVariants as stop

-- of these replies the first were written, each whole, then one at most was in hand, of whose bytes this front was
-- written, and the others are left
pub record BreaksWithin (Wrote : List ℕ → Type 0) (replies left : List Reply) (part : List ℕ) : Type 0 where
  pub first : List Reply
  pub hand : List Reply
  pub rest : List ℕ
  pub whole : replies ≡ first ++ (hand ++ left)
  pub one : length hand ≤ 1
  pub text : flat_map reply_bytes hand ≡ part ++ rest
  pub wrote : Wrote (flat_map reply_bytes first ++ part)

-- the writing of these replies broke off: a put failed, and a front of the reply in hand stands written, or memory ran
-- out, and nothing of it stands written
abbrev pub BreaksOff : (List ℕ → Type 0) → Stop → List Reply → List Reply → ℕ → ℕ → Type 0
BreaksOff Wrote stop.WriteFault replies left faults faults' =
    ((part : List ℕ) × BreaksWithin Wrote replies left part) × Rises faults faults'
BreaksOff Wrote stop.Memory replies left faults faults' = BreaksWithin Wrote replies left [] × (faults' ≡ faults)
BreaksOff Wrote _ replies left faults faults' = ⊥
