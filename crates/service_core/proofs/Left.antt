-- the replies that are left from a place on
use Rattle.std.proofs.Common.{◌≡◌, ℕ, zero, suc, ◌+◌, Bool, true, false, List, [], ◌∷◌, drop, Option, Some, None, is_some, slice_get, refl, sym, ap, ◌∙◌}
use Rattle.std.proofs.Common.{Bor}
use Rattle.std.specs.Option.{option_copied}
use Rattle.typed_value.specs.declared.vals.Val.{Val}
use Rattle.typed_value.proofs.ReadsFit.{some_is}
use Rattle.call_form.specs.declared.Reply.{Reply}
use Rattle.session_core.specs.Outcomes.{Nexts}
use Rattle.service_core.specs.Sheets.{Shape, output_of}
use Rattle.service_core.specs.Outcomes.{are_more, reply_of, replies_of, shown, without_raw}
use Rattle.service_core.specs.Lates.{Held, left_late}

first_left : (vs : List Val) (n : ℕ) (v : Val) → slice_get vs n ≡ Some v → drop n vs ≡ v ∷ drop (suc n) vs
first_left [] n v is = absurd (cc)
first_left (w ∷ vs) zero v is = ap (λ (x : Val). x ∷ vs) (some_is is)
first_left (w ∷ vs) (suc n) v is = first_left vs n v is

none_left : (vs : List Val) (n : ℕ) → slice_get vs n ≡ None → drop n vs ≡ []
none_left [] zero is = refl
none_left [] (suc n) is = refl
none_left (w ∷ vs) zero is = absurd (cc)
none_left (w ∷ vs) (suc n) is = none_left vs n is

more_left : (vs : List Val) (n : ℕ) → are_more (drop n vs) ≡ is_some (slice_get vs n)
more_left [] zero = refl
more_left [] (suc n) = refl
more_left (w ∷ vs) zero = refl
more_left (w ∷ vs) (suc n) = more_left vs n

reply_made : (shape : Option Shape) (v : Val) (later : List Val) (reply : Reply) → reply.parameters ≡ shown shape v → reply.continues ≡ are_more later
    → reply.error ≡ None → reply_of shape v later ≡ reply
reply_made shape v later reply parameters continues error = λ j.
    record { parameters = sym parameters j; continues = sym continues j; error = sym error j }

-- the reply to the value at the place, and those to the ones behind it
pub next_left : (late : Held) (v : Val) (reply : Reply) (n : ℕ) → suc late.next ≡ n → slice_get late.values late.next ≡ Some v
    → reply.parameters ≡ shown (output_of late.sheet late.rule) v
    → reply.continues ≡ is_some (slice_get late.values n) → reply.error ≡ None
    → left_late late ≡ without_raw (reply ∷ replies_of (output_of late.sheet late.rule) (drop n late.values))
next_left late v reply n follows here parameters continues error =
    let shape = output_of late.sheet late.rule in
    let later = drop n late.values in
    ap (λ (vs : List Val). without_raw (replies_of shape vs)) (first_left late.values late.next v here ∙ ap (λ (m : ℕ). v ∷ drop m late.values) follows)
    ∙ ap (λ (first : Reply). without_raw (first ∷ replies_of shape later))
    (reply_made shape v later reply parameters (continues ∙ sym (more_left late.values n)) error)

pub last_left : (late : Held) → slice_get late.values late.next ≡ None → Nexts (left_late late) None (left_late late)
last_left late none = (ap (replies_of (output_of late.sheet late.rule)) (none_left late.values late.next none), refl)

pub copied_some : (o : Option (Bor Val)) → is_some o ≡ is_some (option_copied o)
copied_some (Some x) = refl
copied_some None = refl
