-- Words cut at their last dots, and calls that go nowhere or ask for an upgrade.
use Rattle.std.proofs.Common.{◌≡◌, ◌==◌, ℕ, true, false, Bool, List, [], ◌∷◌, ◌++◌, Option, Some, None, IsSome, bytes_eq, codes, refl, sym, ap, ◌∙◌, subst, inl, inr, true≢false}
use Rattle.std.proofs.lemmas.Bool.{cases_Bool, eqb-true, eqb-false, ne_eqb}
use Rattle.serde_json.specs.Data.{Data, null, boolean, number, string, array, object}
use Rattle.serde_json.specs.Find.{get}
use Rattle.call_form.specs.declared.Call.{Call}
use Rattle.resolver_core.specs.declared.goals.Goal.{Goal}
use Rattle.resolver_core.specs.declared.goals.Goal.TheVariants.{Nowhere}
use Rattle.resolver_core.specs.declared.methods.Asked.{Asked}
use Rattle.resolver_core.specs.declared.methods.Asked.TheVariants as asks
use Rattle.resolver_core.specs.Registries.{Entries, is_fixed, service_name, resolver_name}
use Rattle.resolver_core.specs.Words.{at_dot, led}
use Rattle.resolver_core.specs.Places.{asked_by, reply_by, reply_of}
use Rattle.resolver_core.specs.Goals.{goal_of, goal_by, described}
use Rattle.resolver_core.specs.Laws.{HasNoDot, WordsAre, NowhereIsNoDot, UpgradesAreRefused}

uncut : (word : List ℕ) → HasNoDot word → at_dot word ≡ None
uncut [] none = refl
uncut (b ∷ word) none = rw (uncut word none.1, ne_eqb b 46 none.0) refl

cut : (interface method : List ℕ) → HasNoDot method → at_dot (interface ++ 46 ∷ method) ≡ Some (interface, method)
cut [] method none = ap (led 46 method) (uncut method none)
cut (b ∷ interface) method none = ap (led b (interface ++ 46 ∷ method)) (cut interface method none)

-- what a cut says
abbrev Says : List ℕ → Option (List ℕ × List ℕ) → Type 0
Says word None = HasNoDot word
Says word (Some parts) = (word ≡ parts.0 ++ 46 ∷ parts.1) × HasNoDot parts.1

led_says : (b : ℕ) (word : List ℕ) (parts : Option (List ℕ × List ℕ)) → Says word parts → Says (b ∷ word) (led b word parts)
led_says b word (Some parts) says = (ap (λ (l : List ℕ). b ∷ l) says.0, says.1)
led_says b word None says = elim (cases_Bool (b == 46)) [
  | inl here ↦ rw here (ap (λ (n : ℕ). n ∷ word) (eqb-true b 46 here), says)
  | inr other ↦ rw other (eqb-false b 46 other, says)
]

says : (word : List ℕ) → Says word (at_dot word)
says [] = tt
says (b ∷ word) = led_says b word (at_dot word) (says word)

cut_says : (word : List ℕ) (parts : Option (List ℕ × List ℕ)) → at_dot word ≡ parts → Says word parts
cut_says word parts is = subst (Says word) is (says word)

pub words-are : WordsAre
words-are word = (
  λ interface method. (
    λ is. cut_says word (Some (interface, method)) is,
    λ is. ap at_dot is.0 ∙ cut interface method is.1,
  ),
  (λ is. cut_says word None is, uncut word),
)

-- a goal is nowhere only for a word without a dot
abbrev is_nowhere : Goal → Bool
is_nowhere (Nowhere word) = true
is_nowhere goal = false

abbrev word_of : Goal → List ℕ
word_of (Nowhere word) = word
word_of goal = []

described_somewhere : (found : Option Data) → is_nowhere (described found) ≡ false
described_somewhere None = refl
described_somewhere (Some (string name)) = elim (cases_Bool (is_fixed name)) [
  | inl fixed ↦ rw fixed refl
  | inr other ↦ rw other refl
]
described_somewhere (Some null) = refl
described_somewhere (Some (boolean _)) = refl
described_somewhere (Some (number _)) = refl
described_somewhere (Some (array _)) = refl
described_somewhere (Some (object _)) = refl

parts_somewhere : (call : Call) (parts : List ℕ × List ℕ) → is_nowhere (goal_by call (Some parts)) ≡ false
parts_somewhere call parts = elim (cases_Bool (bytes_eq parts.0 service_name)) [
  | inl service ↦ rw service (elim (cases_Bool (bytes_eq parts.1 (codes "GetInterfaceDescription"))) [
    | inl description ↦ rw description (described_somewhere (get (codes "interface") call.parameters))
    | inr method ↦ rw method refl
  ])
  | inr other ↦ rw other (elim (cases_Bool (bytes_eq parts.0 resolver_name)) [
    | inl resolver ↦ rw resolver refl
    | inr interface ↦ rw interface refl
  ])
]

nowhere_by : (call : Call) (word : List ℕ) (parts : Option (List ℕ × List ℕ)) → at_dot call.method ≡ parts → goal_by call parts ≡ Nowhere word
    → HasNoDot call.method × (word ≡ call.method)
nowhere_by call word None is goes = (cut_says call.method None is, sym (ap word_of goes))
nowhere_by call word (Some parts) is goes = absurd (true≢false (sym (ap is_nowhere goes) ∙ parts_somewhere call parts))

pub nowhere-is-no-dot : NowhereIsNoDot
unfolding goal_of
nowhere-is-no-dot call word = (
  λ goes. nowhere_by call word (at_dot call.method) refl goes,
  λ is. ap (goal_by call) (uncut call.method is.0) ∙ ap Nowhere (sym is.1),
)

refused_by : (entries : Entries) (call : Call) (asked : Asked) → call.upgrade ≡ true → IsSome (reply_by entries call asked).error
refused_by entries call asks.NoInterface upgrade = refl
refused_by entries call asks.NoMethod upgrade = refl
refused_by entries call asks.ServiceInfo upgrade = rw upgrade refl
refused_by entries call asks.Description upgrade = rw upgrade refl
refused_by entries call asks.ResolverInfo upgrade = rw upgrade refl
refused_by entries call asks.Resolve upgrade = rw upgrade refl

pub upgrades-are-refused : UpgradesAreRefused
unfolding reply_of
upgrades-are-refused entries call upgrade = refused_by entries call (asked_by call.method) upgrade
