-- What is written on a link whose calls are heard one after another, and may be refused.
use Rattle.std.specs.Prelude.{◌≡◌, ℕ, ◌≤◌, ◌⊎◌, List, [], ◌∷◌, length, ⊤, Option, None}
use Rattle.std.specs.Io.KnownBytes.{Appends, Consumes}
use Rattle.call_form.specs.declared.Call.{Call}
use Rattle.call_form.specs.declared.Outcome.{Outcome}
use Rattle.session_core.specs.declared.stops.Stop.{Stop}
use Rattle.session_core.specs.declared.stops.Stop.TheVariants as stop
use Rattle.session_core.specs.Limits.{most_bytes}
use Rattle.session_core.specs.Outcomes.{AllFit}
use Rattle.session_core.specs.Run.{Ran, run}
use Rattle.session_core.specs.Served.{Told, Leaves, Reaches, TakesAll}

-- the stops that a refusal may be: the history is full, the steps are used up, or memory was not granted
abbrev pub IsRefusal : Stop → Type 0
IsRefusal (stop.Full bytes) = ⊤
IsRefusal stop.Worn = ⊤
IsRefusal stop.Memory = ⊤
IsRefusal _ = ⊥

-- a call is refused with this stop, and leaves this state, where there is such a refusal
abbrev pub refuses_by : {A R : Type 0} → (A → Call → R → A → Type 0) → (R → Stop) → A → Call → Stop → A → Type 0
refuses_by {A} {R} misses stop_of a call why b = (refusal : R) × (why ≡ stop_of refusal) × misses a call refusal b

-- the run stands at this call, which was read and has no outcome
abbrev pub unanswered : Call → Ran
unanswered call = record { calls = call ∷ []; out = []; stop = None }

-- after a refusal the stop is the refusal's, and all replies before it are written; or the sink failed
abbrev pub EndsBy : Stop → Stop → List ℕ → Type 0
EndsBy stop.WriteFault refusal unwritten = ⊤
EndsBy why refusal unwritten = (why ≡ refusal) × (unwritten ≡ [])

module _ {A : Type 0} (refuses : A → Call → Stop → A → Type 0) where
  -- the next call was refused, which took the hearer from a to b, and nothing is written for it
  pub record Refused (a b : A) (why : Stop) (unwritten : List ℕ) (later : Ran) : Type 0 where
    pub call : Call
    pub refusal : Stop
    pub refused : refuses a call refusal b
    pub next : later ≡ unanswered call
    pub ends : EndsBy why refusal unwritten

  -- the hearer stayed as it was, and what is left of the run is what this stop leaves; or the next call was refused
  abbrev pub Closes : A → A → Stop → List ℕ → Ran → Type 0
  Closes a b why unwritten later = ((b ≡ a) × Leaves why unwritten later) ⊎ Refused a b why unwritten later

-- the calls of one link were heard: these bytes were taken from what was left; the hearer went from a to `last` by its
-- own definition over the calls answered, each by an outcome that fits it, and then to b; what was written is what the
-- session machine writes for these bytes with these outcomes; and the stop is the machine's or that of a refusal
pub record Heard {A : Type 0} (tells : A → Call → Outcome → A → Type 0) (refuses : A → Call → Stop → A → Type 0) (limit : ℕ) (a b : A)
    (left left' written written' : Option (List ℕ)) (why : Stop) : Type 0 where
  pub taken : List ℕ
  pub calls : List Call
  pub outcomes : List Outcome
  pub out : List ℕ
  pub last : A
  pub consumed : Consumes left left' taken
  pub most : length taken ≤ most_bytes
  pub told : Told tells a calls outcomes last
  pub fits : AllFit calls outcomes
  pub wrote : Appends written written' out
  pub comes : Reaches (run limit taken outcomes) calls out (Closes refuses last b why)
  pub all : TakesAll why left taken
