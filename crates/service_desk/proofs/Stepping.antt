-- Registers of a desk's board stay of their types, and what a request comes to there may come of its rule.
use Rattle.std.proofs.Common.{◌≡◌, true, false, List, [], ◌∷◌, ◌++◌, Option, Some, None, IsSome, refl, sym, ap, ◌∙◌, subst}
use Rattle.std.specs.Prelude.{map}
use Rattle.std.specs.List.{list_all}
use Rattle.std.proofs.lemmas.List.Elements.{All-head, All-tail}
use Rattle.typed_value.specs.declared.vals.Val.{Val}
use Rattle.typed_value.proofs.ReadsFit.{some_is}
use Rattle.sheet_step.specs.Step.{step}
use Rattle.sheet_rules.specs.declared.forms.Register.{Register}
use Rattle.sheet_form.specs.Kept.{begins_typed}
use Rattle.sheet_form.specs.declared.sheets.Contents.{Contents}
use Rattle.sheet_step.specs.declared.dones.Done.{Done}
use Rattle.step_laws.proofs.Steps.{begin_of_types}
use Rattle.step_laws.proofs.Whole.{runs, keeps_types, comes_to_fit}
use Rattle.turn_desk.specs.declared.objects.Entry.{Entry}
use Rattle.turn_desk.specs.Histories.{state_of, reply_at, AllGood, IsReply}
use Rattle.turn_desk.proofs.Lists.{reply_last, all_left, middle}
use Rattle.service_core.specs.declared.requests.Request.{Request}
use Rattle.service_core.specs.Comes.{MayCome}
use Rattle.service_core.specs.Runs.{IsGood, IsTyped}
use Rattle.service_core.specs.States.{State}
use Rattle.service_core.specs.Tells.{stepped}
use Rattle.service_desk.specs.Boards.{IsGoodFor, answer_of, state_after, done_in, registers_in}

module _ (state : State) (request : Request) (typed : IsTyped state) (g : IsGood state.sheet request) where
  is_step : stepped state request ≡ step g.home.name g.rule.branches request.parameters state.registers
  is_step = rw (g.rule_is, g.is.home_is) refl

  there : IsSome (stepped state request)
  there = subst IsSome (sym is_step)
      (runs state.sheet.interfaces state.sheet.registers g.rule g.home g.input g.output g.is request.parameters state.registers g.typed typed)

  comes_by : (found : Option (Done × List Val)) → stepped state request ≡ found → IsSome found → MayCome state.sheet request.rule (done_in found)
  comes_by (Some x) is so = record {
    rule = g.rule;
    home = g.home;
    input = g.input;
    output = g.output;
    rule_is = g.rule_is;
    home_is = g.is.home_is;
    method_is = g.is.method_is;
    fits = comes_to_fit state.sheet.interfaces state.sheet.registers g.rule g.home g.input g.output g.is request.parameters state.registers g.typed typed x.0 x.1 (sym is_step ∙ is);
  }
  comes_by None is so = let no : false ≡ true = so in absurd (cc)

  comes : MayCome state.sheet request.rule (answer_of state request)
  comes = comes_by (stepped state request) refl there

  typed_by : (found : Option (Done × List Val)) → stepped state request ≡ found → IsSome found
      → IsTyped (record { sheet = state.sheet; registers = registers_in state.registers found })
  typed_by (Some x) is so =
      keeps_types state.sheet.interfaces state.sheet.registers g.rule g.home g.input g.output g.is request.parameters state.registers g.typed typed x.0 x.1 (sym is_step ∙ is)
  typed_by None is so = let no : false ≡ true = so in absurd (cc)

  typed_after : IsTyped (state_after state request)
  typed_after = typed_by (stepped state request) refl there

typed_at : (start : State) (history : List (Entry Request)) → IsTyped start → AllGood IsGoodFor start history → IsTyped (state_of state_after start history)
typed_at start [] typed good = typed
typed_at start (e ∷ es) typed good =
    typed_at (state_after start e.request) es
    (typed_after start e.request typed (All-head (λ (x : Entry Request). IsGoodFor start x.request) e es good))
    (All-tail (λ (x : Entry Request). IsGoodFor start x.request) e es good)

sheet_at : (start : State) (history : List (Entry Request)) → (state_of state_after start history).sheet ≡ start.sheet
sheet_at start [] = refl
sheet_at start (e ∷ es) = sheet_at (state_after start e.request) es

-- the reply at the end of a history is what its last request comes to in the state before it
pub last_done : (start : State) (seen front : List (Entry Request)) (e : Entry Request) (done : Done) → seen ≡ front ++ e ∷ []
    → IsReply state_after answer_of start seen done → answer_of (state_of state_after start front) e.request ≡ done
last_done start seen front e done is reply =
    some_is (sym (reply_last state_after answer_of start front e) ∙ ap (reply_at state_after answer_of start) (sym is) ∙ reply)

pub may_come : (start : State) (seen front : List (Entry Request)) (e : Entry Request) (done : Done) → seen ≡ front ++ e ∷ []
    → IsTyped start → AllGood IsGoodFor start seen → IsReply state_after answer_of start seen done → MayCome start.sheet e.request.rule done
may_come start seen front e done is typed good reply =
    let all : AllGood IsGoodFor start (front ++ e ∷ []) = subst (AllGood IsGoodFor start) is good in
    let here : IsGood start.sheet e.request = middle (λ (x : Entry Request). IsGoodFor start x.request) front e [] all in
    let before = typed_at start front typed (all_left (λ (x : Entry Request). IsGoodFor start x.request) front (e ∷ []) all) in
    let same = sheet_at start front in
    subst (λ d. MayCome start.sheet e.request.rule d) (last_done start seen front e done is reply)
    (subst (λ s. MayCome s e.request.rule (answer_of (state_of state_after start front) e.request)) same
    (comes (state_of state_after start front) e.request before (subst (λ s. IsGood s e.request) (sym same) here)))

-- the registers that a sheet begins with are of their types
pub starts_typed : (sheet service other : Contents) (values : List Val) (registers : List Register) → sheet ≡ service → other ≡ service
    → list_all (begins_typed other.interfaces) other.registers ≡ true → registers ≡ other.registers
    → values ≡ map (λ (register : Register). register.initial) registers → IsTyped (record { sheet = sheet; registers = values })
starts_typed sheet service other values registers is of typed same begun =
    rw (is, begun, same, of) (begin_of_types service.interfaces service.registers
    (subst (λ (s : Contents). list_all (begins_typed s.interfaces) s.registers ≡ true) of typed))
