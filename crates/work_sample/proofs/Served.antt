-- What calls that were served come to.
use Rattle.std.proofs.Common.{◌≡◌, ℕ, List, [], ◌++◌, length, Option, Some, None, Result, Ok, Err, true, refl, ap, sym, ◌∙◌, subst}
use Rattle.std.proofs.lemmas.List.{append-nil}
use Rattle.std.specs.Prelude.{ℤ}
use Rattle.call_form.specs.declared.Call.{Call}
use Rattle.call_form.specs.declared.Outcome.{Outcome}
use Rattle.call_form.specs.declared.TheConstants.{CALL_LIMIT}
use Rattle.session_core.specs.declared.stops.Stop.{Stop}
use Rattle.session_core.specs.declared.stops.Stop.TheVariants as stop
use Rattle.session_core.specs.Run.{Ran, run, stopped, after}
use Rattle.session_core.specs.Tells.{tells_by}
use Rattle.session_core.specs.Served.{Told, ComesTo, Served}
use Rattle.session_core.proofs.TellLemmas.{told-tale}
use Rattle.typed_value.specs.declared.vals.Val.{Val}
use Rattle.sheet_form.specs.declared.sheets.Contents.{Contents}
use Rattle.service_core.specs.States.{State}
use Rattle.service_core.specs.Tells.{started, tell_of, lone}
use Rattle.work_sample.specs.declared.works.Ended.{Ended}
use Rattle.work_sample.specs.declared.works.WorkFault.{WorkFault}
use Rattle.work_sample.specs.declared.works.WorkFault.TheVariants as fault
use Rattle.work_sample.specs.Works.{Works, Serves, EndsWith, StopsEarly, registers_after, total_of, with_total, ended_of, is_early}

-- ---- calls in a row

pub record InARow (sheet : Contents) (b : State) (calls : List Call) (outcomes : List Outcome) : Type 0 where
  pub outcomes' : outcomes ≡ (lone sheet calls).outcomes
  pub state' : b ≡ (lone sheet calls).state

told-lone : (sheet : Contents) (a b : State) (calls : List Call) (outcomes : List Outcome) → a ≡ started sheet
    → Told (tells_by tell_of) a calls outcomes b → InARow sheet b calls outcomes
told-lone sheet a b calls outcomes is told =
    let all = (told-tale tell_of (started sheet) b calls outcomes).0
    (subst (λ (from : State). Told (tells_by tell_of) from calls outcomes b) is told) in
    record { outcomes' = all.0; state' = all.1 }

-- ---- the end

ended : (calls : List Call) (out unwritten : List ℕ) (later : Ran) → unwritten ≡ [] → later ≡ stopped stop.End
    → after calls (out ++ unwritten) later ≡ record { calls = calls; out = out; stop = Some stop.End }
ended calls out unwritten later none end =
    subst (λ (l : Ran). after calls (out ++ unwritten) l ≡ record { calls = calls; out = out; stop = Some stop.End }) (sym end)
    (subst (λ (u : List ℕ). after calls (out ++ u) (stopped stop.End) ≡ record { calls = calls; out = out; stop = Some stop.End }) (sym none)
    (simp append-nil))

-- the run of served bytes is that of the calls in a row
record Row (sheet : Contents) (b : State) (bytes left written : List ℕ) (why : Stop) : Type 0 where
  served : Served (tells_by tell_of) CALL_LIMIT (started sheet) b (Some bytes) (Some left) (Some []) (Some written) why
  comes : ComesTo (run CALL_LIMIT served.taken (lone sheet served.calls).outcomes) served.calls served.out why
  registers : b.registers ≡ registers_after sheet served.calls

row : (sheet : Contents) (a b : State) (bytes left written : List ℕ) (why : Stop) → a ≡ started sheet
    → Served (tells_by tell_of) CALL_LIMIT a b (Some bytes) (Some left) (Some []) (Some written) why → Row sheet b bytes left written why
row sheet a b bytes left written why is served0 =
    let served = subst (λ (from : State). Served (tells_by tell_of) CALL_LIMIT from b (Some bytes) (Some left) (Some []) (Some written) why) is served0 in
    let told = told-lone sheet (started sheet) b served.calls served.outcomes refl served.told in
    record {
      served = served;
      comes = subst (λ (outcomes : List Outcome). ComesTo (run CALL_LIMIT served.taken outcomes) served.calls served.out why)
          told.outcomes' served.comes;
      registers = ap (λ (s : State). s.registers) told.state';
    }

ends : (sheet : Contents) (b : State) (bytes left written : List ℕ) (at : Row sheet b bytes left written stop.End)
    → EndsWith sheet bytes at.served.calls at.served.out
ends sheet b bytes left written at =
    subst (λ (all : List ℕ). EndsWith sheet all at.served.calls at.served.out) at.served.all
    (at.comes.is ∙ ended at.served.calls at.served.out at.comes.unwritten at.comes.later at.comes.leaves.0 at.comes.leaves.1)

with-total : (sheet : Contents) (b : State) (bytes left written : List ℕ) (at : Row sheet b bytes left written stop.End)
    (total : Option ℤ) → total ≡ total_of (registers_after sheet at.served.calls) → Serves sheet bytes (with_total total (length written))
with-total sheet b bytes left written at (Some total) is = record {
  calls = at.served.calls;
  out = at.served.out;
  ends = ends sheet b bytes left written at;
  replies = ap length at.served.wrote;
  total = sym is;
}
with-total sheet b bytes left written at None is =
    record { calls = at.served.calls; out = at.served.out; ends = ends sheet b bytes left written at; total = sym is }

-- ---- another stop

early : (sheet : Contents) (b : State) (bytes left written : List ℕ) (why : Stop) → is_early why ≡ true → Row sheet b bytes left written why
    → StopsEarly sheet bytes why
early sheet b bytes left written why is at = record {
  taken = at.served.taken;
  left = left;
  calls = at.served.calls;
  out = at.served.out;
  is = at.served.consumed;
  early = is;
  comes = at.comes;
}

by-stop : (sheet : Contents) (b : State) (bytes left written : List ℕ) (why : Stop) → Row sheet b bytes left written why
    → Serves sheet bytes (ended_of why (length written) b.registers)
by-stop sheet b bytes left written stop.End at =
    with-total sheet b bytes left written at (total_of b.registers) (ap total_of at.registers)
by-stop sheet b bytes left written stop.WriteFault at = tt
by-stop sheet b bytes left written stop.Memory at = tt
by-stop sheet b bytes left written why at = early sheet b bytes left written why refl at

served-so : (sheet : Contents) (a b : State) (bytes left written : List ℕ) (why : Stop) → a ≡ started sheet
    → Served (tells_by tell_of) CALL_LIMIT a b (Some bytes) (Some left) (Some []) (Some written) why
    → Serves sheet bytes (ended_of why (length written) b.registers)
served-so sheet a b bytes left written why is served = by-stop sheet b bytes left written why (row sheet a b bytes left written why is served)

-- what was served, and what is told of it
pub record Came (sheet : Contents) (bytes : List ℕ) (result : Result Ended WorkFault) : Type 0 where
  pub a : State
  pub b : State
  pub from : List ℕ
  pub left : List ℕ
  pub sunk : List ℕ
  pub written : List ℕ
  pub why : Stop
  pub replies : ℕ
  pub registers : List Val
  pub begins : a ≡ started sheet
  pub all : from ≡ bytes
  pub none : sunk ≡ []
  pub count : replies ≡ length written
  pub last : registers ≡ b.registers
  pub tells : result ≡ ended_of why replies registers
  pub served : Served (tells_by tell_of) CALL_LIMIT a b (Some from) (Some left) (Some sunk) (Some written) why

pub serves : (sheet : Contents) (bytes : List ℕ) (result : Result Ended WorkFault) → Came sheet bytes result → Serves sheet bytes result
serves sheet bytes result told =
    subst (λ (r : Result Ended WorkFault). Serves sheet bytes r) (sym told.tells)
    (subst (λ (n : ℕ). Serves sheet bytes (ended_of told.why n told.registers)) (sym told.count)
    (subst (λ (r : List Val). Serves sheet bytes (ended_of told.why (length told.written) r)) (sym told.last)
    (served-so sheet told.a told.b bytes told.left told.written told.why told.begins
    (subst (λ (f : List ℕ). Served (tells_by tell_of) CALL_LIMIT told.a told.b (Some f) (Some told.left) (Some []) (Some told.written) told.why) told.all
    (subst (λ (s : List ℕ). Served (tells_by tell_of) CALL_LIMIT told.a told.b (Some told.from) (Some told.left) (Some s) (Some told.written) told.why) told.none
    told.served)))))

-- memory was wanting before a sheet was read
pub wanting : (text bytes : List ℕ) → Works text bytes (Err fault.Memory)
wanting text bytes = record { read = Err fault.Memory; reads = tt; works = refl }

pub same-ok : {T E : Type 0} (result : Result T E) (x y : T) → result ≡ Ok x → result ≡ Ok y → x ≡ y
same-ok result x y e f = cc
