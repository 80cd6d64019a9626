-- A session that is answered by the service of a sheet.
use Rattle.std.proofs.Common.{◌≡◌, List, [], ℕ, Option, Some, None, refl, sym, subst, arith}
use Rattle.std.proofs.lemmas.List.{append-nil}
use Rattle.std.specs.Io.KnownBytes.{Appends, Consumes}
use Rattle.call_form.specs.declared.Call.{Call}
use Rattle.call_form.specs.declared.Outcome.{Outcome}
use Rattle.call_form.specs.declared.TheConstants.{CALL_LIMIT}
use Rattle.session_core.specs.declared.stops.Stop.{Stop}
use Rattle.session_core.specs.declared.stops.Stop.TheVariants as stop
use Rattle.session_core.specs.Run.{run}
use Rattle.session_core.specs.Tells.{tells_by}
use Rattle.session_core.specs.Served.{Told, ComesTo, Served}
use Rattle.session_core.proofs.TellLemmas.{told-tale}
use Rattle.sheet_form.specs.declared.sheets.Contents.{Contents}
use Rattle.service_core.specs.States.{State}
use Rattle.service_core.specs.Tells.{started, tell_of, lone}
use Rattle.varlink_command.specs.Sessions.{SessionServed}

-- the outcomes are those of calls in a row, from the registers that the sheet begins with
told-lone : (sheet : Contents) (a b : State) (calls : List Call) (outcomes : List Outcome) → a ≡ started sheet
    → Told (tells_by tell_of) a calls outcomes b → outcomes ≡ (lone sheet calls).outcomes
told-lone sheet a b calls outcomes is told =
    ((told-tale tell_of (started sheet) b calls outcomes).0
    (subst (λ (from : State). Told (tells_by tell_of) from calls outcomes b) is told)).0

pub SessionServed-of : (sheet : Contents) (a b : State) (left left' written written' : Option (List ℕ)) (why : Stop) → a ≡ started sheet
    → Served (tells_by tell_of) CALL_LIMIT a b left left' written written' why → SessionServed sheet left left' written written' why
SessionServed-of sheet a b left left' written written' why is served = record {
  taken = served.taken;
  calls = served.calls;
  out = served.out;
  consumed = served.consumed;
  most = served.most;
  wrote = served.wrote;
  comes = subst (λ (outcomes : List Outcome). ComesTo (run CALL_LIMIT served.taken outcomes) served.calls served.out why)
      (told-lone sheet a b served.calls served.outcomes is served.told) served.comes;
  all = served.all;
}

-- where memory was wanting before the session began, nothing was taken or written
takes-none : (left : Option (List ℕ)) → Consumes left left []
takes-none None = tt
takes-none (Some bytes) = refl

puts-none : (written : Option (List ℕ)) → Appends written written []
puts-none None = tt
puts-none (Some bytes) = sym (append-nil bytes)

pub unserved : (sheet : Contents) (left written : Option (List ℕ)) → SessionServed sheet left left written written stop.Memory
unserved sheet left written = record {
  taken = [];
  calls = [];
  out = [];
  consumed = takes-none left;
  most = omega arith;
  wrote = puts-none written;
  comes = record { unwritten = []; later = run CALL_LIMIT [] (lone sheet []).outcomes; is = refl; leaves = tt };
  all = tt;
}
