-- A call for a definition passes on one line where it ends with its reply, and no reply of it is ill typed.
use Rattle.std.proofs.Common.{◌≡◌, ℕ, ◌<◌, List, [], length, Option, Some, refl, sym, subst, arith, inr}
use Rattle.std.proofs.KnownBytes.{Appends-nil}
use Rattle.std.specs.Io.KnownBytes.{Appends}
use Rattle.link_exchange.specs.Asked.{Asked}
use Rattle.link_exchange.specs.declared.ends.AskEnd.{AskEnd}
use Rattle.link_exchange.specs.declared.ends.AskEnd.TheVariants as ask
use Rattle.link_exchange.specs.Exchanges.{Exchanged}
use Rattle.link_exchange.specs.Gathering.{IsLast}
use Rattle.link_exchange.specs.OneReply.{IsWellTyped, IsLine}
use Rattle.link_exchange.specs.Stands.{Stand}
use Rattle.link_exchange.proofs.OneReply.{exchanged_line, exchanged_typed}
use Rattle.link_exchange.proofs.SendLemmas.{Gains-none}
use Rattle.link_exchange.proofs.TakingLemmas.{none-needed}
use Rattle.client_core.specs.Calls.{asking_of}
use Rattle.standard_calls.specs.Asking.{description_call}

-- nothing was done where memory was wanting
pub asks-nothing : (asked : Asked) (text : List ℕ) (link : ℕ) (old : Stand) → 0 < length text → Exchanged asked text link old old ask.Memory
asks-nothing asked text link old some = record {
  sent = [];
  unsent = text;
  fed = [];
  printed = [];
  text_is = refl;
  log = Gains-none old.log;
  silent = λ is. refl;
  needed = none-needed asked old.inbox;
  counted = omega arith;
  wrote = Appends-nil old.written;
  comes = inr (record { part = some; none_taken = refl; none_passed = refl; why = tt });
}

-- what is in the sink in memory is one line, where the call ended with its reply
pub one_line : (interface text : List ℕ) (link : ℕ) (old new : Stand) (bytes : List ℕ) (end : AskEnd)
    → Exchanged (asking_of (description_call interface)) text link old new end
    → old.written ≡ Some [] → new.written ≡ Some bytes → IsLast end → IsLine 10 bytes
one_line interface text link old new bytes end made before now last =
    let put : Appends (Some []) (Some bytes) made.printed = subst (λ (w : Option (List ℕ)). Appends (Some []) w made.printed) now (subst (λ (w : Option (List ℕ)). Appends w new.written made.printed) before made.wrote) in
    subst (IsLine 10) (sym put) (exchanged_line (asking_of (description_call interface)) text link old new end made refl refl last)

pub all_typed : (interface text : List ℕ) (link : ℕ) (old new : Stand) (end : AskEnd)
    → Exchanged (asking_of (description_call interface)) text link old new end → IsWellTyped end
all_typed interface text link old new end made = exchanged_typed (asking_of (description_call interface)) text link old new end (λ reply. refl) made
