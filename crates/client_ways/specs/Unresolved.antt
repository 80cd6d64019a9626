-- What a caller is told of an interface that nobody has (varlink.org, "Service": `InterfaceNotFound`).
use Rattle.std.specs.Prelude.{◌≡◌, ℕ, List, [], ◌∷◌, ◌++◌, Bool, if◌then◌else◌, Option}
use Rattle.std.specs.Io.KnownBytes.{Appends}
use Rattle.serde_json.specs.Written.{compact_text}
use Rattle.link_port.specs.Flow.{AppendsFront}
use Rattle.call_form.specs.ReplyText.{reply_tree}
use Rattle.call_form.specs.StdErrors.{standard_of}
use Rattle.call_form.specs.declared.StdError.TheVariants.{InterfaceNotFound}
use Rattle.link_exchange.specs.declared.ends.AskEnd.TheVariants as ask
use Rattle.client_ways.specs.declared.ends.ClientEnd.{ClientEnd}
use Rattle.client_ways.specs.declared.ends.ClientEnd.TheVariants.{Asked, Unresolved}

-- the standard's error reply for the interface, as a line
abbrev pub not_found : List ℕ → List ℕ
not_found interface = compact_text (reply_tree (standard_of (InterfaceNotFound interface))) ++ 10 ∷ []

-- what is printed where nobody has the interface: a `oneway` call wants no reply
abbrev pub printed_of : Bool → List ℕ → List ℕ
printed_of oneway interface = if oneway then [] else not_found interface

-- nobody has the interface: this was printed, and the end names it. Where the sink failed a front was printed, and
-- where memory was wanting, nothing
abbrev pub TellsNobody : Bool → List ℕ → Option (List ℕ) → Option (List ℕ) → ClientEnd → Type 0
TellsNobody oneway interface before after (Unresolved name) =
    (name ≡ interface) × Appends before after (printed_of oneway interface)
TellsNobody oneway interface before after (Asked ask.WriteFault) = AppendsFront before after (printed_of oneway interface)
TellsNobody oneway interface before after (Asked ask.Memory) = after ≡ before
TellsNobody oneway interface before after end = ⊥
