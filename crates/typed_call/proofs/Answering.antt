-- What is said of a description's end, of faults, and of a call that goes on with it.
use Rattle.std.proofs.Common.{◌≡◌, ℕ, ◌+◌, ◌<◌, List, [], ◌∷◌, ◌++◌, length, Option, Result, Ok, Err, refl, sym, ◌∙◌, subst, arith, inr, length-append}
use Rattle.call_form.specs.declared.Call.{Call}
use Rattle.caller_form.specs.CallBytes.{call_bytes}
use Rattle.link_reach.specs.Links.{Becomes, OthersAsBefore}
use Rattle.link_reach.specs.declared.deeds.Deed.{Deed}
use Rattle.link_reach.specs.declared.deeds.LinkState.{LinkState}
use Rattle.link_reach.specs.declared.deeds.LinkState.TheVariants.{Closed}
use Rattle.link_exchange.specs.Asked.{asked}
use Rattle.link_exchange.specs.declared.asked.Asking.{Asking}
use Rattle.link_exchange.specs.declared.ends.AskEnd.{AskEnd}
use Rattle.link_exchange.specs.declared.ends.AskEnd.TheVariants as ask
use Rattle.link_exchange.specs.OneReply.{IsLine}
use Rattle.link_exchange.specs.Passing.{LinkFaults}
use Rattle.link_exchange.specs.Stands.{Unread, Stand, stand}
use Rattle.client_core.specs.Calls.{Side, CalledOn, asking_of, lines_of, behind, unread}
use Rattle.standard_calls.specs.Asking.{description_call}
use Rattle.standard_calls.specs.Descriptions.{Output}
use Rattle.standard_calls.specs.declared.faults.NoDescription.{NoDescription}
use Rattle.standard_calls.specs.declared.faults.NoDescription.TheVariants as none
use Rattle.typed_call.specs.declared.ends.TypedEnd.{TypedEnd}
use Rattle.typed_call.specs.declared.ends.TypedEnd.TheVariants.{Asked, NoDescription as NoneTold}
use Rattle.typed_call.specs.Describing.{Describes, Tells, FaultsOf, WriteFaultsOf, IsNoWriteFault, IsSaid, aside, told}
use Rattle.typed_call.specs.TypedCalls.{TypedOn, TypedOver}
use Rattle.typed_call.specs.Typed.{reading, typed_of}
use Rattle.typed_call.proofs.OneLine.{asks-nothing}

nul-behind : (text : List ℕ) → 0 < length (text ++ 0 ∷ [])
nul-behind text = let nul : List ℕ = 0 ∷ [] in omega (arith, length-append text nul)

-- memory was wanting before anything was asked
pub describes-nothing : (interface method : List ℕ) (link : ℕ) (stood : Stand) → Describes interface method link stood stood (Err (Asked ask.Memory))
describes-nothing interface method link stood = record {
  end = ask.Memory;
  printed = [];
  exchanged = asks-nothing (asking_of (description_call interface)) (call_bytes (description_call interface)) link (aside [] stood)
      (nul-behind _);
  tells = refl;
}

-- memory was wanting while the reply was read
pub memory-said : (method printed : List ℕ) → IsLine 10 printed → IsSaid method printed (Err (Asked ask.Memory))
memory-said method printed line = record {
  payload = line.0;
  reply = line.1;
  said = Err none.Memory;
  line = line.2;
  is = line.3;
  says = tt;
  exact = λ other says. tt;
  answered = refl;
}

-- ---- faults

told-faults : (said : Result Output NoDescription) (before : ℕ) → FaultsOf (told said) before before
told-faults (Ok output) before = refl
told-faults (Err none.Memory) before = (refl, tt)
told-faults (Err (none.ErrorReply name)) before = (refl, tt)
told-faults (Err none.NoText) before = (refl, tt)
told-faults (Err (none.Idl why)) before = (refl, tt)
told-faults (Err none.NoMethod) before = (refl, tt)
told-faults (Err none.Float) before = (refl, tt)

said-faults : (answer : Result Output TypedEnd) (said : Result Output NoDescription) (before now : ℕ) → answer ≡ told said → now ≡ before → FaultsOf answer before now
said-faults answer said before now is same = subst (λ (a : Result Output TypedEnd). FaultsOf a before now) (sym is) (subst (FaultsOf (told said) before) (sym same) (told-faults said before))

is-faults : (answer other : Result Output TypedEnd) (before now : ℕ) → answer ≡ other → FaultsOf other before now → FaultsOf answer before now
is-faults answer other before now is faults = subst (λ (a : Result Output TypedEnd). FaultsOf a before now) (sym is) faults

pub faults-of : (method printed : List ℕ) (end : AskEnd) (answer : Result Output TypedEnd) (before now : ℕ) → Tells method end printed answer → LinkFaults end before now
    → FaultsOf answer before now
faults-of method printed (ask.Done n) answer before now tells faults = said-faults answer tells.said before now tells.answered faults
faults-of method printed (ask.ErrorReply name) answer before now tells faults = said-faults answer tells.said before now tells.answered faults
faults-of method printed (ask.NotReply i fault) answer before now tells faults = is-faults answer _ before now tells (faults, tt)
faults-of method printed (ask.Continues i) answer before now tells faults = is-faults answer _ before now tells (faults, tt)
faults-of method printed (ask.Ended i) answer before now tells faults = is-faults answer _ before now tells (faults, tt)
faults-of method printed (ask.TooLong i) answer before now tells faults = is-faults answer _ before now tells (faults, tt)
faults-of method printed (ask.IllTyped i name) answer before now tells faults = absurd tells
faults-of method printed ask.Long answer before now tells faults = is-faults answer _ before now tells (faults, tt)
faults-of method printed ask.LinkFault answer before now tells faults = is-faults answer _ before now tells (faults, tt)
faults-of method printed ask.WriteFault answer before now tells faults = is-faults answer _ before now tells (faults, tt)
faults-of method printed ask.Memory answer before now tells faults = is-faults answer _ before now tells (faults, tt)

pub sound-sink : (end : TypedEnd) (faults : ℕ) → IsNoWriteFault end → WriteFaultsOf end faults faults
sound-sink (NoneTold why) faults sound = refl
sound-sink (Asked (ask.Done n)) faults sound = refl
sound-sink (Asked (ask.ErrorReply name)) faults sound = refl
sound-sink (Asked (ask.NotReply i fault)) faults sound = refl
sound-sink (Asked (ask.Continues i)) faults sound = refl
sound-sink (Asked (ask.Ended i)) faults sound = refl
sound-sink (Asked (ask.TooLong i)) faults sound = refl
sound-sink (Asked (ask.IllTyped i name)) faults sound = refl
sound-sink (Asked ask.Long) faults sound = refl
sound-sink (Asked ask.LinkFault) faults sound = refl
sound-sink (Asked ask.WriteFault) faults sound = absurd sound
sound-sink (Asked ask.Memory) faults sound = refl

-- ---- the call itself

pub called-typed : (output : Output) (call : Call) (asking : Asking) (text : List ℕ) (link : ℕ) (stood : Stand) (log : Option (List Deed)) (written : Option (List ℕ)) (end : AskEnd)
    → asking ≡ lines_of call → text ≡ call_bytes call → CalledOn (asked asking (reading output)) text link stood log written end
    → CalledOn (typed_of output call) (call_bytes call) link stood log written end
called-typed output call asking text link stood log written end is text_is called =
    subst (λ (t : List ℕ). CalledOn (typed_of output call) t link stood log written end) text_is
    (subst (λ (a : Asking). CalledOn (asked a (reading output)) text link stood log written end) is called)

-- a link of its own was dialled, the call was made on it, and it was closed
pub typed-own : (dial : Deed) (call : Call) (before after : Side) (end : TypedEnd) (link opened : ℕ) (log : Option (List Deed)) (left : Option (List ℕ)) (inbox : Unread) (state : ℕ → LinkState)
    → link ≡ before.opened → opened ≡ before.opened + 1 → OthersAsBefore before.opened before.state state → log ≡ behind dial before.log → inbox ≡ unread
    → TypedOn call link (stand log left before.written inbox) after.log after.written end → after.opened ≡ opened → Becomes link Closed state after.state
    → TypedOver dial call before after end
typed-own dial call before after end link opened log left inbox state is next others dialled new made same closed = inr (record {
  left = left;
  called = subst (λ (n : ℕ). TypedOn call n (stand (behind dial before.log) left before.written unread) after.log after.written end) is
      (subst (λ (l : Option (List Deed)). TypedOn call link (stand l left before.written unread) after.log after.written end) dialled
      (subst (λ (i : Unread). TypedOn call link (stand log left before.written i) after.log after.written end) new made));
  opened = same ∙ next;
  closed = subst (λ (n : ℕ). after.state n ≡ Closed) is closed.0;
  others = λ m apart. subst (λ (n : ℕ). OthersAsBefore n state after.state) is closed.1 m apart ∙ others m apart;
})
