-- A resolver's one reply is the last, and fits its call.
use Rattle.std.proofs.Common.{◌≡◌, ℕ, true, false, Bool, cond, List, [], ◌∷◌, Option, Some, None, codes, bytes_eq, refl, sym, true≢false}
use Rattle.serde_json.specs.Data.{Data, null, boolean, number, string, array, object}
use Rattle.serde_json.specs.Find.{get}
use Rattle.link_doors.specs.declared.addresses.Address.{Address}
use Rattle.call_form.specs.declared.Call.{Call}
use Rattle.call_form.specs.declared.Reply.{Reply}
use Rattle.call_form.specs.ReplyText.{IsWritable}
use Rattle.session_core.specs.Outcomes.{Fits}
use Rattle.resolver_core.specs.declared.methods.Asked.{Asked}
use Rattle.resolver_core.specs.declared.methods.Asked.TheVariants as asks
use Rattle.resolver_core.specs.Registries.{Entries, address_at, resolver_name, service_name}
use Rattle.resolver_core.specs.Places.{asked_by, describes, resolution, resolves, reply_by, reply_of}

either_last : (b : Bool) (one other : Reply) → one.continues ≡ false → other.continues ≡ false → (cond b one other).continues ≡ false
either_last true one other h k = h
either_last false one other h k = k

describes_last : (found : Option Data) → (describes found).continues ≡ false
describes_last None = refl
describes_last (Some (string name)) =
    either_last (bytes_eq name service_name) _ _ refl (either_last (bytes_eq name resolver_name) _ _ refl refl)
describes_last (Some null) = refl
describes_last (Some (boolean _)) = refl
describes_last (Some (number _)) = refl
describes_last (Some (array _)) = refl
describes_last (Some (object _)) = refl

resolution_last : (name : List ℕ) (address : Option Address) → (resolution name address).continues ≡ false
resolution_last name (Some address) = refl
resolution_last name None = refl

resolves_last : (entries : Entries) (found : Option Data) → (resolves entries found).continues ≡ false
resolves_last entries None = refl
resolves_last entries (Some (string name)) = resolution_last name (address_at name entries)
resolves_last entries (Some null) = refl
resolves_last entries (Some (boolean _)) = refl
resolves_last entries (Some (number _)) = refl
resolves_last entries (Some (array _)) = refl
resolves_last entries (Some (object _)) = refl

last_by : (entries : Entries) (call : Call) (asked : Asked) → (reply_by entries call asked).continues ≡ false
last_by entries call asks.NoInterface = refl
last_by entries call asks.NoMethod = refl
last_by entries call asks.ServiceInfo = either_last call.upgrade _ _ refl refl
last_by entries call asks.Description =
    either_last call.upgrade _ _ refl (describes_last (get (codes "interface") call.parameters))
last_by entries call asks.ResolverInfo = either_last call.upgrade _ _ refl refl
last_by entries call asks.Resolve =
    either_last call.upgrade _ _ refl (resolves_last entries (get (codes "interface") call.parameters))

pub reply_last : (entries : Entries) (call : Call) → (reply_of entries call).continues ≡ false
unfolding reply_of
reply_last entries call = last_by entries call (asked_by call.method)

pub fits_one : (call : Call) (reply : Reply) → reply.continues ≡ false → IsWritable reply
    → Fits call (record { replies = reply ∷ []; raw = None })
fits_one call reply last writable = record {
  continues = last;
  errors = tt;
  several = λ _. refl;
  upgrade = λ some. absurd (true≢false (sym some));
  writable = (record { is_object = writable.is_object; is_sound = writable.is_sound }, tt);
}
