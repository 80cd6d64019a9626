-- What the words of a command line mean where the first is that of a command that needs the network. All words that are not
-- of one of the forms mean no command.
use Rattle.std.specs.Prelude.{◌≡◌, ◌&&◌, ◌≤◌, ℕ, Bool, true, false, List, [], ◌∷◌, if◌then◌else◌, Option, Some, None, is_some, option_map, option_and_then, Result, Ok, Err, ⊤}
use Rattle.serde_json.specs.Data.{Data, object, no_members}
use Rattle.serde_json.specs.Read.{read}
use Rattle.serde_json.specs.Find.{as_object}
use Rattle.call_form.specs.CallText.{IsSendable}
use Rattle.call_form.specs.declared.Call.{Call}
use Rattle.link_port.specs.declared.refusals.Memory.{Memory}
use Rattle.link_doors.specs.Addresses.{address_of}
use Rattle.link_doors.specs.declared.addresses.Address.{Address}
use Rattle.typed_value.specs.Ints.{has_only_ints}
use Rattle.network_words.specs.Settings.{Word, command_named}
use Rattle.network_words.specs.Given.{Words, parted}
use Rattle.network_words.specs.Numbers.{number_to}
use Rattle.network_words.specs.declared.settings.Kind.{Kind}
use Rattle.network_words.specs.declared.settings.Kind.TheVariants as command
use Rattle.network_words.specs.declared.meanings.Serving.{Serving}
use Rattle.network_words.specs.declared.meanings.Way.{Way}
use Rattle.network_words.specs.declared.meanings.Way.TheVariants as way
use Rattle.network_words.specs.declared.meanings.Target.{Target}
use Rattle.network_words.specs.declared.meanings.Target.TheVariants as target
use Rattle.network_words.specs.declared.meanings.Network.{Network}
use Rattle.network_words.specs.declared.meanings.Network.TheVariants as net

infixl 10 ◌>>=◌
abbrev pub ◌>>=◌ : {A B : Type 0} → Option A → (A → Option B) → Option B
found >>= f = option_and_then f found

-- the number that was asked for, or the usual one
abbrev pub number_or : ℕ → ℕ → Option Word → Option ℕ
number_or usual most None = Some usual
number_or usual most (Some word) = number_to most word

-- the number that was asked for, if one was
abbrev pub number_if : ℕ → Option Word → Option (Option ℕ)
number_if most None = Some None
number_if most (Some word) = option_map Some (number_to most word)

-- ADDRESS PATH [--workers N] [--connections N]: 4 workers and no end where nothing else is asked for
abbrev pub served : Words → Option Serving
served words = do
  place ← words.first
  path ← words.second
  workers ← number_or 4 64 words.workers
  connections ← number_if 4294967296 words.connections
  address ← address_of place
  Some (record { address = address; path = path; workers = workers; connections = connections })

-- --at ADDRESS, or --resolver ADDRESS, or --resolver ADDRESS --child PROGRAM
abbrev pub child : Word → Word → Option Way
child program resolver = option_map (λ address. way.Child program address) (address_of resolver)

abbrev pub way_by : Option Word → Option Word → Option Word → Option Way
way_by (Some at) None None = option_map way.At (address_of at)
way_by None (Some resolver) None = option_map way.Resolver (address_of resolver)
way_by None (Some resolver) (Some program) = child program resolver
way_by at resolver program = None

abbrev pub way_of : Words → Option Way
way_of words = way_by words.at words.resolver words.child

-- PARAMETERS: the text of an object whose numbers are whole; {} where there is none
abbrev pub whole_object : Data → Option Data
whole_object tree = if is_some (as_object tree) && has_only_ints tree then Some tree else None

abbrev pub parameters_of : Option Word → Option Data
parameters_of None = Some (object no_members)
parameters_of (Some text) = read text >>= whole_object

abbrev pub call_with : Words → Word → Option Call
call_with words method = option_map
    (λ parameters. record { method = method; parameters = parameters; oneway = words.oneway; more = words.more; upgrade = false })
    (parameters_of words.second)

-- WAY [--more] [--oneway] [--typed] METHOD [PARAMETERS]
abbrev pub call_of : Words → Option Network
call_of words = do
  method ← words.first
  by ← way_of words
  call ← call_with words method
  Some (net.Call by call words.typed)

-- --resolver ADDRESS INTERFACE
abbrev pub resolve_by : Option Word → Option Word → Option Word → Option Network
resolve_by (Some resolver) (Some interface) None = option_map (λ address. net.Resolve address interface) (address_of resolver)
resolve_by resolver interface more = None

-- --to ADDRESS, or --resolver ADDRESS
abbrev pub bridge_by : Option Word → Option Word → Option Word → Option Network
bridge_by (Some to) None None = option_map (λ address. net.Bridge (target.At address)) (address_of to)
bridge_by None (Some resolver) None = option_map (λ address. net.Bridge (target.Resolver address)) (address_of resolver)
bridge_by to resolver more = None

abbrev pub by_kind : Kind → Words → Option Network
by_kind command.Serve words = option_map (λ what. net.Serve what words.forget) (served words)
by_kind command.Resolver words = option_map net.Resolver (served words)
by_kind command.Call words = call_of words
by_kind command.Resolve words = resolve_by words.resolver words.first words.second
by_kind command.Bridge words = bridge_by words.to words.resolver words.first

abbrev pub network_behind : List Word → Option Kind → Option Network
network_behind words None = None
network_behind words (Some kind) = parted kind words >>= by_kind kind

-- the command that the words mean
unfoldable pub network : List Word → Option Network
network [] = None
network (word ∷ words) = network_behind words (command_named word)

abbrev pub is_network : List Word → Bool
is_network [] = false
is_network (word ∷ words) = is_some (command_named word)

-- the answer is this; want of memory tells nothing
abbrev pub Means : {A : Type 0} → Result (Option A) Memory → Option A → Type 0
Means (Ok found) there = found ≡ there
Means (Err stop) there = ⊤

-- there is a worker, and at most 64 are
abbrev pub HasWorkers : Serving → Type 0
HasWorkers what = (1 ≤ what.workers) × (what.workers ≤ 64)

-- the call of a command can be sent, and a command that serves has workers
abbrev pub IsRunnable : Network → Type 0
IsRunnable (net.Call by call typed) = IsSendable call
IsRunnable (net.Serve what forgets) = HasWorkers what
IsRunnable (net.Resolver what) = HasWorkers what
IsRunnable other = ⊤

abbrev pub HasRunnable : Option Network → Type 0
HasRunnable (Some command) = IsRunnable command
HasRunnable None = ⊤
