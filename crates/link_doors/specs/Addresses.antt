-- The addresses at which a service is found (varlink.org, "Varlink Address"): `unix:` and a path, or `tcp:`, four numbers
-- and a port. What stands from the first `;` on tells of the socket, and is no part of the address.
use Rattle.std.specs.Prelude.{◌≡◌, ◌↔◌, ◌≢◌, ◌<◌, ◌^◌, ◌==◌, ◌||◌, ◌&&◌, ℕ, List, [], ◌∷◌, ◌++◌, Option, Some, None, Ok, Err}
use Rattle.std.specs.Prelude.{Result, codes, decimal, length, slice_index, nat_lt, if◌then◌else◌, ⊤}
use Rattle.std.specs.List.{AllByRecursion, list_any}
use Rattle.std.specs.Str.{bytes_eq}
use Rattle.std.specs.Str.Parse.{digits_value}
use Rattle.std.specs.Net.Reader.{read_ipv4}
use Rattle.std.specs.Net.Text.{ipv4_text}
use Rattle.link_doors.specs.declared.addresses.Address.{Address}
use Rattle.link_doors.specs.declared.addresses.Address.TheVariants.{Unix, Tcp}
use Rattle.link_doors.specs.declared.addresses.AddressFault.{AddressFault}
use Rattle.link_doors.specs.declared.addresses.AddressFault.TheVariants.{BadAddress, Memory}

-- what stands before the first byte `mark`, or all where there is none
abbrev pub before : ℕ → List ℕ → List ℕ
before mark [] = []
before mark (b ∷ bytes) = if b == mark then [] else b ∷ before mark bytes

-- what stands behind the first byte `mark`, or nothing where there is none
abbrev pub behind : ℕ → List ℕ → List ℕ
behind mark [] = []
behind mark (b ∷ bytes) = if b == mark then bytes else behind mark bytes

-- the text of an address
abbrev pub address_text : Address → List ℕ
address_text (Unix path) = codes "unix:" ++ path
address_text (Tcp ip port) = codes "tcp:" ++ (ipv4_text ip ++ (codes ":" ++ decimal port))

-- a path is not empty, does not begin with `@`, and holds no NUL; an address of the network has four octets and a port
-- from 1 to 65535
abbrev pub IsGood : Address → Type 0
IsGood (Unix path) = (path ≢ []) × (slice_index path 0 ≢ 64) × AllByRecursion (λ b. b ≢ 0) path
IsGood (Tcp ip port) = (length ip ≡ 4) × AllByRecursion (λ n. n < 256) ip × (0 < port) × (port < 2 ^ 16)

-- the text is that of the address, but for what stands from its first `;` on
abbrev pub IsAddress : List ℕ → Address → Type 0
IsAddress text address = (before 59 text ≡ address_text address) × IsGood address

-- how it is read: a path
abbrev pub path_of : List ℕ → Option Address
path_of path = if length path == 0 || (slice_index path 0 == 64 || list_any (λ b. b == 0) path) then None else Some (Unix path)

-- four octets with dots between them, and nothing behind them
abbrev pub whole : Option (List ℕ × List ℕ) → Option (List ℕ)
whole (Some (octets, [])) = Some octets
whole _ = None

abbrev pub octets_of : List ℕ → Option (List ℕ)
octets_of text = whole (read_ipv4 text)

-- the port whose decimal text this is
abbrev pub port_of : List ℕ → Option ℕ
port_of text =
    let port = digits_value 10 text in
    if bytes_eq (decimal port) text && (nat_lt 0 port && nat_lt port (2 ^ 16)) then Some port else None

abbrev pub tcp_at : Option (List ℕ) → Option ℕ → Option Address
tcp_at (Some ip) (Some port) = Some (Tcp ip port)
tcp_at _ _ = None

abbrev pub tcp_of : List ℕ → Option Address
tcp_of place = tcp_at (octets_of (before 58 place)) (port_of (behind 58 place))

-- the scheme stands before the first `:`
abbrev pub by_scheme : (scheme rest : List ℕ) → Option Address
by_scheme scheme rest =
    if bytes_eq scheme (codes "unix") then path_of rest
    else (if bytes_eq scheme (codes "tcp") then tcp_of rest else None)

abbrev pub spelled : List ℕ → Option Address
spelled named = by_scheme (before 58 named) (behind 58 named)

-- the address that a text is, if it is one
unfoldable pub address_of : List ℕ → Option Address
address_of text = spelled (before 59 text)

-- each text is read as the address that it is, and where it is none, as none
abbrev pub AddressesAre : Type 0
AddressesAre = (text : List ℕ) (address : Address) → (address_of text ≡ Some address) ↔ IsAddress text address

-- an address that was read is read again from its text
abbrev pub AddressesReadBack : Type 0
AddressesReadBack = (text : List ℕ) (address : Address) → address_of text ≡ Some address
    → address_of (address_text address) ≡ Some address

-- reading gave the address that is there, and refused exactly where there is none; want of memory tells nothing
abbrev pub GivesAddress : Option Address → Result Address AddressFault → Type 0
GivesAddress there (Ok address) = there ≡ Some address
GivesAddress there (Err BadAddress) = there ≡ None
GivesAddress there (Err Memory) = ⊤

-- how a fault is told
abbrev pub fault_text : AddressFault → List ℕ
fault_text BadAddress = codes "bad address"
fault_text Memory = codes "out of memory"
