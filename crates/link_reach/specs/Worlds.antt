-- What peers say, where a reach tells it: a world, and for each message what the peer at an address says to it.
use Rattle.std.specs.Prelude.{◌≡◌, ℕ, ◌==◌, Bool, true, false, List, [], ◌∷◌, ◌++◌, if◌then◌else◌, Option, Some, None, option_map}
use Rattle.std.specs.Prelude.{Result, Ok, Err, take}

-- what a peer says to one whole message: bytes, the world behind it, and whether it reads on
pub record Said (W : Type 0) : Type 0 where
  pub bytes : List ℕ
  pub world : W
  pub reads_on : Bool

-- a link: whose it is, what was sent behind the last NUL, what was said and not yet taken, and whether the peer reads on
pub record Link : Type 0 where
  pub address : List ℕ
  pub part : List ℕ
  pub left : List ℕ
  pub reads : Bool

-- a link and the world that it belongs to
pub record Spot (W : Type 0) : Type 0 where
  pub world : W
  pub link : Link

abbrev pub spot : {W : Type 0} → Option W → Option Link → Option (Spot W)
spot (Some world) (Some link) = Some (record { world = world; link = link })
spot world link = None

-- a link just opened
abbrev pub at_opened : {W : Type 0} → List ℕ → W → Spot W
at_opened address world = record { world = world; link = record { address = address; part = []; left = []; reads = true } }

-- the bytes that are left on a link
abbrev pub left_of : Option Link → Option (List ℕ)
left_of link = option_map (λ (l : Link). l.left) link

-- a byte that ends no message is kept with those before it
abbrev pub holds : {W : Type 0} → ℕ → Spot W → Spot W
holds b at = record {
  world = at.world;
  link = record {
    address = at.link.address;
    part = at.link.part ++ b ∷ [];
    left = at.link.left;
    reads = at.link.reads;
  };
}

module _ {W : Type 0} (says : W → List ℕ → List ℕ → Said W) where
  -- the peer has said this to a message
  abbrev pub after_saying : Link → Said W → Spot W
  after_saying link said = record {
    world = said.world;
    link = record {
      address = link.address;
      part = [];
      left = link.left ++ said.bytes;
      reads = said.reads_on;
    };
  }

  -- a message is whole: a peer that reads on says something to it
  abbrev pub hears : Spot W → Spot W
  hears at =
      if at.link.reads then after_saying at.link (says at.world at.link.address at.link.part)
      else record { world = at.world; link = record { address = at.link.address; part = []; left = at.link.left; reads = at.link.reads } }

  -- these bytes are sent, of which each NUL ends a message
  abbrev pub sends : List ℕ → Spot W → Spot W
  sends [] at = at
  sends (b ∷ bytes) at = sends bytes (if b == 0 then hears at else holds b at)

  -- a send changed the world and the link as its bytes say; one that did not do its work changed nothing
  abbrev pub SendsTo : {E : Type 0} → Option W → Option W → Option Link → Option Link → Result ℕ E → List ℕ → Type 0
  SendsTo world world' link link' (Ok n) piece = spot world' link' ≡ option_map (sends (take n piece)) (spot world link)
  SendsTo world world' link link' (Err why) piece = (world' ≡ world) × (link' ≡ link)

-- a dial opens a link of the world at this address, and changes nothing else of the world
abbrev pub OpensAt : {W : Type 0} → List ℕ → Option W → Option W → Option Link → Type 0
OpensAt address world world' link = (world' ≡ world) × (spot world' link ≡ option_map (at_opened address) world)
