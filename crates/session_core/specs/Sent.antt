-- Bytes that are sent by an outbox: some wait in it before they are put.
use Rattle.std.specs.Prelude.{◌≡◌, ℕ, List, ◌++◌, Option}
use Rattle.std.specs.Io.KnownBytes.{Appends}

-- the bytes that wait, and the greatest number of them
pub record Waiting : Type 0 where
  pub bytes : List ℕ
  pub room : ℕ

-- what was put, where that is told, and the bytes that wait behind it
pub record Sent : Type 0 where
  pub written : Option (List ℕ)
  pub waiting : List ℕ

abbrev pub sent : Option (List ℕ) → Waiting → Sent
sent written outbox = record { written = written; waiting = outbox.bytes }

-- these bytes were sent: what waited before and then they are what was put and then what waits
pub record Sends (old new : Sent) (bytes : List ℕ) : Type 0 where
  pub put : List ℕ
  pub wrote : Appends old.written new.written put
  pub whole : old.waiting ++ bytes ≡ put ++ new.waiting

-- a front of these bytes was sent
pub record SendsFront (old new : Sent) (all : List ℕ) : Type 0 where
  pub front : List ℕ
  pub rest : List ℕ
  pub whole : all ≡ front ++ rest
  pub sends : Sends old new front
