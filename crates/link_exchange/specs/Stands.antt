-- What contracts see of a link's inbox, and of all that a call on the link changes.
use Rattle.std.specs.Prelude.{ℕ, List, Option}
use Rattle.link_reach.specs.declared.deeds.Deed.{Deed}

-- the bytes that are held, which no call took as replies yet, and how many were taken from the link
pub record Unread : Type 0 where
  pub held : List ℕ
  pub taken : ℕ

-- how a call stands: the log of the reach, what is left on the link, what was passed on, and the inbox
pub record Stand : Type 0 where
  pub log : Option (List Deed)
  pub left : Option (List ℕ)
  pub written : Option (List ℕ)
  pub inbox : Unread

abbrev pub stand : Option (List Deed) → Option (List ℕ) → Option (List ℕ) → Unread → Stand
stand log left written inbox = record { log = log; left = left; written = written; inbox = inbox }
