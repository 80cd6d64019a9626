-- What is asked of a link: what replies, how they are passed on, and which of them read.
use Rattle.std.specs.Prelude.{◌≡◌, ℕ, Bool, List, Option, None, Some, Result, Ok, Err, ⊤}
use Rattle.call_form.specs.declared.Reply.{Reply}
use Rattle.link_exchange.specs.declared.asked.Asking.{Asking}
use Rattle.link_exchange.specs.declared.screens.Misread.{Misread}
use Rattle.link_exchange.specs.declared.screens.Misread.TheVariants.{Field, Memory}

-- the first field of a reply that does not read, if there is one
abbrev pub Reading : Type 0
Reading = Reply → Option (List ℕ)

-- each reply reads
abbrev pub any_reads : Reading
any_reads reply = None

-- there is no reply that does not read
abbrev pub AllRead : Reading → Type 0
AllRead unread = (reply : Reply) → unread reply ≡ None

pub record Asked : Type 0 where
  pub oneway : Bool
  pub more : Bool
  pub mark : ℕ
  pub unread : Reading

abbrev pub asked : Asking → Reading → Asked
asked asking unread = record { oneway = asking.oneway; more = asking.more; mark = asking.mark; unread = unread }

-- the answer is the field that does not read; want of memory tells nothing
abbrev pub TellsUnread : Result ⊤ Misread → Option (List ℕ) → Type 0
TellsUnread (Ok done) there = there ≡ None
TellsUnread (Err (Field name)) there = there ≡ Some name
TellsUnread (Err Memory) there = ⊤
