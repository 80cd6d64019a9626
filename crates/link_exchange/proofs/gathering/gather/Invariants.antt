use Rattle.std.proofs.Common.{◌≡◌, ◌≤◌, length}
use Rattle.link_exchange.specs.Asked.{asked}
use Rattle.link_exchange.specs.Gathering.{Gathers}
use Rattle.link_exchange.proofs.gathering.gather.Given as goal

abbrev pub invariant-messages : goal.invariant-messages
invariant-messages g l = record {
  limit : l.frames.limit ≡ l.initial.frames.limit;
  shorter : length l.frames.bytes ≤ length l.initial.frames.bytes;
  gathered : Gathers (asked l.asking (g.S.Screen.unread l.screen)) l.initial.index l.index l.initial.frames.bytes l.frames.bytes l.initial.lines.items l.lines.items;
}

abbrev pub decreases-messages : goal.decreases-messages
decreases-messages g l = length l.frames.bytes
