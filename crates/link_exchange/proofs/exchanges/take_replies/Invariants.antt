use Rattle.std.proofs.Common.{◌≡◌, ◌-◌, false}
use Rattle.link_port.specs.Flow.{IsAsBefore}
use Rattle.link_reach.specs.Links.{AsBefore, OthersAsBefore}
use Rattle.link_reach.specs.Worlds.{left_of}
use Rattle.link_exchange.specs.Asked.{asked}
use Rattle.link_exchange.specs.Exchanges.{Taking}
use Rattle.link_exchange.specs.Limits.{most_of_link}
use Rattle.link_exchange.specs.Stands.{stand}
use Rattle.link_exchange.proofs.exchanges.take_replies.Given as goal

abbrev pub invariant-takes : goal.invariant-takes
invariant-takes g l =
    let reach = g.R.Reach in
    let ends = g.K.Ends in
    record {
      taking : Taking (asked l.asking (g.S.Screen.unread l.screen)) l.link.0 l.index
          (stand (reach.log l.initial.reach) (left_of (reach.leads l.initial.reach l.link.0)) (ends.written l.initial.sink) l.initial.inbox)
          (stand (reach.log l.reach) (left_of (reach.leads l.reach l.link.0)) (ends.written l.sink) l.inbox);
      link_faults : reach.faults l.reach ≡ reach.faults l.initial.reach;
      write_faults : ends.write_faults l.sink ≡ ends.write_faults l.initial.sink;
      world : reach.world l.reach ≡ reach.world l.initial.reach;
      links : OthersAsBefore l.link.0 (reach.leads l.initial.reach) (reach.leads l.reach);
      opened : reach.opened l.reach ≡ reach.opened l.initial.reach;
      states : AsBefore (reach.state l.initial.reach) (reach.state l.reach);
      freed : reach.freed l.reach ≡ reach.freed l.initial.reach;
      other : IsAsBefore (ends.left l.initial.sink) (ends.left l.sink) (ends.read_faults l.initial.sink) (ends.read_faults l.sink);
      unfinished : ends.finished l.sink ≡ false;
    }

abbrev pub decreases-takes : goal.decreases-takes
decreases-takes g l = most_of_link - l.inbox.taken
