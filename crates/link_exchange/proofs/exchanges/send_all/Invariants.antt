use Rattle.std.proofs.Common.{◌≡◌, ◌≤◌, ◌-◌, [], length, take}
use Rattle.std.specs.Prelude.{option_map}
use Rattle.link_reach.specs.Links.{AsBefore, OthersAsBefore}
use Rattle.link_reach.specs.Worlds.{spot, sends}
use Rattle.link_exchange.specs.Passing.{SendsPieces}
use Rattle.link_exchange.proofs.exchanges.send_all.Given as goal

abbrev pub invariant-sends : goal.invariant-sends
invariant-sends g l =
    let reach = g.R.Reach in
    record {
      within : l.done ≤ length l.text;
      sent : SendsPieces l.link.0 (take l.done l.text) (reach.log l.initial.reach) (reach.log l.reach) [];
      fault : reach.faults l.reach ≡ reach.faults l.initial.reach;
      world : spot (reach.world l.reach) (reach.leads l.reach l.link.0)
          ≡ option_map (sends reach.says (take l.done l.text)) (spot (reach.world l.initial.reach) (reach.leads l.initial.reach l.link.0));
      links : OthersAsBefore l.link.0 (reach.leads l.initial.reach) (reach.leads l.reach);
      opened : reach.opened l.reach ≡ reach.opened l.initial.reach;
      states : AsBefore (reach.state l.initial.reach) (reach.state l.reach);
      freed : reach.freed l.reach ≡ reach.freed l.initial.reach;
    }

abbrev pub decreases-sends : goal.decreases-sends
decreases-sends g l = length l.text - l.done
