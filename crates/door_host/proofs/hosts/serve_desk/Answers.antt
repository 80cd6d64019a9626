use Rattle.std.proofs.Common.{ℕ, List, sym, ap, ◌∙◌, subst}
use Rattle.turn_desk.specs.Histories.{AllGood, state_of}
use Rattle.service_core.specs.States.{State}
use Rattle.service_desk.specs.Boards.{IsGoodFor, state_after}
use Rattle.door_serving.specs.declared.doors.WorkerEnd.{WorkerEnd}
use Rattle.door_host.specs.Doors.{kind_of}
use Rattle.door_host.specs.Hosts.{Hosted}
use Rattle.door_host.proofs.Leaving.{hosted}
use Rattle.door_host.proofs.hosts.serve_desk.Goals as goal

pub returns-in-Ok-clause-serves : goal.returns-in-Ok-clause-serves
returns-in-Ok-clause-serves g c =
    let kind = (kind_of g.D.Listener.stated g.D.Listener.given g.D.Listener.faults g.D.Listener.coming g.D.Listener.back g.D.Conn.Ends.left g.D.Conn.Ends.written) in
    let seen = c.in-Ok.round.pass.seen in
    let before = c.args.doors.now.items in
    let after = c.serve_at.new.doors.items in
    let all = hosted kind c.args.service.now c.args.desk before after c.in-Ok.round.pass c.in-Ok.round.entries c.in-Ok.round.ends.items c.in-Ok.ensures.gathered c.close.ensures.numbers in
    record {
      history = seen;
      stands = c.close.ensures.history;
      leads = record {
        state = c.close.ensures.state ∙ ap (λ (s : State). state_of state_after s seen) c.requires.begun;
        good = subst (λ (s : State). AllGood IsGoodFor s seen) c.requires.begun c.close.ensures.good;
      };
      hosted = subst (λ (n : ℕ). Hosted kind c.args.service.now c.args.desk.limit seen before after n c.close.result.ends.items) (sym c.close.ensures.entries)
          (subst (λ (l : List WorkerEnd). Hosted kind c.args.service.now c.args.desk.limit seen before after c.in-Ok.round.entries l) (λ i. (sym c.close.ensures.ends i).items) all);
    }
