use Rattle.link_reach.proofs.Takings.{log-of-take, bytes-of-take, leads-of-take, states-of-take}
use Rattle.link_reach.proofs.mem_reaches.MemReachReach.take.Goals as goal

pub returns-clause-log : goal.returns-clause-log
returns-clause-log c =
    log-of-take c.args.self.now c.take_from.new.self c.args.link.0 c.args.into.now c.take_from.new.into c.take_from.result c.take_from.ensures

pub returns-clause-bytes : goal.returns-clause-bytes
returns-clause-bytes c =
    bytes-of-take c.args.self.now c.take_from.new.self c.args.link.0 c.args.into.now c.take_from.new.into c.take_from.result c.requires.open c.take_from.ensures

pub returns-clause-links : goal.returns-clause-links
returns-clause-links c =
    leads-of-take c.args.self.now c.take_from.new.self c.args.link.0 c.args.into.now c.take_from.new.into c.take_from.result c.take_from.ensures

pub returns-clause-states : goal.returns-clause-states
returns-clause-states c =
    states-of-take c.args.self.now c.take_from.new.self c.args.link.0 c.args.into.now c.take_from.new.into c.take_from.result c.requires.open c.take_from.ensures
