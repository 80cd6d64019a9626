use Rattle.std.proofs.Common.{arith, reverse}
use Rattle.door_binder.specs.BoundDoors.{cut}
use Rattle.door_binder.proofs.Moving.{moved-reversed, unused, within, still-fresh}
use Rattle.door_binder.proofs.mem_binders.move_doors.Goals as goal

pub loop-preserved : goal.loop-preserved
loop-preserved c =
    let m = moved-reversed (cut c.args.connections) (reverse c.args.doors.now.items) c.loop.doors.items c.pop.new.self.items
    c.loop.counter c.in-Some.door c.loop.invariant.rest c.in-Some.ensures.items in
    record {
      made = cc (m.made, c.loop.invariant.made, c.push_reserved.ensures.items, c.new.ensures);
      rest = cc (m.rest);
      room = omega arith;
    }

pub returns-clause-fresh : goal.returns-clause-fresh
returns-clause-fresh c =
    still-fresh c.loop.counter (reverse c.args.doors.now.items) _ c.loop.invariant.rest c.requires.fresh

pub returns-clause-unused : goal.returns-clause-unused
returns-clause-unused c =
    unused c.args.connections c.loop.counter (reverse c.args.doors.now.items) _ c.loop.invariant.made c.requires.fresh

pub returns-clause-within : goal.returns-clause-within
returns-clause-within c =
    within c.args.connections c.loop.counter (reverse c.args.doors.now.items) _ c.loop.invariant.made c.requires.fresh
