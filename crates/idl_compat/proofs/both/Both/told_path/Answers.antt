use Rattle.idl_compat.proofs.Visiting.{if_ok}
use Rattle.idl_compat.proofs.Growing.{longer, both_at, all_still, found_still}
use Rattle.idl_compat.proofs.both.Both.told_path.Goals as goal

pub first_failure-requires-clause-root : goal.first_failure-requires-clause-root
first_failure-requires-clause-root c =
    let first = c.args.self.now.second in
    let second = c.args.self.now.first in
    record {
      body = c.args.body.now;
      reads = c.args.reads.now;
      at = both_at first c.number.new.self second c.number-2.new.self c.in_ok-from.from c.in_ok-to.to c.args.body.now c.args.reads.now
          c.in_ok-from.ensures.scope c.in_ok-to.ensures.scope c.in_ok-from.ensures.gained c.in_ok-to.ensures.gained;
    }

pub first_failure-requires-clause-within : goal.first_failure-requires-clause-within
first_failure-requires-clause-within c =
    let first = c.args.self.now.second in
    let second = c.args.self.now.first in
    all_still first c.number.new.self second c.number-2.new.self c.args.self.now.told
    (longer first c.number.new.self c.args.body.now c.in_ok-from.from c.in_ok-from.ensures.scope c.in_ok-from.ensures.gained)
    (longer second c.number-2.new.self c.args.reads.now c.in_ok-to.to c.in_ok-to.ensures.scope c.in_ok-to.ensures.gained)
    c.requires.told

pub returns-clause-found : goal.returns-clause-found
returns-clause-found c =
    let first = c.args.self.now.second in
    let second = c.args.self.now.first in
    found_still first c.number.new.self second c.number-2.new.self c.in_ok-from.from c.in_ok-to.to c.args.body.now c.args.reads.now c.first_failure.result
    (longer first c.number.new.self c.args.body.now c.in_ok-from.from c.in_ok-from.ensures.scope c.in_ok-from.ensures.gained)
    (longer second c.number-2.new.self c.args.reads.now c.in_ok-to.to c.in_ok-to.ensures.scope c.in_ok-to.ensures.gained)
    (both_at first c.number.new.self second c.number-2.new.self c.in_ok-from.from c.in_ok-to.to c.args.body.now c.args.reads.now
    c.in_ok-from.ensures.scope c.in_ok-to.ensures.scope c.in_ok-from.ensures.gained c.in_ok-to.ensures.gained)
    c.first_failure.ensures.found

pub returns-clause-within : goal.returns-clause-within
returns-clause-within c =
    let first = c.args.self.now.second in
    let second = c.args.self.now.first in
    let one = longer first c.number.new.self c.args.body.now c.in_ok-from.from c.in_ok-from.ensures.scope c.in_ok-from.ensures.gained in
    let other = longer second c.number-2.new.self c.args.reads.now c.in_ok-to.to c.in_ok-to.ensures.scope c.in_ok-to.ensures.gained in
    if_ok c.first_failure.result (λ path all none. record {
      first = c.in_ok-to.ensures.table;
      second = c.in_ok-from.ensures.table;
      sent = all_still second c.number-2.new.self first c.number.new.self c.args.self.now.sent other one c.requires.sent;
      told = all none;
    }) c.first_failure.ensures.within
