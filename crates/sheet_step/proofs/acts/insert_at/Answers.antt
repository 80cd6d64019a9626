use Rattle.std.proofs.Common.{arith}
use Rattle.sheet_step.proofs.EntriesBack.{insert_back}
use Rattle.sheet_step.proofs.acts.insert_at.Goals as goal

pub returns-in-Ok-clause-ok : goal.returns-in-Ok-clause-ok
returns-in-Ok-clause-ok c =
    insert_back c.args.vec.now.items c.insert.new.self.items c.args.place c.args.entry (omega (arith, c.requires, c.args.vec.now.ok.0)) c.in-Ok.ensures.items
