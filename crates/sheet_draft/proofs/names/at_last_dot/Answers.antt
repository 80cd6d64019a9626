use Rattle.sheet_draft.proofs.LastDots.{split_here, never_split}
use Rattle.sheet_draft.proofs.names.at_last_dot.Goals as goal

pub returns-in_ok-of-in-Some-2 : goal.returns-in_ok-of-in-Some-2
returns-in_ok-of-in-Some-2 c =
    let h = c.in-Some.ensures.cases in
    rw (c.in_ok-of-in-Some.ensures.bytes, c.in_ok-of-in-Some-2.ensures.bytes, h.3, h.4) (split_here c.args.name.now h.0 h.1 h.2.0 h.2.1)

pub returns-in-None : goal.returns-in-None
returns-in-None c = never_split c.args.name.now c.in-None.ensures.cases
