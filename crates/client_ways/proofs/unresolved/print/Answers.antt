use Rattle.std.proofs.Common.{sym, ◌∙◌, drop, take}
use Rattle.std.proofs.lemmas.List.{take-append-drop}
use Rattle.client_ways.proofs.unresolved.print.Goals as goal

-- the front that was put before the sink failed
pub returns-in-Err-clause-told : goal.returns-in-Err-clause-told
returns-in-Err-clause-told g c =
    let written = c.in-Err.field-0.written in
    record {
      front = take written c.args.line.now;
      rest = drop written c.args.line.now;
      whole = sym c.requires.line ∙ sym (take-append-drop written c.args.line.now);
      wrote = c.in-Err.ensures.short;
    }
