use Rattle.std.proofs.Common.{refl, sym, drop, take, inr}
use Rattle.std.proofs.lemmas.List.{take-append-drop}
use Rattle.link_exchange.proofs.inboxes.put_lines.Goals as goal

pub returns-in-Err-clause-put : goal.returns-in-Err-clause-put
returns-in-Err-clause-put g c =
    let written = c.in-Err.field-0.written in
    inr (record {
      front = take written c.args.lines.now;
      is = refl;
      part = (drop written c.args.lines.now, sym (take-append-drop written c.args.lines.now));
      wrote = c.in-Err.ensures.short;
      fault = c.in-Err.ensures.fault;
    })
