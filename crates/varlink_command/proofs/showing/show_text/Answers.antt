-- The part that was put is a front of the text.
use Rattle.std.proofs.Common.{Err, ap, sym, take, drop}
use Rattle.std.proofs.lemmas.List.{take-append-drop}
use Rattle.idl_rules.specs.Canon.{Canon}
use Rattle.varlink_command.proofs.showing.show_text.Goals as goal

pub returns-in-Err-Short-clause-shows : goal.returns-in-Err-Short-clause-shows
returns-in-Err-Short-clause-shows g c =
    let short = c.in-Err-Short.field-0-0 in
    let is = ap Err c.in-Err-Short.field-0-is in
    let text = Canon c.args.tree.now in (
      record {
        front = take short.written text;
        rest = drop short.written text;
        whole = sym (take-append-drop short.written text);
        wrote = c.in-Err-Short.ensures.short short is;
      },
      c.in-Err-Short.ensures.fault short is,
    )
