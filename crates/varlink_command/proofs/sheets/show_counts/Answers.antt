-- The counts are put in one line each.
use Rattle.std.proofs.Common.{ℕ, List, length, ◌≡◌}
use Rattle.std.specs.Io.KnownBytes.{Appends}
use Rattle.link_port.specs.Faults.{Rises}
use Rattle.link_port.specs.Flow.{AppendsFront}
use Rattle.varlink_command.proofs.Counting.{counts_joined}
use Rattle.varlink_command.proofs.sheets.show_counts.Goals as goal

pub returns-in-Ok-clause-shows : goal.returns-in-Ok-clause-shows
returns-in-Ok-clause-shows g c =
    let sheet = c.args.sheet.now in
    let ends = g.O.Ends in
    counts_joined (λ (text : List ℕ). Appends (ends.written c.args.output.now) (ends.written c.put_texts-put.new.sink) text
    × (ends.write_faults c.put_texts-put.new.sink ≡ ends.write_faults c.args.output.now))
    (length sheet.interfaces) (length sheet.registers) (length sheet.rules)
    (rw (c.format-interfaces.ensures.text, c.format-registers.ensures.text, c.format-rules.ensures.text, c.interfaces.ensures, c.registers.ensures.registers, c.rules.ensures.rules)
    at c.in-Ok.ensures.all)

pub returns-in-Err-clause-shows : goal.returns-in-Err-clause-shows
returns-in-Err-clause-shows g c =
    let sheet = c.args.sheet.now in
    let ends = g.O.Ends in
    counts_joined (λ (text : List ℕ). AppendsFront (ends.written c.args.output.now) (ends.written c.put_texts-put.new.sink) text
    × Rises (ends.write_faults c.args.output.now) (ends.write_faults c.put_texts-put.new.sink))
    (length sheet.interfaces) (length sheet.registers) (length sheet.rules)
    (rw (c.format-interfaces.ensures.text, c.format-registers.ensures.text, c.format-rules.ensures.text, c.interfaces.ensures, c.registers.ensures.registers, c.rules.ensures.rules)
    at c.in-Err.ensures.all)
