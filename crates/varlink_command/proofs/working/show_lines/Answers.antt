-- The figures are put in one line each.
use Rattle.std.proofs.Common.{List, ◌≡◌, ℕ, ap, ◌∙◌, to_z-of_z}
use Rattle.std.specs.Prelude.{decimal}
use Rattle.std.specs.Fmt.{signed_decimal}
use Rattle.std.specs.Io.KnownBytes.{Appends}
use Rattle.link_port.specs.Faults.{Rises}
use Rattle.link_port.specs.Flow.{AppendsFront}
use Rattle.varlink_command.proofs.WorkLines.{figures_joined}
use Rattle.varlink_command.proofs.working.show_lines.Goals as goal

pub returns-in-Ok-clause-shows : goal.returns-in-Ok-clause-shows
returns-in-Ok-clause-shows g c =
    let ends = g.O.Ends in
    let total : c.format-total.result.now ≡ signed_decimal c.args.total =
    c.format-total.ensures.text ∙ ap signed_decimal (to_z-of_z c.ranges.total) in
    figures_joined (λ (text : List ℕ). Appends (ends.written c.args.output.now) (ends.written c.put_texts-put.new.sink) text
    × (ends.write_faults c.put_texts-put.new.sink ≡ ends.write_faults c.args.output.now))
    (decimal c.args.definition) (decimal c.args.calls) (decimal c.args.replies) (signed_decimal c.args.total)
    (rw (c.format-definition.ensures.text, c.format-calls.ensures.text, c.format-replies.ensures.text, total)
    at c.in-Ok.ensures.all)

pub returns-in-Err-clause-shows : goal.returns-in-Err-clause-shows
returns-in-Err-clause-shows g c =
    let ends = g.O.Ends in
    let total : c.format-total.result.now ≡ signed_decimal c.args.total =
    c.format-total.ensures.text ∙ ap signed_decimal (to_z-of_z c.ranges.total) in
    figures_joined (λ (text : List ℕ). AppendsFront (ends.written c.args.output.now) (ends.written c.put_texts-put.new.sink) text
    × Rises (ends.write_faults c.args.output.now) (ends.write_faults c.put_texts-put.new.sink))
    (decimal c.args.definition) (decimal c.args.calls) (decimal c.args.replies) (signed_decimal c.args.total)
    (rw (c.format-definition.ensures.text, c.format-calls.ensures.text, c.format-replies.ensures.text, total)
    at c.in-Err.ensures.all)
