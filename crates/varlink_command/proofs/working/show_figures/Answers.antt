-- The total is shown as it is: it fits its word.
use Rattle.std.proofs.Common.{ℤ, w64, subst, to_z-of_z}
use Rattle.varlink_command.specs.FixedTexts.{IsShown}
use Rattle.varlink_command.specs.Working.{figure_lines}
use Rattle.varlink_command.proofs.working.show_figures.Goals as goal

pub returns-clause-shows : goal.returns-clause-shows
returns-clause-shows g c =
    let figures = c.args.figures in
    subst (λ (total : ℤ). IsShown (figure_lines (record { definition = figures.definition; calls = figures.calls; replies = figures.replies; total = total }))
    (g.O.Ends.written c.args.output.now) (g.O.Ends.written c.show_lines.new.output) (g.O.Ends.write_faults c.args.output.now) (g.O.Ends.write_faults c.show_lines.new.output) c.show_lines.result)
    (to_z-of_z {w = w64} {z = figures.total} (record { sfits = c.well_formed.0.1.1.1.1.1.0.1 })) c.show_lines.ensures.shows
