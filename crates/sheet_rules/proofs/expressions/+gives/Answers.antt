use Rattle.std.proofs.Common.{arith}
use Rattle.sheet_rules.specs.Gives.{gives}
use Rattle.sheet_rules.specs.Views.{setting_of}
use Rattle.sheet_rules.proofs.Lengths.{other_givers}
use Rattle.sheet_rules.proofs.expressions.+gives.Goals as goal

pub fields_given-returns-then-fields-exprs : goal.fields_given-returns-then-fields-exprs
fields_given-returns-then-fields-exprs t c =
    other_givers (gives (setting_of c.args.standing.now)) c.args.scope c.args.fields.now c.args.exprs.now
    (λ e. omega (arith, c.if-fields-exprs.true, e))
