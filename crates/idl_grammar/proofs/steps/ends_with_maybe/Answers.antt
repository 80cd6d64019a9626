use Rattle.std.proofs.Common.{sym, ap, ◌∙◌}
use Rattle.idl_rules.proofs.LastPrefix.{last_maybe, ends_last}
use Rattle.idl_grammar.proofs.steps.ends_with_maybe.Goals as goal

pub returns-in-Some : goal.returns-in-Some
returns-in-Some c = c.is_maybe.ensures ∙ ap last_maybe c.in-Some.ensures.value ∙ sym (ends_last c.args.prefixes.now)
