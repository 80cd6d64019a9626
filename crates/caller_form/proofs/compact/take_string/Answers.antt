use Rattle.caller_form.proofs.CompactLemmas.{string_takes}
use Rattle.caller_form.proofs.compact.take_string.Goals as goal

pub returns-clause-taken : goal.returns-clause-taken
returns-clause-taken c =
    string_takes c.args.text.now c.in_ok-rest.field-0-0.now c.in_ok-rest.rest.now c.in_ok-rest.ensures.front c.in_ok-rest.ensures.plain
