use Rattle.link_reach.specs.declared.deeds.Deed.TheVariants as deed
use Rattle.typed_call.proofs.Answering.{typed-own}
use Rattle.typed_call.proofs.calls.typed_child.Goals as goal

pub returns-in-Ok-dial_child-clause-calls : goal.returns-in-Ok-dial_child-clause-calls
returns-in-Ok-dial_child-clause-calls g c =
    let opens = c.in-Ok-dial_child.ensures.opens in
    typed-own (deed.Started c.args.program.now c.args.resolver.now) c.args.call.now _ _ c.typed_on.result c.in-Ok-dial_child.link.0 _ _ _ _ _ opens.0 opens.1 opens.3
    c.in-Ok-dial_child.ensures.log c.in-Ok.ensures.inbox c.typed_on.ensures.typed c.typed_on.ensures.opened c.typed_on.ensures.closed
