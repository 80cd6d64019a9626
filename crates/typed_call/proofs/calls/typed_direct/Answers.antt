use Rattle.link_reach.specs.declared.deeds.Deed.TheVariants as deed
use Rattle.typed_call.proofs.Answering.{typed-own}
use Rattle.typed_call.proofs.calls.typed_direct.Goals as goal

pub returns-in-Ok-dial-clause-calls : goal.returns-in-Ok-dial-clause-calls
returns-in-Ok-dial-clause-calls g c =
    let opens = c.in-Ok-dial.ensures.opens in
    typed-own (deed.Dialled c.args.address.now) c.args.call.now _ _ c.typed_on.result c.in-Ok-dial.link.0 _ _ _ _ _ opens.0 opens.1 opens.3
    c.in-Ok-dial.ensures.log c.in-Ok.ensures.inbox c.typed_on.ensures.typed c.typed_on.ensures.opened c.typed_on.ensures.closed
