use Rattle.resolver_core.specs.Goals.{goal_of}
use Rattle.client_ways.proofs.Wanting.{wanting}
use Rattle.client_ways.proofs.ways.call_resolved.Goals as goal

pub returns-in-Err-clause-resolves : goal.returns-in-Err-clause-resolves
returns-in-Err-clause-resolves g c = wanting (goal_of c.args.ask.call.now) c.args.resolver.now c.args.ask.call.now c.args.ask.typed _
