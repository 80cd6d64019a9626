use Rattle.std.proofs.Common.{rules}
use Rattle.door_serving.specs.declared.speakers.Speaker.{Speaker}
use Rattle.door_serving.specs.Conversations.{Conversation, GoesOn}
use Rattle.door_serving.proofs.Going.{goes_nowhere, conversation}
use Rattle.door_serving.proofs.connections.serve_connection.Goals as goal

pub returns-in-Some-clause-goes_on : goal.returns-in-Some-clause-goes_on
returns-in-Some-clause-goes_on g c =
    let told : GoesOn c.args.seated.now c.serve_link-stop.new.hearer.seated.now =
    c.serve_link-stop.ensures.same.1 c.args.seated.now (goes_nowhere c.args.seated.now) in
    search rules

pub returns-in_default-clause-goes_on : goal.returns-in_default-clause-goes_on
returns-in_default-clause-goes_on g c =
    let told : GoesOn c.args.seated.now c.serve_link-stop.new.hearer.seated.now =
    c.serve_link-stop.ensures.same.1 c.args.seated.now (goes_nowhere c.args.seated.now) in
    search rules

pub returns-in-Some-clause-serves : goal.returns-in-Some-clause-serves
returns-in-Some-clause-serves g c =
    let told : Conversation c.args.seated.now c.serve_link-stop.new.hearer.seated.now _ _ _ _ c.serve_link-stop.result = conversation (λ (x : Speaker g.row.L.Denot g.row.G.Denot g.row.R.Denot). x.seated.now) _ _ _ _ _ _ _ c.serve_link-stop.ensures.heard in
    search rules

pub returns-in_default-clause-serves : goal.returns-in_default-clause-serves
returns-in_default-clause-serves g c =
    let told : Conversation c.args.seated.now c.serve_link-stop.new.hearer.seated.now _ _ _ _ c.serve_link-stop.result = conversation (λ (x : Speaker g.row.L.Denot g.row.G.Denot g.row.R.Denot). x.seated.now) _ _ _ _ _ _ _ c.serve_link-stop.ensures.heard in
    search rules

pub serve_link-stop-requires-lives-H-Hearer-5 : goal.serve_link-stop-requires-lives-H-Hearer-5
serve_link-stop-requires-lives-H-Hearer-5 g c κs within = let s = c.type_bounds.static-L in search rules
