use Rattle.std.proofs.Common.{ap, ◌∙◌}
use Rattle.serde_json.specs.Data.{string}
use Rattle.idl_tree.specs.declared.trees.Interface.{Interface}
use Rattle.service_core.proofs.Lists.{names_more}
use Rattle.service_core.proofs.infos.name_list.Goals as goal

pub loop-interface-preserved : goal.loop-interface-preserved
loop-interface-preserved c =
    names_more c.args.interfaces.now c.loop-interface.interface-index c.interface-item.result c.loop-interface-test.true c.interface-item.is
    c.loop-interface.list c.push-in-loop-interface.new.self c.in_ok-try_from_str-2.field-0 c.in_ok-push-2.ensures.ok
    (c.in_ok-try_from_str-2.ensures ∙ ap string (c.as_str.ensures ∙ ap (λ (x : Interface). x.name) c.tree.ensures.tree)) c.loop-interface.invariant
