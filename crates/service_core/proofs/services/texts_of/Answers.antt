use Rattle.service_core.proofs.Lists.{served_more, texts_more}
use Rattle.service_core.proofs.services.texts_of.Goals as goal

pub loop-interface-preserved : goal.loop-interface-preserved
loop-interface-preserved c =
    let i = c.loop-interface.interface-index in
    let interface = c.interface-item.result in
    record {
      texts = texts_more c.args.interfaces.now i interface c.loop-interface-test.true c.interface-item.is c.loop-interface.texts c.push.new.self
          c.in_ok-text_of.field-0 c.in_ok-push.ensures.ok c.in_ok-text_of.ensures.text c.loop-interface.invariant.texts;
      served = served_more c.args.interfaces.now i interface c.loop-interface-test.true c.interface-item.is c.loop-interface.invariant.served
          c.in_ok-text_of.ensures.served;
    }
