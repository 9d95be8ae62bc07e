use Rattle.gateway.specs.Exchange.{RepliesBy}
use Rattle.gateway.proofs.Serving.{handled_ends, handled_breaks, handled_parts}
use Rattle.gateway.proofs.serve.answer.Goals as goal

pub returns-in-Served-clause-serves : goal.returns-in-Served-clause-serves
returns-in-Served-clause-serves g c =
    let serves = c.in-Served.ensures.serves in
    record { on = serves.on; knows = serves.knows; stands = serves.stands; effect = λ told all met. handled_ends {R = RepliesBy all c.args.service.now.settings (g.W.Swift.history c.handle_request.new.lent.store.now)} _ _ _ _ _ (serves.effect told all met) }

pub returns-in-Broken-clause-serves : goal.returns-in-Broken-clause-serves
returns-in-Broken-clause-serves g c =
    let serves = c.in-Broken.ensures.serves in
    record { on = serves.on; knows = serves.knows; stands = serves.stands; effect = λ told all met. handled_breaks {R = RepliesBy all c.args.service.now.settings (g.W.Swift.history c.handle_request.new.lent.store.now)} _ _ _ _ (serves.effect told all met) }

pub returns-in-Parted-clause-serves : goal.returns-in-Parted-clause-serves
returns-in-Parted-clause-serves g c =
    let serves = c.in-Parted.ensures.serves in
    record { on = serves.on; knows = serves.knows; stands = serves.stands; effect = λ told all met. handled_parts {R = RepliesBy all c.args.service.now.settings (g.W.Swift.history c.handle_request.new.lent.store.now)} _ _ _ _ _ (serves.effect told all met) }
