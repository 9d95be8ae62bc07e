use Rattle.std.proofs.Common.{refl, subst}
use Rattle.gateway.specs.Reading.{IsReady}
use Rattle.gateway.proofs.send.send_reading.Goals as goal

pub send_reply-requires-clause-showable : goal.send_reply-requires-clause-showable
send_reply-requires-clause-showable g c = subst (IsReady (g.W.Swift.history c.args.lent.now.store.now)) c.in-Whole.is c.requires.ready

pub returns-in-Whole-clause-sends : goal.returns-in-Whole-clause-sends
returns-in-Whole-clause-sends g c = rw c.in-Whole.is (refl, c.send_reply.ensures.sends)

pub send_object-requires-clause-found : goal.send_object-requires-clause-found
send_object-requires-clause-found g c = (subst (IsReady (g.W.Swift.history c.args.lent.now.store.now)) c.in-Pieces.is c.requires.ready).0

pub send_object-requires-clause-settled : goal.send_object-requires-clause-settled
send_object-requires-clause-settled g c = (subst (IsReady (g.W.Swift.history c.args.lent.now.store.now)) c.in-Pieces.is c.requires.ready).1

pub returns-in-Pieces-clause-sends : goal.returns-in-Pieces-clause-sends
returns-in-Pieces-clause-sends g c = rw c.in-Pieces.is c.send_object.ensures.sends

pub returns-in-Pieces-clause-stays : goal.returns-in-Pieces-clause-stays
returns-in-Pieces-clause-stays g c = c.send_object.ensures.stays
