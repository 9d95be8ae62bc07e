use Rattle.std.proofs.Common.{subst}
use Rattle.gateway.specs.Handled.{EndsWith}
use Rattle.gateway.specs.Request.{asks_of}
use Rattle.gateway.proofs.Handling.{handled_on, handled_knows, handled_stands, handled_effect}
use Rattle.gateway.proofs.Replying.{understood_proper}
use Rattle.gateway.proofs.handle.handle_request.Goals as goal

pub reply_to-reading-requires-clause-proper : goal.reply_to-reading-requires-clause-proper
reply_to-reading-requires-clause-proper g c = understood_proper _ _ c.resolve-resolved.ensures.is.understands

pub returns-clause-serves : goal.returns-clause-serves
returns-clause-serves g c =
    let settings = c.args.service.now.settings in
    let old = g.W.Swift.history c.args.lent.now.store.now in
    let here = g.W.Swift.history c.reply_to-reading.new.store in
    let new = g.W.Swift.history c.send_reading-handled.new.lent.store.now in
    let was = c.args.lent.now.known in
    let now = c.reply_to-reading.new.known in
    let line = g.N.Line.model c.args.lent.now.line.now in
    let line' = g.N.Line.model c.send_reading-handled.new.lent.line.now in
    let reading = c.reply_to-reading.result in
    let label = c.sent_by.result in
    let resolved = c.resolve-resolved.result in
    let handled = c.send_reading-handled.result in
    let replied = c.reply_to-reading.ensures.replied in
    let sends = c.send_reading-handled.ensures.sends in
    let stays = c.send_reading-handled.ensures.stays in
    rw (stays.known, stays.clock, stays.draws) (record {
      on = record { line = c.send_reading-handled.ensures.writes.serves.observable; store = handled_on settings old here new was now c.next_label-next.result label resolved line line' handled reading replied sends; clock = c.next_label-next.ensures.clock_observable; draws = c.next_label-next.ensures.draws_observable };
      knows = handled_knows settings old here new was now c.next_label-next.result label resolved line line' handled reading replied sends;
      stands = handled_stands settings old here new was now c.next_label-next.result label resolved line line' handled reading replied sends;
      effect = λ told all met.
          handled_effect settings old here new was now c.next_label-next.result label resolved line line' handled _ _ _ _ (asks_of c.args.service.now c.args.received) c.resolve-resolved.ensures.is c.sent_by.ensures
          (c.next_label-next.ensures.effect told.clock told.draws) all met told.line reading c.reply_to-reading.ensures.leaves replied sends;
    })

pub returns-clause-endings : goal.returns-clause-endings
returns-clause-endings g c = subst (λ e. EndsWith e c.send_reading-handled.result) c.resolve-resolved.ensures.ends c.send_reading-handled.ensures.endings

pub returns-clause-stays : goal.returns-clause-stays
returns-clause-stays g c =
    let stays = c.send_reading-handled.ensures.stays.stays in
    record { line = stays.line; store = stays.store; clock = stays.clock; draws = stays.draws }
