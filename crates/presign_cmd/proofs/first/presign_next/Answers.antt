use Rattle.std.proofs.Common.{ap}
use Rattle.presign_cmd.specs.Presigning.{Presigns}
use Rattle.presign_cmd.proofs.PresigningLemmas.{request_first, cut_first, refused_first, request_sent}
use Rattle.http_wire.specs.Reading.{Pending}
use Rattle.presign_cmd.proofs.first.presign_next.Goals as goal

pub returns-in-Ok-Request-clause-effect : goal.returns-in-Ok-Request-clause-effect
returns-in-Ok-Request-clause-effect g c = λ line.
    let gives = rw c.in-Ok-Request.field-0-is at (c.in-Ok-Request.ensures.effect line) in
    request_first (Presigns c.args.signer.now.secret.now c.args.signer.now.id.now c.args.signer.now.region.now c.args.signer.now.moment c.args.signer.now.expires) _ c.in-Ok.reader c.next_request.new.self _ c.in-Ok-Request.message c.presigning_of_message.result c.in-Ok.ensures gives c.presigning_of_message.ensures.effect

pub returns-in-Ok-CutShort-clause-effect : goal.returns-in-Ok-CutShort-clause-effect
returns-in-Ok-CutShort-clause-effect g c = λ line.
    let gives = rw c.in-Ok-CutShort.field-0-is at (c.in-Ok-CutShort.ensures.effect line) in
    cut_first (Presigns c.args.signer.now.secret.now c.args.signer.now.id.now c.args.signer.now.region.now c.args.signer.now.moment c.args.signer.now.expires) _ c.in-Ok.reader c.next_request.new.self _ c.in-Ok-CutShort.field-0-0 c.in-Ok.ensures gives

pub returns-in-Ok-Refused-clause-effect : goal.returns-in-Ok-Refused-clause-effect
returns-in-Ok-Refused-clause-effect g c = λ line.
    let gives = rw c.in-Ok-Refused.field-0-is at (c.in-Ok-Refused.ensures.effect line) in
    refused_first (Presigns c.args.signer.now.secret.now c.args.signer.now.id.now c.args.signer.now.region.now c.args.signer.now.moment c.args.signer.now.expires) _ c.in-Ok.reader c.next_request.new.self _ c.in-Ok-Refused.field-0-0 c.in-Ok-Refused.field-0-1 c.in-Ok-Refused.field-0-2 c.in-Ok.ensures gives

pub returns-in-Ok-Request-clause-sent : goal.returns-in-Ok-Request-clause-sent
returns-in-Ok-Request-clause-sent g c = λ line.
    request_sent (g.N.Line.model c.args.line.now).transcript.rest c.in-Ok.reader (g.N.Line.model c.args.line.now).transcript.begun (g.W.Counted.called c.args.store.now)
    (g.N.Line.model c.args.line.now).transcript.sent (g.N.Line.model c.next_request.new.line).transcript.sent c.presigning_of_message.result c.in-Ok.ensures c.presigning_of_message.ensures.heard
    (c.in-Ok-Request.ensures.sent (ap (λ (r : Pending). r.ended) c.in-Ok.ensures) line)
