use Rattle.http_wire.specs.Interim.{owed_by}
use Rattle.std.proofs.Common.{◌≡◌, true, Ok}
use Rattle.http_wire.proofs.InterimLemmas.{then_reads}
use Rattle.http_wire.proofs.take.take_offered.Goals as goal

pub returns-clause-sent : goal.returns-clause-sent
returns-clause-sent g c = λ told.
    let offered = c.in_ok-offer.ensures in
    then_reads (owed_by c.args.message.now (Ok c.args.size) ≡ true) (g.C.Counted.called c.args.store.now) (g.N.Line.model c.args.line.now).transcript (g.N.Line.model c.offer.new.line).transcript
    (g.N.Line.model c.take_request_body.new.line).transcript c.take_request_body.result (offered.sent told) (c.take_request_body.ensures.reads.sent (offered.writes.serves.observable told))
