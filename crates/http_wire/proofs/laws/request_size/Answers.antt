use Rattle.http_wire.proofs.lemmas.UniqueLemmas.{request_some, request_within}
use Rattle.http_wire.proofs.laws.request_size.Goals as goal

pub returns : goal.returns
returns c = record { some = request_some; within = request_within }
