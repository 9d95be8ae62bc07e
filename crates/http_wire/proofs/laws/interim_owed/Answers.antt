use Rattle.http_wire.proofs.lemmas.OwedLemmas.{owed_first}
use Rattle.http_wire.proofs.laws.interim_owed.Goals as goal

pub returns : goal.returns
returns c = owed_first
