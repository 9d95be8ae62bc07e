use Rattle.http_wire.proofs.lemmas.UniqueLemmas.{front_spells, one_spelling, spelt_front}
use Rattle.http_wire.proofs.laws.one_request_spelling.Goals as goal

pub returns : goal.returns
returns c = record { one = one_spelling; spelt = front_spells; front = spelt_front }
