use Rattle.swift_store.proofs.lemmas.Made.{stays_made}
use Rattle.swift_store.proofs.laws.law_stays_made.Goals as goal

pub returns : goal.returns
returns c = stays_made
