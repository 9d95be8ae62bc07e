use Rattle.swift_store.proofs.lemmas.Made.{has_spelling}
use Rattle.swift_store.proofs.laws.law_served_has_spelling.Goals as goal

pub returns : goal.returns
returns c = has_spelling
