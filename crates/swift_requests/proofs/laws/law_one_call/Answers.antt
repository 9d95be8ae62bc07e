use Rattle.swift_requests.proofs.SpellLemmas.{one_call, one_request}
use Rattle.swift_requests.proofs.laws.law_one_call.Goals as goal

pub returns : goal.returns
returns c = record { message = one_call; bytes = one_request }
