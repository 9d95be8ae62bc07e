use Rattle.swift_requests.proofs.SpellLemmas.{head_is_small, fields_are_few}
use Rattle.swift_requests.proofs.laws.law_call_head_fits.Goals as goal

pub returns : goal.returns
returns c = record { bytes = head_is_small; fields = fields_are_few }
