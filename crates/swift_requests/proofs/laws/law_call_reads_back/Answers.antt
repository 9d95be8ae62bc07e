use Rattle.swift_requests.proofs.SpellLemmas.{written_spells}
use Rattle.swift_requests.proofs.laws.law_call_reads_back.Goals as goal

pub returns : goal.returns
returns c = written_spells c.law_text_reads_back.ensures
