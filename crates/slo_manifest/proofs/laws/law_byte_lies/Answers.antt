use Rattle.slo_manifest.proofs.CoverLemmas.{byte_lies}
use Rattle.slo_manifest.proofs.laws.law_byte_lies.Goals as goal

pub returns : goal.returns
returns c = byte_lies
