use Rattle.slo_manifest.proofs.RoundTrip.{manifest_reads_back}
use Rattle.slo_manifest.proofs.laws.law_text_reads_back.Goals as goal

pub returns : goal.returns
returns c = manifest_reads_back
