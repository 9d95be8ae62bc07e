use Rattle.s3_names.proofs.lemmas.Ids.{id_reads_back}
use Rattle.s3_names.proofs.laws.law_id_reads_back.Goals as goal

pub returns : goal.returns
returns c = id_reads_back
