use Rattle.upload_records.proofs.lemmas.Buckets.{bucket_gone}
use Rattle.upload_records.proofs.laws.law_bucket_gone.Goals as goal

pub returns : goal.returns
returns c = bucket_gone
