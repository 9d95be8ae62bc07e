use Rattle.upload_records.proofs.lemmas.Buckets.{bucket_made}
use Rattle.upload_records.proofs.laws.law_bucket_made.Goals as goal

pub returns : goal.returns
returns c = bucket_made
