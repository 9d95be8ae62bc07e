use Rattle.upload_records.proofs.lemmas.Buckets.{s3_state_bare}
use Rattle.upload_records.proofs.laws.law_bucket_bare.Goals as goal

pub returns : goal.returns
returns c = s3_state_bare
