use Rattle.upload_records.proofs.lemmas.Buckets.{s3_state_there}
use Rattle.upload_records.proofs.laws.law_bucket_there.Goals as goal

pub returns : goal.returns
returns c = s3_state_there
