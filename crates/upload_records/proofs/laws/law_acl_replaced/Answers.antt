use Rattle.upload_records.proofs.lemmas.Buckets.{acl_replaced}
use Rattle.upload_records.proofs.laws.law_acl_replaced.Goals as goal

pub returns : goal.returns
returns c = acl_replaced
