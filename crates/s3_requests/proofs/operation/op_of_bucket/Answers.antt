use Rattle.std.proofs.Common.{sym, ◌∙◌}
use Rattle.s3_requests.proofs.operation.op_of_bucket.Goals as goal

pub returns-in-ListObjects : goal.returns-in-ListObjects
returns-in-ListObjects c = λ message target bucket query taken deletes. c.op_of_listing.ensures message target bucket (query ∙ sym c.pairs.ensures.value)
