use Rattle.std.proofs.Common.{sym, ◌∙◌}
use Rattle.s3_requests.proofs.operation.op_of_named_bucket.Goals as goal

pub returns : goal.returns
returns c = λ message target bucket query taken deletes. c.op_of_bucket.ensures message target (bucket ∙ sym c.in_ok-bucket.ensures) query taken deletes
