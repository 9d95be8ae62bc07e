use Rattle.std.proofs.Common.{ap, ◌∙◌}
use Rattle.s3_machine.specs.declared.operation.ObjectName.{ObjectName}
use Rattle.s3_requests.proofs.operation.op_of_named_key.Goals as goal

pub op_of_key-requires-clause-bucket : goal.op_of_key-requires-clause-bucket
op_of_key-requires-clause-bucket c = ap (λ (name : ObjectName). name.bucket) c.in_ok-name.ensures ∙ c.requires.bucket

pub op_of_key-requires-clause-key : goal.op_of_key-requires-clause-key
op_of_key-requires-clause-key c = ap (λ (name : ObjectName). name.key) c.in_ok-name.ensures ∙ c.requires.key
