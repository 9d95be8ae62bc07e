-- The replies to copies. Source: Amazon S3 API Reference, "CopyObject" and "UploadPartCopy", and this profile.
use Rattle.std.specs.Prelude.{◌≡◌, Bool, true, false, Result, IfOk}
use Rattle.s3_machine.specs.declared.operation.Reply.{Reply}
use Rattle.s3_machine.specs.declared.operation.Reply.TheVariants as reply
use Rattle.account_calls.specs.declared.fault.PlanFault.{PlanFault}

-- whether a reply is one to a copy, which gives no bytes of an object
abbrev pub is_copy_reply : Reply → Bool
is_copy_reply (reply.Refused code) = true
is_copy_reply reply.Memory = true
is_copy_reply (reply.Copied copied) = true
is_copy_reply other = false

-- so is the reply of a plan, or of the rest of one, over every store
abbrev pub AnswersCopy : Result Reply PlanFault → Type 0
AnswersCopy end = IfOk end (λ reply. is_copy_reply reply ≡ true)
