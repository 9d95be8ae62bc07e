-- The replies to operations on uploads. Source: Amazon S3 API Reference, the responses of these operations, and this profile.
use Rattle.s3_machine.specs.declared.operation.Reply.TheVariants.{OfUploads}
use Rattle.s3_machine.specs.declared.operation.UploadsReply.TheVariants as uploads_reply
use Rattle.std.specs.Prelude.{◌≡◌, Bool, true, false, Result, IfOk}
use Rattle.s3_machine.specs.declared.operation.Reply.{Reply}
use Rattle.s3_machine.specs.declared.operation.Reply.TheVariants as reply
use Rattle.account_calls.specs.declared.fault.PlanFault.{PlanFault}

-- whether a reply is one to an operation on uploads, which gives no bytes of an object
abbrev pub is_upload_reply : Reply → Bool
is_upload_reply (reply.Refused code) = true
is_upload_reply reply.Memory = true
is_upload_reply reply.Gone = true
is_upload_reply (OfUploads (uploads_reply.Uploads page)) = true
is_upload_reply (reply.Stored stored) = true
is_upload_reply (OfUploads (uploads_reply.Started started)) = true
is_upload_reply (OfUploads (uploads_reply.Parts page)) = true
is_upload_reply (OfUploads (uploads_reply.Completed completed)) = true
is_upload_reply other = false

-- so is the reply of a plan, or of the rest of one, over every store
abbrev pub AnswersUpload : Result Reply PlanFault → Type 0
AnswersUpload end = IfOk end (λ reply. is_upload_reply reply ≡ true)
