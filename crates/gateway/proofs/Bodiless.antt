-- The replies to operations on uploads and to copies give no byte of an object.
use Rattle.std.specs.Prelude.{◌≡◌, true}
use Rattle.std.proofs.Common.{sym, true≢false}
use Rattle.s3_machine.specs.declared.operation.Reply.{Reply}
use Rattle.s3_machine.specs.declared.operation.Reply.TheVariants as answer
use Rattle.many_keys.specs.Replies.{is_copy_reply}
use Rattle.plan_uploads.specs.Replies.{is_upload_reply}
use Rattle.planner.specs.Reading.{GivesNoByte}

pub upload_bodiless : (reply : Reply) → is_upload_reply reply ≡ true → GivesNoByte reply
upload_bodiless (answer.Refused code) is = tt
upload_bodiless answer.Memory is = tt
upload_bodiless answer.Done is = tt
upload_bodiless answer.Gone is = tt
upload_bodiless (answer.NotModified head) is = tt
upload_bodiless (answer.Object object) is = absurd (true≢false (sym is))
upload_bodiless (answer.Stored stored) is = tt
upload_bodiless (answer.OfObjects objects) is = tt
upload_bodiless (answer.OfUploads uploads) is = tt
upload_bodiless (answer.Copied copied) is = tt

pub copy_bodiless : (reply : Reply) → is_copy_reply reply ≡ true → GivesNoByte reply
copy_bodiless (answer.Refused code) is = tt
copy_bodiless answer.Memory is = tt
copy_bodiless answer.Done is = tt
copy_bodiless answer.Gone is = tt
copy_bodiless (answer.NotModified head) is = tt
copy_bodiless (answer.Object object) is = absurd (true≢false (sym is))
copy_bodiless (answer.Stored stored) is = tt
copy_bodiless (answer.OfObjects objects) is = tt
copy_bodiless (answer.OfUploads uploads) is = tt
copy_bodiless (answer.Copied copied) is = tt
