use Rattle.std.proofs.Common.{refl, ap, sym, ◌∙◌}
use Rattle.account_calls.proofs.lemmas.Ends.{answered_by}
use Rattle.account_calls.proofs.lemmas.Puts.{done_so, ensures_reply}
use Rattle.plan_uploads.proofs.Answering.{answered_alike, answered_as, answered_with}
use Rattle.plan_uploads.specs.Completing.{known_after_completion}
use Rattle.plan_uploads.proofs.ReplyKinds.{kind_reply}
use Rattle.plan_uploads.proofs.operation.answer.Goals as goal

pub returns-in-ListUploads-clause-answered : goal.returns-in-ListUploads-clause-answered
returns-in-ListUploads-clause-answered g c = rw c.in-ListUploads.is (answered_alike c.settled.ensures.known c.settled.ensures.reply (answered_by refl c.plan_list_uploads.ensures.stops (c.plan_list_uploads.ensures.plans c.args.label.now)))

pub returns-in-ListUploads-clause-stands : goal.returns-in-ListUploads-clause-stands
returns-in-ListUploads-clause-stands g c = rw c.in-ListUploads.is (λ observable. done_so c.settled.result.reply tt)

pub returns-in-ListUploads-clause-unsure : goal.returns-in-ListUploads-clause-unsure
returns-in-ListUploads-clause-unsure g c = record {
  known = c.settled.ensures.known ∙ ap known_after_completion (sym c.settled.ensures.unfinished);
  by = rw c.settled.ensures.unfinished tt;
}

pub returns-in-ListUploads-clause-kind : goal.returns-in-ListUploads-clause-kind
returns-in-ListUploads-clause-kind g c = rw c.settled.ensures.reply (kind_reply _ c.plan_list_uploads.ensures.kind)

pub returns-in-CreateUpload-clause-answered : goal.returns-in-CreateUpload-clause-answered
returns-in-CreateUpload-clause-answered g c = rw c.in-CreateUpload.is (answered_alike c.settled-in-CreateUpload.ensures.known c.settled-in-CreateUpload.ensures.reply (answered_with c.create_upload.ensures.beside c.create_upload.ensures.stops c.create_upload.ensures.plans))

pub returns-in-CreateUpload-clause-stands : goal.returns-in-CreateUpload-clause-stands
returns-in-CreateUpload-clause-stands g c = rw (c.in-CreateUpload.is, c.settled-in-CreateUpload.ensures.reply) (ensures_reply _ c.create_upload.ensures.stands)

pub returns-in-CreateUpload-clause-unsure : goal.returns-in-CreateUpload-clause-unsure
returns-in-CreateUpload-clause-unsure g c = record {
  known = c.settled-in-CreateUpload.ensures.known ∙ ap known_after_completion (sym c.settled-in-CreateUpload.ensures.unfinished);
  by = rw c.settled-in-CreateUpload.ensures.unfinished tt;
}

pub returns-in-CreateUpload-clause-kind : goal.returns-in-CreateUpload-clause-kind
returns-in-CreateUpload-clause-kind g c = rw c.settled-in-CreateUpload.ensures.reply (kind_reply _ c.create_upload.ensures.kind)

pub returns-in-UploadPart-clause-answered : goal.returns-in-UploadPart-clause-answered
returns-in-UploadPart-clause-answered g c = rw c.in-UploadPart.is (answered_alike c.settled-in-UploadPart.ensures.known c.settled-in-UploadPart.ensures.reply (answered_by refl c.upload_part.ensures.stops c.upload_part.ensures.plans))

pub returns-in-UploadPart-clause-stands : goal.returns-in-UploadPart-clause-stands
returns-in-UploadPart-clause-stands g c = rw (c.in-UploadPart.is, c.settled-in-UploadPart.ensures.reply) (ensures_reply _ c.upload_part.ensures.stands)

pub returns-in-UploadPart-clause-unsure : goal.returns-in-UploadPart-clause-unsure
returns-in-UploadPart-clause-unsure g c = record {
  known = c.settled-in-UploadPart.ensures.known ∙ ap known_after_completion (sym c.settled-in-UploadPart.ensures.unfinished);
  by = rw c.settled-in-UploadPart.ensures.unfinished tt;
}

pub returns-in-UploadPart-clause-kind : goal.returns-in-UploadPart-clause-kind
returns-in-UploadPart-clause-kind g c = rw c.settled-in-UploadPart.ensures.reply (kind_reply _ c.upload_part.ensures.kind)

pub returns-in-ListParts-clause-answered : goal.returns-in-ListParts-clause-answered
returns-in-ListParts-clause-answered g c = rw c.in-ListParts.is (answered_alike c.settled-in-ListParts.ensures.known c.settled-in-ListParts.ensures.reply (answered_by refl c.plan_list_parts.ensures.stops (c.plan_list_parts.ensures.plans c.args.label.now)))

pub returns-in-ListParts-clause-stands : goal.returns-in-ListParts-clause-stands
returns-in-ListParts-clause-stands g c = rw c.in-ListParts.is (λ observable. done_so c.settled-in-ListParts.result.reply tt)

pub returns-in-ListParts-clause-unsure : goal.returns-in-ListParts-clause-unsure
returns-in-ListParts-clause-unsure g c = record {
  known = c.settled-in-ListParts.ensures.known ∙ ap known_after_completion (sym c.settled-in-ListParts.ensures.unfinished);
  by = rw c.settled-in-ListParts.ensures.unfinished tt;
}

pub returns-in-ListParts-clause-kind : goal.returns-in-ListParts-clause-kind
returns-in-ListParts-clause-kind g c = rw c.settled-in-ListParts.ensures.reply (kind_reply _ c.plan_list_parts.ensures.kind)

pub returns-in-CompleteUpload-clause-answered : goal.returns-in-CompleteUpload-clause-answered
returns-in-CompleteUpload-clause-answered g c = rw c.in-CompleteUpload.is
    (answered_alike c.completed.ensures.known c.completed.ensures.reply (answered_as (λ met. tt) c.complete_upload.ensures.unsure.only c.complete_upload.ensures.stops c.complete_upload.ensures.plans))

pub returns-in-CompleteUpload-clause-stands : goal.returns-in-CompleteUpload-clause-stands
returns-in-CompleteUpload-clause-stands g c = rw (c.in-CompleteUpload.is, c.completed.ensures.known, c.completed.ensures.reply) (ensures_reply _ c.complete_upload.ensures.stands)

pub returns-in-CompleteUpload-clause-unsure : goal.returns-in-CompleteUpload-clause-unsure
returns-in-CompleteUpload-clause-unsure g c = record {
  known = c.completed.ensures.known ∙ ap known_after_completion (sym c.completed.ensures.unfinished);
  by = rw (c.completed.ensures.unfinished, c.completed.ensures.reply) c.complete_upload.ensures.unsure.by;
}

pub returns-in-CompleteUpload-clause-kind : goal.returns-in-CompleteUpload-clause-kind
returns-in-CompleteUpload-clause-kind g c = rw c.completed.ensures.reply (kind_reply _ c.complete_upload.ensures.kind)

pub returns-in-AbortUpload-clause-answered : goal.returns-in-AbortUpload-clause-answered
returns-in-AbortUpload-clause-answered g c = rw c.in-AbortUpload.is (answered_alike c.settled-in-AbortUpload.ensures.known c.settled-in-AbortUpload.ensures.reply (answered_with (c.abort_upload.ensures.beside c.args.label.now) c.abort_upload.ensures.stops (c.abort_upload.ensures.plans c.args.label.now)))

pub returns-in-AbortUpload-clause-stands : goal.returns-in-AbortUpload-clause-stands
returns-in-AbortUpload-clause-stands g c = rw c.in-AbortUpload.is (λ observable. done_so c.settled-in-AbortUpload.result.reply tt)

pub returns-in-AbortUpload-clause-unsure : goal.returns-in-AbortUpload-clause-unsure
returns-in-AbortUpload-clause-unsure g c = record {
  known = c.settled-in-AbortUpload.ensures.known ∙ ap known_after_completion (sym c.settled-in-AbortUpload.ensures.unfinished);
  by = rw c.settled-in-AbortUpload.ensures.unfinished tt;
}

pub returns-in-AbortUpload-clause-kind : goal.returns-in-AbortUpload-clause-kind
returns-in-AbortUpload-clause-kind g c = rw c.settled-in-AbortUpload.ensures.reply (kind_reply _ c.abort_upload.ensures.kind)
