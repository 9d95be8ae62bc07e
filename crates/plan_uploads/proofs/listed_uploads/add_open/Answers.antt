use Rattle.plan_uploads.proofs.UploadRows.{shown_more}
use Rattle.plan_uploads.proofs.listed_uploads.add_open.Goals as goal

pub returns-clause-dated : goal.returns-clause-dated
returns-clause-dated c = shown_more _ _ _ _ c.in_ok-add_open_upload_row.ensures c.if-started-ge-MOMENT_LIMIT.false
