use Rattle.std.proofs.Common.{Some, ap, ◌∙◌}
use Rattle.plan_uploads.specs.Listing.{row_of_record}
use Rattle.plan_uploads.proofs.UploadRows.{asks_missing, asks_no_row, asks_row}
use Rattle.plan_uploads.proofs.listed_uploads.add_upload.Goals as goal

pub returns-in-Some-Open-clause-asks : goal.returns-in-Some-Open-clause-asks
returns-in-Some-Open-clause-asks g c =
    asks_row c.args.bucket.now c.args.asked.now c.args.id c.in-Some-Open.key c.in-Some-Open.field-0-1 c.in-Some-Open.field-0-2 c.in-Some-Open.started c.in_ok-key.field-0
    (c.in-Some-Open.is ∙ ap Some c.in-Some-Open.field-0-is) c.in_ok-key.ensures.asks c.args.rows.now c.add_open.new.rows c.add_open.result c.add_open.ensures.due

pub returns-in-Some-Done-clause-asks : goal.returns-in-Some-Done-clause-asks
returns-in-Some-Done-clause-asks g c =
    asks_no_row c.args.bucket.now c.args.asked.now c.args.id c.args.rows.now c.in_ok-key.field-0 (ap (row_of_record c.args.asked.now c.args.id) (c.in-Some-Done.is ∙ ap Some c.in-Some-Done.field-0-is)) c.in_ok-key.ensures.asks

pub returns-clause-asks : goal.returns-clause-asks
returns-clause-asks g c = asks_missing c.args.bucket.now c.args.asked.now c.args.id c.args.rows.now (rw c.in-None.is at c.in_ok-key.ensures.asks)
