use Rattle.plan_uploads.proofs.UploadsListed.{listed_of}
use Rattle.plan_uploads.proofs.listed_uploads.open_uploads_of_bucket.Goals as goal

pub returns-clause-asks : goal.returns-clause-asks
returns-clause-asks g c = listed_of c.args.asked.now c.args.bucket.now c.fits.ensures c.as_slice.ensures c.in_ok-ids.ensures.asks c.open_uploads_of_ids.result c.open_uploads_of_ids.ensures.asks
