use Rattle.plan_uploads.proofs.UploadsListed.{handed_on, out_of_memory, shown_items, told}
use Rattle.plan_uploads.proofs.listed_uploads.list_asked_uploads.Goals as goal

pub returns-in_err-rows-clause-asks : goal.returns-in_err-rows-clause-asks
returns-in_err-rows-clause-asks g c =
    handed_on c.args.bucket.now c.fits.ensures c.args.asked.now
    c.in_err-rows.ensures.asks _ c.from_residual.ensures.1

pub returns-in_err-items-clause-asks : goal.returns-in_err-items-clause-asks
returns-in_err-items-clause-asks g c =
    out_of_memory c.args.bucket.now c.fits.ensures c.args.asked.now
    c.in_ok-rows.ensures.asks _ c.from_residual-in_err-items.ensures.1

pub returns-clause-dated : goal.returns-clause-dated
returns-clause-dated g c = c.first_listed_uploads.ensures.dated (shown_items c.in_ok-rows.rows c.in_ok-items.items c.in_ok-rows.ensures.dated c.in_ok-items.ensures)

pub returns-clause-asks : goal.returns-clause-asks
returns-clause-asks g c =
    told c.args.bucket.now c.fits.ensures c.args.asked.now
    c.in_ok-rows.ensures.asks c.in_ok-items.items c.in_ok-items.ensures c.first_listed_uploads.result c.first_listed_uploads.ensures.cut
