use Rattle.account_calls.proofs.lemmas.Sides.{side_name}
use Rattle.planner.proofs.MakeBucket.{emptied_uploads, not_emptied_uploads, uploads_beside}
use Rattle.planner.proofs.buckets.empty_uploads.Goals as goal

pub purge-requires-clause-named : goal.purge-requires-clause-named
purge-requires-clause-named g c = side_name _ c.args.made.bucket (uploads_beside _ _ c.requires.uploads c.fits.ensures)

pub returns-in_err-purge-clause-plans : goal.returns-in_err-purge-clause-plans
returns-in_err-purge-clause-plans g c = not_emptied_uploads c.args.made.bucket c.fits.ensures c.requires.uploads c.new-all.ensures (c.in_err-purge.ensures.asks c.args.made.bucket) _ c.from_residual.ensures.1

pub returns-clause-plans : goal.returns-clause-plans
returns-clause-plans g c = emptied_uploads c.args.made.bucket c.fits.ensures c.purge.ensures.stays.settings c.requires.uploads c.new-all.ensures (c.in_ok-purge.ensures.asks c.args.made.bucket) c.empty_segments.ensures.plans
