use Rattle.std.proofs.Common.{arith}
use Rattle.planner.proofs.MakeBucket.{made_segments, not_made, segments_beside}
use Rattle.planner.proofs.buckets.plan_create_bucket_segments.Goals as goal

pub returns-in_err-put_container_beside-clause-plans : goal.returns-in_err-put_container_beside-clause-plans
returns-in_err-put_container_beside-clause-plans g c = not_made (omega arith) c.in_err-put_container_beside.ensures.asks _ c.from_residual.ensures.1

pub returns-clause-plans : goal.returns-clause-plans
returns-clause-plans g c = made_segments c.args.made.bucket c.fits.ensures c.put_container_beside.ensures.stays.settings c.requires.segments c.in_ok-put_container_beside.ensures.asks c.empty_uploads.ensures.plans

pub put_container_beside-requires : goal.put_container_beside-requires
put_container_beside-requires g c = (c.args.made.bucket, segments_beside _ _ c.requires.segments c.fits.ensures)
