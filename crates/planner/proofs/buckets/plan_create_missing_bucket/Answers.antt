use Rattle.std.proofs.Common.{ap, arith, ◌∙◌}
use Rattle.upload_records.specs.Layout.{uploads_name}
use Rattle.account_calls.proofs.lemmas.Ends.{out_of_memory}
use Rattle.planner.proofs.MakeBucket.{made_uploads, not_made, uploads_beside}
use Rattle.planner.proofs.buckets.plan_create_missing_bucket.Goals as goal

pub returns-in_err-uploads-clause-plans : goal.returns-in_err-uploads-clause-plans
returns-in_err-uploads-clause-plans g c = out_of_memory _ _ c.from_residual.ensures.1

pub returns-in_err-segments-clause-plans : goal.returns-in_err-segments-clause-plans
returns-in_err-segments-clause-plans g c = out_of_memory _ _ c.from_residual-in_err-segments.ensures.1

pub returns-in_err-put_container_beside-clause-plans : goal.returns-in_err-put_container_beside-clause-plans
returns-in_err-put_container_beside-clause-plans g c = not_made (omega arith) c.in_err-put_container_beside.ensures.asks _ c.from_residual-in_err-put_container_beside.ensures.1

pub returns-clause-plans : goal.returns-clause-plans
returns-clause-plans g c = made_uploads c.args.made.bucket c.bytes.ensures.fit c.put_container_beside.ensures.stays.settings (c.in_ok-uploads.ensures ∙ ap uploads_name c.bytes.ensures.value) c.in_ok-put_container_beside.ensures.asks c.plan_create_bucket_segments.ensures.plans

pub put_container_beside-requires : goal.put_container_beside-requires
put_container_beside-requires g c = (c.args.made.bucket, uploads_beside _ _ (c.in_ok-uploads.ensures ∙ ap uploads_name c.bytes.ensures.value) c.bytes.ensures.fit)
