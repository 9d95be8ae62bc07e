use Rattle.std.proofs.Common.{lit≤, subst}
use Rattle.s3_machine.specs.Parts.{AsksNoPart}
use Rattle.s3_machine.specs.declared.operation.Op.TheVariants.{OnObjects}
use Rattle.account_calls.proofs.lemmas.Puts.{ensures_nothing}
use Rattle.account_calls.proofs.lemmas.Refusals.{stops_at_once, stops_unrefused}
use Rattle.planner.proofs.operation.plan.Goals as goal

pub head_object-requires : goal.head_object-requires
head_object-requires g c = record { planned = subst (λ op. AsksNoPart (OnObjects op)) c.in-HeadObject.is c.requires.planned }

pub returns-in-ListBuckets-clause-plans : goal.returns-in-ListBuckets-clause-plans
returns-in-ListBuckets-clause-plans g c = rw c.in-ListBuckets.is (c.list_buckets.ensures.plans c.args.label.now)

pub returns-in-DeleteBucket-clause-plans : goal.returns-in-DeleteBucket-clause-plans
returns-in-DeleteBucket-clause-plans g c = rw c.in-DeleteBucket.is (c.delete_bucket.ensures.plans c.args.label.now)

pub returns-in-GetLocation-clause-plans : goal.returns-in-GetLocation-clause-plans
returns-in-GetLocation-clause-plans g c = rw c.in-GetLocation.is (c.get_location.ensures.plans c.args.label.now)

pub returns-in-GetBucketAcl-clause-plans : goal.returns-in-GetBucketAcl-clause-plans
returns-in-GetBucketAcl-clause-plans g c = rw c.in-GetBucketAcl.is (c.get_bucket_acl.ensures.plans c.args.label.now)

pub returns-in-PutBucketAcl-clause-plans : goal.returns-in-PutBucketAcl-clause-plans
returns-in-PutBucketAcl-clause-plans g c = rw c.in-PutBucketAcl.is (c.put_bucket_acl.ensures.plans c.args.label.now)

pub returns-in-DeleteObject-clause-plans : goal.returns-in-DeleteObject-clause-plans
returns-in-DeleteObject-clause-plans g c = rw c.in-DeleteObject.is (c.delete_object.ensures.plans c.args.label.now)

pub returns-in-DeleteObjects-clause-plans : goal.returns-in-DeleteObjects-clause-plans
returns-in-DeleteObjects-clause-plans g c = rw c.in-DeleteObjects.is (c.delete_objects.ensures.plans c.args.label.now)

pub returns-in-GetObjectAcl-clause-plans : goal.returns-in-GetObjectAcl-clause-plans
returns-in-GetObjectAcl-clause-plans g c = rw c.in-GetObjectAcl.is (c.get_object_acl.ensures.plans c.args.label.now)

pub returns-in-PutObjectAcl-clause-plans : goal.returns-in-PutObjectAcl-clause-plans
returns-in-PutObjectAcl-clause-plans g c = rw c.in-PutObjectAcl.is (c.put_object_acl.ensures.plans c.args.label.now)

pub returns-in-GetSetting-clause-plans : goal.returns-in-GetSetting-clause-plans
returns-in-GetSetting-clause-plans g c = rw c.in-GetSetting.is (c.get_setting.ensures.plans c.args.label.now)

pub returns-in-ListBuckets-clause-stands : goal.returns-in-ListBuckets-clause-stands
returns-in-ListBuckets-clause-stands g c = rw c.in-ListBuckets.is (ensures_nothing _)

pub returns-in-CreateBucket-clause-stands : goal.returns-in-CreateBucket-clause-stands
returns-in-CreateBucket-clause-stands g c = rw c.in-CreateBucket.is (ensures_nothing _)

pub returns-in-DeleteBucket-clause-stands : goal.returns-in-DeleteBucket-clause-stands
returns-in-DeleteBucket-clause-stands g c = rw c.in-DeleteBucket.is (ensures_nothing _)

pub returns-in-HeadBucket-clause-stands : goal.returns-in-HeadBucket-clause-stands
returns-in-HeadBucket-clause-stands g c = rw c.in-HeadBucket.is (ensures_nothing _)

pub returns-in-GetLocation-clause-stands : goal.returns-in-GetLocation-clause-stands
returns-in-GetLocation-clause-stands g c = rw c.in-GetLocation.is (ensures_nothing _)

pub returns-in-GetBucketAcl-clause-stands : goal.returns-in-GetBucketAcl-clause-stands
returns-in-GetBucketAcl-clause-stands g c = rw c.in-GetBucketAcl.is (ensures_nothing _)

pub returns-in-PutBucketAcl-clause-stands : goal.returns-in-PutBucketAcl-clause-stands
returns-in-PutBucketAcl-clause-stands g c = rw c.in-PutBucketAcl.is (ensures_nothing _)

pub returns-in-ListObjects-clause-stands : goal.returns-in-ListObjects-clause-stands
returns-in-ListObjects-clause-stands g c = rw c.in-ListObjects.is (ensures_nothing _)

pub returns-in-HeadObject-clause-stands : goal.returns-in-HeadObject-clause-stands
returns-in-HeadObject-clause-stands g c = rw c.in-HeadObject.is (ensures_nothing _)

pub returns-in-DeleteObject-clause-stands : goal.returns-in-DeleteObject-clause-stands
returns-in-DeleteObject-clause-stands g c = rw c.in-DeleteObject.is (ensures_nothing _)

pub returns-in-DeleteObjects-clause-stands : goal.returns-in-DeleteObjects-clause-stands
returns-in-DeleteObjects-clause-stands g c = rw c.in-DeleteObjects.is (ensures_nothing _)

pub returns-in-GetObjectAcl-clause-stands : goal.returns-in-GetObjectAcl-clause-stands
returns-in-GetObjectAcl-clause-stands g c = rw c.in-GetObjectAcl.is (ensures_nothing _)

pub returns-in-PutObjectAcl-clause-stands : goal.returns-in-PutObjectAcl-clause-stands
returns-in-PutObjectAcl-clause-stands g c = rw c.in-PutObjectAcl.is (ensures_nothing _)

pub returns-in-GetSetting-clause-stands : goal.returns-in-GetSetting-clause-stands
returns-in-GetSetting-clause-stands g c = rw c.in-GetSetting.is (ensures_nothing _)

pub returns-in-ListBuckets-clause-stops : goal.returns-in-ListBuckets-clause-stops
returns-in-ListBuckets-clause-stops g c = rw c.in-ListBuckets.is (stops_unrefused _ c.list_buckets.ensures.unrefused)

pub returns-in-CreateBucket-clause-stops : goal.returns-in-CreateBucket-clause-stops
returns-in-CreateBucket-clause-stops g c = rw c.in-CreateBucket.is (c.create_bucket.ensures.stops)

pub returns-in-DeleteBucket-clause-stops : goal.returns-in-DeleteBucket-clause-stops
returns-in-DeleteBucket-clause-stops g c = rw c.in-DeleteBucket.is (stops_at_once (lit≤ tt) (lit≤ tt) (lit≤ tt) _ (c.delete_bucket.ensures.plans c.args.label.now).grows.calls)

pub returns-in-HeadBucket-clause-stops : goal.returns-in-HeadBucket-clause-stops
returns-in-HeadBucket-clause-stops g c = rw c.in-HeadBucket.is (stops_at_once (lit≤ tt) (lit≤ tt) (lit≤ tt) _ c.plan_head_bucket.ensures.plans.grows.calls)

pub returns-in-GetLocation-clause-stops : goal.returns-in-GetLocation-clause-stops
returns-in-GetLocation-clause-stops g c = rw c.in-GetLocation.is (stops_at_once (lit≤ tt) (lit≤ tt) (lit≤ tt) _ (c.get_location.ensures.plans c.args.label.now).grows.calls)

pub returns-in-GetBucketAcl-clause-stops : goal.returns-in-GetBucketAcl-clause-stops
returns-in-GetBucketAcl-clause-stops g c = rw c.in-GetBucketAcl.is (stops_at_once (lit≤ tt) (lit≤ tt) (lit≤ tt) _ (c.get_bucket_acl.ensures.plans c.args.label.now).grows.calls)

pub returns-in-PutBucketAcl-clause-stops : goal.returns-in-PutBucketAcl-clause-stops
returns-in-PutBucketAcl-clause-stops g c = rw c.in-PutBucketAcl.is (stops_at_once (lit≤ tt) (lit≤ tt) (lit≤ tt) _ (c.put_bucket_acl.ensures.plans c.args.label.now).grows.calls)

pub returns-in-ListObjects-clause-stops : goal.returns-in-ListObjects-clause-stops
returns-in-ListObjects-clause-stops g c = rw c.in-ListObjects.is (c.list_objects.ensures.stops)

pub returns-in-PutObject-clause-stops : goal.returns-in-PutObject-clause-stops
returns-in-PutObject-clause-stops g c = rw c.in-PutObject.is (c.put_object.ensures.stops)

pub returns-in-HeadObject-clause-stops : goal.returns-in-HeadObject-clause-stops
returns-in-HeadObject-clause-stops g c = rw c.in-HeadObject.is (c.head_object.ensures.stops)

pub returns-in-DeleteObject-clause-stops : goal.returns-in-DeleteObject-clause-stops
returns-in-DeleteObject-clause-stops g c = rw c.in-DeleteObject.is (c.delete_object.ensures.stops)

pub returns-in-DeleteObjects-clause-stops : goal.returns-in-DeleteObjects-clause-stops
returns-in-DeleteObjects-clause-stops g c = rw c.in-DeleteObjects.is c.delete_objects.ensures.stops

pub returns-in-GetObjectAcl-clause-stops : goal.returns-in-GetObjectAcl-clause-stops
returns-in-GetObjectAcl-clause-stops g c = rw c.in-GetObjectAcl.is (c.get_object_acl.ensures.stops)
