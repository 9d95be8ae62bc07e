-- The replies to the operations on buckets whose one call commits, by what it told; and what stands of the containers of a bucket
-- while it is made. Source: this profile.
use Rattle.std.specs.Prelude.{ℕ, ◌+◌, Bool, true, false, List, []}
use Rattle.s3_machine.specs.declared.code.Code.TheVariants.{BucketNotEmpty, NoSuchBucket}
use Rattle.s3_machine.specs.declared.operation.Reply.{Reply}
use Rattle.s3_machine.specs.declared.operation.Reply.TheVariants as reply
use Rattle.account_calls.specs.declared.bucket.Dropped.{Dropped}
use Rattle.account_calls.specs.declared.bucket.Dropped.TheVariants.{Gone, Full, Missing}
use Rattle.swift_calls.specs.Account.{SwiftAccount}
use Rattle.upload_records.specs.Layout.{uploads_name, segments_name}
use Rattle.upload_records.specs.Native.{s3_state}
use Rattle.upload_records.specs.Consistent.{IsBareContainer, IsThere}
use Rattle.account_calls.specs.Calls.{LacksBucket}
use Rattle.account_calls.specs.Purging.{purge_calls}

-- the reply to DeleteBucket
abbrev pub dropped_reply : Dropped → Reply
dropped_reply Gone = reply.Gone
dropped_reply Full = reply.Refused BucketNotEmpty
dropped_reply Missing = reply.Refused NoSuchBucket

-- the reply to PutBucketAcl, by whether the bucket is there
abbrev pub set_reply : Bool → Reply
set_reply true = reply.Done
set_reply false = reply.Refused NoSuchBucket

-- ---- a bucket that is made

-- the calls that delete all that stands in both containers beside it
abbrev pub emptying : List ℕ → SwiftAccount → ℕ
emptying bucket tree = purge_calls tree (uploads_name bucket) [] + purge_calls tree (segments_name bucket) []

-- it is missing, and the container of its upload records is there
pub record HasUploads (bucket : List ℕ) (tree : SwiftAccount) : Type 0 where
  pub lacks : LacksBucket bucket (s3_state tree)
  pub uploads : IsThere tree (uploads_name bucket)

-- it is missing, and both containers beside it are there
pub record HasSides (bucket : List ℕ) (tree : SwiftAccount) : Type 0 where
  pub lacks : LacksBucket bucket (s3_state tree)
  pub uploads : IsThere tree (uploads_name bucket)
  pub segments : IsThere tree (segments_name bucket)

-- and that of its upload records has no file
pub record HasBareUploads (bucket : List ℕ) (tree : SwiftAccount) : Type 0 where
  pub lacks : LacksBucket bucket (s3_state tree)
  pub uploads : IsBareContainer tree (uploads_name bucket)
  pub segments : IsThere tree (segments_name bucket)
