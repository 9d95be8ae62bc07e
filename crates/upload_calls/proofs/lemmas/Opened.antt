-- A bucket that is there or missing, and an upload that is open, by what the calls told.
use Rattle.std.specs.Prelude.{◌≡◌, ℕ, List, Option, Some, None}
use Rattle.std.specs.Option.{option_map}
use Rattle.std.specs.FinMap.{get}
use Rattle.std.proofs.Common.{refl, sym, ap, subst, ◌∙◌}
use Rattle.s3_names.specs.declared.acl.Acl.{Acl}
use Rattle.s3_machine.specs.State.{Bucket, State}
use Rattle.swift_calls.specs.Account.{SwiftAccount, files}
use Rattle.upload_records.specs.Layout.{uploads_name}
use Rattle.upload_records.specs.Consistent.{IsOpen}
use Rattle.upload_records.specs.Native.{record_at}
use Rattle.account_calls.specs.Calls.{LacksBucket, TellsBucket, acl_of_bucket}
use Rattle.upload_calls.specs.Found.{IsOpenUpload}
use Rattle.upload_calls.specs.Records.{HasOpen}

none_of : (o : Option Bucket) → option_map acl_of_bucket o ≡ None → o ≡ None
none_of None e = refl
none_of (Some b) e = cc

pub lacks_of : (bucket : List ℕ) (state : State) → TellsBucket bucket state None → LacksBucket bucket state
lacks_of bucket state told = none_of (get state bucket) told

pub bucket_by : (o : Option Bucket) (acl : Acl) → option_map acl_of_bucket o ≡ Some acl → (b : Bucket) × (o ≡ Some b) × (b.acl ≡ acl)
bucket_by None acl e = cc
bucket_by (Some b) acl e = (b, refl, cc)

-- ---- what the calls ask

-- a call on an upload that is open
pub has_open : {bucket key text : List ℕ} {id : ℕ} {tree : SwiftAccount} → IsOpenUpload bucket key text id tree → HasOpen bucket id tree
has_open {bucket = bucket} {key = key} {tree = tree} found = record {
  there = found.there;
  opens = subst IsOpen (sym (ap (record_at (files tree (uploads_name bucket))) (sym found.is) ∙ found.reads)) tt;
}
