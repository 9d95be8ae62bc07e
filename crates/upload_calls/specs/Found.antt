-- What is found of the upload that an operation is on. Source: this profile.
use Rattle.std.specs.Prelude.{◌≡◌, ◌≤◌, ◌+◌, ℕ, Bool, true, false, bytes_eq, cond, List, Option, None, Some, Result, IfOk}
use Rattle.gate_base.specs.declared.page.Pair.{Pair}
use Rattle.s3_names.specs.Id.{id_digits}
use Rattle.swift_calls.specs.Account.{SwiftAccount, files}
use Rattle.swift_calls.specs.History.{History}
use Rattle.upload_texts.specs.declared.record.Record.{Record}
use Rattle.upload_texts.specs.declared.record.Record.TheVariants.{Open, Done}
use Rattle.upload_records.specs.Layout.{uploads_name}
use Rattle.upload_records.specs.Native.{IsSettled, record_at, s3_state}
use Rattle.upload_records.specs.Consistent.{IsThere}
use Rattle.account_calls.specs.Calls.{LacksBucket}
use Rattle.account_calls.specs.declared.fault.PlanFault.{PlanFault}
use Rattle.upload_calls.specs.declared.found.Found.{Found}
use Rattle.upload_calls.specs.declared.found.Found.TheVariants as found

-- it is open in the bucket, under the key and under the id that a text writes
pub record IsOpenUpload (bucket key text : List ℕ) (id : ℕ) (tree : SwiftAccount) : Type 0 where
  pub settled : IsSettled tree
  pub there : IsThere tree bucket
  pub is : text ≡ id_digits id
  pub content_type : List ℕ
  pub meta : List Pair
  pub started : ℕ
  pub reads : record_at (files tree (uploads_name bucket)) text ≡ Some (Open key content_type meta started)

-- the bucket is there, and none of the key is open under the text
pub record LacksUpload (bucket key text : List ℕ) (tree : SwiftAccount) : Type 0 where
  pub settled : IsSettled tree
  pub there : IsThere tree bucket
  pub none : (content_type : List ℕ) (meta : List Pair) (started : ℕ)
      → record_at (files tree (uploads_name bucket)) text ≡ Some (Open key content_type meta started) → ⊥

-- what was found of an upload is so: its bucket is missing, none of the key is open under the text, or this one is
abbrev pub TellsUpload : List ℕ → List ℕ → List ℕ → SwiftAccount → Found → Type 0
TellsUpload bucket key text tree found.NoBucket = LacksBucket bucket (s3_state tree)
TellsUpload bucket key text tree found.NoUpload = LacksUpload bucket key text tree
TellsUpload bucket key text tree (found.Open id) = IsOpenUpload bucket key text id tree

-- what a record says of it
abbrev pub found_by : Option Record → List ℕ → ℕ → Found
found_by None key id = found.NoUpload
found_by (Some (Open under content_type meta started)) key id = cond (bytes_eq under key) (found.Open id) found.NoUpload
found_by (Some (Done under list etag started moment)) key id = found.NoUpload

-- the id that was found is the one that this text writes
abbrev pub IsFoundBy : List ℕ → Found → Type 0
IsFoundBy text found.NoBucket = Unit {0}
IsFoundBy text found.NoUpload = Unit {0}
IsFoundBy text (found.Open id) = text ≡ id_digits id

-- the bucket is missing
abbrev pub is_bucket_missing : Found → Bool
is_bucket_missing found.NoBucket = true
is_bucket_missing found.NoUpload = false
is_bucket_missing (found.Open id) = false

-- where it is, the first call told so, and none follows
abbrev pub StopsAtBucket : History → History → Result Found PlanFault → Type 0
StopsAtBucket old new result = IfOk result (λ found. is_bucket_missing found ≡ true → new.called ≤ old.called + 1)
