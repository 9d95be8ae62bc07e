-- The uploads of a bucket, as the listing of its records and GET of each tell them. Source: Object Storage API v1, "Show
-- container details and list objects", and this profile.
use Rattle.std.specs.Prelude.{◌≡◌, ◌≤◌, ⊤, ℕ, true, ◌&&◌, List, is_some, cond, Option, None, Some, Result, Ok, Err}
use Rattle.std.specs.List.{All, filter_map}
use Rattle.std.specs.FinMap.{from_entries, get, insert}
use Rattle.gate_base.specs.Maps.{Names, name_cmp}
use Rattle.gate_base.specs.Told.{moment_limit}
use Rattle.s3_names.specs.Id.{id_digits}
use Rattle.s3_machine.specs.Items.{begins}
use Rattle.s3_machine.specs.Shown.{IsShownUpload}
use Rattle.s3_machine.specs.Uploads.{is_upload_after, upload_place}
use Rattle.s3_machine.specs.declared.items.UploadItem.{UploadItem}
use Rattle.swift_calls.specs.Account.{SwiftAccount, files}
use Rattle.upload_texts.specs.declared.record.Record.{Record}
use Rattle.upload_texts.specs.declared.record.Record.TheVariants.{Open, Done}
use Rattle.upload_records.specs.Layout.{uploads_name}
use Rattle.upload_records.specs.Native.{record_at}
use Rattle.upload_records.specs.Consistent.{IsThere}
use Rattle.account_calls.specs.declared.fault.PlanFault.{PlanFault}
use Rattle.account_calls.specs.declared.fault.PlanFault.TheVariants.{Failed, Memory, Inconsistent}
use Rattle.upload_calls.specs.Listing.{ids_in}
use Rattle.s3_machine.specs.declared.items.UploadsAsked.{UploadsAsked}

-- the bucket is there, and the id has a record in it, as that of a record which was listed has
pub record HasRecord (bucket : List ℕ) (id : ℕ) (tree : SwiftAccount) : Type 0 where
  pub there : IsThere tree bucket
  pub has : is_some (record_at (files tree (uploads_name bucket)) (id_digits id)) ≡ true

-- and each of these ids has
pub record HasRecords (bucket ids : List ℕ) (tree : SwiftAccount) : Type 0 where
  pub there : IsThere tree bucket
  pub each : All (λ id. is_some (record_at (files tree (uploads_name bucket)) (id_digits id)) ≡ true) ids

-- the row of an open upload, where it is listed, at its place
abbrev pub row_by : UploadsAsked → ℕ → List ℕ → ℕ → Option (List ℕ × UploadItem)
row_by asked id key started =
    cond (begins asked.prefix key && is_upload_after asked.key_marker asked.id_marker key (id_digits id))
    (Some (upload_place key (id_digits id), record { key = key; id = id; started = started })) None

abbrev pub row_of_record : UploadsAsked → ℕ → Option Record → Option (List ℕ × UploadItem)
row_of_record asked id None = None
row_of_record asked id (Some (Open key content_type meta started)) = row_by asked id key started
row_of_record asked id (Some (Done key list etag started moment)) = None

-- the row of an id
abbrev pub row_due : UploadsAsked → List ℕ → SwiftAccount → ℕ → Option (List ℕ × UploadItem)
row_due asked bucket tree id = row_of_record asked id (record_at (files tree (uploads_name bucket)) (id_digits id))

-- a row added, unless one stands at its place
abbrev pub added : List ℕ × UploadItem → Names UploadItem → Names UploadItem
added row rows = cond (is_some (get rows row.0)) rows (insert rows row.0 row.1)

abbrev pub added_if : Option (List ℕ × UploadItem) → Names UploadItem → Names UploadItem
added_if None rows = rows
added_if (Some row) rows = added row rows

-- each row has a date
pub record AllShown (rows : Names UploadItem) : Type 0 where
  pub each : (place : List ℕ) (item : UploadItem) → get rows place ≡ Some item → IsShownUpload item

-- the row of an open upload was added, or its moment has no date
abbrev pub AddsRow : UploadsAsked → ℕ → List ℕ → ℕ → Names UploadItem → Names UploadItem → Result (Unit {0}) PlanFault → Type 0
AddsRow asked id key started old new (Ok done) = new ≡ added_if (row_by asked id key started) old
AddsRow asked id key started old new (Err Failed) = ⊥
AddsRow asked id key started old new (Err Memory) = ⊤
AddsRow asked id key started old new (Err Inconsistent) = moment_limit ≤ started

abbrev pub TellsRow : UploadsAsked → List ℕ → ℕ → Names UploadItem → Names UploadItem → SwiftAccount → Unit {0} → Type 0
TellsRow asked bucket id old new tree done = new ≡ added_if (row_due asked bucket tree id) old

-- the rows of ids
abbrev pub TellsRows : UploadsAsked → List ℕ → List ℕ → SwiftAccount → Names UploadItem → Type 0
TellsRows asked bucket ids tree told = told ≡ from_entries {R = name_cmp} (filter_map (row_due asked bucket tree) ids)

-- the rows of all records
abbrev pub TellsListed : UploadsAsked → List ℕ → SwiftAccount → Names UploadItem → Type 0
TellsListed asked bucket tree told = TellsRows asked bucket (ids_in bucket tree) tree told
