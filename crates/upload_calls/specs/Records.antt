-- The calls on the records and the parts of uploads: what each is given of the account, what it tells, and how it changes the
-- S3 state. Source: this profile.
use Rattle.std.specs.Prelude.{◌≡◌, ℕ, nat_lt, Bool, true, false, List, [], map, Option, None, Some}
use Rattle.std.specs.List.{filter}
use Rattle.std.specs.FinMap.{entries, empty, get}
use Rattle.gate_base.specs.Maps.{Names, Numbers, adjust}
use Rattle.gate_base.specs.declared.page.Pair.{Pair}
use Rattle.s3_names.specs.Id.{id_digits}
use Rattle.s3_machine.specs.State.{Bucket, Part, Upload, State}
use Rattle.s3_machine.specs.Uploads.{cut, drop_upload, new_part, new_upload, on_upload, open_upload, part_item, uploads_after, with_part}
use Rattle.s3_machine.specs.declared.items.PartItem.{PartItem}
use Rattle.s3_machine.specs.declared.items.UploadItem.{UploadItem}
use Rattle.swift_calls.specs.Account.{SwiftAccount, files}
use Rattle.upload_texts.specs.Records.{read_record}
use Rattle.upload_texts.specs.declared.record.Record.{Record}
use Rattle.upload_texts.specs.declared.record.Record.TheVariants.{Open}
use Rattle.upload_records.specs.Layout.{segments_name, segments_prefix, sub_manifest_name, uploads_name}
use Rattle.upload_records.specs.Native.{parts_of, record_at}
use Rattle.upload_records.specs.Consistent.{IsConsistent, IsOpen, IsThere}
use Rattle.upload_records.specs.Laws.{IsUnused}
use Rattle.account_calls.specs.Answers.{IsFirstFree, IsTaken}
use Rattle.account_calls.specs.Purging.{MayPurge}
use Rattle.account_calls.specs.Puts.{StandsIn}
use Rattle.upload_calls.specs.Interpret.{put_part_of, put_record_of}

-- ---- the text of an id

-- a text as the id of an upload: that of which it is the 32 lower-case digits, if it is those of one
abbrev pub ReadsId : List ℕ → Option ℕ → Type 0
ReadsId text None = (id : ℕ) → text ≡ id_digits id → ⊥
ReadsId text (Some id) = text ≡ id_digits id

-- ---- what is given

-- the bucket is there, and with it the containers beside it
abbrev pub InBucket : List ℕ → SwiftAccount → Type 0
InBucket bucket tree = IsThere tree bucket

-- and no sub-manifest stands under the id, so that all that does are parts
pub record HasPartsAlone (bucket : List ℕ) (id : ℕ) (tree : SwiftAccount) : Type 0 where
  pub there : IsThere tree bucket
  pub unlisted : (number : ℕ) → get (files tree (segments_name bucket)) (sub_manifest_name (id_digits id) number) ≡ None

-- where the account is consistent
abbrev pub HasOnlyParts : List ℕ → ℕ → SwiftAccount → Type 0
HasOnlyParts bucket id tree = IsConsistent tree → HasPartsAlone bucket id tree

-- and an upload of the id is open in it
pub record HasOpen (bucket : List ℕ) (id : ℕ) (tree : SwiftAccount) : Type 0 where
  pub there : IsThere tree bucket
  pub opens : IsOpen (record_at (files tree (uploads_name bucket)) (id_digits id))

-- and nothing stands under the id
pub record MayOpen (bucket : List ℕ) (id : ℕ) (tree : SwiftAccount) : Type 0 where
  pub there : IsThere tree bucket
  pub unused : IsUnused tree bucket (id_digits id)

-- ---- what is left

-- behind the DELETE of its record the segments of an upload may be deleted, and they are those that stood there before
pub record MayClear (bucket : List ℕ) (id : ℕ) (old new : SwiftAccount) : Type 0 where
  pub may : MayPurge (segments_name bucket) bucket (segments_prefix (id_digits id)) [] new
  pub same : files new (segments_name bucket) ≡ files old (segments_name bucket)

-- the file of the record of an upload that is open so stands as it was put
pub record StandsOpen (bucket : List ℕ) (id : ℕ) (key content_type : List ℕ) (meta : List Pair) (started : ℕ) (tree : SwiftAccount) : Type 0 where
  pub text : List ℕ
  pub reads : read_record text ≡ Some (Open key content_type meta started)
  pub stands : StandsIn tree (put_record_of bucket id text)

-- the file of a part stands as it was put, into the upload whose id this text writes
pub record StandsPart (bucket text : List ℕ) (number : ℕ) (body : List ℕ) (moment : ℕ) (tree : SwiftAccount) : Type 0 where
  pub id : ℕ
  pub is : text ≡ id_digits id
  pub stands : StandsIn tree (put_part_of bucket id number body moment)

-- ---- what is told of the account

-- the record of an upload, if there is one
abbrev pub TellsRecord : List ℕ → ℕ → SwiftAccount → Option Record → Type 0
TellsRecord bucket id tree told = record_at (files tree (uploads_name bucket)) (id_digits id) ≡ told

-- whether an id is taken
abbrev pub TellsTaken : List ℕ → ℕ → SwiftAccount → Bool → Type 0
TellsTaken bucket id tree true = IsTaken tree bucket (id_digits id)
TellsTaken bucket id tree false = IsTaken tree bucket (id_digits id) → ⊥

-- the first id that isn't, from the word of chance on
abbrev pub TellsFree : List ℕ → ℕ → SwiftAccount → ℕ → Type 0
TellsFree bucket draw tree told = IsFirstFree tree bucket draw (id_digits told)

-- the parts whose number is above a marker
abbrev pub items_above : ℕ → Numbers Part → List PartItem
items_above marker parts = map part_item (filter (λ e. nat_lt marker e.0) (entries parts))

-- ListParts: the first parts above the marker, and whether one is left over
abbrev pub TellsParts : List ℕ → ℕ → ℕ → ℕ → SwiftAccount → List PartItem × Bool → Type 0
TellsParts bucket id marker max tree told = told ≡ cut max (items_above marker (parts_of (files tree (segments_name bucket)) (id_digits id)))

-- ---- what is told of the state

abbrev pub uploads_in : Option Bucket → Names Upload
uploads_in None = empty
uploads_in (Some b) = b.uploads

-- ListUploads: the first open uploads after the markers, and whether one is left over
abbrev pub TellsUploads : List ℕ → List ℕ → List ℕ → List ℕ → ℕ → State → List UploadItem × Bool → Type 0
TellsUploads bucket prefix key_marker id_marker max state told = told ≡ cut max (uploads_after prefix key_marker id_marker (uploads_in (get state bucket)))

-- ---- what is changed

-- an upload is opened, without parts
abbrev pub opens_upload : List ℕ → ℕ → List ℕ → List ℕ → List Pair → ℕ → State → State
opens_upload bucket id key content_type meta started state = adjust bucket (open_upload (id_digits id) (new_upload key content_type meta started)) state

-- a part is put into an upload, as one whose bytes came at a moment
abbrev pub puts_part : List ℕ → ℕ → ℕ → List ℕ → ℕ → State → State
puts_part bucket id number body moment state = adjust bucket (on_upload (id_digits id) (with_part number (new_part moment body))) state

-- an upload is dropped
abbrev pub drops_upload : List ℕ → ℕ → State → State
drops_upload bucket id state = adjust bucket (drop_upload (id_digits id)) state
