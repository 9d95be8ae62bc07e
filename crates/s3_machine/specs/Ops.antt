-- The operations by their parts, as laws speak of them. Source: Amazon S3 API Reference.
use Rattle.std.specs.Prelude.{ℕ, Bool, List, Option}
use Rattle.gate_base.specs.declared.page.Pair.{Pair}
use Rattle.s3_names.specs.declared.acl.Acl.{Acl}
use Rattle.s3_machine.specs.declared.buckets.BucketListing.{BucketListing}
use Rattle.s3_machine.specs.declared.items.Asked.{Asked}
use Rattle.s3_machine.specs.declared.reading.Conditions.{Conditions}
use Rattle.s3_machine.specs.declared.reading.Range.{Range}
use Rattle.s3_machine.specs.declared.only_if.OnlyIf.{OnlyIf}
use Rattle.s3_machine.specs.declared.operation.Listed.{Listed}
use Rattle.s3_machine.specs.declared.operation.Described.{Described}
use Rattle.s3_machine.specs.declared.unset.Unset.{Unset}
use Rattle.s3_machine.specs.declared.operation.Op.{Op}
use Rattle.s3_machine.specs.declared.operation.Op.TheVariants.{OnObjects, OnUploads, OnCopies}
use Rattle.s3_machine.specs.declared.operation.Op.TheVariants as op_as
use Rattle.s3_machine.specs.declared.operation.ObjectsOp.TheVariants as objects_op
use Rattle.s3_machine.specs.declared.operation.UploadsOp.TheVariants as uploads_op
use Rattle.s3_machine.specs.declared.operation.CopiesOp.TheVariants as copies_op

abbrev pub ListBuckets : BucketListing → Op
ListBuckets asked = OnObjects (objects_op.ListBuckets asked)

abbrev pub CreateBucket : List ℕ → Acl → Op
CreateBucket bucket acl = OnObjects (objects_op.CreateBucket (record { bucket = bucket; acl = acl }))

abbrev pub DeleteBucket : List ℕ → Op
DeleteBucket bucket = OnObjects (objects_op.DeleteBucket bucket)

abbrev pub HeadBucket : List ℕ → Op
HeadBucket bucket = OnObjects (objects_op.HeadBucket bucket)

abbrev pub GetLocation : List ℕ → Op
GetLocation bucket = OnObjects (objects_op.GetLocation bucket)

abbrev pub GetBucketAcl : List ℕ → Op
GetBucketAcl bucket = OnObjects (objects_op.GetBucketAcl bucket)

abbrev pub PutBucketAcl : List ℕ → Acl → Op
PutBucketAcl bucket acl = OnObjects (objects_op.PutBucketAcl (record { bucket = bucket; acl = acl }))

abbrev pub ListObjects : List ℕ → Asked → Op
ListObjects bucket asked = OnObjects (objects_op.ListObjects (record { bucket = bucket; asked = asked }))

abbrev pub PutObject : List ℕ → List ℕ → Option Acl → List ℕ → List Pair → List ℕ → OnlyIf → Option Pair → Op
PutObject bucket key acl content_type meta body only_if checksum = OnObjects (objects_op.PutObject (record { bucket = bucket; key = key; acl = acl; content = record { content_type = content_type; meta = meta; body = body }; only_if = only_if; checksum = checksum }))

abbrev pub GetObject : List ℕ → List ℕ → Option Range → Conditions → Option ℕ → List Pair → Op
GetObject bucket key range conditions part shown = op_as.GetObject (record { bucket = bucket; key = key; range = range; conditions = conditions; part = part; shown = shown })

abbrev pub HeadObject : List ℕ → List ℕ → Option Range → Conditions → Option ℕ → List Pair → Op
HeadObject bucket key range conditions part shown = OnObjects (objects_op.HeadObject (record { bucket = bucket; key = key; range = range; conditions = conditions; part = part; shown = shown }))

abbrev pub DeleteObject : List ℕ → List ℕ → OnlyIf → Op
DeleteObject bucket key only_if = OnObjects (objects_op.DeleteObject (record { bucket = bucket; key = key; only_if = only_if }))

abbrev pub DeleteObjects : List ℕ → List (List ℕ) → Bool → Op
DeleteObjects bucket keys quiet = OnObjects (objects_op.DeleteObjects (record { bucket = bucket; keys = keys; quiet = quiet }))

abbrev pub GetObjectAcl : List ℕ → List ℕ → Op
GetObjectAcl bucket key = OnObjects (objects_op.GetObjectAcl (record { bucket = bucket; key = key }))

abbrev pub PutObjectAcl : List ℕ → List ℕ → Acl → Op
PutObjectAcl bucket key acl = OnObjects (objects_op.PutObjectAcl (record { bucket = bucket; key = key; acl = acl }))

abbrev pub GetSetting : List ℕ → Option (List ℕ) → Unset → Op
GetSetting bucket key unset = OnObjects (objects_op.GetSetting (record { bucket = bucket; key = key; unset = unset }))

abbrev pub ListUploads : List ℕ → List ℕ → List ℕ → List ℕ → ℕ → Bool → Op
ListUploads bucket prefix key_marker id_marker max url = OnUploads (uploads_op.ListUploads (record { bucket = bucket; asked = record { prefix = prefix; key_marker = key_marker; id_marker = id_marker; max = max; url = url } }))

abbrev pub CreateUpload : List ℕ → List ℕ → Option Acl → List ℕ → List Pair → Op
CreateUpload bucket key acl content_type meta = OnUploads (uploads_op.CreateUpload (record { bucket = bucket; key = key; acl = acl; described = record { content_type = content_type; meta = meta } }))

abbrev pub UploadPart : List ℕ → List ℕ → List ℕ → ℕ → List ℕ → Option Pair → Op
UploadPart bucket key id number body checksum = OnUploads (uploads_op.UploadPart (record { bucket = bucket; key = key; id = id; number = number; body = body; checksum = checksum }))

abbrev pub ListParts : List ℕ → List ℕ → List ℕ → ℕ → ℕ → Op
ListParts bucket key id marker max = OnUploads (uploads_op.ListParts (record { bucket = bucket; key = key; id = id; asked = record { marker = marker; max = max } }))

abbrev pub CompleteUpload : List ℕ → List ℕ → List ℕ → List Listed → OnlyIf → Op
CompleteUpload bucket key id list only_if = OnUploads (uploads_op.CompleteUpload (record { bucket = bucket; key = key; id = id; list = list; only_if = only_if }))

abbrev pub AbortUpload : List ℕ → List ℕ → List ℕ → Op
AbortUpload bucket key id = OnUploads (uploads_op.AbortUpload (record { bucket = bucket; key = key; id = id }))

abbrev pub CopyObject : List ℕ → List ℕ → Option Acl → List ℕ → List ℕ → Option Described → Conditions → OnlyIf → Op
CopyObject bucket key acl from_bucket from_key replaced conditions only_if = OnCopies (copies_op.CopyObject (record { bucket = bucket; key = key; acl = acl; from_bucket = from_bucket; from_key = from_key; replaced = replaced; conditions = conditions; only_if = only_if }))

abbrev pub CopyPart : List ℕ → List ℕ → List ℕ → ℕ → List ℕ → List ℕ → Option (ℕ × ℕ) → Conditions → Op
CopyPart bucket key id number from_bucket from_key range conditions = OnCopies (copies_op.CopyPart (record { bucket = bucket; key = key; id = id; number = number; from_bucket = from_bucket; from_key = from_key; range = range; conditions = conditions }))
