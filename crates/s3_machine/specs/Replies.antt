-- The replies by their parts, as laws speak of them. Source: Amazon S3 API Reference.
use Rattle.std.specs.Prelude.{ℕ, Bool, List, Option}
use Rattle.gate_base.specs.declared.page.Pair.{Pair}
use Rattle.s3_names.specs.declared.acl.Acl.{Acl}
use Rattle.s3_machine.specs.declared.code.Code.{Code}
use Rattle.s3_machine.specs.declared.buckets.BucketListing.{BucketListing}
use Rattle.s3_machine.specs.declared.items.Asked.{Asked}
use Rattle.s3_machine.specs.declared.items.BucketItem.{BucketItem}
use Rattle.s3_machine.specs.declared.items.Item.{Item}
use Rattle.s3_machine.specs.declared.items.PartItem.{PartItem}
use Rattle.s3_machine.specs.declared.items.UploadItem.{UploadItem}
use Rattle.s3_machine.specs.declared.operation.ObjectHead.{ObjectHead}
use Rattle.s3_machine.specs.declared.unset.UnsetPage.{UnsetPage}
use Rattle.s3_machine.specs.declared.operation.Reply.{Reply}
use Rattle.s3_machine.specs.declared.operation.Reply.TheVariants.{OfObjects, OfUploads}
use Rattle.s3_machine.specs.declared.operation.Reply.TheVariants as reply_as
use Rattle.s3_machine.specs.declared.operation.ObjectsReply.TheVariants as objects_reply
use Rattle.s3_machine.specs.declared.operation.UploadsReply.TheVariants as uploads_reply

abbrev pub Refused : Code → Reply
Refused code = reply_as.Refused code

abbrev pub Memory : Reply
Memory = reply_as.Memory

abbrev pub Done : Reply
Done = reply_as.Done

abbrev pub Gone : Reply
Gone = reply_as.Gone

abbrev pub NotModified : ObjectHead → Reply
NotModified head = reply_as.NotModified head

abbrev pub Stored : List ℕ → Option Pair → Reply
Stored etag checksum = reply_as.Stored (record { etag = etag; checksum = checksum })

abbrev pub Buckets : BucketListing → List BucketItem → Bool → Reply
Buckets asked items truncated = OfObjects (objects_reply.Buckets (record { asked = asked; items = items; truncated = truncated }))

abbrev pub Made : List ℕ → Reply
Made bucket = OfObjects (objects_reply.Made bucket)

abbrev pub Location : List ℕ → Reply
Location region = OfObjects (objects_reply.Location region)

abbrev pub AclOf : Acl → Reply
AclOf acl = OfObjects (objects_reply.AclOf acl)

abbrev pub Objects : List ℕ → Asked → List Item → Bool → Reply
Objects bucket asked items truncated = OfObjects (objects_reply.Objects (record { bucket = bucket; asked = asked; items = items; truncated = truncated }))

abbrev pub Deleted : List (List ℕ) → Bool → Reply
Deleted keys quiet = OfObjects (objects_reply.Deleted (record { keys = keys; quiet = quiet }))

abbrev pub Setting : UnsetPage → Reply
Setting page = OfObjects (objects_reply.Setting page)

abbrev pub Uploads : List ℕ → List ℕ → List ℕ → List ℕ → ℕ → Bool → List UploadItem → Bool → Reply
Uploads bucket prefix key_marker id_marker max url items truncated = OfUploads (uploads_reply.Uploads (record { bucket = bucket; asked = record { prefix = prefix; key_marker = key_marker; id_marker = id_marker; max = max; url = url }; items = items; truncated = truncated }))

abbrev pub Started : List ℕ → List ℕ → ℕ → Reply
Started bucket key id = OfUploads (uploads_reply.Started (record { bucket = bucket; key = key; id = id }))

abbrev pub Parts : List ℕ → List ℕ → ℕ → ℕ → ℕ → List PartItem → Bool → Reply
Parts bucket key id marker max items truncated = OfUploads (uploads_reply.Parts (record { bucket = bucket; key = key; id = id; asked = record { marker = marker; max = max }; items = items; truncated = truncated }))

abbrev pub Completed : List ℕ → List ℕ → List ℕ → Reply
Completed bucket key etag = OfUploads (uploads_reply.Completed (record { bucket = bucket; key = key; etag = etag }))

abbrev pub Object : ObjectHead → ℕ → ℕ → Bool → List ℕ → List Pair → Option ℕ → Reply
Object head from length partial body shown parts =
    reply_as.Object (record { head = head; from = from; length = length; partial = partial; body = body; shown = shown; parts = parts })

abbrev pub Copied : Bool → List ℕ → ℕ → Reply
Copied part etag modified = reply_as.Copied (record { part = part; etag = etag; modified = modified })
