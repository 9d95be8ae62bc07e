-- One step of the S3 service: what an operation is answered, and the state after it. The refusals are tried in
-- the order given, and a refused step leaves the state. Source: Amazon S3 API Reference and this profile.
use Rattle.std.specs.Prelude.{◌≡◌, ◌<◌, ◌^◌, ◌==◌, ℕ, nat_eq, nat_lt, bytes_eq, Bool, true, false, not, if◌then◌else◌, List, [], ◌∷◌, map, length, Option, Some, None, IfSome}
use Rattle.std.specs.Option.{option_map, option_and_then, unwrap_or}
use Rattle.std.specs.FinMap.{entries, get, insert, remove, empty, len}
use Rattle.gate_base.specs.declared.caller.Caller.{Caller}
use Rattle.gate_base.specs.declared.caller.Caller.TheVariants.{Owner, Reader, Anonymous}
use Rattle.gate_base.specs.declared.page.Pair.{Pair}
use Rattle.gate_base.specs.Maps.{adjust, Names}
use Rattle.s3_names.specs.declared.acl.Acl.{Acl}
use Rattle.s3_names.specs.declared.acl.Acl.TheVariants.{Private, PublicRead}
use Rattle.s3_names.specs.Id.{id_digits}
use Rattle.s3_machine.specs.declared.code.Code.{Code}
use Rattle.s3_machine.specs.declared.code.Code.TheVariants.{
  AccessControlListNotSupported,
  AccessDenied,
  BucketAlreadyOwnedByYou,
  BucketNotEmpty,
  EntityTooLarge,
  EntityTooSmall,
  InvalidPart,
  InvalidPartOrder,
  InvalidRange,
  InvalidRequest,
  NoSuchBucket,
  NoSuchKey,
  NoSuchUpload,
  NotImplemented,
  NotSet,
  PreconditionFailed,
}
use Rattle.s3_machine.specs.declared.buckets.BucketListing.{BucketListing}
use Rattle.s3_machine.specs.declared.items.Asked.{Asked}
use Rattle.s3_machine.specs.declared.items.BucketItem.{BucketItem}
use Rattle.s3_machine.specs.declared.items.Item.{Item}
use Rattle.s3_machine.specs.declared.items.ItemHead.{ItemHead}
use Rattle.s3_machine.specs.declared.reading.Conditions.{Conditions}
use Rattle.s3_machine.specs.declared.reading.Judged.{Judged}
use Rattle.s3_machine.specs.declared.reading.Judged.TheVariants as judged_as
use Rattle.s3_machine.specs.declared.reading.Span.{Span}
use Rattle.s3_machine.specs.declared.operation.Label.{Label}
use Rattle.s3_machine.specs.declared.operation.Settings.{Settings}
use Rattle.s3_machine.specs.declared.operation.Op.{Op}
use Rattle.s3_machine.specs.declared.operation.Op.TheVariants.{GetObject, OnObjects, OnUploads, OnCopies}
use Rattle.s3_machine.specs.declared.operation.ObjectRead.{ObjectRead}
use Rattle.s3_machine.specs.declared.operation.ObjectsOp.{ObjectsOp}
use Rattle.s3_machine.specs.declared.operation.ObjectsOp.TheVariants.{
  ListBuckets,
  CreateBucket,
  DeleteBucket,
  HeadBucket,
  GetLocation,
  GetBucketAcl,
  PutBucketAcl,
  ListObjects,
  PutObject,
  HeadObject,
  DeleteObject,
  DeleteObjects,
  GetObjectAcl,
  PutObjectAcl,
  GetSetting,
}
use Rattle.s3_machine.specs.declared.operation.UploadsOp.{UploadsOp}
use Rattle.s3_machine.specs.declared.operation.UploadsOp.TheVariants.{ListUploads, CreateUpload, UploadPart, ListParts, CompleteUpload, AbortUpload}
use Rattle.s3_machine.specs.declared.operation.CopiesOp.{CopiesOp}
use Rattle.s3_machine.specs.declared.operation.CopiesOp.TheVariants.{CopyObject, CopyPart}
use Rattle.s3_machine.specs.declared.operation.Listed.{Listed}
use Rattle.s3_machine.specs.declared.operation.ObjectHead.{ObjectHead}
use Rattle.s3_machine.specs.declared.operation.Described.{Described}
use Rattle.s3_machine.specs.declared.operation.Reply.{Reply}
use Rattle.s3_machine.specs.declared.unset.Unset.{Unset}
use Rattle.s3_machine.specs.declared.unset.Unset.TheVariants.{Named, Empty}
use Rattle.s3_machine.specs.Replies as reply
use Rattle.s3_machine.specs.Buckets.{bucket_page}
use Rattle.s3_machine.specs.Copies.{copied, is_onto_itself, has_last, copied_span, may_be_copied}
use Rattle.s3_machine.specs.ETag.{body_etag}
use Rattle.s3_machine.specs.Items.{items}
use Rattle.s3_machine.specs.declared.only_if.OnlyIf.{OnlyIf}
use Rattle.s3_machine.specs.OnlyIf.{refusal}
use Rattle.s3_machine.specs.Limits.{body_limit}
use Rattle.s3_machine.specs.Parts.{Choice, IsPartOf, judged_by, parts_in, range_code}
use Rattle.s3_machine.specs.Reading.{taken}
use Rattle.s3_machine.specs.State.{Object, Part, Upload, Bucket, State}
use Rattle.s3_machine.specs.Finish.{finished}
use Rattle.s3_machine.specs.Uploads.{
  id_value,
  new_upload,
  open_upload,
  drop_upload,
  on_upload,
  new_part,
  with_part,
  cut,
  parts_above,
  uploads_after,
  rises,
  chosen,
  is_too_small,
  kept_as,
  upload_etag,
  etag_in,
  completed,
}

pub record Outcome : Type 0 where
  pub reply : Reply
  pub state : State

abbrev pub gives : Reply → State → Outcome
gives reply state = record { reply = reply; state = state }

abbrev pub refuses : Code → State → Outcome
refuses code state = gives (reply.Refused code) state

-- a refusal with the code where the test is true, and else the rest
abbrev pub unless : Bool → Code → State → Outcome → Outcome
unless true code old rest = refuses code old
unless false code old rest = rest

-- a refusal with the code, where there is one, and else the rest
abbrev pub unless_refused : Option Code → State → Outcome → Outcome
unless_refused None old rest = rest
unless_refused (Some code) old rest = refuses code old

-- ---- what is looked up

abbrev pub in_bucket_by : Option Bucket → State → (Bucket → Outcome) → Outcome
in_bucket_by None old f = refuses NoSuchBucket old
in_bucket_by (Some b) old f = f b

-- in the bucket of the name
abbrev pub in_bucket : State → List ℕ → (Bucket → Outcome) → Outcome
in_bucket old name f = in_bucket_by (get old name) old f

-- an owner reads all, as one does who may only read, and anybody what is public
abbrev pub may_read : Caller → Acl → Bool
may_read Owner acl = true
may_read Reader acl = true
may_read Anonymous PublicRead = true
may_read Anonymous Private = false

abbrev pub in_object_by : Option Object → State → (Object → Outcome) → Outcome
in_object_by None old f = refuses NoSuchKey old
in_object_by (Some o) old f = f o

-- the object of the key in a bucket, for one who asks to read it
abbrev pub in_readable : State → Caller → List ℕ → (Object → Outcome) → Bucket → Outcome
in_readable old caller key f b = unless (not (may_read caller b.acl)) AccessDenied old (in_object_by (get b.objects key) old f)

-- ---- buckets

-- a bucket as it is made: nothing in it
abbrev pub new_bucket : ℕ → Acl → Bucket
new_bucket moment acl = record { created = moment; acl = acl; objects = empty; uploads = empty; kept = empty }

-- a bucket with its access control list replaced
abbrev pub with_acl : Acl → Bucket → Bucket
with_acl acl b = record b { acl = acl }

-- a bucket without an object; uploads and completions don't count
abbrev pub is_bare : Bucket → Bool
is_bare b = nat_eq (len b.objects) 0

-- CreateBucket, by what stands under the name: a bucket that is there stays as it is, in every region
abbrev pub creates : Option Bucket → State → List ℕ → Acl → ℕ → Outcome
creates (Some b) old name acl moment = refuses BucketAlreadyOwnedByYou old
creates None old name acl moment = gives (reply.Made name) (insert old name (new_bucket moment acl))

-- ListBuckets: each bucket with the moment at which it was made, by name in the order of the bytes
abbrev pub bucket_item : List ℕ × Bucket → BucketItem
bucket_item entry = record { name = entry.0; created = entry.1.created }

abbrev pub bucket_items : State → List BucketItem
bucket_items state = map bucket_item (entries state)

-- the page of these buckets that is asked for
abbrev pub buckets_reply : BucketListing → List BucketItem × Bool → Reply
buckets_reply asked listed = reply.Buckets asked listed.0 listed.1

-- DeleteBucket in a bucket: open uploads and kept completions go with it
abbrev pub drops : State → List ℕ → Bucket → Outcome
drops old name b = unless (not (is_bare b)) BucketNotEmpty old (gives reply.Gone (remove old name))

-- HeadBucket in a bucket, for one who asks to read it
abbrev pub shows : State → Caller → Bucket → Outcome
shows old caller b = unless (not (may_read caller b.acl)) AccessDenied old (gives reply.Done old)

-- GetLocation in a bucket: the region of the service
abbrev pub locates : Settings → State → Bucket → Outcome
locates settings old b = gives (reply.Location settings.region) old

-- GetBucketAcl in a bucket
abbrev pub shows_acl : State → Bucket → Outcome
shows_acl old b = gives (reply.AclOf b.acl) old

-- PutBucketAcl in a bucket
abbrev pub sets_acl : State → List ℕ → Acl → Bucket → Outcome
sets_acl old name acl b = gives reply.Done (adjust name (with_acl acl) old)

-- GetObjectAcl in a bucket, whose list governs its objects too
abbrev pub shows_object_acl : State → List ℕ → Bucket → Outcome
shows_object_acl old key b = in_object_by (get b.objects key) old (λ o. gives (reply.AclOf b.acl) old)

-- ---- settings

-- what is answered of a setting that nothing sets
abbrev pub unset_reply : Unset → Reply
unset_reply (Named code) = reply.Refused (NotSet code)
unset_reply (Empty page) = reply.Setting page

-- GetSetting in a bucket, of it or of the object of a key
abbrev pub shows_setting : State → Option (List ℕ) → Unset → Bucket → Outcome
shows_setting old None unset b = gives (unset_reply unset) old
shows_setting old (Some key) unset b = in_object_by (get b.objects key) old (λ o. gives (unset_reply unset) old)

-- ---- objects

-- an object as it is put
abbrev pub new_object : ℕ → List ℕ → List Pair → List ℕ → Object
new_object moment content_type meta body = record { bytes = body; etag = body_etag body; content_type = content_type; meta = meta; modified = moment }

abbrev pub put_object : List ℕ → Object → Bucket → Bucket
put_object key o b = record b { objects = insert b.objects key o }

abbrev pub drop_object : List ℕ → Bucket → Bucket
drop_object key b = record b { objects = remove b.objects key }

-- an access control list other than the bucket's was given
abbrev pub is_other_acl : Option Acl → Acl → Bool
is_other_acl None acl = false
is_other_acl (Some Private) Private = false
is_other_acl (Some Private) PublicRead = true
is_other_acl (Some PublicRead) Private = true
is_other_acl (Some PublicRead) PublicRead = false

-- PutObjectAcl in a bucket: an object has the list of its bucket, so another can't be set
abbrev pub sets_object_acl : State → List ℕ → Acl → Bucket → Outcome
sets_object_acl old key acl b =
    in_object_by (get b.objects key) old (λ o. unless (is_other_acl (Some acl) b.acl) AccessControlListNotSupported old (gives reply.Done old))

abbrev pub etag_of_object : Object → List ℕ
etag_of_object o = o.etag

-- why a write of the key in a bucket is refused by its condition, if it is
abbrev pub refusal_in : OnlyIf → List ℕ → Bucket → Option Code
refusal_in only_if key b = refusal only_if (option_map etag_of_object (get b.objects key))

-- PutObject in a bucket: the object in place of what stands under the key. The checksum that was compared is shown
abbrev pub puts : State → List ℕ → List ℕ → Option Acl → Object → OnlyIf → Option Pair → Bucket → Outcome
puts old bucket key acl o only_if checksum b =
    unless (is_other_acl acl b.acl) NotImplemented old
    (unless_refused (refusal_in only_if key b) old (gives (reply.Stored o.etag checksum) (adjust bucket (put_object key o) old)))

abbrev pub head_of : Object → ObjectHead
head_of o = record { etag = o.etag; modified = o.modified; size = length o.bytes; content_type = o.content_type; meta = o.meta }

-- the reply of an object with this head, by the part that was asked for and the headers that are shown, with what is said of the
-- bytes of a span
abbrev pub read_by : Option ℕ → List Pair → ObjectHead → (Span → List ℕ) → Judged → Reply
read_by part shown head bytes judged_as.PreconditionFailed = reply.Refused PreconditionFailed
read_by part shown head bytes judged_as.NotModified = reply.NotModified head
read_by part shown head bytes judged_as.InvalidRange = reply.Refused (range_code part head.size)
read_by part shown head bytes (judged_as.Bytes span partial) =
    reply.Object head span.from span.length partial (bytes span) shown (option_and_then (λ n. parts_in head.etag) part)

-- all of an object, with these headers shown
abbrev pub whole : List Pair → Object → Reply
whole shown o = reply.Object (head_of o) 0 (length o.bytes) false o.bytes shown None

-- what a read of an object with this head comes to, by the bytes of the part that it asks for
abbrev pub judged_read : ObjectRead → Option Span → ObjectHead → Judged
judged_read read chosen head = judged_by read.part chosen read.range read.conditions head

-- GetObject of an object: the bytes that are asked for, where the conditions hold
abbrev pub got : ObjectRead → Option Span → Object → Reply
got read chosen o = read_by read.part read.shown (head_of o) (λ span. taken span o.bytes) (judged_read read chosen (head_of o))

-- HeadObject of an object: the same without the bytes
abbrev pub headed : ObjectRead → Option Span → Object → Reply
headed read chosen o = read_by read.part read.shown (head_of o) (λ span. []) (judged_read read chosen (head_of o))

-- GetObject and HeadObject: this answer, and the state stays
abbrev pub reads : State → (Object → Reply) → Object → Outcome
reads old answer o = gives (answer o) old

-- DeleteObject in a bucket, also where nothing stands under the key
abbrev pub deletes : State → List ℕ → List ℕ → OnlyIf → Bucket → Outcome
deletes old bucket key only_if b = unless_refused (refusal_in only_if key b) old (gives reply.Gone (adjust bucket (drop_object key) old))

-- a bucket without the objects of these keys
abbrev pub drop_objects : List (List ℕ) → Bucket → Bucket
drop_objects [] b = b
drop_objects (key ∷ keys) b = drop_objects keys (drop_object key b)

-- DeleteObjects in a bucket: none of the keys is left, also of those under which nothing stands
abbrev pub deletes_all : State → List ℕ → List (List ℕ) → Bool → Bucket → Outcome
deletes_all old bucket keys quiet b = gives (reply.Deleted keys quiet) (adjust bucket (drop_objects keys) old)

-- ---- listings

-- an object as a listing tells of it
abbrev pub item_head : Object → ItemHead
item_head o = record { etag = o.etag; modified = o.modified; size = length o.bytes }

abbrev pub listed_key : List ℕ × Object → List ℕ × ItemHead
listed_key entry = (entry.0, item_head entry.1)

-- an item by its text and the object of a key that didn't roll up
abbrev pub item_of : List ℕ × Option ItemHead → Item
item_of row = record { text = row.0; object = row.1 }

-- where a listing starts: version 2 has a token, which goes before what it is to start after
abbrev pub marker_of : Asked → List ℕ
marker_of asked = if asked.version == 2 then unwrap_or asked.token asked.start_after else asked.marker

-- the items of these objects, and whether one is left over
abbrev pub listing : Asked → Names Object → List (List ℕ × Option ItemHead) × Bool
listing asked objects = items (map listed_key (entries objects)) asked.prefix asked.delimiter (marker_of asked) asked.max

abbrev pub listing_reply : List ℕ → Asked → List (List ℕ × Option ItemHead) × Bool → Reply
listing_reply name asked listed = reply.Objects name asked (map item_of listed.0) listed.1

-- ListObjects in a bucket, for one who asks to read it
abbrev pub lists : State → Caller → List ℕ → Asked → Bucket → Outcome
lists old caller name asked b = unless (not (may_read caller b.acl)) AccessDenied old (gives (listing_reply name asked (listing asked b.objects)) old)

-- ---- uploads

abbrev pub in_upload_by : Option Upload → List ℕ → State → (Upload → Outcome) → Outcome
in_upload_by None key old f = refuses NoSuchUpload old
in_upload_by (Some u) key old f = unless (not (bytes_eq u.key key)) NoSuchUpload old (f u)

-- the open upload of the id in a bucket, which is of this key
abbrev pub in_upload : State → List ℕ → List ℕ → (Upload → Outcome) → Bucket → Outcome
in_upload old key id f b = in_upload_by (get b.uploads id) key old f

-- ListUploads in a bucket
abbrev pub uploads_reply : List ℕ → List ℕ → List ℕ → List ℕ → ℕ → Bool → Names Upload → Reply
uploads_reply bucket prefix key_marker id_marker max url uploads =
    let listed = cut max (uploads_after prefix key_marker id_marker uploads) in
    reply.Uploads bucket prefix key_marker id_marker max url listed.0 listed.1

abbrev pub lists_uploads : State → List ℕ → List ℕ → List ℕ → List ℕ → ℕ → Bool → Bucket → Outcome
lists_uploads old bucket prefix key_marker id_marker max url b = gives (uploads_reply bucket prefix key_marker id_marker max url b.uploads) old

-- CreateUpload in a bucket: an upload without parts under the new id
abbrev pub starts : State → List ℕ → List ℕ → Option Acl → Upload → ℕ → Bucket → Outcome
starts old bucket key acl u id b = unless (is_other_acl acl b.acl) NotImplemented old (gives (reply.Started bucket key id) (adjust bucket (open_upload (id_digits id) u) old))

-- UploadPart in an upload: the part in place of what stands under its number. The checksum that was compared is shown
abbrev pub puts_part : State → List ℕ → List ℕ → ℕ → Part → Option Pair → Upload → Outcome
puts_part old bucket id number p checksum u = gives (reply.Stored p.etag checksum) (adjust bucket (on_upload id (with_part number p)) old)

-- ListParts in an upload
abbrev pub parts_reply : List ℕ → List ℕ → List ℕ → ℕ → ℕ → Upload → Reply
parts_reply bucket key id marker max u =
    let listed = cut max (parts_above marker u) in
    reply.Parts bucket key (id_value id) marker max listed.0 listed.1

abbrev pub lists_parts : State → List ℕ → List ℕ → List ℕ → ℕ → ℕ → Upload → Outcome
lists_parts old bucket key id marker max u = gives (parts_reply bucket key id marker max u) old

-- AbortUpload in an upload
abbrev pub aborts : State → List ℕ → List ℕ → Upload → Outcome
aborts old bucket id u = gives reply.Gone (adjust bucket (drop_upload id) old)

-- CompleteUpload of an open upload, by the parts that its list chose, and by why its condition refuses it, if it does
abbrev pub completes_chosen : Settings → State → List ℕ → List ℕ → List Listed → Option Code → ℕ → Upload → Option (List Part) → Outcome
completes_chosen settings old bucket id list held moment u None = refuses InvalidPart old
completes_chosen settings old bucket id list held moment u (Some parts) =
    unless (is_too_small settings.least_part parts) EntityTooSmall old
    (unless_refused held old
    (gives (reply.Completed bucket u.key (upload_etag (map etag_in parts))) (finished (completed bucket id u list parts moment) old)))

abbrev pub completes_open : Settings → State → List ℕ → List ℕ → List Listed → Option Code → ℕ → Upload → Outcome
completes_open settings old bucket id list held moment u =
    unless (not (rises list)) InvalidPartOrder old (completes_chosen settings old bucket id list held moment u (chosen u.parts list))

-- CompleteUpload in a bucket, by the ETag with which the same completion is kept: it is answered again, whatever its condition, and
-- changes nothing
abbrev pub completes_by : Option (List ℕ) → Settings → State → List ℕ → List ℕ → List ℕ → List Listed → OnlyIf → ℕ → Bucket → Outcome
completes_by (Some etag) settings old bucket key id list only_if moment b = gives (reply.Completed bucket key etag) old
completes_by None settings old bucket key id list only_if moment b =
    in_upload old key id (completes_open settings old bucket id list (refusal_in only_if key b) moment) b

abbrev pub completes : Settings → State → List ℕ → List ℕ → List ℕ → List Listed → OnlyIf → ℕ → Bucket → Outcome
completes settings old bucket key id list only_if moment b =
    completes_by (kept_as key list (get b.kept id)) settings old bucket key id list only_if moment b

-- ---- copies

-- the copy of an object, where that meets the conditions
abbrev pub copied_under : Conditions → State → (Object → Outcome) → Object → Outcome
copied_under conditions old f o = unless (not (may_be_copied conditions (head_of o))) PreconditionFailed old (f o)

-- the object of the key in the bucket that a copy is of, under these conditions
abbrev pub in_source : State → List ℕ → List ℕ → Conditions → (Object → Outcome) → Bucket → Outcome
in_source old from_bucket from_key conditions f b =
    in_bucket old from_bucket (λ from. in_object_by (get from.objects from_key) old (copied_under conditions old f))

-- CopyObject of an object: its copy in place of what stands under the key, but where its condition refuses it
abbrev pub copies_object : State → List ℕ → List ℕ → List ℕ → List ℕ → Option Described → Option Code → ℕ → Object → Outcome
copies_object old bucket key from_bucket from_key replaced held moment o =
    unless (is_onto_itself bucket key from_bucket from_key replaced) InvalidRequest old
    (unless_refused held old (gives (reply.Copied false o.etag moment) (adjust bucket (put_object key (copied replaced moment o)) old)))

-- CopyObject in a bucket
abbrev pub copies : State → List ℕ → List ℕ → Option Acl → List ℕ → List ℕ → Option Described → Conditions → OnlyIf → ℕ → Bucket → Outcome
copies old bucket key acl from_bucket from_key replaced conditions only_if moment b =
    unless (is_other_acl acl b.acl) NotImplemented old
    (in_source old from_bucket from_key conditions (copies_object old bucket key from_bucket from_key replaced (refusal_in only_if key b) moment) b)

-- CopyPart of these bytes: the part in place of what stands under its number
abbrev pub puts_copy : State → List ℕ → List ℕ → ℕ → Part → Outcome
puts_copy old bucket id number p = gives (reply.Copied true p.etag p.modified) (adjust bucket (on_upload id (with_part number p)) old)

-- CopyPart of an object, of all its bytes or of a range that it has
abbrev pub copies_bytes : Settings → State → List ℕ → List ℕ → ℕ → Option (ℕ × ℕ) → ℕ → Object → Outcome
copies_bytes settings old bucket id number range moment o =
    unless (not (has_last range (length o.bytes))) (InvalidRange None) old
    (unless (nat_lt (body_limit settings) (copied_span range (length o.bytes)).length) EntityTooLarge old
    (puts_copy old bucket id number (new_part moment (taken (copied_span range (length o.bytes)) o.bytes))))

-- CopyPart in a bucket
abbrev pub copies_part : Settings → State → List ℕ → List ℕ → List ℕ → ℕ → List ℕ → List ℕ → Option (ℕ × ℕ) → Conditions → ℕ → Bucket → Outcome
copies_part settings old bucket key id number from_bucket from_key range conditions moment b =
    in_upload old key id (λ u. in_source old from_bucket from_key conditions (copies_bytes settings old bucket id number range moment) b) b

-- ---- the step

-- the step of an operation on buckets and objects, with the bytes that a part has
abbrev pub objects_step : Settings → State → ObjectsOp → Label → Option Span → Outcome
objects_step settings old (ListBuckets asked) label part = gives (buckets_reply asked (bucket_page asked (bucket_items old))) old
objects_step settings old (CreateBucket made) label part = creates (get old made.bucket) old made.bucket made.acl label.moment
objects_step settings old (DeleteBucket bucket) label part = in_bucket old bucket (drops old bucket)
objects_step settings old (HeadBucket bucket) label part = in_bucket old bucket (shows old label.caller)
objects_step settings old (GetLocation bucket) label part = in_bucket old bucket (locates settings old)
objects_step settings old (GetBucketAcl bucket) label part = in_bucket old bucket (shows_acl old)
objects_step settings old (PutBucketAcl set) label part = in_bucket old set.bucket (sets_acl old set.bucket set.acl)
objects_step settings old (ListObjects list) label part = in_bucket old list.bucket (lists old label.caller list.bucket list.asked)
objects_step settings old (PutObject put) label part =
    in_bucket old put.bucket (puts old put.bucket put.key put.acl (new_object label.moment put.content.content_type put.content.meta put.content.body) put.only_if put.checksum)
objects_step settings old (HeadObject read) label part =
    in_bucket old read.bucket (in_readable old label.caller read.key (reads old (headed read part)))
objects_step settings old (DeleteObject deletion) label part =
    in_bucket old deletion.bucket (deletes old deletion.bucket deletion.key deletion.only_if)
objects_step settings old (DeleteObjects deletion) label part =
    in_bucket old deletion.bucket (deletes_all old deletion.bucket deletion.keys deletion.quiet)
objects_step settings old (GetObjectAcl name) label part = in_bucket old name.bucket (shows_object_acl old name.key)
objects_step settings old (PutObjectAcl set) label part = in_bucket old set.bucket (sets_object_acl old set.key set.acl)
objects_step settings old (GetSetting read) label part = in_bucket old read.bucket (shows_setting old read.key read.unset)

-- the step of an operation on uploads in parts, with the id that a new upload gets
abbrev pub uploads_step : Settings → State → UploadsOp → Label → ℕ → Outcome
uploads_step settings old (ListUploads list) label id =
    in_bucket old list.bucket
    (lists_uploads old list.bucket list.asked.prefix list.asked.key_marker list.asked.id_marker list.asked.max list.asked.url)
uploads_step settings old (CreateUpload start) label id =
    in_bucket old start.bucket (starts old start.bucket start.key start.acl (new_upload start.key start.described.content_type start.described.meta label.moment) id)
uploads_step settings old (UploadPart part) label id =
    in_bucket old part.bucket (in_upload old part.key part.id (puts_part old part.bucket part.id part.number (new_part label.moment part.body) part.checksum))
uploads_step settings old (ListParts list) label id =
    in_bucket old list.bucket (in_upload old list.key list.id (lists_parts old list.bucket list.key list.id list.asked.marker list.asked.max))
uploads_step settings old (CompleteUpload done) label id =
    in_bucket old done.bucket (completes settings old done.bucket done.key done.id done.list done.only_if label.moment)
uploads_step settings old (AbortUpload upload) label id =
    in_bucket old upload.bucket (in_upload old upload.key upload.id (aborts old upload.bucket upload.id))

-- the step of a copy
abbrev pub copies_step : Settings → State → CopiesOp → Label → Outcome
copies_step settings old (CopyObject copy) label =
    in_bucket old copy.bucket
    (copies old copy.bucket copy.key copy.acl copy.from_bucket copy.from_key copy.replaced copy.conditions copy.only_if label.moment)
copies_step settings old (CopyPart copy) label =
    in_bucket old copy.bucket
    (copies_part settings old copy.bucket copy.key copy.id copy.number copy.from_bucket copy.from_key copy.range copy.conditions label.moment)

-- the step of each operation, with what is chosen in it
abbrev pub step : Settings → State → Op → Label → Choice → Outcome
step settings old (GetObject read) label choice =
    in_bucket old read.bucket (in_readable old label.caller read.key (reads old (got read choice.part)))
step settings old (OnObjects op) label choice = objects_step settings old op label choice.part
step settings old (OnUploads op) label choice = uploads_step settings old op label choice.id
step settings old (OnCopies op) label choice = copies_step settings old op label

-- an id of 128 bits that is neither open nor kept in the bucket
pub record IsNewId (b : Bucket) (id : ℕ) : Type 0 where
  pub fits : id < 2 ^ 128
  pub closed : get b.uploads (id_digits id) ≡ None
  pub forgotten : get b.kept (id_digits id) ≡ None

-- the id that the operation may give to a new upload, where it opens one
abbrev pub IsFreeFor : State → UploadsOp → ℕ → Type 0
IsFreeFor old (CreateUpload start) id = (b : Bucket) → get old start.bucket ≡ Some b → is_other_acl start.acl b.acl ≡ false → IsNewId b id
IsFreeFor old _ id = Unit {0}

-- the bytes that the part may have which a read asks for, where it finds an object
abbrev pub IsFreeRead : State → ObjectRead → Option Span → Type 0
IsFreeRead old read span = IfSome read.part (λ n. (b : Bucket) (o : Object) → get old read.bucket ≡ Some b → get b.objects read.key ≡ Some o → IsPartOf o n span)

abbrev pub IsFreeOf : State → ObjectsOp → Option Span → Type 0
IsFreeOf old (HeadObject read) span = IsFreeRead old read span
IsFreeOf old _ span = Unit {0}

abbrev pub IsFree : State → Op → Choice → Type 0
IsFree old (GetObject read) choice = IsFreeRead old read choice.part
IsFree old (OnObjects op) choice = IsFreeOf old op choice.part
IsFree old (OnUploads op) choice = IsFreeFor old op choice.id
IsFree old (OnCopies op) choice = Unit {0}

-- the service goes by this operation from the old state to the new one, and answers this
pub record S3Step (settings : Settings) (old : State) (op : Op) (label : Label) (reply : Reply) (new : State) : Type 0 where
  pub choice : Choice
  pub free : IsFree old op choice
  pub replies : reply ≡ (step settings old op label choice).reply
  pub goes : new ≡ (step settings old op label choice).state
