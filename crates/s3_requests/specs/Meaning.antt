-- What a request means: an operation, or the first reason to refuse it. Source: Amazon S3 API Reference, restated by
-- this profile; the order of the refusals is this profile's.
use Rattle.std.specs.Prelude.{◌≡◌, Bool, false, not, ◌&&◌, nat_lt, if◌then◌else◌, ℕ, List, [], ◌∷◌, ◌++◌, length, Option, Some, None, option_map}
use Rattle.gate_base.specs.declared.caller.Caller.{Caller}
use Rattle.gate_base.specs.declared.caller.Caller.TheVariants.{Owner, Reader, Anonymous}
use Rattle.gate_base.specs.declared.page.Pair.{Pair}
use Rattle.s3_names.specs.declared.key.TheConstants.{MOST_KEY_BYTES}
use Rattle.s3_names.specs.declared.acl.Acl.{Acl}
use Rattle.s3_names.specs.declared.acl.Acl.TheVariants.{Private}
use Rattle.s3_names.specs.declared.target.Target.{Target}
use Rattle.s3_names.specs.Bucket.{is_bucket}
use Rattle.s3_names.specs.Key.{is_key}
use Rattle.s3_machine.specs.declared.code.Code.{Code}
use Rattle.s3_machine.specs.declared.code.Code.TheVariants.{AccessDenied, BadDigest, EntityTooLarge, InvalidArgument, InvalidBucketName}
use Rattle.s3_machine.specs.declared.code.Code.TheVariants.{InvalidDigest, InvalidStorageClass, InvalidURI, KeyTooLongError, MalformedXML}
use Rattle.s3_machine.specs.declared.code.Code.TheVariants.{MetadataTooLarge, MethodNotAllowed, NotImplemented, InvalidRequest}
use Rattle.s3_machine.specs.Ops as op
use Rattle.s3_machine.specs.declared.only_if.OnlyIf.TheVariants.{Always}
use Rattle.s3_machine.specs.declared.operation.Settings.{Settings}
use Rattle.s3_machine.specs.Limits.{is_content_type, is_proper_meta}
use Rattle.http_wire.specs.declared.message.Message.{Message}
use Rattle.s3_requests.specs.Named.{named_by}
use Rattle.s3_requests.specs.declared.meant.Asking.{Asking}
use Rattle.s3_requests.specs.declared.meant.Meant.{Meant}
use Rattle.s3_requests.specs.declared.meant.Meant.TheVariants.{Op, Refused}
use Rattle.s3_requests.specs.declared.rows.Level.TheVariants.{Service, Key}
use Rattle.s3_requests.specs.declared.rows.Row.{Row}
use Rattle.s3_requests.specs.declared.rows.Row.TheVariants.{ListBuckets, CreateBucket, PutBucketAcl, DeleteBucket, HeadBucket, GetBucketLocation}
use Rattle.s3_requests.specs.declared.rows.Row.TheVariants.{GetBucketAcl, ListObjects, ListObjectsV2, PutObject, GetObject, HeadObject}
use Rattle.s3_requests.specs.declared.rows.Row.TheVariants.{DeleteObject, GetObjectAcl, ListMultipartUploads, CreateMultipartUpload, UploadPart}
use Rattle.s3_requests.specs.declared.rows.Row.TheVariants.{ListParts, AbortMultipartUpload, CompleteMultipartUpload, DeleteObjects, CopyObject, UploadPartCopy}
use Rattle.s3_requests.specs.Rows.{shape_of, is_method, level_of, is_same_level, row_for}
use Rattle.request_fields.specs.Query.{has_name_twice}
use Rattle.request_fields.specs.Headers.{has_unsupported, is_chunked, is_conditional_write, given_acl, has_other_acl, has_other_class}
use Rattle.request_fields.specs.Conditions.{given_conditions}
use Rattle.request_fields.specs.Ranges.{given_range}
use Rattle.request_fields.specs.Listings.{has_bad_word, has_long_text, has_bad_token, first_asked, second_asked}
use Rattle.request_fields.specs.Uploads.{has_bad_number, given_upload, given_part_number}
use Rattle.request_fields.specs.Copies.{names_source}
use Rattle.request_fields.specs.Content.{has_bad_digest, is_other_body, has_bad_entry}
use Rattle.s3_machine.specs.Buckets.{all_buckets}
use Rattle.s3_requests.specs.Query.{has_unknown_name, has_foreign_name}
use Rattle.s3_requests.specs.Uploads.{uploads_asked, parts_asked, has_bad_list, given_list}
use Rattle.s3_requests.specs.Deletes.{has_bad_deletes, given_deletes, deletes_asked}
use Rattle.s3_requests.specs.Copies.{copying, has_unsupported_source, has_bad_source, has_body_of_copy, given_source, part_copy_asked}
use Rattle.s3_requests.specs.Taken.{given, copy_asked}
use Rattle.s3_requests.specs.Content.{taken_type, taken_meta, lacks_acl, asks_with_long_body, has_bad_location, has_other_location}

-- a reason to refuse, and whether it holds
pub record Reason : Type 0 where
  pub holds : Bool
  pub code : Code

abbrev pub reason : Bool → Code → Reason
reason holds code = record { holds = holds; code = code }

-- the code of the first reason that holds, and without one the rest
abbrev pub first_refusal : List Reason → Meant → Meant
first_refusal [] rest = rest
first_refusal (reason ∷ reasons) rest = if reason.holds then Refused reason.code else first_refusal reasons rest

-- the code of the first reason that holds, if one does
abbrev pub first_code : List Reason → Option Code
first_code [] = None
first_code (reason ∷ reasons) = if reason.holds then Some reason.code else first_code reasons

-- a target of a bucket or a key whose bucket is no bucket name
abbrev pub has_bad_bucket : Target → Bool
has_bad_bucket target = not (is_same_level (level_of target.bucket target.key) Service) && not (is_bucket target.bucket)

-- a key that is too long
abbrev pub has_long_key : Target → Bool
has_long_key target = nat_lt MOST_KEY_BYTES (length target.key)

-- a key that is refused for another reason than its length. `Target::read` gives no such key
abbrev pub has_bad_key : Target → Bool
has_bad_key target = is_same_level (level_of target.bucket target.key) Key && not (is_key target.key)

-- an anonymous caller asks for an operation that isn't open to all, or one who may only read for one that isn't a read
abbrev pub is_row_denied : Row → Caller → Bool
is_row_denied row Owner = false
is_row_denied row Reader = not (shape_of row).is_read
is_row_denied row Anonymous = not (shape_of row).is_open

-- ---- the reasons, in the order in which they are tried

abbrev pub target_reasons : Message → Target → List Reason
target_reasons message target =
    reason (not (is_method message.method)) MethodNotAllowed
    ∷ reason (has_bad_bucket target) InvalidBucketName
    ∷ reason (has_long_key target) KeyTooLongError
    ∷ reason (has_bad_key target) InvalidURI
    ∷ reason (has_unknown_name target.query) NotImplemented
    ∷ []

abbrev pub caller_reasons : Row → Caller → List Reason
caller_reasons row caller = reason (is_row_denied row caller) AccessDenied ∷ []

abbrev pub deletes_reasons : Row → Message → Caller → List Reason
deletes_reasons row message caller = reason (has_bad_deletes row message.body) MalformedXML ∷ caller_reasons row caller

abbrev pub list_reasons : Row → Message → Caller → List Reason
list_reasons row message caller = reason (has_bad_list row message.body) MalformedXML ∷ deletes_reasons row message caller

abbrev pub own_body_reasons : Settings → Row → List ℕ → List Reason
own_body_reasons settings row body =
    reason (asks_with_long_body settings body) EntityTooLarge
    ∷ reason (has_bad_location row body) MalformedXML
    ∷ reason (has_other_location row settings.region body) InvalidArgument
    ∷ []

abbrev pub body_reasons : Settings → Row → Message → Caller → List Reason
body_reasons settings row message caller = own_body_reasons settings row message.body ++ list_reasons row message caller

abbrev pub own_meta_reasons : Row → List Pair → List ℕ → List Reason
own_meta_reasons row meta body =
    reason (has_bad_entry meta) InvalidArgument
    ∷ reason (has_body_of_copy row body) InvalidRequest
    ∷ reason (not (is_proper_meta meta)) MetadataTooLarge
    ∷ []

abbrev pub meta_reasons : Settings → Row → Message → Caller → List Reason
meta_reasons settings row message caller =
    own_meta_reasons row (taken_meta row message.headers) message.body ++ body_reasons settings row message caller

abbrev pub content_reasons : Settings → Row → Message → Caller → List Reason
content_reasons settings row message caller =
    reason (not (is_content_type (taken_type row message.headers))) InvalidArgument
    ∷ meta_reasons settings row message caller

abbrev pub source_reasons : Settings → Row → Message → Caller → List Reason
source_reasons settings row message caller = reason (has_bad_source row message.headers) InvalidArgument ∷ content_reasons settings row message caller

abbrev pub argument_reasons : Settings → Row → Message → Target → Caller → List Reason
argument_reasons settings row message target caller =
    reason (has_bad_word target.query) InvalidArgument
    ∷ reason (has_bad_number target.query) InvalidArgument
    ∷ reason (has_long_text target.query) InvalidArgument
    ∷ reason (has_bad_token target.query) InvalidArgument
    ∷ source_reasons settings row message caller

abbrev pub digest_reasons : Settings → Row → Message → Target → Caller → List Reason
digest_reasons settings row message target caller =
    reason (has_bad_digest message.headers) InvalidDigest
    ∷ reason (is_other_body message.headers message.body) BadDigest
    ∷ argument_reasons settings row message target caller

abbrev pub header_reasons : Settings → Row → Message → Target → Caller → List Reason
header_reasons settings row message target caller =
    reason (has_unsupported message.headers) NotImplemented
    ∷ reason (has_unsupported_source settings.extended row message.headers) NotImplemented
    ∷ reason (is_chunked message.headers) NotImplemented
    ∷ reason (is_conditional_write message.method message.headers) NotImplemented
    ∷ reason (has_other_acl message.headers) NotImplemented
    ∷ reason (lacks_acl row message.headers) NotImplemented
    ∷ reason (has_other_class message.headers) InvalidStorageClass
    ∷ digest_reasons settings row message target caller

abbrev pub reasons : Settings → Row → Message → Target → Caller → List Reason
reasons settings row message target caller =
    reason (has_foreign_name settings.extended row target.query) NotImplemented
    ∷ reason (has_name_twice target.query) InvalidArgument
    ∷ header_reasons settings row message target caller

-- ---- the meaning

-- the row of a request, if there is one: that of its method, its level and its names, or a copy's where it names a source
abbrev pub row_of : Message → Target → Option Row
row_of message target =
    option_map (copying (names_source message.headers)) (row_for message.method (level_of target.bucket target.key) target.query)

-- a bucket is private where no list is named
abbrev pub or_private : Option Acl → Acl
or_private None = Private
or_private (Some acl) = acl

-- the list of a bucket is put where one is named
abbrev pub put_acl : List ℕ → Option Acl → Meant
put_acl bucket None = Refused NotImplemented
put_acl bucket (Some acl) = Op (op.PutBucketAcl bucket acl)

-- the operation that a row asks for
abbrev pub op_of : Row → Message → Target → Meant
op_of ListBuckets message target = Op (op.ListBuckets all_buckets)
op_of CreateBucket message target = Op (op.CreateBucket target.bucket (or_private (given_acl message.headers)))
op_of PutBucketAcl message target = put_acl target.bucket (given_acl message.headers)
op_of DeleteBucket message target = Op (op.DeleteBucket target.bucket)
op_of HeadBucket message target = Op (op.HeadBucket target.bucket)
op_of GetBucketLocation message target = Op (op.GetLocation target.bucket)
op_of GetBucketAcl message target = Op (op.GetBucketAcl target.bucket)
op_of ListObjects message target = Op (op.ListObjects target.bucket (first_asked target.query))
op_of ListObjectsV2 message target = Op (op.ListObjects target.bucket (second_asked target.query))
op_of PutObject message target =
    Op
    (op.PutObject
    target.bucket
    target.key
    (given_acl message.headers)
    (taken_type PutObject message.headers)
    (taken_meta PutObject message.headers)
    message.body
    Always
    None)
op_of GetObject message target = Op (op.GetObject target.bucket target.key (given_range message.headers) (given_conditions message.headers) None [])
op_of HeadObject message target = Op (op.HeadObject target.bucket target.key (given_range message.headers) (given_conditions message.headers) None [])
op_of DeleteObject message target = Op (op.DeleteObject target.bucket target.key Always)
op_of GetObjectAcl message target = Op (op.GetObjectAcl target.bucket target.key)
op_of ListMultipartUploads message target = Op (uploads_asked target.bucket target.query)
op_of DeleteObjects message target = Op (deletes_asked target.bucket (given_deletes DeleteObjects message.body))
op_of CreateMultipartUpload message target =
    Op
    (op.CreateUpload
    target.bucket
    target.key
    (given_acl message.headers)
    (taken_type CreateMultipartUpload message.headers)
    (taken_meta CreateMultipartUpload message.headers))
op_of UploadPart message target = Op (op.UploadPart target.bucket target.key (given_upload target.query) (given_part_number target.query) message.body None)
op_of ListParts message target = Op (parts_asked target.bucket target.key target.query)
op_of AbortMultipartUpload message target = Op (op.AbortUpload target.bucket target.key (given_upload target.query))
op_of CompleteMultipartUpload message target =
    Op (op.CompleteUpload target.bucket target.key (given_upload target.query) (given_list CompleteMultipartUpload message.body) Always)
op_of CopyObject message target = Op (copy_asked target.bucket target.key (given CopyObject message.headers))
op_of UploadPartCopy message target =
    Op (part_copy_asked target.bucket target.key target.query (given_source UploadPartCopy message.headers))

-- a request without a row is refused
abbrev pub judged : Settings → Option Row → Message → Target → Caller → Meant
judged settings None message target caller = Refused MethodNotAllowed
judged settings (Some row) message target caller = first_refusal (reasons settings row message target caller) (op_of row message target)

-- the method and the target of a message stay, which its reply needs. The body may be gone
abbrev pub KeepsFront : Message → Message → Type 0
KeepsFront old new = (new.method ≡ old.method) × (new.target ≡ old.target)

-- what a request means once its target was read
unfoldable pub meaning_of : Settings → Message → Target → Caller → Meant
meaning_of settings message target caller = first_refusal (target_reasons message target) (judged settings (row_of message target) message target caller)

-- ---- what is left to be tried

-- what is asked is asked by this message: its row and its names are those of the request, and nothing but these reasons may still
-- refuse what it asks for
pub record IsLeft (asking : Asking) (message : Message) (left : List Reason) : Type 0 where
  pub named : asking.named.now ≡ named_by asking.target.now
  pub is_row : row_of message asking.target.now ≡ Some asking.row
  pub so : meaning_of asking.settings.now message asking.target.now asking.caller.now ≡ first_refusal left (op_of asking.row message asking.target.now)
