-- What is left to be tried against a request: each reason that doesn't hold goes, and where none is left, what is asked for keeps
-- the limits of an operation.
use Rattle.std.proofs.Common.{◌≡◌, ◌≢◌, ◌≤◌, ℕ, Bool, true, false, not, ◌&&◌, cond, nat_lt, List, [], ◌∷◌, ◌++◌, length, Option, Some, None, find, refl, ap, sym, ◌∙◌, subst, arith}
use Rattle.std.specs.Prelude.{is_none, option_map}
use Rattle.std.specs.Option.{unwrap_or}
use Rattle.std.proofs.lemmas.Bool.{and_parts, not-false}
use Rattle.std.proofs.lemmas.Bool.Decides.{nat_tests}
use Rattle.gate_base.specs.declared.caller.Caller.{Caller}
use Rattle.gate_base.specs.declared.page.Pair.{Pair}
use Rattle.s3_names.specs.declared.target.Target.{Target}
use Rattle.s3_names.specs.Bucket.{is_bucket}
use Rattle.s3_names.specs.Key.{is_key}
use Rattle.s3_machine.specs.declared.operation.Listed.{Listed}
use Rattle.s3_machine.specs.declared.operation.ObjectName.{ObjectName}
use Rattle.s3_machine.specs.declared.operation.Op.{Op}
use Rattle.s3_machine.specs.declared.operation.Settings.{Settings}
use Rattle.s3_machine.specs.Limits.{body_limit, most_body_bytes}
use Rattle.s3_machine.specs.Proper.{IsPlace, IsProperKeys, IsProperList}
use Rattle.s3_machine.specs.Uploads.{most_parts}
use Rattle.s3_bodies.specs.declared.delete.Deletes.{Deletes}
use Rattle.s3_bodies.specs.Deletes.{deletes_in}
use Rattle.s3_bodies.specs.Listed.{listed_in}
use Rattle.s3_bodies.proofs.lemmas.Deletions.{deletes_proper}
use Rattle.s3_bodies.proofs.lemmas.Listings.{listed_filled, listed_few_parts}
use Rattle.http_wire.specs.declared.message.Message.{Message}
use Rattle.request_fields.specs.Copies.{names_source}
use Rattle.request_fields.specs.Listings.{has_long_text}
use Rattle.s3_requests.specs.declared.meant.Asking.{Asking}
use Rattle.s3_requests.specs.declared.meant.Meant.TheVariants.{Refused}
use Rattle.s3_requests.specs.declared.meant.Meant.TheVariants as meant
use Rattle.s3_requests.specs.declared.named.Named.TheVariants as named
use Rattle.s3_requests.specs.declared.rows.Level.{Level}
use Rattle.s3_requests.specs.declared.rows.Level.TheVariants.{Service, Bucket, Key}
use Rattle.s3_requests.specs.declared.rows.Row.{Row}
use Rattle.s3_requests.specs.declared.rows.Row.TheVariants.{ListBuckets, CreateBucket, PutBucketAcl, DeleteBucket, HeadBucket, GetBucketLocation}
use Rattle.s3_requests.specs.declared.rows.Row.TheVariants.{GetBucketAcl, ListObjects, ListObjectsV2, PutObject, GetObject, HeadObject}
use Rattle.s3_requests.specs.declared.rows.Row.TheVariants.{DeleteObject, GetObjectAcl, ListMultipartUploads, CreateMultipartUpload, UploadPart}
use Rattle.s3_requests.specs.declared.rows.Row.TheVariants.{ListParts, AbortMultipartUpload, CompleteMultipartUpload, DeleteObjects, CopyObject, UploadPartCopy}
use Rattle.s3_requests.specs.Copies.{copying, is_copy, source_of, no_source, given_source, has_bad_source}
use Rattle.s3_requests.specs.Deletes.{no_deletes, given_deletes, has_bad_deletes}
use Rattle.s3_requests.specs.Uploads.{given_list, has_bad_list}
use Rattle.s3_requests.specs.Named.{named_at}
use Rattle.s3_requests.specs.Rows.{rows, row_for, shape_of, level_of, is_listing_of_bucket, is_same_level, is_same_set, fits}
use Rattle.s3_requests.specs.Meaning.{Reason, first_code, first_refusal, target_reasons, reasons, content_reasons, row_of, judged, op_of, meaning_of, IsLeft}
use Rattle.s3_requests.proofs.ProperCopies.{source_proper}
use Rattle.s3_requests.proofs.Reasons.{NoneHolds, code_passes, none_refuses, none_held}

-- ---- from the target to the last reason

-- where nothing stands against the target, the reasons against its row are left
pub begins : (settings : Settings) (message : Message) (target : Target) (caller : Caller) (row : Row) → NoneHolds (target_reasons message target) → row_of message target ≡ Some row
    → meaning_of settings message target caller ≡ first_refusal (reasons settings row message target caller) (op_of row message target)
unfolding meaning_of
begins settings message target caller row none found =
    none_refuses (target_reasons message target) (judged settings (row_of message target) message target caller) none
    ∙ ap (λ it. judged settings it message target caller) found

-- a reason that doesn't hold goes
pub goes_on : {asking : Asking} {message : Message} {this : Reason} {others : List Reason} → IsLeft asking message (this ∷ others) → this.holds ≡ false → IsLeft asking message others
goes_on {asking = asking} {message = message} {this = this} {others = others} left none = record {
  named = left.named;
  is_row = left.is_row;
  so = left.so ∙ ap (λ b. cond b (Refused this.code) (first_refusal others (op_of asking.row message asking.target.now))) none;
}

-- reasons that have no code go
pub goes_past : {asking : Asking} {message : Message} {others : List Reason} (list : List Reason) → IsLeft asking message (list ++ others) → first_code list ≡ None → IsLeft asking message others
goes_past {asking = asking} {message = message} {others = others} list left none = record {
  named = left.named;
  is_row = left.is_row;
  so = left.so ∙ code_passes list others (op_of asking.row message asking.target.now) none;
}

-- ---- the level of a row

found_fits : (p : Row → Bool) (b : Bool) (this row : Row) (others : List Row) → p this ≡ b → (find p others ≡ Some row → p row ≡ true) → cond b (Some this) (find p others) ≡ Some row → p row ≡ true
found_fits p true this row others e rest h = let same : this ≡ row = cc in subst (λ r. p r ≡ true) same e
found_fits p false this row others e rest h = rest h

-- what is found fits
find_fits : (p : Row → Bool) (list : List Row) (row : Row) → find p list ≡ Some row → p row ≡ true
find_fits p [] row h = cc
find_fits p (this ∷ others) row h = found_fits p (p this) this row others refl (find_fits p others row) h

same_level : (a b : Level) → is_same_level a b ≡ true → a ≡ b
same_level Service Service h = refl
same_level Service Bucket h = cc
same_level Service Key h = cc
same_level Bucket Service h = cc
same_level Bucket Bucket h = refl
same_level Bucket Key h = cc
same_level Key Service h = cc
same_level Key Bucket h = cc
same_level Key Key h = refl

-- a row with a source is at the level of the row without
copied_level : (b : Bool) (row : Row) → (shape_of (copying b row)).level ≡ (shape_of row).level
copied_level false row = refl
copied_level true ListBuckets = refl
copied_level true CreateBucket = refl
copied_level true PutBucketAcl = refl
copied_level true DeleteBucket = refl
copied_level true HeadBucket = refl
copied_level true GetBucketLocation = refl
copied_level true GetBucketAcl = refl
copied_level true ListObjects = refl
copied_level true ListObjectsV2 = refl
copied_level true ListMultipartUploads = refl
copied_level true DeleteObjects = refl
copied_level true PutObject = refl
copied_level true GetObject = refl
copied_level true HeadObject = refl
copied_level true DeleteObject = refl
copied_level true GetObjectAcl = refl
copied_level true CreateMultipartUpload = refl
copied_level true UploadPart = refl
copied_level true ListParts = refl
copied_level true CompleteMultipartUpload = refl
copied_level true AbortMultipartUpload = refl
copied_level true CopyObject = refl
copied_level true UploadPartCopy = refl

copied_from : (b : Bool) (found : Option Row) (row : Row) → option_map (copying b) found ≡ Some row → (base : Row) × (found ≡ Some base) × (copying b base ≡ row)
copied_from b None row h = cc
copied_from b (Some base) row h = (base, refl, cc)

-- a request of a row has the row's level
at_level : (message : Message) (target : Target) (row : Row) → row_of message target ≡ Some row → level_of target.bucket target.key ≡ (shape_of row).level
at_level message target row h =
    let level = level_of target.bucket target.key in
    let from = copied_from (names_source message.headers) (row_for message.method level target.query) row h in
    let fit = find_fits (fits message.method level target.query) rows from.0 from.1 in
    let parts = and_parts _ (is_same_set target.query (shape_of from.0).selectors) fit in
    same_level _ _ (and_parts _ (is_same_level level (shape_of from.0).level) parts.0).1
    ∙ sym (copied_level (names_source message.headers) from.0)
    ∙ ap (λ r. (shape_of r).level) from.2

-- one row has the level of the service
service_row : (row : Row) → (shape_of row).level ≡ Service → row ≡ ListBuckets
service_row ListBuckets h = refl
service_row CreateBucket h = cc
service_row PutBucketAcl h = cc
service_row DeleteBucket h = cc
service_row HeadBucket h = cc
service_row GetBucketLocation h = cc
service_row GetBucketAcl h = cc
service_row ListObjects h = cc
service_row ListObjectsV2 h = cc
service_row ListMultipartUploads h = cc
service_row DeleteObjects h = cc
service_row PutObject h = cc
service_row GetObject h = cc
service_row HeadObject h = cc
service_row DeleteObject h = cc
service_row GetObjectAcl h = cc
service_row CreateMultipartUpload h = cc
service_row UploadPart h = cc
service_row ListParts h = cc
service_row CompleteMultipartUpload h = cc
service_row AbortMultipartUpload h = cc
service_row CopyObject h = cc
service_row UploadPartCopy h = cc

-- ---- the names of a target

is_named : (b : Bool) → not b ≡ false → b ≡ true
is_named b h = not-false b h

no_service : (level other : Level) → level ≡ other → is_same_level other Service ≡ false → is_same_level level Service ≡ false
no_service level other e h = ap (λ l. is_same_level l Service) e ∙ h

bucket_at : (level : Level) (name : List ℕ) → is_same_level level Service ≡ false → (not (is_same_level level Service) && not (is_bucket name)) ≡ false → is_bucket name ≡ true
bucket_at level name other h = is_named _ (rw other at h)

key_at : (level : Level) (key : List ℕ) → level ≡ Key → (is_same_level level Key && not (is_key key)) ≡ false → is_key key ≡ true
key_at level key e h = is_named _ (rw e at h)

-- a target of a bucket, or of an object, has a bucket's name
pub named_bucket : (target : Target) (level : Level) → level_of target.bucket target.key ≡ level → is_same_level level Service ≡ false
    → (not (is_same_level (level_of target.bucket target.key) Service) && not (is_bucket target.bucket)) ≡ false → is_bucket target.bucket ≡ true
named_bucket target level e other h = bucket_at _ target.bucket (no_service _ level e other) h

-- a target of an object has a key
pub named_key : (target : Target) → level_of target.bucket target.key ≡ Key
    → (is_same_level (level_of target.bucket target.key) Key && not (is_key target.key)) ≡ false → is_key target.key ≡ true
named_key target e h = key_at _ target.key e h

names_service : (level : Level) (target : Target) → named_at level target ≡ named.Service → level ≡ Service
names_service Service target h = refl
names_service Bucket target h = cc
names_service Key target h = cc

names_bucket : (level : Level) (target : Target) (bucket : List ℕ) → named_at level target ≡ named.Bucket bucket → (level ≡ Bucket) × (target.bucket ≡ bucket)
names_bucket Service target bucket h = cc
names_bucket Bucket target bucket h = (refl, cc)
names_bucket Key target bucket h = cc

names_object : (level : Level) (target : Target) (name : ObjectName) → named_at level target ≡ named.Object name → (level ≡ Key) × (name.bucket ≡ target.bucket) × (name.key ≡ target.key)
names_object Service target name h = cc
names_object Bucket target name h = cc
names_object Key target name h =
    let same : name ≡ record { bucket = target.bucket; key = target.key } = cc in
    (refl, ap (λ (n : ObjectName). n.bucket) same, ap (λ (n : ObjectName). n.key) same)

module _ {asking : Asking} {message : Message} {others : List Reason} (left : IsLeft asking message others) where
  row_level : (shape_of asking.row).level ≡ level_of asking.target.now.bucket asking.target.now.key
  row_level = sym (at_level message asking.target.now asking.row left.is_row)

  -- who asks the service asks for its buckets
  pub service_asked : asking.named.now ≡ named.Service → asking.row ≡ ListBuckets
  service_asked e = service_row asking.row (row_level ∙ names_service (level_of asking.target.now.bucket asking.target.now.key) asking.target.now (sym left.named ∙ e))

  pub bucket_asked : (bucket : List ℕ) → asking.named.now ≡ named.Bucket bucket → ((shape_of asking.row).level ≡ Bucket) × (asking.target.now.bucket ≡ bucket)
  bucket_asked bucket e = let of_target = names_bucket (level_of asking.target.now.bucket asking.target.now.key) asking.target.now bucket (sym left.named ∙ e) in (row_level ∙ of_target.0, of_target.1)

  pub object_asked : (name : ObjectName) → asking.named.now ≡ named.Object name
      → ((shape_of asking.row).level ≡ Key) × (name.bucket ≡ asking.target.now.bucket) × (name.key ≡ asking.target.now.key)
  object_asked name e = let of_target = names_object (level_of asking.target.now.bucket asking.target.now.key) asking.target.now name (sym left.named ∙ e) in (row_level ∙ of_target.0, of_target.1, of_target.2)

-- ---- what is asked for

-- each row but one asks for an operation
means_op : (row : Row) (message : Message) (target : Target) → row ≢ PutBucketAcl → (op : Op) × (op_of row message target ≡ meant.Op op)
means_op ListBuckets message target other = (_, refl)
means_op CreateBucket message target other = (_, refl)
means_op PutBucketAcl message target other = absurd (other refl)
means_op DeleteBucket message target other = (_, refl)
means_op HeadBucket message target other = (_, refl)
means_op GetBucketLocation message target other = (_, refl)
means_op GetBucketAcl message target other = (_, refl)
means_op ListObjects message target other = (_, refl)
means_op ListObjectsV2 message target other = (_, refl)
means_op ListMultipartUploads message target other = (_, refl)
means_op DeleteObjects message target other = (_, refl)
means_op PutObject message target other = (_, refl)
means_op GetObject message target other = (_, refl)
means_op HeadObject message target other = (_, refl)
means_op DeleteObject message target other = (_, refl)
means_op GetObjectAcl message target other = (_, refl)
means_op CreateMultipartUpload message target other = (_, refl)
means_op UploadPart message target other = (_, refl)
means_op ListParts message target other = (_, refl)
means_op CompleteMultipartUpload message target other = (_, refl)
means_op AbortMultipartUpload message target other = (_, refl)
means_op CopyObject message target other = (_, refl)
means_op UploadPartCopy message target other = (_, refl)

listing_means : (row : Row) → is_listing_of_bucket row ≡ true → row ≢ PutBucketAcl
listing_means row h = λ e. (let none : is_listing_of_bucket row ≡ false = ap is_listing_of_bucket e in cc)

key_means : (row : Row) → (shape_of row).level ≡ Key → row ≢ PutBucketAcl
key_means row h = λ e. (let none : (shape_of row).level ≡ Bucket = ap (λ r. (shape_of r).level) e in cc)

-- the list of a body that can be read
list_proper : (found : Option (List Listed)) (body : List ℕ) → listed_in body ≡ found → is_none found ≡ false → IsProperList (unwrap_or found [])
unfolding most_parts
list_proper None body e some = cc
list_proper (Some list) body e some = record { filled = listed_filled body list e; few = listed_few_parts body list e }

-- the keys of a body that can be read
keys_proper : (found : Option Deletes) (body : List ℕ) → deletes_in body ≡ found → is_none found ≡ false → IsProperKeys (unwrap_or found no_deletes).keys
keys_proper None body e some = cc
keys_proper (Some deletes) body e some = deletes_proper body deletes e

short : (settings : Settings) (body : List ℕ) → nat_lt (body_limit settings) (length body) ≡ false → length body ≤ most_body_bytes
short settings body h =
    let within : length body ≤ body_limit settings = grind (arith, nat_tests) in
    omega (arith, within)

-- the source of a copy that can be read
source_is : (row : Row) (headers : List Pair) → is_copy row ≡ true → has_bad_source row headers ≡ false → IsPlace (given_source row headers).bucket (given_source row headers).key
source_is row headers copies some = by_test (is_copy row) copies some
  where
    by_test : (b : Bool) → b ≡ true → is_none (cond b (source_of row headers) (Some no_source)) ≡ false
        → IsPlace (unwrap_or (cond b (source_of row headers) (Some no_source)) no_source).bucket (unwrap_or (cond b (source_of row headers) (Some no_source)) no_source).key
    by_test true copies some = source_proper row headers some
    by_test false copies some = cc

module _ {asking : Asking} {message : Message} (left : IsLeft asking message []) where
  -- no reason held
  all_tried : asking.row ≢ PutBucketAcl → NoneHolds (reasons asking.settings.now asking.row message asking.target.now asking.caller.now)
  unfolding meaning_of
  all_tried other =
      let asked = means_op asking.row message asking.target.now other in
      let of_target =
      none_held (target_reasons message asking.target.now) (judged asking.settings.now (row_of message asking.target.now) message asking.target.now asking.caller.now) asked.0
      (left.so ∙ asked.1) in
      (none_held (reasons asking.settings.now asking.row message asking.target.now asking.caller.now) (op_of asking.row message asking.target.now) asked.0
      (sym (ap (λ it. judged asking.settings.now it message asking.target.now asking.caller.now) left.is_row) ∙ of_target.1)).0

  source_tried : asking.row ≢ PutBucketAcl → has_bad_source asking.row message.headers ≡ false
  source_tried other = (all_tried other).1.1.1.1.1.1.1.1.1.1.1.1.1.1.1.0

  content_tried : asking.row ≢ PutBucketAcl → NoneHolds (content_reasons asking.settings.now asking.row message asking.caller.now)
  content_tried other = (all_tried other).1.1.1.1.1.1.1.1.1.1.1.1.1.1.1.1

  -- the texts of a listing
  pub texts_left : is_listing_of_bucket asking.row ≡ true → has_long_text asking.target.now.query ≡ false
  texts_left lists = (all_tried (listing_means asking.row lists)).1.1.1.1.1.1.1.1.1.1.1.1.1.0

  -- the keys that are deleted
  pub keys_left : asking.row ≡ DeleteObjects → IsProperKeys (given_deletes asking.row message.body).keys
  keys_left e =
      let tried : has_bad_deletes asking.row message.body ≡ false = (content_tried (λ other. cc)).1.1.1.1.1.1.1.1.0 in
      subst (λ row. has_bad_deletes row message.body ≡ false → IsProperKeys (given_deletes row message.body).keys) (sym e)
      (λ some. keys_proper (deletes_in message.body) message.body refl some) tried

  -- the parts that complete an upload
  pub list_left : asking.row ≡ CompleteMultipartUpload → IsProperList (given_list asking.row message.body)
  list_left e =
      let tried : has_bad_list asking.row message.body ≡ false = (content_tried (λ other. cc)).1.1.1.1.1.1.1.0 in
      subst (λ row. has_bad_list row message.body ≡ false → IsProperList (given_list row message.body)) (sym e)
      (λ some. list_proper (listed_in message.body) message.body refl some) tried

  -- the body of a request to an object
  pub body_left : (shape_of asking.row).level ≡ Key → length message.body ≤ most_body_bytes
  body_left at = short asking.settings.now message.body (content_tried (key_means asking.row at)).1.1.1.1.0

  -- the source of a copy
  pub source_left : (shape_of asking.row).level ≡ Key → is_copy asking.row ≡ true → IsPlace (given_source asking.row message.headers).bucket (given_source asking.row message.headers).key
  source_left at copies = source_is asking.row message.headers copies (source_tried (key_means asking.row at))
