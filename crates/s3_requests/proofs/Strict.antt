-- Without the extended profile a request asks for nothing of it.
use Rattle.std.proofs.Common.{◌≡◌, ℕ, Bool, true, false, not, ◌&&◌, ◌||◌, cond, List, [], ◌∷◌, Option, Some, None, refl, ap, ◌∙◌, subst}
use Rattle.std.specs.Prelude.{codes, bytes_eq, nat_eq, map, filter}
use Rattle.std.specs.List.{list_any, starts_with, join_with_byte}
use Rattle.std.specs.Option.{option_map, unwrap_or}
use Rattle.std.proofs.lemmas.Bool.{or_parts, or_from}
use Rattle.std.proofs.lemmas.Slice.Eq.{bytes_eq-Decides}
use Rattle.httpdate.specs.Reader.{parse, read_name, read_tag}
use Rattle.gate_base.specs.declared.caller.Caller.{Caller}
use Rattle.gate_base.specs.declared.page.Pair.{Pair}
use Rattle.s3_names.specs.declared.acl.Acl.{Acl}
use Rattle.s3_names.specs.declared.target.Target.{Target}
use Rattle.s3_names.specs.Target.{is_question}
use Rattle.s3_machine.specs.declared.operation.Op.{Op}
use Rattle.s3_machine.specs.declared.operation.Settings.{Settings}
use Rattle.s3_machine.specs.declared.reading.ETags.TheVariants.{Absent}
use Rattle.s3_machine.specs.Conditions.{no_conditions}
use Rattle.http_wire.specs.declared.message.Message.{Message}
use Rattle.http_wire.specs.Headers.{has_name, has_header, text_of, value_of}
use Rattle.s3_requests.specs.declared.meant.Meant.{Meant}
use Rattle.s3_requests.specs.declared.meant.Meant.TheVariants as meant
use Rattle.s3_requests.specs.declared.rows.Row.{Row}
use Rattle.s3_requests.specs.declared.rows.Row.TheVariants.{ListBuckets, CreateBucket, PutBucketAcl, DeleteBucket, HeadBucket, GetBucketLocation}
use Rattle.s3_requests.specs.declared.rows.Row.TheVariants.{GetBucketAcl, ListObjects, ListObjectsV2, PutObject, GetObject, HeadObject}
use Rattle.s3_requests.specs.declared.rows.Row.TheVariants.{DeleteObject, GetObjectAcl, ListMultipartUploads, CreateMultipartUpload, UploadPart}
use Rattle.s3_requests.specs.declared.rows.Row.TheVariants.{ListParts, AbortMultipartUpload, CompleteMultipartUpload, DeleteObjects, CopyObject, UploadPartCopy}
use Rattle.request_fields.specs.Query.{asked, is_asked}
use Rattle.s3_requests.specs.Rows.{is_query_name_of_row}
use Rattle.s3_requests.specs.Query.{is_foreign, has_foreign_name}
use Rattle.request_fields.specs.Conditions.{etags_of, given_etags, date_of, given_date, conditions_named, given_source_conditions}
use Rattle.request_fields.specs.Copies.{is_untaken_condition, asks_further, copy_source_text, source_at, has_bad_directive, place_named}
use Rattle.request_fields.specs.Headers.{given_acl}
use Rattle.s3_requests.specs.Copies.{has_unsupported_source, no_source, has_bad_range, source_of}
use Rattle.s3_requests.specs.Laws.{IsStrictOp}
use Rattle.s3_requests.specs.Meaning.{target_reasons, reasons, row_of, judged, put_acl, op_of, meaning_of}
use Rattle.s3_requests.proofs.Reasons.{none_held}

-- ---- the headers and the names that aren't there

off_by : (a b : Bool) → (a ≡ true → b ≡ true) → b ≡ false → a ≡ false
off_by true b h e = let on : b ≡ true = h refl in cc
off_by false b h e = refl

-- none passes a test that implies one that none passes
none_by : (p q : Pair → Bool) (list : List Pair) → ((pair : Pair) → p pair ≡ true → q pair ≡ true) → list_any q list ≡ false → list_any p list ≡ false
none_by p q [] implies none = refl
none_by p q (pair ∷ list) implies none =
    let parts = or_parts (q pair) (list_any q list) none in
    or_from (p pair) (list_any p list) (off_by (p pair) (q pair) (implies pair) parts.0) (none_by p q list implies parts.1)

nothing_filtered : (p : Pair → Bool) (list : List Pair) → list_any p list ≡ false → filter p list ≡ []
nothing_filtered p [] none = refl
nothing_filtered p (pair ∷ list) none =
    let parts = or_parts (p pair) (list_any p list) none in
    ap (λ b. cond b (pair ∷ filter p list) (filter p list)) parts.0 ∙ nothing_filtered p list parts.1

-- a header of a name of a condition would be refused
no_header : (name : List ℕ) (headers : List Pair) → starts_with nat_eq name (codes "x-amz-copy-source-if-") ≡ true
    → list_any (is_untaken_condition false) headers ≡ false → has_header name headers ≡ false
no_header name headers begins none =
    none_by (has_name name) (is_untaken_condition false) headers
    (λ pair is. ap (λ text. starts_with nat_eq text (codes "x-amz-copy-source-if-") && true) ((bytes_eq-Decides pair.name name).0 is) ∙ ap (λ b. b && true) begins)
    none

no_moment : date_of [] ≡ None
unfolding date_of parse read_name read_tag
no_moment = refl

no_date : (name : List ℕ) (headers : List Pair) → has_header name headers ≡ false → given_date name headers ≡ None
no_date name headers none = ap (λ list. date_of (join_with_byte 44 (map value_of list))) (nothing_filtered (has_name name) headers none) ∙ no_moment

no_etags : (name : List ℕ) (headers : List Pair) → has_header name headers ≡ false → given_etags name headers ≡ Absent
no_etags name headers none = ap (λ b. cond b (etags_of (text_of name headers)) Absent) none

nothing_named : (a b c d : List ℕ) (headers : List Pair)
    → has_header a headers ≡ false → has_header b headers ≡ false → has_header c headers ≡ false → has_header d headers ≡ false
    → conditions_named a b c d headers ≡ no_conditions
nothing_named a b c d headers none_a none_b none_c none_d =
    let matched = no_etags a headers none_a in
    let unmatched = no_etags b headers none_b in
    let modified = no_date c headers none_c in
    let unmodified = no_date d headers none_d in
    cc

no_source_conditions : (headers : List Pair) → list_any (is_untaken_condition false) headers ≡ false → given_source_conditions headers ≡ no_conditions
no_source_conditions headers none =
    nothing_named _ _ _ _ headers
    (no_header (codes "x-amz-copy-source-if-match") headers refl none)
    (no_header (codes "x-amz-copy-source-if-none-match") headers refl none)
    (no_header (codes "x-amz-copy-source-if-modified-since") headers refl none)
    (no_header (codes "x-amz-copy-source-if-unmodified-since") headers refl none)

placed_strict : (bad : Bool) (place : Option (List ℕ × List ℕ)) (headers : List Pair) → given_source_conditions headers ≡ no_conditions
    → (unwrap_or (cond bad None (option_map (source_at headers) place)) no_source).conditions ≡ no_conditions
placed_strict true place headers none = refl
placed_strict false None headers none = refl
placed_strict false (Some place) headers none = none

-- a copy has no condition on its source
source_strict : (row : Row) (headers : List Pair) → asks_further false headers ≡ false
    → (unwrap_or (source_of row headers) no_source).conditions ≡ no_conditions
source_strict row headers none =
    placed_strict (has_bad_directive headers || has_bad_range row headers) (place_named (copy_source_text headers)) headers
    (no_source_conditions headers (or_parts (list_any is_question (copy_source_text headers)) _ none).1)

-- a listing of uploads has no name of an encoding
url_strict : (query : List Pair) → has_foreign_name false ListMultipartUploads query ≡ false → is_asked query (codes "encoding-type") ≡ false
url_strict query none =
    none_by (λ pair. bytes_eq pair.name (codes "encoding-type")) (is_foreign false ListMultipartUploads) (asked query)
    (λ pair is. ap (λ name. not (is_query_name_of_row name ListMultipartUploads) && true) ((bytes_eq-Decides pair.name (codes "encoding-type")).0 is))
    none

-- ---- the operations

abbrev IsStrict : Meant → Type 0
IsStrict (meant.Op op) = IsStrictOp op
IsStrict _ = Unit {0}

put_strict : (bucket : List ℕ) (acl : Option Acl) → IsStrict (put_acl bucket acl)
put_strict bucket None = tt
put_strict bucket (Some acl) = tt

op_strict : (row : Row) (message : Message) (target : Target)
    → has_foreign_name false row target.query ≡ false → has_unsupported_source false row message.headers ≡ false → IsStrict (op_of row message target)
op_strict ListBuckets message target names headers = tt
op_strict CreateBucket message target names headers = tt
op_strict PutBucketAcl message target names headers = put_strict target.bucket (given_acl message.headers)
op_strict DeleteBucket message target names headers = tt
op_strict HeadBucket message target names headers = tt
op_strict GetBucketLocation message target names headers = tt
op_strict GetBucketAcl message target names headers = tt
op_strict ListObjects message target names headers = tt
op_strict ListObjectsV2 message target names headers = tt
op_strict ListMultipartUploads message target names headers = url_strict target.query names
op_strict DeleteObjects message target names headers = tt
op_strict PutObject message target names headers = tt
op_strict GetObject message target names headers = tt
op_strict HeadObject message target names headers = tt
op_strict DeleteObject message target names headers = tt
op_strict GetObjectAcl message target names headers = tt
op_strict CreateMultipartUpload message target names headers = tt
op_strict UploadPart message target names headers = tt
op_strict ListParts message target names headers = tt
op_strict AbortMultipartUpload message target names headers = tt
op_strict CompleteMultipartUpload message target names headers = tt
op_strict CopyObject message target names headers = source_strict CopyObject message.headers headers
op_strict UploadPartCopy message target names headers = source_strict UploadPartCopy message.headers headers

judged_strict : (settings : Settings) (found : Option Row) (message : Message) (target : Target) (caller : Caller) (op : Op)
    → settings.extended ≡ false → judged settings found message target caller ≡ meant.Op op → IsStrictOp op
judged_strict settings None message target caller op strict h = cc
judged_strict settings (Some row) message target caller op strict h =
    let held = none_held (reasons settings row message target caller) (op_of row message target) op h in
    let names : has_foreign_name false row target.query ≡ false = subst (λ extended. has_foreign_name extended row target.query ≡ false) strict held.0.0 in
    let headers : has_unsupported_source false row message.headers ≡ false =
    subst (λ extended. has_unsupported_source extended row message.headers ≡ false) strict held.0.1.1.1.0 in
    subst IsStrict held.1 (op_strict row message target names headers)

pub strict_asked : (settings : Settings) (message : Message) (target : Target) (caller : Caller) (op : Op)
    → settings.extended ≡ false → meaning_of settings message target caller ≡ meant.Op op → IsStrictOp op
unfolding meaning_of
strict_asked settings message target caller op strict h =
    judged_strict settings (row_of message target) message target caller op strict
    (none_held (target_reasons message target) (judged settings (row_of message target) message target caller) op h).1
