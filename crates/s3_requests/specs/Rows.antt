-- The table of requests: which method, at which level of a target, with which names in the query asks for which
-- operation. Source: Amazon S3 API Reference, "Actions"; that other names are refused is this profile.
use Rattle.std.specs.Prelude.{ℕ, Bool, true, false, not, ◌&&◌, ◌||◌, ◌==◌, if◌then◌else◌, List, [], ◌∷◌, length, map, find, codes, bytes_eq, Option}
use Rattle.std.specs.Borrow.{Bor}
use Rattle.std.specs.List.{list_all, list_any}
use Rattle.gate_base.specs.declared.page.Pair.{Pair}
use Rattle.request_fields.specs.Query.{is_asked}
use Rattle.s3_requests.specs.declared.rows.Level.{Level}
use Rattle.s3_requests.specs.declared.rows.Level.TheVariants.{Service, Bucket, Key}
use Rattle.s3_requests.specs.declared.rows.Row.{Row}
use Rattle.s3_requests.specs.declared.rows.Row.TheVariants.{ListBuckets, CreateBucket, PutBucketAcl, DeleteBucket, HeadBucket, GetBucketLocation}
use Rattle.s3_requests.specs.declared.rows.Row.TheVariants.{GetBucketAcl, ListObjects, ListObjectsV2, ListMultipartUploads, PutObject, GetObject}
use Rattle.s3_requests.specs.declared.rows.Row.TheVariants.{HeadObject, DeleteObject, GetObjectAcl, CreateMultipartUpload, UploadPart, ListParts}
use Rattle.s3_requests.specs.declared.rows.Row.TheVariants.{CompleteMultipartUpload, AbortMultipartUpload, DeleteObjects, CopyObject, UploadPartCopy}

-- what the table says in a row: its method, its level, the selectors that the query has, and the further names that it may have;
-- whether anybody may ask for it, whether one who may only read may, whether it takes a content type and metadata whatever else the
-- headers say, whether its body names a location, and whether the headers must name an access control list
pub record Shape : Type 0 where
  pub method : List ℕ
  pub level : Level
  pub selectors : List (List ℕ)
  pub further : List (List ℕ)
  pub is_open : Bool
  pub is_read : Bool
  pub has_content : Bool
  pub has_location : Bool
  pub needs_acl : Bool

-- a row for the owner alone
abbrev pub plain : List ℕ → Level → List (List ℕ) → List (List ℕ) → Shape
plain method level selectors further = record {
  method = method;
  level = level;
  selectors = selectors;
  further = further;
  is_open = false;
  is_read = false;
  has_content = false;
  has_location = false;
  needs_acl = false;
}

-- one that anybody may ask for
abbrev pub for_all : Shape → Shape
for_all shape = record shape { is_open = true }

-- one that whoever may only read may ask for
abbrev pub for_readers : Shape → Shape
for_readers shape = record shape { is_read = true }

-- one that takes a content type and metadata
abbrev pub with_content : Shape → Shape
with_content shape = record shape { has_content = true }

-- one whose body names a location, or is none
abbrev pub with_location : Shape → Shape
with_location shape = record shape { has_location = true }

-- one that puts the access control list which its headers name
abbrev pub with_acl : Shape → Shape
with_acl shape = record shape { needs_acl = true }

-- the names by which a query chooses a row
abbrev pub selectors : List (List ℕ)
selectors = codes "acl" ∷ codes "location" ∷ codes "uploads" ∷ codes "uploadId" ∷ codes "partNumber" ∷ codes "list-type" ∷ codes "delete" ∷ []

-- the names that rows have beside their selectors
abbrev pub objects_names : List (List ℕ)
objects_names = codes "prefix" ∷ codes "delimiter" ∷ codes "marker" ∷ codes "max-keys" ∷ codes "encoding-type" ∷ []

abbrev pub objects_v2_names : List (List ℕ)
objects_v2_names =
    codes "prefix" ∷ codes "delimiter" ∷ codes "start-after" ∷ codes "continuation-token" ∷ codes "max-keys" ∷ codes "encoding-type"
    ∷ codes "fetch-owner" ∷ []

abbrev pub uploads_names : List (List ℕ)
uploads_names = codes "prefix" ∷ codes "key-marker" ∷ codes "upload-id-marker" ∷ codes "max-uploads" ∷ []

abbrev pub parts_names : List (List ℕ)
parts_names = codes "max-parts" ∷ codes "part-number-marker" ∷ []

-- the table
abbrev pub shape_of : Row → Shape
shape_of ListBuckets = for_readers (plain (codes "GET") Service [] [])
shape_of CreateBucket = with_location (plain (codes "PUT") Bucket [] [])
shape_of PutBucketAcl = with_acl (plain (codes "PUT") Bucket (codes "acl" ∷ []) [])
shape_of DeleteBucket = plain (codes "DELETE") Bucket [] []
shape_of HeadBucket = for_readers (for_all (plain (codes "HEAD") Bucket [] []))
shape_of GetBucketLocation = for_readers (plain (codes "GET") Bucket (codes "location" ∷ []) [])
shape_of GetBucketAcl = for_readers (plain (codes "GET") Bucket (codes "acl" ∷ []) [])
shape_of ListObjects = for_readers (for_all (plain (codes "GET") Bucket [] objects_names))
shape_of ListObjectsV2 = for_readers (for_all (plain (codes "GET") Bucket (codes "list-type" ∷ []) objects_v2_names))
shape_of ListMultipartUploads = plain (codes "GET") Bucket (codes "uploads" ∷ []) uploads_names
shape_of DeleteObjects = plain (codes "POST") Bucket (codes "delete" ∷ []) []
shape_of PutObject = with_content (plain (codes "PUT") Key [] [])
shape_of GetObject = for_readers (for_all (plain (codes "GET") Key [] []))
shape_of HeadObject = for_readers (for_all (plain (codes "HEAD") Key [] []))
shape_of DeleteObject = plain (codes "DELETE") Key [] []
shape_of GetObjectAcl = for_readers (plain (codes "GET") Key (codes "acl" ∷ []) [])
shape_of CreateMultipartUpload = with_content (plain (codes "POST") Key (codes "uploads" ∷ []) [])
shape_of UploadPart = plain (codes "PUT") Key (codes "partNumber" ∷ codes "uploadId" ∷ []) []
shape_of ListParts = plain (codes "GET") Key (codes "uploadId" ∷ []) parts_names
shape_of CompleteMultipartUpload = plain (codes "POST") Key (codes "uploadId" ∷ []) []
shape_of AbortMultipartUpload = plain (codes "DELETE") Key (codes "uploadId" ∷ []) []
shape_of CopyObject = plain (codes "PUT") Key [] []
shape_of UploadPartCopy = plain (codes "PUT") Key (codes "partNumber" ∷ codes "uploadId" ∷ []) []

-- a row whose operation takes the bytes of the body
abbrev pub takes_body : Row → Bool
takes_body PutObject = true
takes_body UploadPart = true
takes_body _ = false

-- a row whose operation takes what the headers give as one value
abbrev pub takes_given : Row → Bool
takes_given PutObject = true
takes_given CreateMultipartUpload = true
takes_given CopyObject = true
takes_given UploadPartCopy = true
takes_given _ = false

-- a row of a bucket that lists what the bucket has
abbrev pub is_listing_of_bucket : Row → Bool
is_listing_of_bucket ListObjects = true
is_listing_of_bucket ListObjectsV2 = true
is_listing_of_bucket ListMultipartUploads = true
is_listing_of_bucket _ = false

-- a row of a bucket that takes nothing of a query or a body
abbrev pub is_plain_of_bucket : Row → Bool
is_plain_of_bucket DeleteObjects = false
is_plain_of_bucket row = not (is_listing_of_bucket row)

-- a row of an object that takes nothing of the query or the body
abbrev pub is_plain_of_key : Row → Bool
is_plain_of_key GetObject = true
is_plain_of_key HeadObject = true
is_plain_of_key DeleteObject = true
is_plain_of_key GetObjectAcl = true
is_plain_of_key _ = false

-- the rows that method, level and names tell apart. A header makes two more of them, of the same shape but for the content
unfoldable pub rows : List Row
rows =
    ListBuckets ∷ CreateBucket ∷ PutBucketAcl ∷ DeleteBucket ∷ HeadBucket ∷ GetBucketLocation ∷ GetBucketAcl
    ∷ ListObjects ∷ ListObjectsV2 ∷ ListMultipartUploads ∷ DeleteObjects
    ∷ PutObject ∷ GetObject ∷ HeadObject ∷ DeleteObject ∷ GetObjectAcl ∷ CreateMultipartUpload ∷ UploadPart
    ∷ ListParts ∷ CompleteMultipartUpload ∷ AbortMultipartUpload ∷ []

-- the methods of the table
abbrev pub is_method : List ℕ → Bool
is_method method =
    bytes_eq method (codes "GET") || bytes_eq method (codes "HEAD") || bytes_eq method (codes "PUT")
    || bytes_eq method (codes "POST") || bytes_eq method (codes "DELETE")

-- no bucket and no key is the service, no key is a bucket
abbrev pub level_of : List ℕ → List ℕ → Level
level_of bucket key = if length key == 0 then (if length bucket == 0 then Service else Bucket) else Key

-- two levels are the same
abbrev pub is_same_level : Level → Level → Bool
is_same_level Service Service = true
is_same_level Bucket Bucket = true
is_same_level Key Key = true
is_same_level _ _ = false

-- a name is one of these
abbrev pub is_among : List ℕ → List (List ℕ) → Bool
is_among name names = list_any (λ other. bytes_eq name other) names

-- the texts behind references
abbrev pub texts : List (Bor (List ℕ)) → List (List ℕ)
texts names = map (λ name. name.now) names

-- the row has the name
abbrev pub is_query_name_of_row : List ℕ → Row → Bool
is_query_name_of_row name row = is_among name (shape_of row).selectors || is_among name (shape_of row).further

abbrev pub is_same : Bool → Bool → Bool
is_same a b = if a then b else not b

abbrev pub agrees : List Pair → List (List ℕ) → List ℕ → Bool
agrees query names name = is_same (is_asked query name) (is_among name names)

-- these are the selectors that the query has
abbrev pub is_same_set : List Pair → List (List ℕ) → Bool
is_same_set query names = list_all (agrees query names) selectors

-- the request is one of the row
abbrev pub fits : List ℕ → Level → List Pair → Row → Bool
fits method level query row =
    bytes_eq method (shape_of row).method && is_same_level level (shape_of row).level && is_same_set query (shape_of row).selectors

-- the row of a request, if there is one
abbrev pub row_for : List ℕ → Level → List Pair → Option Row
row_for method level query = find (fits method level query) rows
