-- The bodies of the replies, but for a refusal's. Source: Amazon S3 API Reference; who owns all, and where an object is, is
-- this profile's.
use Rattle.std.specs.Prelude.{
  ℕ,
  ◌-◌,
  Bool,
  true,
  false,
  not,
  ◌&&◌,
  ◌||◌,
  nat_eq,
  List,
  [],
  ◌++◌,
  length,
  slice_get,
  codes,
  bytes_eq,
  decimal,
  if◌then◌else◌,
  Option,
  None,
  Some,
}
use Rattle.std.specs.List.{flat_map}
use Rattle.std.specs.Option.{option_map_or}
use Rattle.hex.specs.Hex.{encode_lower}
use Rattle.s3_names.specs.declared.acl.Acl.{Acl}
use Rattle.s3_names.specs.declared.acl.Acl.TheVariants.{Private, PublicRead}
use Rattle.s3_names.specs.Escapes.{escaped_path}
use Rattle.s3_machine.specs.declared.items.Asked.{Asked}
use Rattle.s3_machine.specs.declared.items.BucketItem.{BucketItem}
use Rattle.s3_machine.specs.declared.items.Item.{Item}
use Rattle.s3_machine.specs.declared.items.ItemHead.{ItemHead}
use Rattle.s3_machine.specs.declared.items.PartItem.{PartItem}
use Rattle.s3_machine.specs.declared.items.UploadItem.{UploadItem}
use Rattle.s3_machine.specs.declared.operation.BucketPage.{BucketPage}
use Rattle.s3_machine.specs.declared.unset.UnsetPage.{UnsetPage}
use Rattle.s3_pages.specs.Date.{iso_time}
use Rattle.s3_pages.specs.Texts.{id_text, quoted}
use Rattle.s3_pages.specs.Xml.{declaration, element, escaped, root, end_of}

-- ---- elements

-- an element whose text is a number in decimal
abbrev pub number_element : List ℕ → ℕ → List ℕ
number_element name number = element name (decimal number)

-- an element whose text is a moment, in the form of ISO 8601
abbrev pub time_element : List ℕ → ℕ → List ℕ
time_element name moment = element name (iso_time moment)

-- the element of an ETag, in double quotes
abbrev pub etag_element : List ℕ → List ℕ
etag_element etag = element (codes "ETag") (quoted etag)

abbrev pub truth : Bool → List ℕ
truth true = codes "true"
truth false = codes "false"

-- an element whose text is `true` or `false`
abbrev pub truth_element : List ℕ → Bool → List ℕ
truth_element name t = element name (truth t)

-- a text of a listing, escaped as in a path where that was asked for
abbrev pub shown_text : Bool → List ℕ → List ℕ
shown_text true text = escaped_path text
shown_text false text = text

abbrev pub text_element : Bool → List ℕ → List ℕ → List ℕ
text_element url name text = element name (shown_text url text)

-- what stands there only where the test is true
abbrev pub where_true : Bool → List ℕ → List ℕ
where_true true text = text
where_true false text = []

abbrev pub is_filled : List ℕ → Bool
is_filled text = not (nat_eq (length text) 0)

-- the one who owns all, and who began every upload
abbrev pub owner : List ℕ
owner = codes "<Owner><ID>s3gate</ID><DisplayName>s3gate</DisplayName></Owner>"

abbrev pub initiator : List ℕ
initiator = codes "<Initiator><ID>s3gate</ID><DisplayName>s3gate</DisplayName></Initiator>"

-- the one storage class
abbrev pub storage_class : List ℕ
storage_class = codes "<StorageClass>STANDARD</StorageClass>"

-- ---- buckets

unfoldable pub bucket_element : BucketItem → List ℕ
bucket_element item =
    codes "<Bucket>"
    ++ element (codes "Name") item.name
    ++ time_element (codes "CreationDate") item.created
    ++ codes "</Bucket>"

-- the token of the next page is the last bucket's name, in lower-case hexadecimal as that of a listing
abbrev pub last_bucket : List BucketItem → List ℕ
last_bucket items = option_map_or (λ item. item.name) (slice_get items (length items - 1)) []

abbrev pub next_buckets : Bool → List BucketItem → List ℕ
next_buckets truncated items = where_true truncated (element (codes "ContinuationToken") (encode_lower (last_bucket items)))

abbrev pub buckets_prefix : List ℕ → List ℕ
buckets_prefix prefix = where_true (is_filled prefix) (element (codes "Prefix") prefix)

unfoldable pub buckets_body : BucketPage → List ℕ
buckets_body page =
    declaration
    ++ root (codes "ListAllMyBucketsResult")
    ++ owner
    ++ codes "<Buckets>"
    ++ flat_map bucket_element page.items
    ++ codes "</Buckets>"
    ++ next_buckets page.truncated page.items
    ++ buckets_prefix page.asked.prefix
    ++ end_of (codes "ListAllMyBucketsResult")

-- a setting that nothing sets: its root, with what stands inside it
unfoldable pub setting_body : UnsetPage → List ℕ
setting_body page = declaration ++ root page.root ++ page.inside ++ end_of page.root

-- the region `us-east-1` is told by no text
abbrev pub region_in_location_page : List ℕ → List ℕ
region_in_location_page region = if bytes_eq region (codes "us-east-1") then [] else region

unfoldable pub location_body : List ℕ → List ℕ
location_body region =
    declaration
    ++ root (codes "LocationConstraint")
    ++ escaped (region_in_location_page region)
    ++ end_of (codes "LocationConstraint")

-- the owner may do all
abbrev pub owner_grant : List ℕ
owner_grant =
    codes "<Grant><Grantee xmlns:xsi=\"http://www.w3.org/2001/XMLSchema-instance\" xsi:type=\"CanonicalUser\">"
    ++ codes "<ID>s3gate</ID><DisplayName>s3gate</DisplayName></Grantee><Permission>FULL_CONTROL</Permission></Grant>"

-- and anybody may read what is public
abbrev pub reader_grant : List ℕ
reader_grant =
    codes "<Grant><Grantee xmlns:xsi=\"http://www.w3.org/2001/XMLSchema-instance\" xsi:type=\"Group\">"
    ++ codes "<URI>http://acs.amazonaws.com/groups/global/AllUsers</URI></Grantee><Permission>READ</Permission></Grant>"

abbrev pub public_grant : Acl → List ℕ
public_grant Private = []
public_grant PublicRead = reader_grant

unfoldable pub acl_body : Acl → List ℕ
acl_body acl =
    declaration
    ++ root (codes "AccessControlPolicy")
    ++ owner
    ++ codes "<AccessControlList>"
    ++ owner_grant
    ++ public_grant acl
    ++ codes "</AccessControlList>"
    ++ end_of (codes "AccessControlPolicy")

-- ---- objects

abbrev pub is_version_2_page : Asked → Bool
is_version_2_page asked = nat_eq asked.version 2

-- the owner of each object is told in version 1, and in version 2 where that is asked for
abbrev pub page_tells_owner : Asked → Bool
page_tells_owner asked = not (is_version_2_page asked) || asked.owner

-- an object of a listing
unfoldable pub contents : Asked → List ℕ → ItemHead → List ℕ
contents asked key head =
    codes "<Contents>"
    ++ text_element asked.url (codes "Key") key
    ++ time_element (codes "LastModified") head.modified
    ++ etag_element head.etag
    ++ number_element (codes "Size") head.size
    ++ where_true (page_tells_owner asked) owner
    ++ storage_class
    ++ codes "</Contents>"

abbrev pub contents_by : Asked → List ℕ → Option ItemHead → List ℕ
contents_by asked text None = []
contents_by asked text (Some head) = contents asked text head

abbrev pub contents_of : Asked → Item → List ℕ
contents_of asked item = contents_by asked item.text item.object

-- keys that were rolled up
unfoldable pub common_prefix : Asked → List ℕ → List ℕ
common_prefix asked text = codes "<CommonPrefixes>" ++ text_element asked.url (codes "Prefix") text ++ codes "</CommonPrefixes>"

abbrev pub prefix_by : Asked → List ℕ → Option ItemHead → List ℕ
prefix_by asked text None = common_prefix asked text
prefix_by asked text (Some head) = []

abbrev pub prefix_of : Asked → Item → List ℕ
prefix_of asked item = prefix_by asked item.text item.object

abbrev pub text_of : Item → List ℕ
text_of item = item.text

-- the text of the last item, behind which the next listing begins
abbrev pub next_text : List Item → List ℕ
next_text items = option_map_or text_of (slice_get items (length items - 1)) []

-- how the keys were listed, in both versions
unfoldable pub limits : Asked → Bool → List ℕ
limits asked truncated =
    number_element (codes "MaxKeys") asked.max
    ++ where_true (is_filled asked.delimiter) (text_element asked.url (codes "Delimiter") asked.delimiter)
    ++ where_true asked.url (codes "<EncodingType>url</EncodingType>")
    ++ truth_element (codes "IsTruncated") truncated

unfoldable pub first_version : Asked → List Item → Bool → List ℕ
first_version asked items truncated =
    text_element asked.url (codes "Prefix") asked.prefix
    ++ text_element asked.url (codes "Marker") asked.marker
    ++ where_true (truncated && is_filled asked.delimiter) (text_element asked.url (codes "NextMarker") (next_text items))
    ++ limits asked truncated

-- a token is a text in lower-case hexadecimal
abbrev pub token_by : Option (List ℕ) → List ℕ
token_by None = []
token_by (Some text) = element (codes "ContinuationToken") (encode_lower text)

unfoldable pub second_version : Asked → List Item → Bool → List ℕ
second_version asked items truncated =
    text_element asked.url (codes "Prefix") asked.prefix
    ++ where_true (is_filled asked.start_after) (text_element asked.url (codes "StartAfter") asked.start_after)
    ++ token_by asked.token
    ++ number_element (codes "KeyCount") (length items)
    ++ limits asked truncated
    ++ where_true truncated (element (codes "NextContinuationToken") (encode_lower (next_text items)))

abbrev pub by_version : Bool → Asked → List Item → Bool → List ℕ
by_version true asked items truncated = second_version asked items truncated
by_version false asked items truncated = first_version asked items truncated

unfoldable pub objects_body : List ℕ → Asked → List Item → Bool → List ℕ
objects_body bucket asked items truncated =
    declaration
    ++ root (codes "ListBucketResult")
    ++ element (codes "Name") bucket
    ++ by_version (is_version_2_page asked) asked items truncated
    ++ flat_map (contents_of asked) items
    ++ flat_map (prefix_of asked) items
    ++ end_of (codes "ListBucketResult")

-- ---- uploads

unfoldable pub upload_element : Bool → UploadItem → List ℕ
upload_element url item =
    codes "<Upload>"
    ++ text_element url (codes "Key") item.key
    ++ element (codes "UploadId") (id_text item.id)
    ++ initiator
    ++ owner
    ++ storage_class
    ++ time_element (codes "Initiated") item.started
    ++ codes "</Upload>"

-- the markers of the next listing are the last upload's key and id
abbrev pub next_upload_by : Bool → Option UploadItem → List ℕ
next_upload_by url None = element (codes "NextKeyMarker") [] ++ element (codes "NextUploadIdMarker") []
next_upload_by url (Some item) = text_element url (codes "NextKeyMarker") item.key ++ element (codes "NextUploadIdMarker") (id_text item.id)

abbrev pub next_upload : Bool → List UploadItem → List ℕ
next_upload url items = next_upload_by url (slice_get items (length items - 1))

-- an id is told as it is
unfoldable pub uploads_asked : List ℕ → List ℕ → List ℕ → List ℕ → Bool → List ℕ
uploads_asked bucket prefix key_marker id_marker url =
    element (codes "Bucket") bucket
    ++ text_element url (codes "Prefix") prefix
    ++ text_element url (codes "KeyMarker") key_marker
    ++ element (codes "UploadIdMarker") id_marker

unfoldable pub uploads_limits : ℕ → Bool → Bool → List ℕ
uploads_limits max url truncated =
    number_element (codes "MaxUploads") max ++ where_true url (codes "<EncodingType>url</EncodingType>") ++ truth_element (codes "IsTruncated") truncated

unfoldable pub uploads_body : List ℕ → List ℕ → List ℕ → List ℕ → ℕ → Bool → List UploadItem → Bool → List ℕ
uploads_body bucket prefix key_marker id_marker max url items truncated =
    declaration
    ++ root (codes "ListMultipartUploadsResult")
    ++ uploads_asked bucket prefix key_marker id_marker url
    ++ where_true truncated (next_upload url items)
    ++ uploads_limits max url truncated
    ++ flat_map (upload_element url) items
    ++ end_of (codes "ListMultipartUploadsResult")

-- of which upload a reply speaks
unfoldable pub upload_place : List ℕ → List ℕ → ℕ → List ℕ
upload_place bucket key id =
    element (codes "Bucket") bucket
    ++ element (codes "Key") key
    ++ element (codes "UploadId") (id_text id)

unfoldable pub started_body : List ℕ → List ℕ → ℕ → List ℕ
started_body bucket key id =
    declaration
    ++ root (codes "InitiateMultipartUploadResult")
    ++ upload_place bucket key id
    ++ end_of (codes "InitiateMultipartUploadResult")

unfoldable pub part_element : PartItem → List ℕ
part_element item =
    codes "<Part>"
    ++ number_element (codes "PartNumber") item.number
    ++ time_element (codes "LastModified") item.modified
    ++ etag_element item.etag
    ++ number_element (codes "Size") item.size
    ++ codes "</Part>"

abbrev pub number_of : PartItem → ℕ
number_of item = item.number

-- the marker of the next listing is the last part's number
abbrev pub next_part_element_number : List PartItem → ℕ
next_part_element_number items = option_map_or number_of (slice_get items (length items - 1)) 0

unfoldable pub parts_asked : ℕ → ℕ → List PartItem → Bool → List ℕ
parts_asked marker max items truncated =
    number_element (codes "PartNumberMarker") marker
    ++ where_true truncated (number_element (codes "NextPartNumberMarker") (next_part_element_number items))
    ++ number_element (codes "MaxParts") max
    ++ truth_element (codes "IsTruncated") truncated

unfoldable pub parts_body : List ℕ → List ℕ → ℕ → ℕ → ℕ → List PartItem → Bool → List ℕ
parts_body bucket key id marker max items truncated =
    declaration
    ++ root (codes "ListPartsResult")
    ++ upload_place bucket key id
    ++ initiator
    ++ owner
    ++ storage_class
    ++ parts_asked marker max items truncated
    ++ flat_map part_element items
    ++ end_of (codes "ListPartsResult")

-- where an object is: the path of its bucket and key
abbrev pub place_text : List ℕ → List ℕ → List ℕ
place_text bucket key = codes "/" ++ bucket ++ codes "/" ++ escaped_path key

unfoldable pub completed_body : List ℕ → List ℕ → List ℕ → List ℕ
completed_body bucket key etag =
    declaration
    ++ root (codes "CompleteMultipartUploadResult")
    ++ element (codes "Location") (place_text bucket key)
    ++ element (codes "Bucket") bucket
    ++ element (codes "Key") key
    ++ etag_element etag
    ++ end_of (codes "CompleteMultipartUploadResult")

-- ---- many keys

-- a key that was deleted
unfoldable pub deleted_element : List ℕ → List ℕ
deleted_element key = codes "<Deleted>" ++ element (codes "Key") key ++ codes "</Deleted>"

-- the keys of a deletion in their order; a quiet one shows none
unfoldable pub deleted_body : List (List ℕ) → Bool → List ℕ
deleted_body keys quiet =
    declaration
    ++ root (codes "DeleteResult")
    ++ where_true (not quiet) (flat_map deleted_element keys)
    ++ end_of (codes "DeleteResult")

-- ---- copies

-- a part's copy and an object's have roots of their own
abbrev pub copied_body_root : Bool → List ℕ
copied_body_root true = codes "CopyPartResult"
copied_body_root false = codes "CopyObjectResult"

unfoldable pub copied_as : List ℕ → List ℕ → ℕ → List ℕ
copied_as name etag modified =
    declaration
    ++ root name
    ++ time_element (codes "LastModified") modified
    ++ etag_element etag
    ++ end_of name

abbrev pub copied_body : Bool → List ℕ → ℕ → List ℕ
copied_body part etag modified = copied_as (copied_body_root part) etag modified
