-- The state that the running form represents.
use Rattle.std.specs.Prelude.{ℕ, Bool, true, false, ◌&&◌, ◌||◌, cond, not, bytes_eq, is_some, nat_lt, List, [], ◌∷◌, flat_map, length, map, Option, Some, None}
use Rattle.std.specs.List.{list_all}
use Rattle.std.specs.Option.{option_map_or}
use Rattle.std.specs.FinMap.{get, insert, remove}
use Rattle.gate_base.specs.Maps.{Names, Numbers}
use Rattle.s3_machine.specs.declared.code.Code.{Code}
use Rattle.s3_machine.specs.declared.code.Code.TheVariants.{EntityTooSmall, InvalidPart, InvalidPartOrder}
use Rattle.s3_machine.specs.declared.items.Item.{Item}
use Rattle.s3_machine.specs.declared.items.ItemHead.{ItemHead}
use Rattle.s3_machine.specs.declared.items.UploadItem.{UploadItem}
use Rattle.s3_machine.specs.declared.operation.Listed.{Listed}
use Rattle.s3_native.specs.declared.native.Native.TheInside as native
use Rattle.s3_native.specs.declared.native.NativeBucket.TheInside as bucket
use Rattle.s3_native.specs.declared.native.NativeObject.TheInside as object
use Rattle.s3_native.specs.declared.upload.NativePart.TheInside as part
use Rattle.s3_native.specs.declared.upload.NativeUpload.TheInside as upload
use Rattle.s3_native.specs.declared.kept.NativeKept.TheInside as kept
use Rattle.s3_machine.specs.State.{Object, Part, Upload, Completion, Bucket, Machine}
use Rattle.s3_machine.specs.Step.{item_of}
use Rattle.s3_machine.specs.Uploads.{bytes_in, etag_listed, id_value, rises, upload_etag}

abbrev pub object_of : object.Inside → Object
object_of o = record { bytes = o.bytes; etag = o.etag; content_type = o.content_type; meta = o.meta; modified = o.modified }

abbrev pub part_of : part.Inside → Part
part_of p = record { bytes = p.bytes; etag = p.etag; modified = p.modified }

abbrev pub upload_of : upload.Inside → Upload
upload_of u = record { key = u.key; content_type = u.content_type; meta = u.meta; started = u.started; parts = u.parts }

abbrev pub kept_of : kept.Inside → Completion
kept_of c = record { key = c.key; list = c.list; etag = c.etag; started = c.started; moment = c.moment }

abbrev pub bucket_of : bucket.Inside → Bucket
bucket_of b = record { created = b.created; acl = b.acl; objects = b.objects; uploads = b.uploads; kept = b.kept }

abbrev pub machine_of : native.Inside → Machine
machine_of n = record { settings = n.settings; state = n.buckets }

-- ---- the parts that a completion lists

-- a part is there with its ETag
abbrev pub has_part : Numbers Part → Listed → Bool
has_part parts l = option_map_or (λ p. bytes_eq p.etag l.etag) (get parts l.number) false

abbrev pub has_all : Numbers Part → List Listed → Bool
has_all parts list = list_all (has_part parts) list

-- its bytes, or none
abbrev pub bytes_at : Numbers Part → Listed → List ℕ
bytes_at parts l = option_map_or bytes_in (get parts l.number) []

abbrev pub listed_bytes : Numbers Part → List Listed → List ℕ
listed_bytes parts list = flat_map (bytes_at parts) list

-- it has fewer bytes than the least
abbrev pub is_small_at : Numbers Part → ℕ → Listed → Bool
is_small_at parts least l = option_map_or (λ p. nat_lt (length p.bytes) least) (get parts l.number) false

-- one that isn't the last has
abbrev pub is_small_list : Numbers Part → ℕ → List Listed → Bool
is_small_list parts least [] = false
is_small_list parts least (l ∷ rest) = (nat_lt 0 (length rest) && is_small_at parts least l) || is_small_list parts least rest

-- the object that the parts of a list become, and what is kept of the completion
abbrev pub joined_by : Upload → List Listed → ℕ → Object
joined_by u list moment = record {
  bytes = listed_bytes u.parts list;
  etag = upload_etag (map etag_listed list);
  content_type = u.content_type;
  meta = u.meta;
  modified = moment;
}

abbrev pub kept_by : Upload → List Listed → ℕ → Completion
kept_by u list moment = record { key = u.key; list = list; etag = upload_etag (map etag_listed list); started = u.started; moment = moment }

-- the code with which a completion by a list is refused, if it is
abbrev pub refuses : ℕ → Numbers Part → List Listed → Option Code
refuses least parts list =
    cond (not (rises list)) (Some InvalidPartOrder)
    (cond (not (has_all parts list)) (Some InvalidPart) (cond (is_small_list parts least list) (Some EntityTooSmall) None))

-- a bucket once an upload was completed
abbrev pub closed : List ℕ → List ℕ → Object → Completion → Bucket → Bucket
closed key id object kept b = record b { objects = insert b.objects key object; uploads = remove b.uploads id; kept = insert b.kept id kept }

-- ---- listings

-- what stands under a text, by whether it rolled up
abbrev pub under : Bool → ItemHead → Option ItemHead
under true head = None
under false head = Some head

-- a row added, unless its text is there
abbrev pub added : {X : Type 0} → List ℕ × X → Names X → Names X
added row rows = cond (is_some (get rows row.0)) rows (insert rows row.0 row.1)

-- what a listing tells of an upload
abbrev pub upload_item : List ℕ → Upload → UploadItem
upload_item id u = record { key = u.key; id = id_value id; started = u.started }

-- rows as the items of a reply
abbrev pub shown : List (List ℕ × Option ItemHead) × Bool → List Item × Bool
shown listed = (map item_of listed.0, listed.1)
