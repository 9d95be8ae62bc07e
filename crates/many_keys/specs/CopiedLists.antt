-- The copy of an object whose file lists segments: how its bytes are cut, and what each call of the copy asks, tells and leaves.
-- Source: Object Storage API v1, "Static large objects"; Amazon S3 API Reference, "CopyObject"; and this profile.
use Rattle.std.specs.Prelude.{◌≡◌, ◌≤◌, ◌<◌, ◌==◌, ◌^◌, ◌+◌, ◌-◌, ℕ, zero, suc, min, Bool, true, false, ◌&&◌, cond, nat_eq, nat_le, nat_lt, List, [], ◌∷◌, ◌++◌, length, map, flat_map, drop, take, sum_by, Option, None, Some, Result, Ok, Err}
use Rattle.std.specs.List.{list_all}
use Rattle.std.specs.Option.{option_map, unwrap_or}
use Rattle.std.specs.FinMap.{get, insert}
use Rattle.gate_base.specs.Maps.{adjust, Names}
use Rattle.gate_base.specs.Told.{moment_limit}
use Rattle.s3_names.specs.Id.{id_digits, id_of}
use Rattle.s3_names.specs.Meta.{names_ascend}
use Rattle.s3_names.specs.declared.acl.Acl.{Acl}
use Rattle.s3_machine.specs.Copies.{copied}
use Rattle.s3_machine.specs.Limits.{is_content_type, is_proper_meta, most_body_bytes}
use Rattle.s3_machine.specs.State.{Object, Part, State}
use Rattle.s3_machine.specs.Step.{put_object}
use Rattle.s3_machine.specs.Proper.{IsPlace}
use Rattle.s3_machine.specs.Uploads.{greatest_part, most_parts, rises_from}
use Rattle.s3_machine.specs.declared.operation.ObjectHead.{ObjectHead}
use Rattle.s3_machine.specs.declared.operation.Described.{Described}
use Rattle.slo_manifest.specs.declared.Segment.{Segment}
use Rattle.swift_calls.specs.Account.{SwiftObject, SwiftAccount, files, find_object}
use Rattle.swift_calls.specs.Bodies.{etag_text, plain_bytes}
use Rattle.swift_calls.specs.declared.account.Content.TheVariants.{Plain, Segments}
use Rattle.swift_calls.specs.declared.calls.SwiftReply.{SwiftReply}
use Rattle.swift_calls.specs.declared.calls.SwiftReply.TheVariants.{Bytes}
use Rattle.swift_marks.specs.Tag.{is_etag}
use Rattle.upload_texts.specs.Sealed.{part_fits_sealed_text}
use Rattle.upload_texts.specs.declared.sealed.Sealed.{Sealed}
use Rattle.upload_texts.specs.declared.sealed.SealedPart.{SealedPart}
use Rattle.upload_records.specs.Layout.{segment_name, segments_name, sub_manifest_name}
use Rattle.upload_records.specs.Native.{IsSettled, listed_of, object_at, part_at, part_bytes, part_of, s3_state, sealed_bytes, sealed_object, sealed_segments, sub_manifests}
use Rattle.upload_records.specs.Consistent.{AreSealedParts, HasSubManifests, IsThere}
use Rattle.upload_records.specs.Laws.{IsAbandoned, IsNameUnder}
use Rattle.account_calls.specs.Answers.{listed_by, listed_in}
use Rattle.account_calls.specs.Calls.{HasObject, TellsBucket}
use Rattle.account_calls.specs.declared.fault.PlanFault.{PlanFault}
use Rattle.account_calls.specs.declared.fault.PlanFault.TheVariants.{Inconsistent}
use Rattle.upload_calls.specs.Listing.{digits_in}
use Rattle.many_keys.specs.Copies.{IsFoundSource, content_of}
use Rattle.many_keys.specs.declared.cut.Cut.{Cut}
use Rattle.many_keys.specs.declared.cut.Piece.{Piece}

-- ---- how a body is cut

-- the number that the last five digits of a segment's name write. Where no five digits stand there it is 0, which no part has
abbrev pub number_at : List ℕ → ℕ
number_at name = unwrap_or (digits_in (drop (length name - 5) name)) 0

-- the id that the first 32 bytes of a segment's name write. Where they write none it is 0
abbrev pub id_in : List ℕ → ℕ
id_in name = unwrap_or (id_of (take (min (length name) 32) name)) 0

-- the id of the first of these segments, and 0 where there is none
abbrev pub list_id : List Segment → ℕ
list_id [] = 0
list_id (s ∷ list) = id_in s.name

abbrev pub begins_with_m : List ℕ → Bool
begins_with_m [] = false
begins_with_m (b ∷ rest) = nat_eq b 109

-- whether a name is that of a sub-manifest, whose sixth byte from the end is `m`
unfoldable pub is_sub_name : List ℕ → Bool
is_sub_name name = begins_with_m (drop (length name - 6) name)

-- whether the first of these segments is a sub-manifest. All are then, for an object lists its parts or its sub-manifests
abbrev pub lists_subs : List Segment → Bool
lists_subs [] = false
lists_subs (s ∷ list) = is_sub_name s.name

-- how many sub-manifests are listed
abbrev pub subs_in : List Segment → ℕ
subs_in list = cond (lists_subs list) (length list) 0

abbrev pub subs_listed : SwiftAccount → List ℕ → List ℕ → ℕ
subs_listed tree bucket key = subs_in (listed_in (find_object tree bucket key))

-- what the first sub-manifests of an id list, in a row
unfoldable pub runs_listed : Names SwiftObject → List ℕ → ℕ → List Segment
runs_listed segments id zero = []
runs_listed segments id (suc n) = runs_listed segments id n ++ listed_in (get segments (sub_manifest_name id (n + 1)))

abbrev pub piece_of : Segment → Piece
piece_of s = record { number = number_at s.name; size = s.size }

abbrev pub cut_of : List Segment → List Piece
cut_of segments = map piece_of segments

-- a piece that may be a part: it isn't empty, and no greater than a body
abbrev pub is_piece_to_copy : Piece → Bool
is_piece_to_copy p = nat_le p.number greatest_part && (nat_le 1 p.size && nat_le p.size most_body_bytes)

-- the numbers ascend strictly, above this one
abbrev pub pieces_ascend_from : ℕ → List Piece → Bool
pieces_ascend_from above [] = true
pieces_ascend_from above (p ∷ cut) = nat_lt above p.number && pieces_ascend_from p.number cut

abbrev pub size_of_cut : List Piece → ℕ
size_of_cut cut = sum_by (λ (p : Piece). p.size) cut

-- pieces that make so many bytes: at least one, no more than an object has parts, and with numbers that ascend
unfoldable pub is_cut : ℕ → List Piece → Bool
is_cut size cut = nat_le 1 (length cut) && (nat_le (length cut) most_parts && (list_all is_piece_to_copy cut && (pieces_ascend_from 0 cut && (size_of_cut cut == size))))

-- the pieces of an object of so many bytes
abbrev pub cut_by : Bool → ℕ → List Piece → Result Cut PlanFault
cut_by true id pieces = Ok (record { id = id; pieces = pieces })
cut_by false id pieces = Err Inconsistent

-- the file of this name lists these segments
pub record ListsSegments (folder name : List ℕ) (tree : SwiftAccount) (told : List Segment) : Type 0 where
  pub file : SwiftObject
  pub there : find_object tree folder name ≡ Some file
  pub own : file.content ≡ Segments told

-- the object has this ETag and this size, and its file lists these segments
pub record HasListed (bucket key etag : List ℕ) (size : ℕ) (listed : List Segment) (tree : SwiftAccount) : Type 0 where
  pub object : HasObject bucket key etag size (s3_state tree)
  pub lists : ListsSegments bucket key tree listed

-- the first sub-manifests of an id are there
pub record IsSubHere (segments : Names SwiftObject) (id : List ℕ) (n : ℕ) : Type 0 where
  pub file : SwiftObject
  pub listed : List Segment
  pub there : get segments (sub_manifest_name id (n + 1)) ≡ Some file
  pub own : file.content ≡ Segments listed

abbrev pub HasSubs : List ℕ → ℕ → ℕ → SwiftAccount → Type 0
HasSubs bucket id count tree = (n : ℕ) → n < count → IsSubHere (files tree (segments_name bucket)) (id_digits id) n

-- the pieces of what the sub-manifest of this number, counted from 0, lists
abbrev pub TellsSub : List ℕ → ℕ → ℕ → SwiftAccount → List Segment → Type 0
TellsSub bucket id n tree told = told ≡ listed_in (get (files tree (segments_name bucket)) (sub_manifest_name (id_digits id) (n + 1)))

-- the pieces of what the first of them list
abbrev pub TellsRuns : List ℕ → ℕ → ℕ → SwiftAccount → List Piece → Type 0
TellsRuns bucket id count tree told = told ≡ cut_of (runs_listed (files tree (segments_name bucket)) (id_digits id) count)

-- ---- the files that the pieces are

-- the own bytes of a file that may be there
abbrev pub plain_in : Option SwiftObject → List ℕ
plain_in None = []
plain_in (Some file) = unwrap_or (plain_bytes file.content) []

-- the file of a piece, by the text of the id: it has as many bytes as the piece
pub record IsPieceHere (segments : Names SwiftObject) (id : List ℕ) (p : Piece) : Type 0 where
  pub file : SwiftObject
  pub bytes : List ℕ
  pub there : get segments (segment_name id p.number) ≡ Some file
  pub own : file.content ≡ Plain bytes
  pub size : length bytes ≡ p.size

abbrev pub ArePiecesHere : Names SwiftObject → List ℕ → List Piece → Type 0
ArePiecesHere segments id [] = Unit {0}
ArePiecesHere segments id (p ∷ cut) = IsPieceHere segments id p × ArePiecesHere segments id cut

-- the bytes of a piece, and of pieces in a row
abbrev pub piece_bytes : Names SwiftObject → List ℕ → Piece → List ℕ
piece_bytes segments id p = plain_in (get segments (segment_name id p.number))

abbrev pub cut_bytes : Names SwiftObject → List ℕ → List Piece → List ℕ
cut_bytes segments id cut = flat_map (piece_bytes segments id) cut

-- the files of the pieces are there and make the object's bytes in a row; and so many segments and sub-manifests are listed for them
pub record TellsCut (bucket key : List ℕ) (tree : SwiftAccount) (cut : Cut) : Type 0 where
  pub counted : listed_by tree bucket key ≡ length cut.pieces + sub_manifests (length cut.pieces)
  pub asked : subs_listed tree bucket key ≡ sub_manifests (length cut.pieces)
  pub here : ArePiecesHere (files tree (segments_name bucket)) (id_digits cut.id) cut.pieces
  pub bytes : (o : Object) → object_at (get (s3_state tree) bucket) key ≡ Some o → cut_bytes (files tree (segments_name bucket)) (id_digits cut.id) cut.pieces ≡ o.bytes

-- ---- one piece

-- the file of the piece is there
abbrev pub HasPiece : List ℕ → ℕ → Piece → SwiftAccount → Type 0
HasPiece bucket id piece tree = IsPieceHere (files tree (segments_name bucket)) (id_digits id) piece

-- these are its bytes
abbrev pub TellsPiece : List ℕ → ℕ → Piece → SwiftAccount → List ℕ → Type 0
TellsPiece bucket id piece tree told = told ≡ piece_bytes (files tree (segments_name bucket)) (id_digits id) piece

-- GET of a file with bytes of its own, of which there are so many
abbrev pub piece_due : ℕ → SwiftReply → Result (List ℕ) PlanFault
piece_due size (Bytes head body) = cond (length body == size) (Ok body) (Err Inconsistent)
piece_due size reply = Err Inconsistent

-- the bucket is there, and nothing names the segments of the id
pub record IsUnnamed (bucket : List ℕ) (id : ℕ) (tree : SwiftAccount) : Type 0 where
  pub there : IsThere tree bucket
  pub abandoned : IsAbandoned tree bucket (id_digits id)

-- a file that isn't one of the id beside the bucket
abbrev pub IsOther : List ℕ → List ℕ → List ℕ → List ℕ → Type 0
IsOther bucket id folder name = folder ≡ segments_name bucket → IsNameUnder id name → ⊥

-- each such file stayed
abbrev pub KeepsOthers : List ℕ → List ℕ → SwiftAccount → SwiftAccount → Type 0
KeepsOthers bucket id old new = (folder name : List ℕ) → IsOther bucket id folder name → find_object new folder name ≡ find_object old folder name

-- the id of the copy isn't that of the source, where both have their segments in one container
abbrev pub IsApart : List ℕ → ℕ → List ℕ → ℕ → Type 0
IsApart bucket id from_bucket from_id = segments_name from_bucket ≡ segments_name bucket → id_digits from_id ≡ id_digits id → ⊥

-- the segments of a source may be copied
pub record MayCopy (bucket : List ℕ) (id : ℕ) (from_bucket : List ℕ) (from_id : ℕ) (cut : List Piece) (tree : SwiftAccount) : Type 0 where
  pub unnamed : IsUnnamed bucket id tree
  pub apart : IsApart bucket id from_bucket from_id
  pub here : ArePiecesHere (files tree (segments_name from_bucket)) (id_digits from_id) cut

-- and one of them
pub record MayCopyPiece (bucket : List ℕ) (id : ℕ) (from_bucket : List ℕ) (from_id : ℕ) (piece : Piece) (tree : SwiftAccount) : Type 0 where
  pub unnamed : IsUnnamed bucket id tree
  pub here : HasPiece from_bucket from_id piece tree

-- the part of these bytes
pub record IsPartOf (number : ℕ) (bytes : List ℕ) (p : SealedPart) : Type 0 where
  pub number_is : p.number ≡ number
  pub etag : p.etag ≡ etag_text bytes
  pub size : p.size ≡ length bytes

-- the part is told where the store has the file
abbrev pub told_due : SealedPart → Result (Unit {0}) PlanFault → Result SealedPart PlanFault
told_due part (Ok done) = Ok part
told_due part (Err f) = Err f

abbrev pub modified_in : Part → ℕ
modified_in p = p.modified

-- a segment of the id was put with these bytes at this moment, and nothing else beside the bucket is another
pub record PutsSegment (bucket : List ℕ) (id number : ℕ) (bytes : List ℕ) (moment : ℕ) (old new : SwiftAccount) (told : SealedPart) : Type 0 where
  pub settled : IsSettled new
  pub unnamed : IsUnnamed bucket id new
  pub part : IsPartOf number bytes told
  pub file : SwiftObject
  pub own : file.content ≡ Plain bytes
  pub reads : part_bytes (part_of file) ≡ bytes
  pub dated : option_map modified_in (part_of file) ≡ Some moment
  pub holds : files new (segments_name bucket) ≡ insert (files old (segments_name bucket)) (segment_name (id_digits id) number) file
  pub others : KeepsOthers bucket (id_digits id) old new

-- and these were bytes of the source
pub record CopiesPiece (bucket : List ℕ) (id : ℕ) (from_bucket : List ℕ) (from_id : ℕ) (piece : Piece) (moment : ℕ) (old new : SwiftAccount) (told : SealedPart) : Type 0 where
  pub bytes : List ℕ
  pub tells : TellsPiece from_bucket from_id piece old bytes
  pub puts : PutsSegment bucket id piece.number bytes moment old new told

-- ---- all of them

-- a part for each piece
abbrev pub piece_in : SealedPart → Piece
piece_in p = record { number = p.number; size = p.size }

pub record AreOfCut (cut : List Piece) (list : List SealedPart) : Type 0 where
  pub pieces : map piece_in list ≡ cut
  pub proper : list_all part_fits_sealed_text list ≡ true

-- each of these parts was put at this moment
abbrev pub AreDated : Names SwiftObject → List ℕ → ℕ → List SealedPart → Type 0
AreDated segments id moment [] = Unit {0}
AreDated segments id moment (p ∷ list) = (option_map modified_in (part_at segments id p.number) ≡ Some moment) × AreDated segments id moment list

-- the first pieces of the source stand beside the bucket, as the parts of this list, put at this moment
pub record CopiesFirst (bucket : List ℕ) (id : ℕ) (from_bucket : List ℕ) (from_id : ℕ) (first : List Piece) (moment : ℕ) (old new : SwiftAccount) (list : List SealedPart) : Type 0 where
  pub settled : IsSettled new
  pub unnamed : IsUnnamed bucket id new
  pub parts : AreSealedParts (files new (segments_name bucket)) (id_digits id) list
  pub dated : AreDated (files new (segments_name bucket)) (id_digits id) moment list
  pub bytes : sealed_bytes (files new (segments_name bucket)) (id_digits id) list ≡ cut_bytes (files old (segments_name from_bucket)) (id_digits from_id) first
  pub others : KeepsOthers bucket (id_digits id) old new

-- ---- the copy

-- what is put as the copy, under a new id: with the source's ETag, and as of the moment of the copy
abbrev pub sealed_copy : List ℕ → List ℕ → ℕ → Option Described → ObjectHead → List SealedPart → ℕ → Sealed
sealed_copy bucket key id replaced head list moment = record {
  bucket = bucket;
  key = key;
  id = id;
  content_type = (content_of replaced head.content_type head.meta).content_type;
  meta = (content_of replaced head.content_type head.meta).meta;
  list = list;
  etag = head.etag;
  started = moment;
  moment = moment;
}

-- it keeps the limits of a completed object. Its list may be empty, where the source is
pub record IsCopy (s : Sealed) : Type 0 where
  pub place : IsPlace s.bucket s.key
  pub fits : s.id < 2 ^ 128
  pub typed : is_content_type s.content_type ≡ true
  pub described : is_proper_meta s.meta ≡ true
  pub ordered : names_ascend s.meta ≡ true
  pub etag : is_etag s.etag ≡ true
  pub of_parts : 32 < length s.etag
  pub few : length s.list ≤ most_parts
  pub proper : list_all part_fits_sealed_text s.list ≡ true
  pub ascends : rises_from 0 (map listed_of s.list) ≡ true
  pub started : s.started < moment_limit
  pub dated : s.moment < moment_limit

-- the parts of the copy and its first sub-manifests stand beside its bucket, and nothing names them yet
pub record HasCopied (s : Sealed) (n : ℕ) (tree : SwiftAccount) : Type 0 where
  pub unnamed : IsUnnamed s.bucket s.id tree
  pub parts : AreSealedParts (files tree (segments_name s.bucket)) (id_digits s.id) s.list
  pub subs : HasSubManifests (files tree (segments_name s.bucket)) (id_digits s.id) (sealed_segments s) n

-- they do after calls that leave its bytes
pub record LeavesCopied (s : Sealed) (n : ℕ) (old new : SwiftAccount) (done : Unit {0}) : Type 0 where
  pub settled : IsSettled new
  pub copied : HasCopied s n new
  pub same : sealed_bytes (files new (segments_name s.bucket)) (id_digits s.id) s.list ≡ sealed_bytes (files old (segments_name s.bucket)) (id_digits s.id) s.list

-- and it is the copy of the source
pub record HasCopy (from_bucket from_key : List ℕ) (replaced : Option Described) (s : Sealed) (n : ℕ) (tree : SwiftAccount) : Type 0 where
  pub stands : HasCopied s n tree
  pub object : Object
  pub found : object_at (get (s3_state tree) from_bucket) from_key ≡ Some object
  pub same : sealed_object (files tree (segments_name s.bucket)) s ≡ copied replaced s.moment object

-- the copy of the source is put
pub record CopiesObject (bucket key from_bucket from_key : List ℕ) (replaced : Option Described) (moment : ℕ) (done : Unit {0}) (old new : State) : Type 0 where
  pub object : Object
  pub found : object_at (get old from_bucket) from_key ≡ Some object
  pub made : new ≡ adjust bucket (put_object key (copied replaced moment object)) old

-- ---- the plan

-- a new id was found for the copy of an object without a byte
pub record MayFill (bucket : List ℕ) (acl : Acl) (id : ℕ) (from_bucket from_key : List ℕ) (head : ObjectHead) (tree : SwiftAccount) : Type 0 where
  pub unnamed : IsUnnamed bucket id tree
  pub found : IsFoundSource bucket acl from_bucket from_key head (s3_state tree)

-- the list of the source's segments was read
pub record HasCut (bucket : List ℕ) (acl : Acl) (from_bucket from_key : List ℕ) (head : ObjectHead) (cut : Cut) (tree : SwiftAccount) : Type 0 where
  pub found : IsFoundSource bucket acl from_bucket from_key head (s3_state tree)
  pub told : TellsCut from_bucket from_key tree cut

-- and a new id was found for the copy
pub record MayFillCut (bucket : List ℕ) (acl : Acl) (id : ℕ) (from_bucket from_key : List ℕ) (head : ObjectHead) (cut : Cut) (tree : SwiftAccount) : Type 0 where
  pub unnamed : IsUnnamed bucket id tree
  pub apart : IsApart bucket id from_bucket cut.id
  pub has : HasCut bucket acl from_bucket from_key head cut tree

-- the copy may be put, whose first sub-manifests are there
pub record MayPut (acl : Acl) (from_bucket from_key : List ℕ) (replaced : Option Described) (s : Sealed) (n : ℕ) (tree : SwiftAccount) : Type 0 where
  pub listed : TellsBucket s.bucket (s3_state tree) (Some acl)
  pub copy : HasCopy from_bucket from_key replaced s n tree
