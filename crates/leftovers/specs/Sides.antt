-- Which containers stand beside a bucket, by their names. Source: this profile.
use Rattle.std.specs.Prelude.{◌-◌, ℕ, Bool, ◌&&◌, bytes_eq, cond, List, length, take, Option, None, Some}
use Rattle.s3_names.specs.Bucket.{is_bucket}
use Rattle.upload_records.specs.Layout.{uploads_name, segments_name}
use Rattle.leftovers.specs.declared.sides.Kind.{Kind}
use Rattle.leftovers.specs.declared.sides.Kind.TheVariants.{Records, Segments}

-- a container beside a bucket: that of its records, or that of its segments
pub data Side : Type 0 where
  beside_records : List ℕ → Side
  beside_segments : List ℕ → Side

-- the name without the last n bytes
abbrev pub without_last : ℕ → List ℕ → List ℕ
without_last n name = take (length name - n) name

abbrev pub is_uploads_of : List ℕ → List ℕ → Bool
is_uploads_of bucket name = is_bucket bucket && bytes_eq name (uploads_name bucket)

abbrev pub is_segments_of : List ℕ → List ℕ → Bool
is_segments_of bucket name = is_bucket bucket && bytes_eq name (segments_name bucket)

-- which one a name is, if it is one
abbrev pub side_of : List ℕ → Option Side
side_of name =
    cond (is_uploads_of (without_last 8 name) name) (Some (beside_records (without_last 8 name)))
    (cond (is_segments_of (without_last 9 name) name) (Some (beside_segments (without_last 9 name))) None)

-- ---- each of the two kinds

-- the container beside a bucket
abbrev pub folder_beside : Kind → List ℕ → List ℕ
folder_beside Records bucket = uploads_name bucket
folder_beside Segments bucket = segments_name bucket

abbrev pub side_by : Kind → List ℕ → Side
side_by Records bucket = beside_records bucket
side_by Segments bucket = beside_segments bucket

-- how many bytes stand behind the bucket's name in it
abbrev pub suffix_length : Kind → ℕ
suffix_length Records = 8
suffix_length Segments = 9

abbrev pub is_side_of : Kind → List ℕ → List ℕ → Bool
is_side_of Records bucket name = is_uploads_of bucket name
is_side_of Segments bucket name = is_segments_of bucket name

-- the bucket beside which a container of this name stands, if it is one of these
abbrev pub bucket_beside : Kind → List ℕ → Option (List ℕ)
bucket_beside kind name = cond (is_side_of kind (without_last (suffix_length kind) name) name) (Some (without_last (suffix_length kind) name)) None
