-- Whose the buckets of an account are, where several writers share it. Source: this profile.
use Rattle.std.specs.Prelude.{ℕ, nat_eq, Bool, true, false, cond, List, [], ◌∷◌, bytes_eq, Option, Some, None}
use Rattle.std.specs.List.{starts_with}
use Rattle.std.specs.Option.{option_map_or}
use Rattle.s3_names.specs.declared.share.ShareRow.{ShareRow}
use Rattle.s3_names.specs.declared.share.ShareTable.{ShareTable}

-- the bucket is the one that the row names, or begins as it says
abbrev pub fits : ShareRow → List ℕ → Bool
fits row bucket = cond row.is_prefix (starts_with nat_eq bucket row.pattern) (bytes_eq bucket row.pattern)

-- the owner of a bucket: that of the first row that it fits
unfoldable pub owner_of : List ℕ → List ShareRow → Option (List ℕ)
owner_of bucket [] = None
owner_of bucket (row ∷ rows) = cond (fits row bucket) (Some row.owner) (owner_of bucket rows)

-- a writer has the buckets whose owner it is; without a table it has each
abbrev pub has_bucket : Option ShareTable → List ℕ → Bool
has_bucket None bucket = true
has_bucket (Some share) bucket = option_map_or (bytes_eq share.owner) (owner_of bucket share.rows) false
