-- By how many calls an operation knows what it names, in the order of its calls. Source: this profile.
use Rattle.std.specs.Prelude.{ℕ, ◌+◌, Option, None, Some}

-- by how many calls an operation knows the buckets that it names; by how many the object that it is on, or the source of a copy; and by
-- how many that no object that it asks for is missing or refused by a condition, where that is told. The first call tells of the
-- bucket that it is in, and the second of its upload, where it is of one
pub record Shows : Type 0 where
  pub buckets : ℕ
  pub object : ℕ
  pub met : Option ℕ

-- it names one bucket
abbrev pub alone : Shows
alone = record { buckets = 1; object = 2; met = Some 2 }

-- and then that of a source, and then what stands under its own key, if that is asked by so many calls
abbrev pub with_source : ℕ → Shows
with_source asks = record { buckets = 2; object = 3; met = Some (3 + asks) }

-- and before it an upload
abbrev pub in_upload_with_source : Shows
in_upload_with_source = record { buckets = 3; object = 4; met = Some 4 }

-- it names one bucket, and then an upload, whose parts are listed before what stands under its key is asked
abbrev pub in_upload : Shows
in_upload = record { buckets = 1; object = 2; met = None }
