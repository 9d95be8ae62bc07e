-- What the query of a request for an upload in parts says. Sources: Amazon S3 API Reference, "UploadPart", "ListParts" and
-- "ListMultipartUploads"; the limits of counts, and that a part's number has at most 9 digits, are this profile's. The id of an upload is the
-- text that is given: one of another form is no upload's.
use Rattle.std.specs.Prelude.{ℕ, Bool, ◌&&◌, ◌||◌, nat_le, if◌then◌else◌, List, codes, Option, Some, None, is_none}
use Rattle.std.specs.Option.{unwrap_or}
use Rattle.gate_base.specs.declared.page.Pair.{Pair}
use Rattle.s3_machine.specs.declared.limits.TheConstants.{GREATEST_PART_NUMBER}
use Rattle.request_fields.specs.Listings.{count_of, has_bad_count}
use Rattle.text_forms.specs.Numbers.{number_of}
use Rattle.request_fields.specs.Query.{is_asked, text_at}

-- the id of the upload
abbrev pub given_upload : List Pair → List ℕ
given_upload query = text_at (codes "uploadId") query

-- ---- the number of a part

abbrev pub of_part : Option ℕ → Option ℕ
of_part None = None
of_part (Some number) = if nat_le 1 number && nat_le number GREATEST_PART_NUMBER then Some number else None

-- 1 to 9 digits of a number that a part may have
unfoldable pub part_of : List ℕ → Option ℕ
part_of text = of_part (number_of 9 text)

-- that of a query; a query without a proper one is refused before it counts
abbrev pub given_part_number : List Pair → ℕ
given_part_number query = unwrap_or (part_of (text_at (codes "partNumber") query)) 1

-- the number behind which the parts are listed, and 0 where there is none
abbrev pub given_part_marker : List Pair → ℕ
given_part_marker query = unwrap_or (count_of (text_at (codes "part-number-marker") query)) 0

-- ---- what is refused

abbrev pub has_bad_part : List Pair → Bool
has_bad_part query = is_asked query (codes "partNumber") && is_none (part_of (text_at (codes "partNumber") query))

-- a number of another form
abbrev pub has_bad_number : List Pair → Bool
has_bad_number query =
    has_bad_part query || has_bad_count (codes "max-uploads") query || has_bad_count (codes "max-parts") query
    || has_bad_count (codes "part-number-marker") query
