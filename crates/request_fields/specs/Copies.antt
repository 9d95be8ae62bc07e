-- What the headers say of the source of a copy. Sources: Amazon S3 API Reference, "CopyObject" and "UploadPartCopy". That no version of a
-- source can be named, and a condition on it in the extended profile alone, which texts name a source, and the limits of ranges are this
-- profile's.
use Rattle.std.specs.Prelude.{ℕ, Bool, true, false, not, ◌&&◌, ◌||◌, ◌==◌, nat_eq, if◌then◌else◌, List, [], ◌∷◌, length, codes, bytes_eq}
use Rattle.std.specs.Prelude.{Option, Some, None, is_none, option_map, option_and_then, Result, Ok, Err}
use Rattle.std.specs.List.{list_any, starts_with, before_first, after_first}
use Rattle.gate_base.specs.Ascii.{is_slash}
use Rattle.gate_base.specs.declared.page.Pair.{Pair}
use Rattle.s3_names.specs.declared.fault.NameFault.{NameFault}
use Rattle.s3_names.specs.Bucket.{is_bucket}
use Rattle.s3_names.specs.Escapes.{decoded}
use Rattle.s3_names.specs.Key.{is_key}
use Rattle.s3_names.specs.Target.{is_question}
use Rattle.s3_machine.specs.declared.reading.Range.{Range}
use Rattle.s3_machine.specs.declared.reading.Range.TheVariants.{FromTo, From, Last}
use Rattle.http_wire.specs.Headers.{has_header, text_of}
use Rattle.request_fields.specs.declared.copies.Source.{Source}
use Rattle.request_fields.specs.Conditions.{given_source_conditions}
use Rattle.request_fields.specs.Ranges.{range_of}

-- some header names a source
abbrev pub names_source : List Pair → Bool
names_source headers = has_header (codes "x-amz-copy-source") headers

-- ---- what this profile doesn't have

-- the text that names the source
abbrev pub copy_source_text : List Pair → List ℕ
copy_source_text headers = text_of (codes "x-amz-copy-source") headers

-- a condition on the source
abbrev pub is_source_condition : Pair → Bool
is_source_condition header = starts_with nat_eq header.name (codes "x-amz-copy-source-if-")

-- one that the extended profile has
abbrev pub is_extended_condition : Pair → Bool
is_extended_condition header =
    bytes_eq header.name (codes "x-amz-copy-source-if-match") || bytes_eq header.name (codes "x-amz-copy-source-if-none-match")
    || bytes_eq header.name (codes "x-amz-copy-source-if-modified-since") || bytes_eq header.name (codes "x-amz-copy-source-if-unmodified-since")

-- one that isn't taken
abbrev pub is_untaken_condition : Bool → Pair → Bool
is_untaken_condition extended header = is_source_condition header && not (extended && is_extended_condition header)

-- a version of the source, or a condition on it that isn't taken
abbrev pub asks_further : Bool → List Pair → Bool
asks_further extended headers = list_any is_question (copy_source_text headers) || list_any (is_untaken_condition extended) headers

-- ---- the source

-- the text without one `/` at its start
abbrev pub without_slash : List ℕ → List ℕ
without_slash [] = []
without_slash (byte ∷ text) = if is_slash byte then text else byte ∷ text

-- the bucket up to the first `/` and the key behind it. Both are UTF-8 without byte 0, so a text that isn't has none
abbrev pub place_in : List ℕ → Option (List ℕ × List ℕ)
place_in text =
    if is_bucket (before_first is_slash text) && is_key (after_first is_slash text)
    then Some (before_first is_slash text, after_first is_slash text)
    else None

abbrev pub place_decoded : Result (List ℕ) NameFault → Option (List ℕ × List ℕ)
place_decoded (Ok text) = place_in text
place_decoded (Err fault) = None

-- the bucket and the key that a text names: it is decoded first and split after
unfoldable pub place_named : List ℕ → Option (List ℕ × List ℕ)
place_named text = place_decoded (decoded (without_slash text))

-- ---- what is copied of it

abbrev pub directive : List Pair → List ℕ
directive headers = text_of (codes "x-amz-metadata-directive") headers

-- the content type and the metadata of the request replace those of the source
abbrev pub replaces : List Pair → Bool
replaces headers = bytes_eq (directive headers) (codes "REPLACE")

-- a word other than `COPY` and `REPLACE`; without one they are copied
abbrev pub has_bad_directive : List Pair → Bool
has_bad_directive headers =
    has_header (codes "x-amz-metadata-directive") headers && not (replaces headers) && not (bytes_eq (directive headers) (codes "COPY"))

abbrev pub from_to : Range → Option (ℕ × ℕ)
from_to (FromTo first last) = Some (first, last)
from_to (From first) = None
from_to (Last count) = None

-- the first byte and the last that a part is copied from; without a range it is copied from the whole source
abbrev pub copied_range : List Pair → Option (ℕ × ℕ)
copied_range headers = option_and_then from_to (range_of (text_of (codes "x-amz-copy-source-range") headers))

-- the place of a source, with what is copied of it
abbrev pub source_at : List Pair → List ℕ × List ℕ → Source
source_at headers place = record {
  bucket = place.0;
  key = place.1;
  range = copied_range headers;
  replaces = replaces headers;
  conditions = given_source_conditions headers;
}
