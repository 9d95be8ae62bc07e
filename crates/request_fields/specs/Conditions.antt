-- The conditions of a GET or a HEAD, and those of a copy on its source. Sources: RFC 9110, sections 8.8.3 (entity tags), 13.1.1 to
-- 13.1.4 (If-Match, If-None-Match, If-Modified-Since, If-Unmodified-Since) and 5.6.7 (dates); Amazon S3 API Reference, "CopyObject"
-- and "UploadPartCopy"; that tags stand with quotes or without them, and are compared without the `W/` of a weak one, is this
-- profile's.
use Rattle.std.specs.Prelude.{ℕ, Bool, ◌==◌, ◌-◌, nat_eq, if◌then◌else◌, List, map, take, drop, length, codes, bytes_eq, Option}
use Rattle.std.specs.List.{prefix_len, suffix_len, slice_split, starts_with}
use Rattle.httpdate.specs.Date.{parse_secs}
use Rattle.gate_base.specs.declared.page.Pair.{Pair}
use Rattle.http_wire.specs.Closing.{is_comma}
use Rattle.http_wire.specs.Headers.{has_header, text_of}
use Rattle.text_forms.specs.Quotes.{without_quotes}
use Rattle.s3_machine.specs.declared.reading.ETags.{ETags}
use Rattle.s3_machine.specs.declared.reading.ETags.TheVariants.{Absent, Any, Listed}
use Rattle.s3_machine.specs.declared.reading.Conditions.{Conditions}

abbrev pub is_condition_space : ℕ → Bool
is_condition_space byte = byte == 32

-- the text without the spaces at its start, and without those at its end
abbrev pub behind_spaces : List ℕ → List ℕ
behind_spaces text = drop (prefix_len is_condition_space text) text

abbrev pub before_spaces : List ℕ → List ℕ
before_spaces text = take (length text - suffix_len is_condition_space text) text

-- the text without the `W/` of a weak tag
abbrev pub without_weak : List ℕ → List ℕ
without_weak text = if starts_with nat_eq text (codes "W/") then drop 2 text else text

-- the tag that stands between two commas
unfoldable pub etag_of : List ℕ → List ℕ
etag_of piece = without_quotes (without_weak (before_spaces (behind_spaces piece)))

-- the tags of a value, in order; `*` stands for all
unfoldable pub etags_of : List ℕ → ETags
etags_of value = if bytes_eq value (codes "*") then Any else Listed (map etag_of (slice_split is_comma value))

-- those of a request. Values of several headers are joined by a comma
abbrev pub given_etags : List ℕ → List Pair → ETags
given_etags name headers = if has_header name headers then etags_of (text_of name headers) else Absent

-- the moment of a date, in seconds since the beginning of 1970. A text that is no date of 1970 to 9999 in one of the three forms
-- counts as none, and so does a header that isn't there
unfoldable pub date_of : List ℕ → Option ℕ
date_of text = parse_secs text

abbrev pub given_date : List ℕ → List Pair → Option ℕ
given_date name headers = date_of (text_of name headers)

-- the conditions that headers of these names make
abbrev pub conditions_named : List ℕ → List ℕ → List ℕ → List ℕ → List Pair → Conditions
conditions_named matched unmatched modified unmodified headers = record {
  matched = given_etags matched headers;
  unmatched = given_etags unmatched headers;
  modified = given_date modified headers;
  unmodified = given_date unmodified headers;
}

abbrev pub given_conditions : List Pair → Conditions
given_conditions headers = conditions_named (codes "if-match") (codes "if-none-match") (codes "if-modified-since") (codes "if-unmodified-since") headers

-- those of a copy on its source
abbrev pub given_source_conditions : List Pair → Conditions
given_source_conditions headers =
    conditions_named
    (codes "x-amz-copy-source-if-match")
    (codes "x-amz-copy-source-if-none-match")
    (codes "x-amz-copy-source-if-modified-since")
    (codes "x-amz-copy-source-if-unmodified-since")
    headers
