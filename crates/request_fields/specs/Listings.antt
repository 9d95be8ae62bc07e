-- What a listing of objects asks for, and the counts and texts that any listing may be given. Sources: Amazon S3 API Reference,
-- "ListObjects" and "ListObjectsV2"; the limits of counts and of texts, and the form of a token, are this profile's.
use Rattle.std.specs.Prelude.{ℕ, Bool, false, not, ◌&&◌, ◌||◌, nat_le, min, if◌then◌else◌, List, [], codes, bytes_eq, Option, Some, None, is_none}
use Rattle.std.specs.List.{list_all}
use Rattle.std.specs.Result.{result_ok}
use Rattle.hex.specs.Hex.{decode_of}
use Rattle.gate_base.specs.Ascii.{is_lower_hex}
use Rattle.gate_base.specs.declared.page.Pair.{Pair}
use Rattle.s3_machine.specs.declared.items.Asked.{Asked}
use Rattle.s3_machine.specs.Limits.{is_listing_text, most_items}
use Rattle.text_forms.specs.Numbers.{number_of}
use Rattle.request_fields.specs.Query.{is_asked, text_at}

-- ---- counts

abbrev pub up_to_greatest : Option ℕ → Option ℕ
up_to_greatest None = None
up_to_greatest (Some count) = if nat_le count 2147483647 then Some count else None

-- a count: 1 to 10 digits of a number up to the greatest of 31 bits
unfoldable pub count_of : List ℕ → Option ℕ
count_of text = up_to_greatest (number_of 10 text)

-- at most 1000, and 1000 where there is none
abbrev pub capped : Option ℕ → ℕ
capped None = most_items
capped (Some count) = min count most_items

-- how many items a listing may have, by the name that says so
abbrev pub most_by : List ℕ → List Pair → ℕ
most_by name query = capped (count_of (text_at name query))

abbrev pub most_keys : List Pair → ℕ
most_keys query = most_by (codes "max-keys") query

-- ---- tokens

abbrev pub listing_text : Option (List ℕ) → Option (List ℕ)
listing_text None = None
listing_text (Some text) = if is_listing_text text then Some text else None

-- the text behind which a listing goes on, in lower-case hexadecimal; none for every other text
unfoldable pub token_of : List ℕ → Option (List ℕ)
token_of text = if list_all is_lower_hex text then listing_text (result_ok (decode_of text)) else None

-- that of a query, if it has one
abbrev pub given_token : List Pair → Option (List ℕ)
given_token query = if is_asked query (codes "continuation-token") then token_of (text_at (codes "continuation-token") query) else None

-- ---- what is refused

-- the name is there with another value
abbrev pub has_other : List ℕ → List ℕ → List Pair → Bool
has_other name value query = is_asked query name && not (bytes_eq (text_at name query) value)

-- the name is there with a value that is neither `true` nor `false`
abbrev pub has_bad_flag : List ℕ → List Pair → Bool
has_bad_flag name query = has_other name (codes "true") query && has_other name (codes "false") query

-- the name is there with a value that is no count
abbrev pub has_bad_count : List ℕ → List Pair → Bool
has_bad_count name query = is_asked query name && is_none (count_of (text_at name query))

-- the name is there with a text that is longer than a key may be
abbrev pub has_bad_text : List ℕ → List Pair → Bool
has_bad_text name query = not (is_listing_text (text_at name query))

-- a continuation token that is none
abbrev pub has_bad_token : List Pair → Bool
has_bad_token query = is_asked query (codes "continuation-token") && is_none (given_token query)

-- a word or a count of another form
abbrev pub has_bad_word : List Pair → Bool
has_bad_word query =
    has_other (codes "list-type") (codes "2") query || has_other (codes "encoding-type") (codes "url") query
    || has_bad_flag (codes "fetch-owner") query || has_bad_count (codes "max-keys") query

-- a text that is too long
abbrev pub has_long_text : List Pair → Bool
has_long_text query =
    has_bad_text (codes "prefix") query || has_bad_text (codes "delimiter") query || has_bad_text (codes "marker") query
    || has_bad_text (codes "start-after") query || has_bad_text (codes "key-marker") query
    || has_bad_text (codes "upload-id-marker") query

-- ---- what is asked

-- ListObjects
abbrev pub first_asked : List Pair → Asked
first_asked query = record {
  version = 1;
  prefix = text_at (codes "prefix") query;
  delimiter = text_at (codes "delimiter") query;
  marker = text_at (codes "marker") query;
  start_after = [];
  token = None;
  max = most_keys query;
  url = is_asked query (codes "encoding-type");
  owner = false;
  versions = false;
}

-- ListObjectsV2
abbrev pub second_asked : List Pair → Asked
second_asked query = record {
  version = 2;
  prefix = text_at (codes "prefix") query;
  delimiter = text_at (codes "delimiter") query;
  marker = [];
  start_after = text_at (codes "start-after") query;
  token = given_token query;
  max = most_keys query;
  url = is_asked query (codes "encoding-type");
  owner = bytes_eq (text_at (codes "fetch-owner") query) (codes "true");
  versions = false;
}
