-- The limits of what an object is put with, and of what is asked for. Source: Amazon S3 User Guide, "Working with object metadata", and RFC 9110,
-- section 5.6.2, for tokens; the numbers are this profile's.
use Rattle.std.specs.Prelude.{ℕ, Bool, false, None, ◌&&◌, ◌||◌, ◌==◌, ◌+◌, nat_le, min, if◌then◌else◌, List, length, drop, slice_get, sum_by, codes, bytes_eq}
use Rattle.std.specs.List.{list_all, list_any}
use Rattle.std.specs.Option.{option_map_or}
use Rattle.gate_base.specs.Fields.{is_field, is_printable}
use Rattle.gate_base.specs.declared.page.Pair.{Pair}
use Rattle.s3_names.specs.Bucket.{is_lower_or_digit}
use Rattle.s3_names.specs.Key.{is_key}
use Rattle.s3_machine.specs.declared.operation.Settings.{Settings}
use Rattle.s3_machine.specs.declared.limits.TheConstants.{MOST_BODY_BYTES, MOST_BUCKETS, MOST_CONTENT_TYPE_BYTES, MOST_ENTRIES, MOST_ITEMS, MOST_KEYS, MOST_META_BYTES, RANGE_LIMIT}

-- the most bytes of the body of any request
abbrev pub most_body_bytes : ℕ
most_body_bytes = MOST_BODY_BYTES

-- the most bytes of a body, and of a part that is copied, in a run
abbrev pub body_limit : Settings → ℕ
body_limit settings = min settings.largest_body most_body_bytes

-- the settings of the strict profile
abbrev pub strict_settings : List ℕ → ℕ → ℕ → Settings
strict_settings region least_part largest_body = record {
  region = region;
  least_part = least_part;
  largest_body = largest_body;
  extended = false;
  any_region = false;
  domain = None;
  share = None;
}

-- 1 to 256 bytes of visible ASCII and spaces, without a space at either end
unfoldable pub is_content_type : List ℕ → Bool
is_content_type text = is_field MOST_CONTENT_TYPE_BYTES text

-- visible ASCII and spaces, or nothing
unfoldable pub is_meta_value : List ℕ → Bool
is_meta_value value = list_all is_printable value

-- the bytes of a token, but for the upper-case letters
abbrev pub is_lower_token_byte : ℕ → Bool
is_lower_token_byte byte = is_lower_or_digit byte || list_any (λ symbol. symbol == byte) (codes "!#$%&'*+-.^_`|~")

-- a name of the user's own begins with `-`
abbrev pub is_own_name : List ℕ → Bool
is_own_name name = option_map_or (λ byte. byte == 45) (slice_get name 0) false

-- the headers of HTTP that are kept with an object
abbrev pub is_kept_header : List ℕ → Bool
is_kept_header name =
    bytes_eq name (codes "cache-control") || bytes_eq name (codes "content-disposition") || bytes_eq name (codes "content-encoding")
    || bytes_eq name (codes "content-language") || bytes_eq name (codes "expires")

-- `-` and the lower-case bytes of a token, of which there may be none; or the name of a kept header
unfoldable pub is_meta_name : List ℕ → Bool
is_meta_name name = (is_own_name name && list_all is_lower_token_byte (drop 1 name)) || is_kept_header name

-- the name without the `-` before it
abbrev pub bare_name : List ℕ → List ℕ
bare_name name = if is_own_name name then drop 1 name else name

abbrev pub pair_bytes : Pair → ℕ
pair_bytes pair = length (bare_name pair.name) + length pair.value

abbrev pub is_proper_pair : Pair → Bool
is_proper_pair pair = is_meta_name pair.name && is_meta_value pair.value

-- at most 64 entries, and at most 2048 bytes of names and values
unfoldable pub is_proper_meta : List Pair → Bool
is_proper_meta meta = nat_le (length meta) MOST_ENTRIES && list_all is_proper_pair meta && nat_le (sum_by pair_bytes meta) MOST_META_BYTES

-- the most items of a listing
abbrev pub most_items : ℕ
most_items = MOST_ITEMS

-- the most buckets that a page of them may be asked for
abbrev pub most_buckets : ℕ
most_buckets = MOST_BUCKETS

-- the most keys of one deletion of many keys
abbrev pub most_keys : ℕ
most_keys = MOST_KEYS

-- the least number of more than 18 digits
abbrev pub range_limit : ℕ
range_limit = RANGE_LIMIT

-- a text of a listing, as its prefix or its delimiter: nothing, or what a key may be
unfoldable pub is_listing_text : List ℕ → Bool
is_listing_text text = length text == 0 || is_key text
