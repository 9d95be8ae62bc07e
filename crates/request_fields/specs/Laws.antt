-- What the laws of this crate say of definitions.
use Rattle.std.specs.Prelude.{◌≡◌, ◌↔◌, ℕ, true, List, ◌++◌, codes, Contains, Some}
use Rattle.hex.specs.Hex.{encode_lower, IsBytes}
use Rattle.gate_base.specs.declared.page.Pair.{Pair}
use Rattle.s3_names.specs.Bucket.{is_bucket}
use Rattle.s3_names.specs.Escapes.{StandsFor}
use Rattle.s3_names.specs.Key.{is_key}
use Rattle.s3_names.specs.Meta.{names_ascend}
use Rattle.s3_machine.specs.declared.reading.Range.{Range}
use Rattle.s3_machine.specs.Limits.{is_listing_text}
use Rattle.request_fields.specs.Content.{is_given_meta_entry, meta_entry_name, given_meta}
use Rattle.request_fields.specs.Copies.{without_slash, place_named}
use Rattle.request_fields.specs.Listings.{token_of}
use Rattle.request_fields.specs.Ranges.{AsksFor, range_of}
use Rattle.http_wire.specs.Headers.{text_of}

-- the entry that a header makes: its value is the text of all headers of the header's name
abbrev pub entry_of : List Pair → Pair → Pair
entry_of headers header = record { name = meta_entry_name header.name; value = text_of header.name headers }

-- a header of the list makes this entry
pub record Makes (headers : List Pair) (entry : Pair) : Type 0 where
  pub header : Pair
  pub given : Contains headers header
  pub makes : is_given_meta_entry header.name ≡ true
  pub is : entry ≡ entry_of headers header

-- the metadata of headers: its names ascend, so that none stands twice, and an entry is in it exactly where a header makes it
pub record HasMade (headers meta : List Pair) : Type 0 where
  pub ascends : names_ascend meta ≡ true
  pub made : (entry : Pair) → Contains meta entry → Makes headers entry
  pub whole : (entry : Pair) → Makes headers entry → Contains meta entry

abbrev pub GivenMeta : Type 0
GivenMeta = (headers : List Pair) → HasMade headers (given_meta headers)

-- a value of Range is read as a range exactly where it asks for it
abbrev pub RangeAsked : Type 0
RangeAsked = (text : List ℕ) (range : Range) → (range_of text ≡ Some range) ↔ AsksFor text range

-- the text, without one `/` at its start, stands for a bucket, a `/` and a key
pub record Names (text bucket key : List ℕ) : Type 0 where
  pub named : is_bucket bucket ≡ true
  pub keyed : is_key key ≡ true
  pub stands : StandsFor (without_slash text) (bucket ++ codes "/" ++ key)

-- a text is read as a bucket and a key exactly where it names them
abbrev pub SourceNamed : Type 0
SourceNamed = (text bucket key : List ℕ) → (place_named text ≡ Some (bucket, key)) ↔ Names text bucket key

-- the token that a reply prints for a text is read as the text
abbrev pub TokenReturns : Type 0
TokenReturns = (text : List ℕ) → IsBytes text → is_listing_text text ≡ true → token_of (encode_lower text) ≡ Some text
