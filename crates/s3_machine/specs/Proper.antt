-- The limits that an operation keeps. Source: this profile.
use Rattle.std.specs.Prelude.{◌≡◌, ◌<◌, ◌≤◌, ℕ, Bool, true, false, List, length, IfSome}
use Rattle.std.specs.List.{list_all}
use Rattle.gate_base.specs.declared.page.Pair.{Pair}
use Rattle.s3_names.specs.Bucket.{is_bucket}
use Rattle.s3_names.specs.Key.{is_key}
use Rattle.s3_machine.specs.declared.code.Code.{Code}
use Rattle.s3_machine.specs.declared.code.Code.TheVariants.{ServiceUnavailable, InconsistentStore}
use Rattle.s3_machine.specs.declared.buckets.BucketListing.{BucketListing}
use Rattle.s3_machine.specs.declared.items.Asked.{Asked}
use Rattle.s3_machine.specs.declared.operation.Listed.{Listed}
use Rattle.s3_machine.specs.declared.operation.Described.{Described}
use Rattle.s3_machine.specs.declared.reading.Range.{Range}
use Rattle.s3_machine.specs.declared.reading.Range.TheVariants.{FromTo, From, Last}
use Rattle.s3_machine.specs.Limits.{is_content_type, is_listing_text, is_proper_meta, most_body_bytes, most_buckets, most_items, most_keys, range_limit}
use Rattle.s3_machine.specs.Uploads.{most_parts}

-- a code by which a request is refused before it is answered: none for a store that failed or is inconsistent
abbrev pub is_store_fault : Code → Bool
is_store_fault ServiceUnavailable = true
is_store_fault InconsistentStore = true
is_store_fault code = false

abbrev pub IsProperCode : Code → Type 0
IsProperCode code = is_store_fault code ≡ false

-- a bucket's name and a key
pub record IsPlace (bucket key : List ℕ) : Type 0 where
  pub named : is_bucket bucket ≡ true
  pub keyed : is_key key ≡ true

-- what an object is put with
pub record IsProperContent (content_type : List ℕ) (meta : List Pair) (body : List ℕ) : Type 0 where
  pub typed : is_content_type content_type ≡ true
  pub described : is_proper_meta meta ≡ true
  pub sized : length body ≤ most_body_bytes

-- a range that a request can have: its numbers have at most 18 digits, and it doesn't end before it begins
abbrev pub IsProperRange : Range → Type 0
IsProperRange (FromTo first last) = (first ≤ last) × (last < range_limit)
IsProperRange (From first) = first < range_limit
IsProperRange (Last count) = count < range_limit

-- what a listing is asked for
pub record IsProperAsked (asked : Asked) : Type 0 where
  pub prefix : is_listing_text asked.prefix ≡ true
  pub delimiter : is_listing_text asked.delimiter ≡ true
  pub marker : is_listing_text asked.marker ≡ true
  pub start_after : is_listing_text asked.start_after ≡ true
  pub token : IfSome asked.token (λ text. is_listing_text text ≡ true)
  pub few : asked.max ≤ most_items

-- what buckets are listed by
pub record IsProperBuckets (asked : BucketListing) : Type 0 where
  pub prefix : is_listing_text asked.prefix ≡ true
  pub token : IfSome asked.token (λ text. is_listing_text text ≡ true)
  pub few : IfSome asked.max (λ max. (1 ≤ max) × (max ≤ most_buckets))

-- what uploads are listed by
pub record IsProperUploads (with_prefix key id : List ℕ) (max : ℕ) : Type 0 where
  pub prefix : is_listing_text with_prefix ≡ true
  pub key_marker : is_listing_text key ≡ true
  pub id_marker : is_listing_text id ≡ true
  pub few : max ≤ most_items

-- what a completion lists: at least one part, and no more than an upload has
pub record IsProperList (list : List Listed) : Type 0 where
  pub filled : 1 ≤ length list
  pub few : length list ≤ most_parts

-- what a deletion of many keys lists: at least one key, and at most as many as may be
pub record IsProperKeys (keys : List (List ℕ)) : Type 0 where
  pub filled : 1 ≤ length keys
  pub few : length keys ≤ most_keys
  pub keyed : list_all is_key keys ≡ true

-- what an object is described by
pub record IsProperDescribed (it : Described) : Type 0 where
  pub typed : is_content_type it.content_type ≡ true
  pub described : is_proper_meta it.meta ≡ true

-- the range of a part that is copied: its numbers have at most 18 digits, and it doesn't end before it begins
abbrev pub IsProperCopyRange : ℕ × ℕ → Type 0
IsProperCopyRange range = (range.0 ≤ range.1) × (range.1 < range_limit)
