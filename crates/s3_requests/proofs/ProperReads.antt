-- What is read of a request keeps the limits of an operation: what its listing asks for.
use Rattle.std.proofs.Common.{◌≡◌, ◌≤◌, ℕ, Bool, true, false, not, ◌||◌, cond, List, [], Option, Some, None, IfSome, refl, arith}
use Rattle.std.specs.Prelude.{codes}
use Rattle.std.specs.List.{list_all}
use Rattle.std.specs.Result.{result_ok}
use Rattle.hex.specs.Hex.{decode_of}
use Rattle.gate_base.specs.Ascii.{is_lower_hex}
use Rattle.gate_base.specs.declared.page.Pair.{Pair}
use Rattle.s3_machine.specs.Limits.{is_listing_text, most_items}
use Rattle.s3_machine.specs.Proper.{IsProperAsked, IsProperUploads}
use Rattle.request_fields.specs.Query.{is_asked, text_at}
use Rattle.request_fields.specs.Listings.{most_by, capped, count_of, listing_text, token_of, given_token, has_long_text, first_asked, second_asked}

-- ---- listings

abbrev Fits : List ℕ → Type 0
Fits text = is_listing_text text ≡ true

empty_fits : Fits []
unfolding is_listing_text
empty_fits = refl

text_fits : (text : List ℕ) → not (is_listing_text text) ≡ false → Fits text
text_fits text h = by_value (is_listing_text text) h
  where
    by_value : (b : Bool) → not b ≡ false → b ≡ true
    by_value true h = refl
    by_value false h = cc

listing_fits : (text : Option (List ℕ)) → IfSome (listing_text text) Fits
listing_fits None = tt
listing_fits (Some text) = by_test (is_listing_text text) refl
  where
    by_test : (b : Bool) → is_listing_text text ≡ b → IfSome (cond b (Some text) None) Fits
    by_test true e = e
    by_test false e = tt

if_fits : (b : Bool) (text : Option (List ℕ)) → IfSome text Fits → IfSome (cond b text None) Fits
if_fits true text h = h
if_fits false text h = tt

token_fits : (text : List ℕ) → IfSome (token_of text) Fits
unfolding token_of
token_fits text = if_fits (list_all is_lower_hex text) (listing_text (result_ok (decode_of text))) (listing_fits (result_ok (decode_of text)))

given_fits : (query : List Pair) → IfSome (given_token query) Fits
given_fits query =
    if_fits (is_asked query (codes "continuation-token")) (token_of (text_at (codes "continuation-token") query))
    (token_fits (text_at (codes "continuation-token") query))

few : (count : Option ℕ) → capped count ≤ most_items
few None = omega arith
few (Some count) = omega arith

or_parts : (a b : Bool) → (a || b) ≡ false → (a ≡ false) × (b ≡ false)
or_parts true b h = cc
or_parts false b h = (refl, h)

pub record FitsTexts (query : List Pair) : Type 0 where
  pub prefix : Fits (text_at (codes "prefix") query)
  pub delimiter : Fits (text_at (codes "delimiter") query)
  pub marker : Fits (text_at (codes "marker") query)
  pub start_after : Fits (text_at (codes "start-after") query)
  pub key_marker : Fits (text_at (codes "key-marker") query)
  pub id_marker : Fits (text_at (codes "upload-id-marker") query)

texts_fit : (query : List Pair) → has_long_text query ≡ false → FitsTexts query
texts_fit query h =
    let last = or_parts _ (not (is_listing_text (text_at (codes "upload-id-marker") query))) h in
    let fifth = or_parts _ (not (is_listing_text (text_at (codes "key-marker") query))) last.0 in
    let fourth = or_parts _ (not (is_listing_text (text_at (codes "start-after") query))) fifth.0 in
    let third = or_parts _ (not (is_listing_text (text_at (codes "marker") query))) fourth.0 in
    let first = or_parts _ (not (is_listing_text (text_at (codes "delimiter") query))) third.0 in
    record {
      prefix = text_fits _ first.0;
      delimiter = text_fits _ first.1;
      marker = text_fits _ third.1;
      start_after = text_fits _ fourth.1;
      key_marker = text_fits _ fifth.1;
      id_marker = text_fits _ last.1;
    }

pub first_proper : (query : List Pair) → has_long_text query ≡ false → IsProperAsked (first_asked query)
first_proper query h =
    let fit = texts_fit query h in
    record {
      prefix = fit.prefix;
      delimiter = fit.delimiter;
      marker = fit.marker;
      start_after = empty_fits;
      token = tt;
      few = few (count_of (text_at (codes "max-keys") query));
    }

pub second_proper : (query : List Pair) → has_long_text query ≡ false → IsProperAsked (second_asked query)
second_proper query h =
    let fit = texts_fit query h in
    record {
      prefix = fit.prefix;
      delimiter = fit.delimiter;
      marker = empty_fits;
      start_after = fit.start_after;
      token = given_fits query;
      few = few (count_of (text_at (codes "max-keys") query));
    }

-- ---- uploads

pub most_proper : (name : List ℕ) (query : List Pair) → most_by name query ≤ most_items
most_proper name query = few (count_of (text_at name query))

pub uploads_proper : (query : List Pair) → has_long_text query ≡ false → IsProperUploads (text_at (codes "prefix") query) (text_at (codes "key-marker") query) (text_at (codes "upload-id-marker") query) (most_by (codes "max-uploads") query)
uploads_proper query h =
    let fit = texts_fit query h in
    record {
      prefix = fit.prefix;
      key_marker = fit.key_marker;
      id_marker = fit.id_marker;
      few = most_proper (codes "max-uploads") query;
    }
