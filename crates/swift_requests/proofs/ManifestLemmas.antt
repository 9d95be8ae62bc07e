-- The text of segments within the limits of a call: it may be written, and is no longer than a body may be.
use Rattle.std.proofs.Common.{◌≡◌, ℕ, ◌+◌, ◌*◌, ◌/◌, ◌%◌, ◌^◌, ◌<◌, ◌≤◌, Bool, true, false, ◌&&◌, cond, List, [], ◌∷◌, ◌++◌, length, map, All, arith, length-append}
use Rattle.std.specs.Prelude.{◌==◌, codes, decimal, nat_lt}
use Rattle.std.specs.Char.{digit_char}
use Rattle.std.specs.List.{list_all}
use Rattle.std.proofs.lemmas.Bool.{and_parts, and_from, le-leb, ltb-true, eqb-true}
use Rattle.std.proofs.lemmas.List.Elements.{All-head, All-tail, All-weaker}
use Rattle.std.proofs.lemmas.List.Sums.{list_all-from_AllPass}
use Rattle.json.specs.Print.{escape_byte, escape_letter, escape, quoted}
use Rattle.serde_json.specs.View.{items_of}
use Rattle.serde_json.specs.Written.{comma_if, compact_text, items_text}
use Rattle.slo_manifest.specs.Path.{path_of}
use Rattle.gate_base.specs.Ascii.{is_lower_hex}
use Rattle.slo_manifest.specs.Segments.{is_etag, is_filled, is_proper_entry, is_listable, is_segment, is_manifest}
use Rattle.slo_manifest.specs.Text.{entry_value, manifest_text}
use Rattle.slo_manifest.specs.declared.Segment.{Segment}
use Rattle.slo_manifest.specs.declared.manifest.Form.TheVariants.{Put}
use Rattle.swift_calls.specs.Step.{IsSegmentPlace, Fit}
use Rattle.swift_calls.specs.declared.calls.SwiftRequest.TheVariants.{PutManifest}
use Rattle.swift_replies.proofs.lemmas.Sizes.{decimal_size}

-- segments within the limits of a call have a text
pub manifest_fits : (segments : List Segment) → length segments ≤ 1000 → All IsSegmentPlace segments → is_manifest segments ≡ true
unfolding is_manifest
manifest_fits segments few all =
    and_from _ _ (le-leb (length segments) 1000 few)
    (list_all-from_AllPass is_segment segments (All-weaker IsSegmentPlace (λ s. is_segment s ≡ true) (λ s place. place.listable) segments all))

pub manifest_fit : (container name content_type : List ℕ) (meta : List (List ℕ)) (segments : List Segment) → Fit (PutManifest container name content_type meta segments)
    → is_manifest segments ≡ true
manifest_fit container name content_type meta segments fit = manifest_fits segments fit.4 fit.5

-- ---- sizes

byte_size : (x : ℕ) → length (escape_byte x) ≤ 6
unfolding escape_byte
byte_size x = by_tests (nat_lt 0 (escape_letter x)) (nat_lt x 32)
  where
    by_tests : (a b : Bool) → length (cond a (92 ∷ escape_letter x ∷ [])
        (cond b (92 ∷ 117 ∷ 48 ∷ 48 ∷ digit_char (x / 16) ∷ digit_char (x % 16) ∷ []) (x ∷ []))) ≤ 6
    by_tests true b = omega arith
    by_tests false true = omega arith
    by_tests false false = omega arith

escape_size : (text : List ℕ) → length (escape text) ≤ 6 * length text
escape_size [] = omega arith
escape_size (b ∷ text) = omega (arith, byte_size b, escape_size text, length-append (escape_byte b) (escape text))

quoted_size : (text : List ℕ) → length (quoted text) ≤ 6 * length text + 2
quoted_size text = omega (arith, escape_size text, length-append (escape text) (34 ∷ []))

comma_size : (later : Bool) → length (comma_if later) ≤ 1
comma_size true = omega arith
comma_size false = omega arith

-- one member more, and what follows it
member_size : (later : Bool) (key text rest : List ℕ)
    → length (comma_if later ++ (quoted key ++ 58 ∷ (text ++ rest))) ≤ 6 * length key + 4 + length text + length rest
member_size later key text rest =
    omega (
      arith,
      comma_size later,
      quoted_size key,
      length-append (comma_if later) (quoted key ++ 58 ∷ (text ++ rest)),
      length-append (quoted key) (58 ∷ (text ++ rest)),
      length-append text rest,
    )

segment_sizes : (s : Segment) → is_segment s ≡ true → (length s.etag ≡ 32) × (s.size < 2 ^ 63)
unfolding is_segment is_proper_entry is_etag
segment_sizes s is =
    let proper = (and_parts (is_proper_entry s.container s.name s.etag s.size) (is_listable s.container s.name s.size) is).0 in
    let parts = and_parts (is_filled s.container && is_filled s.name && is_etag s.etag) (nat_lt s.size (2 ^ 63)) proper in
    let tag = (and_parts (is_filled s.container && is_filled s.name) (is_etag s.etag) parts.0).1 in
    (eqb-true (length s.etag) 32 (and_parts (length s.etag == 32) (list_all is_lower_hex s.etag) tag).0, ltb-true s.size (2 ^ 63) parts.1)

path_size : (s : Segment) → IsSegmentPlace s → length (path_of s.container s.name) ≤ 1282
path_size s place = omega (arith, place.container.within, place.name.1.within, length-append s.container (47 ∷ s.name))

entry_size : (s : Segment) → IsSegmentPlace s → length (compact_text (entry_value Put s)) ≤ 8100
entry_size s place =
    let parts = segment_sizes s place.listable in
    let path = path_of s.container s.name in
    let third : List ℕ = comma_if true ++ (quoted (codes "size_bytes") ++ 58 ∷ (decimal s.size ++ 125 ∷ [])) in
    let second : List ℕ = comma_if true ++ (quoted (codes "path") ++ 58 ∷ (quoted path ++ third)) in
    omega (
      arith,
      member_size true (codes "size_bytes") (decimal s.size) (125 ∷ []),
      member_size true (codes "path") (quoted path) third,
      member_size false (codes "etag") (quoted s.etag) second,
      decimal_size s.size (omega (arith, parts.1)),
      quoted_size path,
      path_size s place,
      quoted_size s.etag,
      parts.0,
    )

items_size : (later : Bool) (segments : List Segment) → All IsSegmentPlace segments
    → length (items_text later (items_of (map (entry_value Put) segments))) ≤ 8101 * length segments + 1
items_size later [] all = omega arith
items_size later (s ∷ segments) all =
    let entry = compact_text (entry_value Put s) in
    let rest = items_text true (items_of (map (entry_value Put) segments)) in
    omega (
      arith,
      comma_size later,
      entry_size s (All-head IsSegmentPlace s segments all),
      items_size true segments (All-tail IsSegmentPlace s segments all),
      length-append (comma_if later) (entry ++ rest),
      length-append entry rest,
    )

-- the text is no longer than a body may be
pub text_size : (segments : List Segment) → length segments ≤ 1000 → All IsSegmentPlace segments → length (manifest_text Put segments) ≤ 16777216
unfolding manifest_text
text_size segments few all = omega (arith, items_size false segments all, few)
