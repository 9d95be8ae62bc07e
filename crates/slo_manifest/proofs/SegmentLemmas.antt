-- What a segment that may be listed is, part by part.
use Rattle.std.proofs.Common.{◌≡◌, ℕ, ◌<◌, ◌≤◌, ◌^◌, true, false, not, ◌&&◌, ◌==◌, nat_le, nat_lt, List, [], ◌∷◌, length, arith, ltb-true, leb-true}
use Rattle.std.specs.List.{list_all, list_any}
use Rattle.std.specs.Str.{IsAscii, is_utf8}
use Rattle.std.proofs.lemmas.Bool.{and_parts, not-true}
use Rattle.std.proofs.lemmas.Bool.Decides.{nat_tests}
use Rattle.std.proofs.lemmas.Str.{is_utf8-from_IsUtf8, IsUtf8-from_ascii}
use Rattle.std.proofs.lemmas.Str.Ascii.{IsAscii-nil, IsAscii-cons}
use Rattle.gate_base.specs.Ascii.{is_slash}
use Rattle.gate_base.specs.Ascii.{is_lower_hex}
use Rattle.slo_manifest.specs.Segments.{is_etag, is_filled, is_proper_entry, is_listable, is_segment, is_manifest}
use Rattle.slo_manifest.specs.declared.Segment.{Segment}

digit_is_ascii : (byte : ℕ) → is_lower_hex byte ≡ true → byte < 128
digit_is_ascii byte h = grind (arith, nat_tests)

digits_are_ascii : (text : List ℕ) → list_all is_lower_hex text ≡ true → IsAscii text
digits_are_ascii [] h = IsAscii-nil
digits_are_ascii (byte ∷ rest) h =
    let both = and_parts (is_lower_hex byte) (list_all is_lower_hex rest) h in
    IsAscii-cons byte rest (digit_is_ascii byte both.0) (digits_are_ascii rest both.1)

etag_text_is_utf8 : (text : List ℕ) → is_etag text ≡ true → is_utf8 text ≡ true
unfolding is_etag
etag_text_is_utf8 text h = is_utf8-from_IsUtf8 text (IsUtf8-from_ascii text (digits_are_ascii text (and_parts (length text == 32) _ h).1))

pub record Parts (s : Segment) : Type 0 where
  pub proper : is_proper_entry s.container s.name s.etag s.size ≡ true
  pub etag : is_etag s.etag ≡ true
  pub small : s.size < 2 ^ 63
  pub some : 0 < s.size
  pub no_slash : list_any is_slash s.container ≡ false
  pub container : is_utf8 s.container ≡ true
  pub name : is_utf8 s.name ≡ true

pub parts_of : (s : Segment) → is_segment s ≡ true → Parts s
unfolding is_segment is_proper_entry is_listable
parts_of s h =
    let both = and_parts (is_proper_entry s.container s.name s.etag s.size) (is_listable s.container s.name s.size) h in
    let a = and_parts (is_filled s.container && is_filled s.name && is_etag s.etag) (nat_lt s.size (2 ^ 63)) both.0 in
    let b = and_parts (is_filled s.container && is_filled s.name) (is_etag s.etag) a.0 in
    let c = and_parts (nat_lt 0 s.size && not (list_any is_slash s.container) && is_utf8 s.container) (is_utf8 s.name) both.1 in
    let d = and_parts (nat_lt 0 s.size && not (list_any is_slash s.container)) (is_utf8 s.container) c.0 in
    let e = and_parts (nat_lt 0 s.size) (not (list_any is_slash s.container)) d.0 in
    record {
      proper = both.0;
      etag = b.1;
      small = ltb-true s.size (2 ^ 63) a.1;
      some = ltb-true 0 s.size e.0;
      no_slash = not-true (list_any is_slash s.container) e.1;
      container = d.1;
      name = c.1;
    }

pub container_is_utf8 : (s : Segment) → is_segment s ≡ true → is_utf8 s.container ≡ true
container_is_utf8 s h = (parts_of s h).container

pub name_is_utf8 : (s : Segment) → is_segment s ≡ true → is_utf8 s.name ≡ true
name_is_utf8 s h = (parts_of s h).name

pub etag_is_utf8 : (s : Segment) → is_segment s ≡ true → is_utf8 s.etag ≡ true
etag_is_utf8 s h = etag_text_is_utf8 s.etag (parts_of s h).etag

-- what a manifest lists is at most 1000 segments
pub manifest_parts : (segments : List Segment) → is_manifest segments ≡ true → (length segments ≤ 1000) × (list_all is_segment segments ≡ true)
unfolding is_manifest
manifest_parts segments h =
    let both = and_parts (nat_le (length segments) 1000) (list_all is_segment segments) h in
    (leb-true (length segments) 1000 both.0, both.1)
