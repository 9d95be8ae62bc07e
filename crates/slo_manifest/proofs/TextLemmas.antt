-- The text of a manifest is UTF-8, and is read as the JSON that it was written for.
use Rattle.std.proofs.Common.{◌≡◌, ◌<◌, ◌≤◌, ◌^◌, true, false, List, [], ◌∷◌, map, codes, Option, Some, option_map, option_and_then, IsUtf8, decimal, refl, sym, ap, ◌∙◌, arith, append-nil}
use Rattle.std.specs.List.{list_all}
use Rattle.std.proofs.lemmas.Bool.{and_parts}
use Rattle.std.proofs.lemmas.Str.{IsUtf8-append, IsUtf8-from_ascii, IsUtf8-from_is_utf8}
use Rattle.std.proofs.lemmas.Fmt.{IsAscii-decimal}
use Rattle.json.specs.Lex.{tokens}
use Rattle.json.specs.Json as json
use Rattle.json.specs.Token.{Token}
use Rattle.json.specs.Tree as tree
use Rattle.json.proofs.Printed.Utf8.{IsUtf8-are_ascii}
use Rattle.json.proofs.Printed.Tokens.{tokens-print}
use Rattle.json.proofs.Printed.Trees.{value-json_tokens, ArePrintable-json_tokens}
use Rattle.json.proofs.Printed.Decimals.{IsNumber-decimal}
use Rattle.serde_json.specs.Data.{Data, array, Items}
use Rattle.serde_json.specs.View.{items_of}
use Rattle.serde_json.specs.Read.{of_json, of_items, read, max_depth}
use Rattle.serde_json.specs.Written.{outline, items_outline, has_float, items_have_float, compact_text}
use Rattle.serde_json.proofs.Numbers.{number_of-decimal}
use Rattle.serde_json.proofs.Texts.{print-outline}
use Rattle.slo_manifest.specs.Segments.{is_segment, is_manifest}
use Rattle.slo_manifest.specs.Path.{path_of}
use Rattle.slo_manifest.specs.Text.{entry_value, manifest_value, manifest_text}
use Rattle.slo_manifest.specs.Manifest.{json_of}
use Rattle.slo_manifest.specs.declared.Segment.{Segment}
use Rattle.slo_manifest.specs.declared.manifest.Form.{Form}
use Rattle.slo_manifest.specs.declared.manifest.Form.TheVariants.{Put, Got}
use Rattle.slo_manifest.proofs.SegmentLemmas.{parts_of, etag_is_utf8, manifest_parts}
use Rattle.slo_manifest.proofs.Utf8Lemmas.{AreTexts, ItemsAreTexts, behind, IsUtf8-compact_text}
use Rattle.slo_manifest.proofs.ReadLemmas.{json_read}

abbrev listed : Form → List Segment → Items
listed form segments = items_of (map (entry_value form) segments)

-- what is read, where it is all that there is
abbrev whole : Option (json.Json × List Token) → Option Data
whole found = option_and_then of_json (option_and_then (λ p. json.if_last p.0 p.1) found)

-- ---- no entry has a float

entry_has_no_float : (form : Form) (s : Segment) → has_float (entry_value form s) ≡ false
entry_has_no_float Put s = refl
entry_has_no_float Got s = refl

pub list_has_no_float : (form : Form) (segments : List Segment) → items_have_float (listed form segments) ≡ false
list_has_no_float form [] = refl
list_has_no_float form (s ∷ rest) = rw (entry_has_no_float form s) (list_has_no_float form rest)

-- ---- the JSON of an entry

fits : (s : Segment) → is_segment s ≡ true → s.size < 2 ^ 64
fits s h = let parts = parts_of s h in omega (arith, parts.small)

entry_reads : (form : Form) (s : Segment) → is_segment s ≡ true → of_json (outline (entry_value form s)) ≡ Some (entry_value form s)
entry_reads Put s h = rw (number_of-decimal s.size (fits s h)) refl
entry_reads Got s h = rw (number_of-decimal s.size (fits s h)) refl

list_reads : (form : Form) (segments : List Segment) → list_all is_segment segments ≡ true → of_items (items_outline (listed form segments)) ≡ Some (listed form segments)
list_reads form [] h = refl
list_reads form (s ∷ rest) h =
    let both = and_parts (is_segment s) (list_all is_segment rest) h in
    rw (entry_reads form s both.0, list_reads form rest both.1) refl

entry_numbers : (form : Form) (s : Segment) → is_segment s ≡ true → tree.HasNumbers (outline (entry_value form s))
entry_numbers Put s h = (tt, (tt, (IsNumber-decimal s.size (fits s h), tt)))
entry_numbers Got s h = (IsNumber-decimal s.size (fits s h), (tt, (tt, (tt, (tt, tt)))))

list_numbers : (form : Form) (segments : List Segment) → list_all is_segment segments ≡ true → tree.ItemsHaveNumbers (items_outline (listed form segments))
list_numbers form [] h = tt
list_numbers form (s ∷ rest) h =
    let both = and_parts (is_segment s) (list_all is_segment rest) h in
    (entry_numbers form s both.0, list_numbers form rest both.1)

entry_depth : (form : Form) (s : Segment) → tree.depth (outline (entry_value form s)) ≡ 1
entry_depth Put s = refl
entry_depth Got s = refl

list_depth : (form : Form) (segments : List Segment) → tree.items_depth (items_outline (listed form segments)) ≤ 1
list_depth form [] = omega arith
list_depth form (s ∷ rest) =
    let first = entry_depth form s in
    let later = list_depth form rest in
    omega arith

-- ---- the text

utf8_path : (s : Segment) → is_segment s ≡ true → IsUtf8 (path_of s.container s.name)
utf8_path s h =
    let parts = parts_of s h in
    behind 47 _ refl (IsUtf8-append s.container _ (IsUtf8-from_is_utf8 s.container parts.container) (behind 47 s.name refl (IsUtf8-from_is_utf8 s.name parts.name)))

utf8_etag : (s : Segment) → is_segment s ≡ true → IsUtf8 s.etag
utf8_etag s h = IsUtf8-from_is_utf8 s.etag (etag_is_utf8 s h)

utf8_size : (s : Segment) → is_segment s ≡ true → IsUtf8 (decimal s.size)
utf8_size s h = IsUtf8-from_ascii (decimal s.size) (IsAscii-decimal s.size (fits s h))

entry_texts : (form : Form) (s : Segment) → is_segment s ≡ true → AreTexts (entry_value form s)
entry_texts Put s h = (
  IsUtf8-are_ascii (codes "etag") refl,
  utf8_etag s h,
  (
    IsUtf8-are_ascii (codes "path") refl,
    utf8_path s h,
    (IsUtf8-are_ascii (codes "size_bytes") refl, utf8_size s h, tt),
  ),
)
entry_texts Got s h = (
  IsUtf8-are_ascii (codes "bytes") refl,
  utf8_size s h,
  (
    IsUtf8-are_ascii (codes "content_type") refl,
    IsUtf8-are_ascii (codes "application/octet-stream") refl,
    (
      IsUtf8-are_ascii (codes "hash") refl,
      utf8_etag s h,
      (
        IsUtf8-are_ascii (codes "last_modified") refl,
        IsUtf8-are_ascii (codes "1970-01-01T00:00:00.000000") refl,
        (IsUtf8-are_ascii (codes "name") refl, utf8_path s h, tt),
      ),
    ),
  ),
)

list_texts : (form : Form) (segments : List Segment) → list_all is_segment segments ≡ true → ItemsAreTexts (listed form segments)
list_texts form [] h = tt
list_texts form (s ∷ rest) h =
    let both = and_parts (is_segment s) (list_all is_segment rest) h in
    (entry_texts form s both.0, list_texts form rest both.1)

text_reads : (form : Form) (segments : List Segment) → list_all is_segment segments ≡ true → read (compact_text (manifest_value form segments)) ≡ Some (manifest_value form segments)
text_reads form segments h =
    let value = manifest_value form segments in
    let spelled : tokens (compact_text value) ≡ tree.json_tokens (outline value) =
    ap tokens (sym (print-outline value)) ∙ tokens-print (tree.json_tokens (outline value)) (ArePrintable-json_tokens (outline value) (list_numbers form segments h)) in
    let shallow : tree.depth (outline value) ≤ max_depth = omega (arith, list_depth form segments) in
    ap whole (ap (json.value max_depth) (spelled ∙ sym (append-nil (tree.json_tokens (outline value)))) ∙ value-json_tokens (outline value) max_depth [] shallow)
    ∙ ap (option_map array) (list_reads form segments h)

-- the text of a manifest is the JSON that it was written for
pub json_of-manifest_text : (form : Form) (segments : List Segment) → is_manifest segments ≡ true → json_of (manifest_text form segments) ≡ Some (manifest_value form segments)
unfolding manifest_text
json_of-manifest_text form segments h =
    let each = (manifest_parts segments h).1 in
    json_read (compact_text (manifest_value form segments)) (manifest_value form segments)
    (IsUtf8-compact_text (manifest_value form segments) (list_texts form segments each)) (text_reads form segments each)
