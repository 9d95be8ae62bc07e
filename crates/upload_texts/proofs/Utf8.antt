-- What has a text is UTF-8 in each of its parts.
use Rattle.std.proofs.Common.{◌≡◌, ℕ, ◌<◌, ◌≤◌, Bool, true, false, List, [], ◌∷◌, length, take, drop, codes, decimal, refl, sym, ap, subst, ◌∙◌, arith, leb-true}
use Rattle.std.specs.Prelude.{◌&&◌, ◌||◌, ◌==◌, ◌⊎◌, bytes_eq}
use Rattle.std.specs.List.{list_all}
use Rattle.std.specs.Str.{IsAscii, is_utf8}
use Rattle.std.proofs.Common.{inl, inr}
use Rattle.std.proofs.lemmas.Bool.{and_parts, or_cases}
use Rattle.std.proofs.lemmas.Bool.Decides.{nat_tests}
use Rattle.std.proofs.lemmas.Fmt.{IsAscii-decimal}
use Rattle.std.proofs.lemmas.List.{take-append-drop}
use Rattle.std.proofs.lemmas.Slice.Eq.{bytes_eq-Decides}
use Rattle.std.proofs.lemmas.Str.{IsAscii-append, IsUtf8-from_ascii, is_utf8-from_IsUtf8}
use Rattle.std.proofs.lemmas.Str.Ascii.{IsAscii-nil, IsAscii-cons}
use Rattle.json.proofs.Printed.Utf8.{are_ascii, IsUtf8-are_ascii}
use Rattle.gate_base.specs.declared.page.Pair.{Pair}
use Rattle.gate_base.specs.Fields.{is_printable}
use Rattle.s3_names.specs.Bucket.{is_bucket}
use Rattle.gate_base.specs.Ascii.{is_lower_hex}
use Rattle.s3_names.specs.Id.{id_digits}
use Rattle.s3_names.specs.Key.{is_key}
use Rattle.s3_names.specs.Text.{is_text}
use Rattle.s3_names.proofs.lemmas.BucketLemmas.{bucket_is_ascii}
use Rattle.s3_names.proofs.lemmas.Ids.{id_has_digits}
use Rattle.s3_names.proofs.lemmas.KeyLemmas.{text_is_utf8}
use Rattle.s3_machine.specs.Limits.{is_content_type, is_lower_token_byte, is_meta_name, is_meta_value, is_own_name, is_kept_header, is_proper_pair}
use Rattle.s3_machine.specs.declared.operation.Listed.{Listed}
use Rattle.slo_manifest.specs.Segments.{is_etag}
use Rattle.swift_marks.specs.Number.{number_of}
use Rattle.swift_marks.specs.Tag as mark
use Rattle.upload_texts.specs.Places.{part_number_fits_record_text}
use Rattle.upload_texts.specs.Records.{part_fits_record_text}
use Rattle.upload_texts.specs.Sealed.{part_fits_sealed_text}
use Rattle.upload_texts.specs.declared.sealed.SealedPart.{SealedPart}

-- bytes of which each passes a test that only ASCII passes
ascii_by : (test : ℕ → Bool) → ((byte : ℕ) → test byte ≡ true → byte < 128) → (text : List ℕ) → list_all test text ≡ true → IsAscii text
ascii_by test small [] h = IsAscii-nil
ascii_by test small (byte ∷ text) h =
    let both = and_parts (test byte) (list_all test text) h in
    IsAscii-cons byte text (small byte both.0) (ascii_by test small text both.1)

utf8_by : (test : ℕ → Bool) → ((byte : ℕ) → test byte ≡ true → byte < 128) → (text : List ℕ) → list_all test text ≡ true → is_utf8 text ≡ true
utf8_by test small text h = is_utf8-from_IsUtf8 text (IsUtf8-from_ascii text (ascii_by test small text h))

printable_small : (byte : ℕ) → is_printable byte ≡ true → byte < 128
printable_small byte h = grind (arith, nat_tests)

hex_small : (byte : ℕ) → is_lower_hex byte ≡ true → byte < 128
hex_small byte h = grind (arith, nat_tests)

token_small : (byte : ℕ) → is_lower_token_byte byte ≡ true → byte < 128
token_small byte h = grind (arith, nat_tests)

pub key_is_utf8 : (key : List ℕ) → is_key key ≡ true → is_utf8 key ≡ true
unfolding is_key
key_is_utf8 key h = is_utf8-from_IsUtf8 key (text_is_utf8 key (and_parts _ (is_text key) h).1)

pub bucket_is_utf8 : (bucket : List ℕ) → is_bucket bucket ≡ true → is_utf8 bucket ≡ true
bucket_is_utf8 bucket h = is_utf8-from_IsUtf8 bucket (IsUtf8-from_ascii bucket (bucket_is_ascii bucket h))

pub type_is_utf8 : (text : List ℕ) → is_content_type text ≡ true → is_utf8 text ≡ true
unfolding is_content_type
type_is_utf8 text h =
    let a = (and_parts _ _ h).0 in
    let b = (and_parts _ _ a).0 in
    utf8_by is_printable printable_small text (and_parts _ (list_all is_printable text) b).1

-- ---- metadata

own_is_ascii : (name : List ℕ) → is_own_name name ≡ true → list_all is_lower_token_byte (drop 1 name) ≡ true → IsAscii name
own_is_ascii [] own h = IsAscii-nil
own_is_ascii (byte ∷ name) own h = IsAscii-cons byte name (grind (arith, nat_tests)) (ascii_by is_lower_token_byte token_small name h)

-- a name that is one of these
named : (name is : List ℕ) → bytes_eq name is ≡ true → are_ascii is ≡ true → is_utf8 name ≡ true
named name is same h = ap is_utf8 ((bytes_eq-Decides name is).0 same) ∙ is_utf8-from_IsUtf8 is (IsUtf8-are_ascii is h)

kept_is_utf8 : (name : List ℕ) → is_kept_header name ≡ true → is_utf8 name ≡ true
kept_is_utf8 name h = last (or_cases _ (bytes_eq name (codes "expires")) h)
  where
    first : (bytes_eq name (codes "cache-control") ≡ true) ⊎ (bytes_eq name (codes "content-disposition") ≡ true) → is_utf8 name ≡ true
    first (inl same) = named name (codes "cache-control") same refl
    first (inr same) = named name (codes "content-disposition") same refl

    second : ((bytes_eq name (codes "cache-control") || bytes_eq name (codes "content-disposition")) ≡ true) ⊎ (bytes_eq name (codes "content-encoding") ≡ true) → is_utf8 name ≡ true
    second (inl one) = first (or_cases _ _ one)
    second (inr same) = named name (codes "content-encoding") same refl

    third : ((bytes_eq name (codes "cache-control") || bytes_eq name (codes "content-disposition") || bytes_eq name (codes "content-encoding")) ≡ true)
        ⊎ (bytes_eq name (codes "content-language") ≡ true) → is_utf8 name ≡ true
    third (inl one) = second (or_cases _ (bytes_eq name (codes "content-encoding")) one)
    third (inr same) = named name (codes "content-language") same refl

    last : ((bytes_eq name (codes "cache-control") || bytes_eq name (codes "content-disposition") || bytes_eq name (codes "content-encoding") || bytes_eq name (codes "content-language")) ≡ true)
        ⊎ (bytes_eq name (codes "expires") ≡ true) → is_utf8 name ≡ true
    last (inl one) = third (or_cases _ (bytes_eq name (codes "content-language")) one)
    last (inr same) = named name (codes "expires") same refl

name_by : (name : List ℕ) (own kept : Bool) → (is_own_name name && list_all is_lower_token_byte (drop 1 name)) ≡ own → is_kept_header name ≡ kept → (own || kept) ≡ true → is_utf8 name ≡ true
name_by name true kept own is h =
    let both = and_parts (is_own_name name) (list_all is_lower_token_byte (drop 1 name)) own in
    is_utf8-from_IsUtf8 name (IsUtf8-from_ascii name (own_is_ascii name both.0 both.1))
name_by name false true own is h = kept_is_utf8 name is
name_by name false false own is h = cc

pub name_is_utf8 : (pair : Pair) → is_proper_pair pair ≡ true → is_utf8 pair.name ≡ true
unfolding is_meta_name
name_is_utf8 pair h = name_by pair.name _ _ refl refl (and_parts (is_meta_name pair.name) (is_meta_value pair.value) h).0

pub value_is_utf8 : (pair : Pair) → is_proper_pair pair ≡ true → is_utf8 pair.value ≡ true
unfolding is_meta_value
value_is_utf8 pair h = utf8_by is_printable printable_small pair.value (and_parts (is_meta_name pair.name) (is_meta_value pair.value) h).1

-- ---- ETags and ids

etag_is_utf8 : (etag : List ℕ) → is_etag etag ≡ true → is_utf8 etag ≡ true
unfolding is_etag
etag_is_utf8 etag h = utf8_by is_lower_hex hex_small etag (and_parts (length etag == 32) _ h).1

pub kept_etag_is_utf8 : (l : Listed) → part_fits_record_text l ≡ true → is_utf8 l.etag ≡ true
kept_etag_is_utf8 l h = etag_is_utf8 l.etag (and_parts (part_number_fits_record_text l.number) (is_etag l.etag) h).1

pub sealed_etag_is_utf8 : (p : SealedPart) → part_fits_sealed_text p ≡ true → is_utf8 p.etag ≡ true
sealed_etag_is_utf8 p h = etag_is_utf8 p.etag (and_parts (part_number_fits_record_text p.number) (is_etag p.etag) (and_parts _ _ h).0).1

suffix_is_ascii : (suffix : List ℕ) → mark.is_parts_suffix suffix ≡ true → IsAscii suffix
suffix_is_ascii [] h = IsAscii-nil
suffix_is_ascii (byte ∷ count) h =
    let both = and_parts (byte == 45) (mark.is_part_count count) h in
    let counted = and_parts _ (bytes_eq count (decimal (number_of count))) both.1 in
    let few : number_of count ≤ 10000 = leb-true (number_of count) 10000 (and_parts _ _ counted.0).1 in
    let is : count ≡ decimal (number_of count) = (bytes_eq-Decides count (decimal (number_of count))).0 counted.1 in
    IsAscii-cons byte count (grind (arith, nat_tests, both.0)) (subst IsAscii (sym is) (IsAscii-decimal (number_of count) (omega arith)))

pub mark_is_utf8 : (etag : List ℕ) → mark.is_etag etag ≡ true → is_utf8 etag ≡ true
mark_is_utf8 etag h =
    let outer = and_parts _ (mark.is_parts_suffix (drop 32 etag)) h in
    let digits = (and_parts _ (list_all is_lower_hex (take 32 etag)) outer.0).1 in
    let both = IsAscii-append (take 32 etag) (drop 32 etag) (ascii_by is_lower_hex hex_small (take 32 etag) digits) (suffix_is_ascii (drop 32 etag) outer.1) in
    is_utf8-from_IsUtf8 etag (IsUtf8-from_ascii etag (subst IsAscii (take-append-drop 32 etag) both))

pub id_is_utf8 : (id : ℕ) → is_utf8 (id_digits id) ≡ true
id_is_utf8 id = utf8_by is_lower_hex hex_small (id_digits id) (id_has_digits id)
