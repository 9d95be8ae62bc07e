-- The containers beside a bucket, the record of an upload and its segments have names that a store takes.
use Rattle.std.specs.Prelude.{◌≡◌, ◌==◌, ◌<◌, ◌≤◌, ◌&&◌, ℕ, Bool, nat_lt, List, [], ◌∷◌, ◌++◌, length, codes, true, false, not, Contains, IsUtf8}
use Rattle.std.specs.List.{list_all}
use Rattle.std.proofs.Common.{refl, ◌∙◌, arith}
use Rattle.std.proofs.lemmas.Bool.{and_from}
use Rattle.std.proofs.lemmas.Bool.Decides.{nat_tests}
use Rattle.std.proofs.lemmas.List.{length-append}
use Rattle.std.proofs.lemmas.List.Elements.{All-contains, All-weaker}
use Rattle.std.proofs.lemmas.List.Folds.{list_all-append}
use Rattle.std.proofs.lemmas.List.Sums.{AllPass-from_list_all}
use Rattle.std.proofs.lemmas.Str.{IsUtf8-from_ascii}
use Rattle.std.proofs.lemmas.Str.Ascii.{IsAscii-from_all}
use Rattle.s3_names.specs.Bucket.{is_bucket, is_bucket_byte}
use Rattle.gate_base.specs.Ascii.{is_lower_hex}
use Rattle.s3_names.specs.Id.{id_digits}
use Rattle.s3_names.proofs.lemmas.BucketLemmas.{bucket_length, bucket_bytes}
use Rattle.s3_names.proofs.lemmas.Ids.{id_has_digits, length-id_digits}
use Rattle.s3_machine.specs.Uploads.{greatest_part, IsPartNumber}
use Rattle.swift_calls.specs.Limits.{IsMarker, IsObjectName}
use Rattle.swift_calls.specs.Step.{IsContainerName}
use Rattle.swift_marks.proofs.lemmas.TagLaws.{weaken}
use Rattle.upload_records.specs.Consistent.{IsFileName}
use Rattle.upload_records.specs.Layout.{five_digits, segment_name, segments_name, segments_prefix, sub_manifest_name, uploads_name}

-- ASCII without byte 0
abbrev is_plain : ℕ → Bool
is_plain byte = nat_lt byte 128 && not (byte == 0)

bucket_is_plain : (byte : ℕ) → is_bucket_byte byte ≡ true → is_plain byte ≡ true
bucket_is_plain byte e = grind (arith, nat_tests)

hex_is_plain : (byte : ℕ) → is_lower_hex byte ≡ true → is_plain byte ≡ true
hex_is_plain byte e = grind (arith, nat_tests)

-- ---- a text of plain bytes

plain_small : (byte : ℕ) → is_plain byte ≡ true → byte < 128
plain_small byte e = grind (arith, nat_tests)

plain_filled : (byte : ℕ) → is_plain byte ≡ true → not (byte == 0) ≡ true
plain_filled byte e = grind (arith, nat_tests)

plain_utf8 : (text : List ℕ) → list_all is_plain text ≡ true → IsUtf8 text
plain_utf8 text all = IsUtf8-from_ascii text (IsAscii-from_all text (All-weaker (λ b. is_plain b ≡ true) (λ b. b < 128) plain_small text (AllPass-from_list_all is_plain text all)))

plain_no_zero : (text : List ℕ) → list_all is_plain text ≡ true → ¬ (Contains text 0)
plain_no_zero text all has =
    let zero_is : false ≡ true = All-contains (λ b. not (b == 0) ≡ true) text 0
    (All-weaker (λ b. is_plain b ≡ true) (λ b. not (b == 0) ≡ true) plain_filled text (AllPass-from_list_all is_plain text all)) has in
    cc

plain_marker : (text : List ℕ) → list_all is_plain text ≡ true → length text ≤ 1028 → IsMarker text
plain_marker text all near = record { within = near; utf8 = plain_utf8 text all; no_zero = plain_no_zero text all }

plain_object : (text : List ℕ) → list_all is_plain text ≡ true → 0 < length text → length text ≤ 1024 → IsObjectName text
plain_object text all some near = (some, record { within = near; utf8 = plain_utf8 text all; no_zero = plain_no_zero text all })

pub file_name : (text : List ℕ) → IsObjectName text → IsFileName text
file_name text is = record { filled = is.0; within = is.1.within; text = is.1.utf8; no_zero = is.1.no_zero }

-- ---- the containers

side_is_plain : (bucket tail : List ℕ) → is_bucket bucket ≡ true → list_all is_plain tail ≡ true → list_all is_plain (bucket ++ tail) ≡ true
side_is_plain bucket tail is plain =
    list_all-append is_plain bucket tail ∙ and_from _ _ (weaken is_bucket_byte is_plain bucket_is_plain bucket (bucket_bytes bucket is)) plain

side_fits : (bucket tail : List ℕ) → is_bucket bucket ≡ true → list_all is_plain tail ≡ true → length tail ≤ 9 → IsContainerName (bucket ++ tail)
side_fits bucket tail is plain short =
    let near = bucket_length bucket is in
    let long = length-append bucket tail in
    let all = side_is_plain bucket tail is plain in
    record {
      filled = omega (arith, near.0, long);
      within = omega (arith, near.1, long, short);
      text = plain_utf8 (bucket ++ tail) all;
      no_zero = plain_no_zero (bucket ++ tail) all;
    }

pub uploads_fits : (bucket : List ℕ) → is_bucket bucket ≡ true → IsContainerName (uploads_name bucket)
unfolding uploads_name
uploads_fits bucket is = side_fits bucket (codes "+uploads") is refl (omega arith)

pub segments_fits : (bucket : List ℕ) → is_bucket bucket ≡ true → IsContainerName (segments_name bucket)
unfolding segments_name
segments_fits bucket is = side_fits bucket (codes "+segments") is refl (omega arith)

-- ---- the record, and the segments

id_is_plain : (id : ℕ) → list_all is_plain (id_digits id) ≡ true
id_is_plain id = weaken is_lower_hex is_plain hex_is_plain (id_digits id) (id_has_digits id)

pub id_fits : (id : ℕ) → IsObjectName (id_digits id)
id_fits id = let long = length-id_digits id in plain_object (id_digits id) (id_is_plain id) (omega (arith, long)) (omega (arith, long))

five_are_plain : (number : ℕ) → number ≤ 99999 → list_all is_plain (five_digits number) ≡ true
five_are_plain number near = grind (arith, nat_tests)

segment_is_plain : (id number : ℕ) → number ≤ 99999 → list_all is_plain (id_digits id ++ 47 ∷ five_digits number) ≡ true
segment_is_plain id number near = list_all-append is_plain (id_digits id) (47 ∷ five_digits number) ∙ and_from _ _ (id_is_plain id) (five_are_plain number near)

segment_length : (id number : ℕ) → length (id_digits id ++ 47 ∷ five_digits number) ≡ 38
segment_length id number = let long = length-id_digits id in let size = length-append (id_digits id) (47 ∷ five_digits number) in omega (arith, long, size)

pub segment_fits : (id number : ℕ) → IsPartNumber number → IsObjectName (segment_name (id_digits id) number)
unfolding segment_name greatest_part
segment_fits id number is =
    let near = is.within in
    let long = segment_length id number in
    plain_object (id_digits id ++ 47 ∷ five_digits number) (segment_is_plain id number (omega (arith, near))) (omega (arith, long)) (omega (arith, long))

sub_is_plain : (id number : ℕ) → number ≤ 99999 → list_all is_plain (id_digits id ++ 47 ∷ (109 ∷ five_digits number)) ≡ true
sub_is_plain id number near = list_all-append is_plain (id_digits id) (47 ∷ (109 ∷ five_digits number)) ∙ and_from _ _ (id_is_plain id) (five_are_plain number near)

sub_length : (id number : ℕ) → length (id_digits id ++ 47 ∷ (109 ∷ five_digits number)) ≡ 39
sub_length id number = let long = length-id_digits id in let size = length-append (id_digits id) (47 ∷ (109 ∷ five_digits number)) in omega (arith, long, size)

pub sub_fits : (id number : ℕ) → number ≤ 10 → IsObjectName (sub_manifest_name (id_digits id) number)
unfolding sub_manifest_name
sub_fits id number near =
    let long = sub_length id number in
    plain_object (id_digits id ++ 47 ∷ (109 ∷ five_digits number)) (sub_is_plain id number (omega (arith, near))) (omega (arith, long)) (omega (arith, long))

pub segment_is_marker : (id number : ℕ) → number ≤ 99999 → IsMarker (segment_name (id_digits id) number)
unfolding segment_name
segment_is_marker id number near = let long = segment_length id number in plain_marker (id_digits id ++ 47 ∷ five_digits number) (segment_is_plain id number near) (omega (arith, long))

pub prefix_is_marker : (id : ℕ) → IsMarker (segments_prefix (id_digits id))
unfolding segments_prefix
prefix_is_marker id =
    let long = length-id_digits id in
    let size = length-append (id_digits id) (47 ∷ []) in
    plain_marker (id_digits id ++ 47 ∷ []) (list_all-append is_plain (id_digits id) (47 ∷ []) ∙ and_from _ _ (id_is_plain id) refl) (omega (arith, long, size))

-- a listing begins before every name
pub no_marker : IsMarker []
no_marker = plain_marker [] refl (omega arith)
