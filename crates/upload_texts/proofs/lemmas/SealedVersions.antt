-- What reads as a sealed completion has the first version: a text of another version is none.
use Rattle.std.specs.Prelude.{◌≡◌, ◌<◌, ◌≤◌, ◌^◌, ℕ, Bool, true, false, ◌&&◌, cond, nat_le, nat_lt, List, [], ◌∷◌, map, length, Option, None, Some}
use Rattle.std.specs.List.{list_all}
use Rattle.std.specs.Option.{unwrap_or}
use Rattle.std.specs.Str.{is_utf8}
use Rattle.std.proofs.Common.{refl, sym, ap, ◌∙◌, arith}
use Rattle.std.proofs.lemmas.Bool.{and_parts, leb-true}
use Rattle.json.specs.Tree as tree
use Rattle.json.specs.Tree.{ItemsHaveNumbers}
use Rattle.json.proofs.Printed.Decimals.{IsNumber-decimal}
use Rattle.serde_json.specs.Data.{null}
use Rattle.serde_json.specs.Read.{of_items, read}
use Rattle.serde_json.specs.View.{items_of}
use Rattle.serde_json.specs.Written.{items_outline}
use Rattle.serde_json.proofs.Numbers.{number_of-decimal}
use Rattle.gate_base.specs.Told.{moment_limit}
use Rattle.s3_machine.specs.Limits.{most_body_bytes}
use Rattle.slo_manifest.specs.Segments.{is_etag}
use Rattle.swift_marks.specs.Tag as mark
use Rattle.upload_texts.specs.Places.{is_part_count, part_number_fits_record_text, version_in, version_of}
use Rattle.upload_texts.specs.Records.{content_fits_record_text, unless_known_record_version}
use Rattle.upload_texts.specs.Sealed.{has_sealed_text, is_first_version, is_sealed_dated, is_sealed_list, part_fits_sealed_text, is_sealed_place, sealed_part_json, read_sealed, sealed_text, sealed_value}
use Rattle.upload_texts.specs.declared.sealed.Sealed.{Sealed}
use Rattle.upload_texts.specs.declared.sealed.SealedPart.{SealedPart}
use Rattle.upload_texts.proofs.lemmas.Back.{sealed_has_one}
use Rattle.upload_texts.proofs.lemmas.ReadBack.{part_small, dated_small, pairs_read, pairs_numbers, pairs_depth, one_small, IsReadBack, text_reads}

-- ---- the value of a sealed completion is read back from its text

size_small : (n : ℕ) → nat_le n most_body_bytes ≡ true → n < 2 ^ 64
size_small n e = let near = leb-true n most_body_bytes e in omega (arith, near)

record IsSmall (p : SealedPart) : Type 0 where
  number : p.number < 2 ^ 64
  size : p.size < 2 ^ 64

small_part : (p : SealedPart) → part_fits_sealed_text p ≡ true → IsSmall p
small_part p e =
    let parts = and_parts (part_number_fits_record_text p.number && is_etag p.etag) (nat_le p.size most_body_bytes) e in
    record { number = part_small p.number (and_parts (part_number_fits_record_text p.number) (is_etag p.etag) parts.0).0; size = size_small p.size parts.1 }

parts_read : (ps : List SealedPart) → list_all part_fits_sealed_text ps ≡ true → of_items (items_outline (items_of (map sealed_part_json ps))) ≡ Some (items_of (map sealed_part_json ps))
parts_read [] e = refl
parts_read (p ∷ ps) e =
    let parts = and_parts (part_fits_sealed_text p) (list_all part_fits_sealed_text ps) e in
    let small = small_part p parts.0 in
    rw (number_of-decimal p.number small.number, number_of-decimal p.size small.size, parts_read ps parts.1) refl

parts_numbers : (ps : List SealedPart) → list_all part_fits_sealed_text ps ≡ true → ItemsHaveNumbers (items_outline (items_of (map sealed_part_json ps)))
parts_numbers [] e = tt
parts_numbers (p ∷ ps) e =
    let parts = and_parts (part_fits_sealed_text p) (list_all part_fits_sealed_text ps) e in
    let small = small_part p parts.0 in
    ((IsNumber-decimal p.number small.number, (tt, (IsNumber-decimal p.size small.size, tt))), parts_numbers ps parts.1)

parts_depth : (ps : List SealedPart) → tree.items_depth (items_outline (items_of (map sealed_part_json ps))) ≤ 1
parts_depth [] = omega arith
parts_depth (p ∷ ps) = let later = parts_depth ps in omega arith

record OfSealed (s : Sealed) : Type 0 where
  parts : list_all part_fits_sealed_text s.list ≡ true
  started : s.started < 2 ^ 64
  moment : s.moment < 2 ^ 64

of_sealed : (s : Sealed) → has_sealed_text s ≡ true → OfSealed s
unfolding has_sealed_text
of_sealed s has =
    let rest = and_parts (content_fits_record_text s.content_type s.meta) _ (and_parts (nat_lt s.id (2 ^ 128)) _ (and_parts (is_sealed_place s) _ has).1).1 in
    let listed = and_parts (is_sealed_list s.list) _ rest.1 in
    let dates = and_parts (nat_lt s.started moment_limit) (nat_lt s.moment moment_limit) (and_parts (mark.is_etag s.etag) (is_sealed_dated s) listed.1).1 in
    record {
      parts = (and_parts (is_part_count (length s.list)) (list_all part_fits_sealed_text s.list) listed.0).1;
      started = dated_small s.started dates.0;
      moment = dated_small s.moment dates.1;
    }

reads_back : (s : Sealed) → has_sealed_text s ≡ true → IsReadBack (sealed_value s)
reads_back s has =
    let is = of_sealed s has in
    let few = pairs_depth s.meta in
    let short = parts_depth s.list in
    record {
      numbers = (IsNumber-decimal s.moment is.moment, (tt, (tt, (tt, (tt, (parts_numbers s.list is.parts, (pairs_numbers s.meta, (IsNumber-decimal s.started is.started, (tt, (IsNumber-decimal 1 one_small, tt))))))))));
      shallow = omega (arith, few, short);
      same = rw (number_of-decimal s.moment is.moment, number_of-decimal s.started is.started, number_of-decimal 1 one_small, parts_read s.list is.parts, pairs_read s.meta) refl;
    }

-- ---- the version

version_known : (s : Sealed) → unless_known_record_version is_first_version (version_in (sealed_value s)) ≡ None
version_known s = refl

module _ (text : List ℕ) (s : Sealed) (has : has_sealed_text s ≡ true) (is : text ≡ sealed_text s) where
  value_read : read text ≡ Some (sealed_value s)
  unfolding sealed_text
  value_read = ap read is ∙ text_reads (sealed_value s) (reads_back s has)

  version_by : (utf8 : Bool) → unless_known_record_version is_first_version (version_in (unwrap_or (cond utf8 (read text) None) null)) ≡ None
  version_by true = ap (λ v. unless_known_record_version is_first_version (version_in (unwrap_or v null))) value_read ∙ version_known s
  version_by false = refl

known_by : (text : List ℕ) (s : Sealed) → read_sealed text ≡ Some s → unless_known_record_version is_first_version (version_of text) ≡ None
known_by text s reads = let one = sealed_has_one text s reads in version_by text s one.0 one.1 (is_utf8 text)

-- a text of another version is no sealed completion
pub none_of_version : (text : List ℕ) (version : ℕ) → unless_known_record_version is_first_version (version_of text) ≡ Some version → read_sealed text ≡ None
none_of_version text version other = by (read_sealed text) refl
  where
    by : (o : Option Sealed) → read_sealed text ≡ o → o ≡ None
    by None e = refl
    by (Some s) e = let never : None ≡ Some version = sym (known_by text s e) ∙ other in cc
