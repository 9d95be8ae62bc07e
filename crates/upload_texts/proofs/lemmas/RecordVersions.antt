-- What reads as a record has a version that is known: a text of another version is none.
use Rattle.std.specs.Prelude.{◌≡◌, ◌<◌, ◌≤◌, ◌^◌, ℕ, Bool, true, false, cond, nat_lt, List, [], ◌∷◌, map, length, Option, None, Some}
use Rattle.std.specs.List.{list_all}
use Rattle.std.specs.Option.{unwrap_or}
use Rattle.std.specs.Str.{is_utf8}
use Rattle.std.proofs.Common.{refl, sym, ap, ◌∙◌, arith}
use Rattle.std.proofs.lemmas.Bool.{and_parts}
use Rattle.json.specs.Tree as tree
use Rattle.json.specs.Tree.{ItemsHaveNumbers}
use Rattle.json.proofs.Printed.Decimals.{IsNumber-decimal}
use Rattle.serde_json.specs.Data.{null}
use Rattle.serde_json.specs.Read.{of_items, read}
use Rattle.serde_json.specs.View.{items_of}
use Rattle.serde_json.specs.Written.{items_outline}
use Rattle.serde_json.proofs.Numbers.{number_of-decimal}
use Rattle.gate_base.specs.Told.{moment_limit}
use Rattle.gate_base.specs.declared.page.Pair.{Pair}
use Rattle.s3_machine.specs.declared.operation.Listed.{Listed}
use Rattle.s3_names.specs.Key.{is_key}
use Rattle.slo_manifest.specs.Segments.{is_etag}
use Rattle.swift_marks.specs.Tag as mark
use Rattle.upload_texts.specs.Places.{record_part_json, is_part_count, part_number_fits_record_text, version_in, version_of}
use Rattle.upload_texts.specs.Records.{has_record_text, is_dated, content_fits_record_text, list_fits_record_text, part_fits_record_text, is_known_version, read_record, record_text, record_value, unless_known_record_version}
use Rattle.upload_texts.specs.declared.record.Record.{Record}
use Rattle.upload_texts.specs.declared.record.Record.TheVariants.{Open, Done}
use Rattle.upload_texts.proofs.lemmas.Back.{record_has_one}
use Rattle.upload_texts.proofs.lemmas.ReadBack.{part_small, dated_small, pairs_read, pairs_numbers, pairs_depth, one_small, IsReadBack, text_reads}

-- ---- the value of a record is read back from its text

listed_read : (ls : List Listed) → list_all part_fits_record_text ls ≡ true → of_items (items_outline (items_of (map record_part_json ls))) ≡ Some (items_of (map record_part_json ls))
listed_read [] e = refl
listed_read (l ∷ ls) e =
    let parts = and_parts (part_fits_record_text l) (list_all part_fits_record_text ls) e in
    let small = part_small l.number (and_parts (part_number_fits_record_text l.number) (is_etag l.etag) parts.0).0 in
    rw (number_of-decimal l.number small, listed_read ls parts.1) refl

listed_numbers : (ls : List Listed) → list_all part_fits_record_text ls ≡ true → ItemsHaveNumbers (items_outline (items_of (map record_part_json ls)))
listed_numbers [] e = tt
listed_numbers (l ∷ ls) e =
    let parts = and_parts (part_fits_record_text l) (list_all part_fits_record_text ls) e in
    let small = part_small l.number (and_parts (part_number_fits_record_text l.number) (is_etag l.etag) parts.0).0 in
    ((IsNumber-decimal l.number small, (tt, tt)), listed_numbers ls parts.1)

listed_depth : (ls : List Listed) → tree.items_depth (items_outline (items_of (map record_part_json ls))) ≤ 1
listed_depth [] = omega arith
listed_depth (l ∷ ls) = let later = listed_depth ls in omega arith

started_open : (key content_type : List ℕ) (meta : List Pair) (started : ℕ) → has_record_text (Open key content_type meta started) ≡ true → started < 2 ^ 64
unfolding has_record_text
started_open key content_type meta started has =
    dated_small started (and_parts (content_fits_record_text content_type meta) (nat_lt started moment_limit) (and_parts (is_key key) _ has).1).1

record OfDone (list : List Listed) (started : ℕ) (moment : Option ℕ) : Type 0 where
  kept : list_all part_fits_record_text list ≡ true
  small : started < 2 ^ 64
  dated : is_dated moment ≡ true

of_done : (key : List ℕ) (list : List Listed) (etag : List ℕ) (started : ℕ) (moment : Option ℕ) → has_record_text (Done key list etag started moment) ≡ true → OfDone list started moment
unfolding has_record_text
of_done key list etag started moment has =
    let listed = and_parts (list_fits_record_text list) _ (and_parts (is_key key) _ has).1 in
    let last = and_parts (nat_lt started moment_limit) (is_dated moment) (and_parts (mark.is_etag etag) _ listed.1).1 in
    record { kept = (and_parts (is_part_count (length list)) (list_all part_fits_record_text list) listed.0).1; small = dated_small started last.0; dated = last.1 }

two_small : 2 < 2 ^ 64
two_small = omega arith

reads_back : (r : Record) → has_record_text r ≡ true → IsReadBack (record_value r)
reads_back (Open key content_type meta started) has =
    let small = started_open key content_type meta started has in
    let few = pairs_depth meta in
    record {
      numbers = (IsNumber-decimal started small, (tt, (pairs_numbers meta, (tt, (tt, (IsNumber-decimal 1 one_small, tt))))));
      shallow = omega (arith, few);
      same = rw (number_of-decimal started small, number_of-decimal 1 one_small, pairs_read meta) refl;
    }
reads_back (Done key list etag started None) has =
    let done = of_done key list etag started None has in
    let few = listed_depth list in
    record {
      numbers = (IsNumber-decimal started done.small, (tt, (tt, (listed_numbers list done.kept, (tt, (IsNumber-decimal 1 one_small, tt))))));
      shallow = omega (arith, few);
      same = rw (number_of-decimal started done.small, number_of-decimal 1 one_small, listed_read list done.kept) refl;
    }
reads_back (Done key list etag started (Some moment)) has =
    let done = of_done key list etag started (Some moment) has in
    let small = dated_small moment done.dated in
    let few = listed_depth list in
    record {
      numbers = (IsNumber-decimal started done.small, (IsNumber-decimal moment small, (tt, (tt, (listed_numbers list done.kept, (tt, (IsNumber-decimal 2 two_small, tt)))))));
      shallow = omega (arith, few);
      same = rw (number_of-decimal started done.small, number_of-decimal moment small, number_of-decimal 2 two_small, listed_read list done.kept) refl;
    }

-- ---- the version

version_known : (r : Record) → unless_known_record_version is_known_version (version_in (record_value r)) ≡ None
version_known (Open key content_type meta started) = refl
version_known (Done key list etag started None) = refl
version_known (Done key list etag started (Some moment)) = refl

module _ (text : List ℕ) (r : Record) (has : has_record_text r ≡ true) (is : text ≡ record_text r) where
  value_read : read text ≡ Some (record_value r)
  unfolding record_text
  value_read = ap read is ∙ text_reads (record_value r) (reads_back r has)

  version_by : (utf8 : Bool) → unless_known_record_version is_known_version (version_in (unwrap_or (cond utf8 (read text) None) null)) ≡ None
  version_by true = ap (λ v. unless_known_record_version is_known_version (version_in (unwrap_or v null))) value_read ∙ version_known r
  version_by false = refl

known_by : (text : List ℕ) (r : Record) → read_record text ≡ Some r → unless_known_record_version is_known_version (version_of text) ≡ None
known_by text r reads = let one = record_has_one text r reads in version_by text r one.0 one.1 (is_utf8 text)

-- a text of another version is no record
pub none_of_version : (text : List ℕ) (version : ℕ) → unless_known_record_version is_known_version (version_of text) ≡ Some version → read_record text ≡ None
none_of_version text version other = by (read_record text) refl
  where
    by : (o : Option Record) → read_record text ≡ o → o ≡ None
    by None e = refl
    by (Some r) e = let never : None ≡ Some version = sym (known_by text r e) ∙ other in cc
