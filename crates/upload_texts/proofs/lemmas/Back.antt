-- What stands in the places of a value is what the value was made of; and a text that reads as something is the one that this has.
use Rattle.std.specs.Prelude.{◌≡◌, ◌<◌, ◌^◌, ℕ, Bool, true, false, ◌&&◌, cond, nat_lt, List, [], ◌∷◌, map, bytes_eq, None, Some}
use Rattle.std.specs.Option.{unwrap_or}
use Rattle.std.proofs.Common.{refl, sym, ap, ◌∙◌, arith}
use Rattle.std.proofs.lemmas.Bool.{and_from, and_parts}
use Rattle.std.proofs.lemmas.Bool.Decides.{nat_tests}
use Rattle.std.proofs.lemmas.Slice.Eq.{bytes_eq-Decides}
use Rattle.serde_json.specs.Data.{null}
use Rattle.serde_json.specs.View.{items_of}
use Rattle.gate_base.specs.declared.page.Pair.{Pair}
use Rattle.s3_names.specs.Id.{id_digits}
use Rattle.s3_names.proofs.lemmas.Ids.{id_reads_back}
use Rattle.s3_machine.specs.declared.operation.Listed.{Listed}
use Rattle.s3_machine.specs.Uploads.{id_value}
use Rattle.slo_manifest.specs.Manifest.{json_of}
use Rattle.upload_texts.specs.Laws.{RecordHasOneText, SealedHasOneText}
use Rattle.upload_texts.specs.Places.{list_of, metadata_pair_json, pair_in, record_part_json, listed_in, json_or_null}
use Rattle.upload_texts.specs.Records.{has_record_text, record_value, record_text, record_in, record_from, read_record}
use Rattle.upload_texts.specs.Sealed.{has_sealed_text, is_sealed_place, sealed_value, sealed_text, sealed_in, sealed_from, read_sealed, sealed_part_json, part_in}
use Rattle.upload_texts.specs.declared.record.Record.{Record}
use Rattle.upload_texts.specs.declared.record.Record.TheVariants.{Open, Done}
use Rattle.upload_texts.specs.declared.sealed.Sealed.{Sealed}
use Rattle.upload_texts.specs.declared.sealed.SealedPart.{SealedPart}

pairs_back : (ps : List Pair) → map pair_in (list_of (items_of (map metadata_pair_json ps))) ≡ ps
pairs_back [] = refl
pairs_back (p ∷ ps) = ap (λ rest. p ∷ rest) (pairs_back ps)

listed_back : (ls : List Listed) → map listed_in (list_of (items_of (map record_part_json ls))) ≡ ls
listed_back [] = refl
listed_back (l ∷ ls) = ap (λ rest. l ∷ rest) (listed_back ls)

parts_back : (ps : List SealedPart) → map part_in (list_of (items_of (map sealed_part_json ps))) ≡ ps
parts_back [] = refl
parts_back (p ∷ ps) = ap (λ rest. p ∷ rest) (parts_back ps)

record_back : (r : Record) → record_in (record_value r) ≡ r
record_back (Open key content_type meta started) = ap (λ m. Open key content_type m started) (pairs_back meta)
record_back (Done key list etag started None) = ap (λ l. Done key l etag started None) (listed_back list)
record_back (Done key list etag started (Some moment)) = ap (λ l. Done key l etag started (Some moment)) (listed_back list)

id_back : (id : ℕ) → nat_lt id (2 ^ 128) ≡ true → id_value (id_digits id) ≡ id
id_back id fits = let small : id < 2 ^ 128 = grind (arith, nat_tests) in ap (λ v. unwrap_or v 0) (id_reads_back id small)

fits_in : (s : Sealed) → has_sealed_text s ≡ true → nat_lt s.id (2 ^ 128) ≡ true
unfolding has_sealed_text
fits_in s has = (and_parts (nat_lt s.id (2 ^ 128)) _ (and_parts (is_sealed_place s) _ has).1).0

sealed_back : (s : Sealed) → has_sealed_text s ≡ true → sealed_in (sealed_value s) ≡ s
sealed_back s has = λ i. record s { id = id_back s.id (fits_in s has) i; meta = pairs_back s.meta i; list = parts_back s.list i }

-- ---- the one text

-- a value that passes the test and has the text is found, and no other one
found_of : {A : Type 0} (a b : A) (t : Bool) → cond t (Some a) None ≡ Some b → (t ≡ true) × (a ≡ b)
found_of a b true same = (refl, cc)
found_of a b false never = cc

pub record_has_one : RecordHasOneText
unfolding read_record
record_has_one text r reads =
    let s = record_in (json_or_null text) in
    let found = found_of s r (has_record_text s && bytes_eq (record_text s) text) reads in
    let parts = and_parts (has_record_text s) (bytes_eq (record_text s) text) found.0 in
    (ap has_record_text (sym found.1) ∙ parts.0, sym ((bytes_eq-Decides (record_text s) text).0 parts.1) ∙ ap record_text found.1)

pub sealed_has_one : SealedHasOneText
unfolding read_sealed
sealed_has_one text r reads =
    let s = sealed_in (json_or_null text) in
    let found = found_of s r (has_sealed_text s && bytes_eq (sealed_text s) text) reads in
    let parts = and_parts (has_sealed_text s) (bytes_eq (sealed_text s) text) found.0 in
    (ap has_sealed_text (sym found.1) ∙ parts.0, sym ((bytes_eq-Decides (sealed_text s) text).0 parts.1) ∙ ap sealed_text found.1)

-- ---- what is written reads back

-- a text that is a record's, and whose JSON is the record's value
pub record_reads : (r : Record) (text : List ℕ) → has_record_text r ≡ true → text ≡ record_text r → json_of text ≡ Some (record_value r) → read_record text ≡ Some r
unfolding read_record
record_reads r text has is json =
    let found : record_in (json_or_null text) ≡ r = ap (λ v. record_in (unwrap_or v null)) json ∙ record_back r in
    ap (λ s. record_from s text) found ∙ ap (λ t. cond t (Some r) None) (and_from _ _ has ((bytes_eq-Decides (record_text r) text).1 (sym is)))

pub sealed_reads : (s : Sealed) (text : List ℕ) → has_sealed_text s ≡ true → text ≡ sealed_text s → json_of text ≡ Some (sealed_value s) → read_sealed text ≡ Some s
unfolding read_sealed
sealed_reads s text has is json =
    let found : sealed_in (json_or_null text) ≡ s = ap (λ v. sealed_in (unwrap_or v null)) json ∙ sealed_back s has in
    ap (λ s. sealed_from s text) found ∙ ap (λ t. cond t (Some s) None) (and_from _ _ has ((bytes_eq-Decides (sealed_text s) text).1 (sym is)))
