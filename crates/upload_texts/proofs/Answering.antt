-- From the steps of reading and writing to their answers.
use Rattle.std.specs.Prelude.{◌≡◌, ◌≤◌, ℕ, Bool, true, false, ◌&&◌, cond, List, bytes_eq, Option, None, Some, Err}
use Rattle.std.specs.Option.{unwrap_or}
use Rattle.std.specs.Str.{IsUtf8}
use Rattle.std.proofs.Common.{refl, sym, ap, subst, ◌∙◌}
use Rattle.serde_json.specs.Data.{Data, depth, null}
use Rattle.serde_json.specs.Read.{max_depth, read}
use Rattle.serde_json.specs.Written.{compact_text, has_float}
use Rattle.s3_names.specs.Bucket.{is_bucket}
use Rattle.s3_names.specs.Key.{is_key}
use Rattle.slo_manifest.specs.Manifest.{json_of}
use Rattle.upload_texts.specs.Places.{json_or_null, version_in, version_of}
use Rattle.upload_texts.specs.Records.{has_record_text, is_known_version, read_record, record_in, record_text, record_value, unless_known_record_version, MatchesRecord, Parses, ReadsRecord}
use Rattle.upload_texts.specs.Sealed.{has_sealed_text, is_first_version, read_sealed, sealed_in, sealed_text, sealed_value, MatchesSealed, ReadsSealed}
use Rattle.upload_texts.specs.declared.record.Record.{Record}
use Rattle.upload_texts.specs.declared.record.RecordFault.{RecordFault}
use Rattle.upload_texts.specs.declared.record.RecordFault.TheVariants.{NotARecord, Version, Memory}
use Rattle.upload_texts.specs.declared.sealed.Sealed.{Sealed}
use Rattle.upload_texts.proofs.lemmas.Back.{record_reads, sealed_reads}
use Rattle.upload_texts.proofs.Json.{json_read}
use Rattle.upload_texts.proofs.Levels.{record_depth, record_float, sealed_depth, sealed_float}

-- ---- writing

-- what a value was written as
pub record Written (d : Data) (text : List ℕ) : Type 0 where
  pub spelled : has_float d ≡ false → text ≡ compact_text d
  pub utf8 : IsUtf8 text
  pub reads : depth d ≤ max_depth → read text ≡ Some d

pub record_written : (r : Record) (d : Data) (text : List ℕ) → d ≡ record_value r → Written d text → text ≡ record_text r
unfolding record_text
record_written r d text is written = written.spelled (ap has_float is ∙ record_float r) ∙ ap compact_text is

pub record_round : (r : Record) (d : Data) (text : List ℕ) → has_record_text r ≡ true → d ≡ record_value r → Written d text → read_record text ≡ Some r
record_round r d text has is written =
    record_reads r text has (record_written r d text is written)
    (json_read text (record_value r) written.utf8 (written.reads (subst (λ d. depth d ≤ max_depth) (sym is) (record_depth r)) ∙ ap Some is))

pub sealed_written : (s : Sealed) (d : Data) (text : List ℕ) → d ≡ sealed_value s → Written d text → text ≡ sealed_text s
unfolding sealed_text
sealed_written s d text is written = written.spelled (ap has_float is ∙ sealed_float s) ∙ ap compact_text is

pub sealed_round : (s : Sealed) (d : Data) (text : List ℕ) → has_sealed_text s ≡ true → d ≡ sealed_value s → Written d text → read_sealed text ≡ Some s
sealed_round s d text has is written =
    sealed_reads s text has (sealed_written s d text is written)
    (json_read text (sealed_value s) written.utf8 (written.reads (subst (λ d. depth d ≤ max_depth) (sym is) (sealed_depth s)) ∙ ap Some is))

-- ---- reading

-- what was read in the places, where that has a text, is another one's text or none's
found_none : {A : Type 0} (has : A → Bool) (text_of : A → List ℕ) (text : List ℕ) (a r : A) (t : Bool) → has a ≡ t → (t ≡ true → r ≡ a) → (has r ≡ true → bytes_eq (text_of r) text ≡ false)
    → cond (t && bytes_eq (text_of a) text) (Some a) None ≡ None
found_none has text_of text a r true is same other =
    let e = same refl in
    ap (λ t. cond t (Some a) None) (ap (λ a. bytes_eq (text_of a) text) (sym e) ∙ other (ap has e ∙ is))
found_none has text_of text a r false is same other = refl

module _ (text : List ℕ) where
  pub record_unparsed : (fault : RecordFault) → Parses text (Err fault) → ReadsRecord text (Err fault)
  unfolding read_record has_record_text is_key
  record_unparsed NotARecord none =
      let is : json_or_null text ≡ null = ap (λ v. unwrap_or v null) none in
      (ap (λ d. cond (has_record_text (record_in d) && bytes_eq (record_text (record_in d)) text) (Some (record_in d)) None) is, ap (λ d. unless_known_record_version is_known_version (version_in d)) is)
  record_unparsed (Version version) never = absurd never
  record_unparsed Memory h = tt

  pub sealed_unparsed : (fault : RecordFault) → Parses text (Err fault) → ReadsSealed text (Err fault)
  unfolding read_sealed has_sealed_text is_bucket
  sealed_unparsed NotARecord none =
      let is : json_or_null text ≡ null = ap (λ v. unwrap_or v null) none in
      (ap (λ d. cond (has_sealed_text (sealed_in d) && bytes_eq (sealed_text (sealed_in d)) text) (Some (sealed_in d)) None) is, ap (λ d. unless_known_record_version is_first_version (version_in d)) is)
  sealed_unparsed (Version version) never = absurd never
  sealed_unparsed Memory h = tt

  module _ (d : Data) (parsed : json_of text ≡ Some d) where
    is_json : json_or_null text ≡ d
    is_json = ap (λ v. unwrap_or v null) parsed

    pub record_version : (v : Option ℕ) → unless_known_record_version is_known_version (version_in d) ≡ v → unless_known_record_version is_known_version (version_of text) ≡ v
    record_version v e = ap (λ d. unless_known_record_version is_known_version (version_in d)) is_json ∙ e

    pub sealed_version : (v : Option ℕ) → unless_known_record_version is_first_version (version_in d) ≡ v → unless_known_record_version is_first_version (version_of text) ≡ v
    sealed_version v e = ap (λ d. unless_known_record_version is_first_version (version_in d)) is_json ∙ e

    pub record_refused : (r : Record) → (has_record_text (record_in d) ≡ true → r ≡ record_in d) → (has_record_text r ≡ true → bytes_eq (record_text r) text ≡ false)
        → unless_known_record_version is_known_version (version_in d) ≡ None → ReadsRecord text (Err NotARecord)
    unfolding read_record
    record_refused r same other known = (
      ap (λ d. cond (has_record_text (record_in d) && bytes_eq (record_text (record_in d)) text) (Some (record_in d)) None) is_json
          ∙ found_none has_record_text record_text text (record_in d) r _ refl same other,
      record_version None known,
    )

    pub sealed_refused : (s : Sealed) → (has_sealed_text (sealed_in d) ≡ true → s ≡ sealed_in d) → (has_sealed_text s ≡ true → bytes_eq (sealed_text s) text ≡ false)
        → unless_known_record_version is_first_version (version_in d) ≡ None → ReadsSealed text (Err NotARecord)
    unfolding read_sealed
    sealed_refused s same other known = (
      ap (λ d. cond (has_sealed_text (sealed_in d) && bytes_eq (sealed_text (sealed_in d)) text) (Some (sealed_in d)) None) is_json
          ∙ found_none has_sealed_text sealed_text text (sealed_in d) s _ refl same other,
      sealed_version None known,
    )

    pub record_unmatched : (r : Record) (fault : RecordFault) → (has_record_text (record_in d) ≡ true → r ≡ record_in d) → MatchesRecord r text (Err fault)
        → unless_known_record_version is_known_version (version_in d) ≡ None → ReadsRecord text (Err fault)
    record_unmatched r NotARecord same other known = record_refused r same other known
    record_unmatched r (Version version) same never known = absurd never
    record_unmatched r Memory same h known = tt

    pub sealed_unmatched : (s : Sealed) (fault : RecordFault) → (has_sealed_text (sealed_in d) ≡ true → s ≡ sealed_in d) → MatchesSealed s text (Err fault)
        → unless_known_record_version is_first_version (version_in d) ≡ None → ReadsSealed text (Err fault)
    sealed_unmatched s NotARecord same other known = sealed_refused s same other known
    sealed_unmatched s (Version version) same never known = absurd never
    sealed_unmatched s Memory same h known = tt
