-- The names of the parts that a sealed completion lists, one after the other.
use Rattle.std.specs.Prelude.{◌≡◌, ◌≤◌, ◌<◌, ◌+◌, ◌||◌, ◌&&◌, ℕ, Bool, true, false, bytes_eq, nat_le, is_some, List, [], ◌∷◌, ◌++◌, length, take, get_or, Option, Some}
use Rattle.std.specs.List.{list_all, list_any}
use Rattle.std.specs.FinMap.{get, insert}
use Rattle.std.proofs.Common.{sym, ap, subst, ◌∙◌}
use Rattle.std.proofs.lemmas.Bool.{and_parts, leb-true}
use Rattle.std.proofs.lemmas.List.{take_all, take_more}
use Rattle.std.proofs.lemmas.List.Folds.{list_any-append}
use Rattle.gate_base.specs.Maps.{Names}
use Rattle.s3_names.specs.Id.{id_digits}
use Rattle.s3_machine.specs.Uploads.{greatest_part}
use Rattle.s3_machine.specs.Limits.{most_body_bytes}
use Rattle.slo_manifest.specs.Segments.{is_etag}
use Rattle.upload_texts.specs.Places.{part_number_fits_record_text}
use Rattle.upload_texts.specs.Sealed.{part_fits_sealed_text}
use Rattle.upload_texts.specs.declared.sealed.Sealed.{Sealed}
use Rattle.upload_texts.specs.declared.sealed.SealedPart.{SealedPart}
use Rattle.upload_records.specs.Layout.{segment_name}
use Rattle.account_calls.proofs.lemmas.Segments.{part_there}
use Rattle.leftovers.specs.Used.{seals_part}
use Rattle.leftovers.proofs.Gathers.{or_assoc, or_end, put_adds}
use Rattle.leftovers.proofs.lemmas.Lists.{take_zero}

abbrev pub NamedSo : List ℕ → Names Bool → Names Bool → List SealedPart → Type 0
NamedSo id old new parts = (text : List ℕ) → is_some (get new text) ≡ (is_some (get old text) || list_any (λ (p : SealedPart). bytes_eq (segment_name id p.number) text) parts)

module _ (id : List ℕ) (old : Names Bool) (parts : List SealedPart) where
  pub naming_none : NamedSo id old old (take 0 parts)
  naming_none text = sym (or_end (is_some (get old text))) ∙ ap (λ l. is_some (get old text) || list_any (λ (p : SealedPart). bytes_eq (segment_name id p.number) text) l) (sym (take_zero parts))

  pub naming_more : (now : Names Bool) {new : Names Bool} {i : ℕ} → NamedSo id old now (take i parts) → (p : SealedPart) → i < length parts → p ≡ get_or parts i p → (name : List ℕ) → name ≡ segment_name id p.number → new ≡ insert now name true
      → NamedSo id old new (take (i + 1) parts)
  naming_more now {i = i} so p within is name named grown text =
      let test : SealedPart → Bool = λ p. bytes_eq (segment_name id p.number) text in
      let more : take (i + 1) parts ≡ take i parts ++ p ∷ [] = take_more parts i p within ∙ ap (λ x. take i parts ++ x ∷ []) (sym is) in
      ap (λ t. is_some (get t text)) grown ∙ put_adds now name text ∙ (λ j. so text j || bytes_eq (named j) text)
      ∙ or_assoc (is_some (get old text)) (list_any test (take i parts)) (test p)
      ∙ ap (λ b. is_some (get old text) || b)
      (ap (λ b. list_any test (take i parts) || b) (sym (or_end (test p)))
      ∙ sym (ap (list_any test) more ∙ list_any-append test (take i parts) (p ∷ [])))

  pub naming_all : (now : Names Bool) {i : ℕ} → length parts ≤ i → NamedSo id old now (take i parts) → NamedSo id old now parts
  naming_all now {i = i} far so = subst (NamedSo id old now) (take_all i parts far) so

-- each has a number that a part may have
pub number_fits : (parts : List SealedPart) (i : ℕ) (p : SealedPart) → list_all part_fits_sealed_text parts ≡ true → i < length parts → p ≡ get_or parts i p → p.number ≤ greatest_part
number_fits parts i p all within is =
    let fits = part_there parts i p all within is in
    let both = and_parts (part_number_fits_record_text p.number && is_etag p.etag) (nat_le p.size most_body_bytes) fits in
    let number = and_parts (part_number_fits_record_text p.number) (is_etag p.etag) both.0 in
    leb-true p.number greatest_part (and_parts (nat_le 1 p.number) (nat_le p.number greatest_part) number.0).1

-- ---- what is sealed in a bucket

module _ (s : Sealed) (bucket : List ℕ) (old new : Names Bool) where
  -- in this one
  pub added_here : bytes_eq s.bucket bucket ≡ true → NamedSo (id_digits s.id) old new s.list → (text : List ℕ) → is_some (get new text) ≡ (is_some (get old text) || seals_part (Some s) bucket text)
  added_here is so text = so text ∙ ap (λ t. is_some (get old text) || (t && list_any (λ (p : SealedPart). bytes_eq (segment_name (id_digits s.id) p.number) text) s.list)) (sym is)

-- or in another, or none
pub added_none : (table : Names Bool) (sealed : Option Sealed) (bucket : List ℕ) → ((text : List ℕ) → seals_part sealed bucket text ≡ false) → (text : List ℕ) → is_some (get table text) ≡ (is_some (get table text) || seals_part sealed bucket text)
added_none table sealed bucket none text = sym (ap (λ t. is_some (get table text) || t) (none text) ∙ or_end (is_some (get table text)))
