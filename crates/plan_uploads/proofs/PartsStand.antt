-- The parts that a completion lists stand beside the bucket, over a consistent account.
use Rattle.std.proofs.Common.{◌≡◌, ℕ, ◌≤◌, true, List, [], ◌∷◌, ◌++◌, map, length, Option, Some, None, refl, sym, ap, subst, ◌∙◌, inl, inr, arith}
use Rattle.std.specs.Prelude.{flat_map}
use Rattle.std.specs.List.{AllByRecursion, list_all}
use Rattle.std.specs.Option.{option_and_then}
use Rattle.std.specs.FinMap.{get}
use Rattle.std.proofs.lemmas.Bool.{and_from, cases_lt, le-leb}
use Rattle.std.proofs.lemmas.Option.{none-some, same_Some}
use Rattle.gate_base.specs.Maps as maps
use Rattle.gate_base.specs.Maps.{Numbers}
use Rattle.gate_base.proofs.lemmas.Maps.{table_zero, table_above, table_within}
use Rattle.s3_names.specs.Bucket.{is_bucket}
use Rattle.s3_names.specs.Id.{id_digits}
use Rattle.s3_machine.specs.ETag.{body_etag}
use Rattle.s3_machine.specs.Limits.{most_body_bytes}
use Rattle.s3_machine.specs.State.{Part}
use Rattle.s3_machine.specs.Uploads.{bytes_in, greatest_part, IsPartNumber}
use Rattle.s3_machine.specs.declared.operation.Listed.{Listed}
use Rattle.slo_manifest.specs.Segments.{is_etag}
use Rattle.swift_calls.specs.Account.{SwiftObject, SwiftAccount, files}
use Rattle.swift_calls.specs.Bodies.{etag_text, plain_bytes}
use Rattle.swift_calls.specs.declared.account.Content.TheVariants.{Plain}
use Rattle.upload_texts.specs.Sealed.{part_fits_sealed_text}
use Rattle.upload_texts.specs.declared.sealed.SealedPart.{SealedPart}
use Rattle.upload_records.specs.Layout.{segment_name, segments_name}
use Rattle.upload_records.specs.Native.{part_at, part_by, part_bytes, part_of, parts_of, sealed_bytes}
use Rattle.upload_records.specs.Consistent.{AreSealedParts, IsConsistent, IsSegment, IsThere, is_part, is_sub_manifest}
use Rattle.upload_records.specs.Laws as laws
use Rattle.upload_records.proofs.lemmas.Sides.{part_no_sub}
use Rattle.account_calls.proofs.lemmas.Etags.{part_etag}
use Rattle.plan_uploads.proofs.ChosenParts.{Chooses, Names, Row, part_in, sealed_in}

-- a part of a number stands in a file
pub record Stands (segments : maps.Names SwiftObject) (id : List ℕ) (number : ℕ) (p : Part) : Type 0 where
  pub file : SwiftObject
  pub there : get segments (segment_name id number) ≡ Some file
  pub own : file.content ≡ Plain p.bytes
  pub etag : p.etag ≡ body_etag p.bytes
  pub sized : length p.bytes ≤ most_body_bytes
  pub counted : IsPartNumber number
  pub at : part_at segments id number ≡ Some p

same_etag : (body : List ℕ) → etag_text body ≡ body_etag body
unfolding etag_text body_etag
same_etag body = refl

module _ (tree : SwiftAccount) (bucket id : List ℕ) (is : is_bucket bucket ≡ true) (sound : IsConsistent tree) (there : IsThere tree bucket) where
  abbrev segments : maps.Names SwiftObject
  segments = files tree (segments_name bucket)

  -- a file that is a part is the one that it represents
  by_file : (q : ℕ) (p : Part) → IsPartNumber q → part_at segments id q ≡ Some p → (file : SwiftObject) → get segments (segment_name id q) ≡ Some file → part_of file ≡ Some p → IsSegment (segment_name id q) file → Stands segments id q p
  by_file q p counted at file found reads (is_part part) =
      let same : laws.part_in part ≡ p = same_Some (laws.part_in part) p (sym (λ k. part_by (part.tagged k) (plain_bytes (part.own k))) ∙ reads) in
      let bytes : part.bytes ≡ p.bytes = ap (λ (p : Part). p.bytes) same in
      record {
        file = file;
        there = found;
        own = part.own ∙ ap Plain bytes;
        etag = sym (ap (λ (p : Part). p.etag) same) ∙ ap body_etag bytes;
        sized = subst (λ bytes. length bytes ≤ most_body_bytes) bytes part.sized;
        counted = counted;
        at = at;
      }
  by_file q p counted at file found reads (is_sub_manifest sub) = absurd (part_no_sub id (id_digits sub.id) q sub.number sub.named)

  by_found : (q : ℕ) (p : Part) → IsPartNumber q → part_at segments id q ≡ Some p → (o : Option SwiftObject) → get segments (segment_name id q) ≡ o → option_and_then part_of o ≡ Some p → Stands segments id q p
  by_found q p counted at None found reads = absurd (none-some p reads)
  by_found q p counted at (Some file) found reads = by_file q p counted at file found reads ((sound.buckets bucket is there).of_segments (segment_name id q) file found)

  pub stands : (q : ℕ) (p : Part) → get (parts_of segments id) q ≡ Some p → Stands segments id q p
  stands q p found = elim (cases_lt 0 q) [
    | inl some ↦ elim (cases_lt greatest_part q) [
      | inl above ↦ absurd (none-some p (sym (table_above (part_at segments id) greatest_part q above) ∙ found))
      | inr within ↦
          let at : part_at segments id q ≡ Some p = sym (table_within (part_at segments id) greatest_part q some within) ∙ found in
          by_found q p (record { counted = omega (arith, some); within = within }) at (get segments (segment_name id q)) refl at
    ]
    | inr none ↦
        let zero_is : q ≡ 0 = omega (arith, none) in
        absurd (none-some p (sym (ap (get (parts_of segments id)) zero_is ∙ table_zero (part_at segments id) greatest_part) ∙ found))
  ]

  -- ---- the rows of a list

  bytes_of : (rows : List Row) → AllByRecursion (Names (parts_of segments id)) rows → sealed_bytes segments id (map sealed_in rows) ≡ flat_map bytes_in (map part_in rows)
  bytes_of [] names = refl
  bytes_of (row ∷ rows) names =
      let stand = stands row.0.number row.1 names.0.there in
      λ k. part_bytes (stand.at k) ++ bytes_of rows names.1 k

  sealed_parts : (rows : List Row) → AllByRecursion (Names (parts_of segments id)) rows → AreSealedParts segments id (map sealed_in rows)
  sealed_parts [] names = tt
  sealed_parts (row ∷ rows) names =
      let stand = stands row.0.number row.1 names.0.there in (
        record {
          file = stand.file;
          bytes = row.1.bytes;
          there = stand.there;
          own = stand.own;
          etag = sym names.0.same ∙ stand.etag ∙ sym (same_etag row.1.bytes);
          size = refl;
        },
        sealed_parts rows names.1,
      )

  one_fits : (row : Row) → Names (parts_of segments id) row → part_fits_sealed_text (sealed_in row) ≡ true
  one_fits row names =
      let stand = stands row.0.number row.1 names.there in
      let low = stand.counted.counted in
      let high = stand.counted.within in
      and_from _ _ (and_from _ _ (and_from _ _ (le-leb 1 row.0.number low) (le-leb row.0.number greatest_part high)) (ap is_etag (sym names.same ∙ stand.etag) ∙ part_etag row.1.bytes))
      (le-leb (length row.1.bytes) most_body_bytes stand.sized)

  parts_fit : (rows : List Row) → AllByRecursion (Names (parts_of segments id)) rows → list_all part_fits_sealed_text (map sealed_in rows) ≡ true
  parts_fit [] names = refl
  parts_fit (row ∷ rows) names = and_from _ _ (one_fits row names.0) (parts_fit rows names.1)

  module _ {list : List Listed} {ps : List Part} {sealed : List SealedPart} (chooses : Chooses (parts_of segments id) list ps sealed) where
    -- the bytes are those that the machine joins
    pub same_bytes : sealed_bytes segments id sealed ≡ flat_map bytes_in ps
    same_bytes = ap (sealed_bytes segments id) chooses.seals ∙ bytes_of chooses.rows chooses.names ∙ ap (flat_map bytes_in) (sym chooses.takes)

    -- each part is there as it is sealed
    pub are_sealed : AreSealedParts segments id sealed
    are_sealed = subst (AreSealedParts segments id) (sym chooses.seals) (sealed_parts chooses.rows chooses.names)

    -- and a text may have each
    pub parts_have_text : list_all part_fits_sealed_text sealed ≡ true
    parts_have_text = ap (list_all part_fits_sealed_text) chooses.seals ∙ parts_fit chooses.rows chooses.names
