-- What is consistent by a smaller bound of bodies is consistent.
use Rattle.std.proofs.Common.{◌≡◌, ◌≤◌, ◌^◌, ℕ, Bool, true, false, ◌&&◌, cond, List, [], ◌∷◌, length, bytes_eq, nat_le, nat_lt, Option, None, Some, refl, sym, ap, subst, ◌∙◌, arith, inl, inr}
use Rattle.std.specs.List.{list_all}
use Rattle.std.specs.Option.{option_and_then}
use Rattle.std.specs.FinMap.{get}
use Rattle.std.proofs.lemmas.Bool.{and_parts, and_from, le-leb, leb-true}
use Rattle.std.proofs.lemmas.Option.{none-some, same_Some}
use Rattle.gate_base.specs.Maps.{Names}
use Rattle.s3_names.specs.Bucket.{is_bucket}
use Rattle.s3_machine.specs.Limits.{most_body_bytes}
use Rattle.slo_manifest.specs.Segments.{is_etag}
use Rattle.swift_marks.specs.Tag as mark
use Rattle.swift_calls.specs.declared.account.Content.TheVariants.{Plain}
use Rattle.swift_calls.specs.Account.{SwiftObject, SwiftAccount, files, find_object}
use Rattle.swift_calls.specs.Bodies.{plain_bytes}
use Rattle.upload_texts.specs.Places.{json_or_null, part_number_fits_record_text, is_part_count}
use Rattle.upload_texts.specs.Records.{content_fits_record_text}
use Rattle.upload_texts.specs.Sealed.{has_sealed_text, is_sealed_place, is_sealed_dated, part_fits_sealed_text, sealed_text, read_sealed, sealed_in as sealed_in_json}
use Rattle.upload_texts.specs.declared.sealed.Sealed.{Sealed}
use Rattle.upload_texts.specs.declared.sealed.SealedPart.{SealedPart}
use Rattle.upload_records.proofs.lemmas.GatewayFiles.{no_word}
use Rattle.upload_records.specs.Layout.{uploads_name, segments_name, gateway_name, sealed_name}
use Rattle.upload_records.specs.Native.{record_at, seal_by, seal_of}
use Rattle.upload_records.specs.Consistent.{ConsistentBucket, IsConsistent, IsObject, in_one_piece, in_parts, IsPart, IsPlainObject, IsGatewayFile, IsSealedFile, IsSegment, is_part, is_sub_manifest, IsThere, bucket_sound, sealed_in}
use Rattle.upload_records.specs.Bounded.{IsConsistentWithin, ConsistentBucketWithin, IsObjectWithin, IsPartWithin, IsPlainObjectWithin, IsGatewayFileWithin, IsSealedFileWithin, IsSegmentWithin, whole, of_parts, part, sub_manifest, WrittenByLess, WrittenByMost, bucket_sound_within, has_sealed_text_within, is_sealed_list_within, part_fits_within, read_sealed_within, seal_by_within, seal_of_within, sealed_from_within}

-- ---- by a smaller bound

module _ (most : ℕ) (low : most ≤ most_body_bytes) where
  part_wider : (p : SealedPart) → part_fits_within most p ≡ true → part_fits_sealed_text p ≡ true
  part_wider p e =
      let parts = and_parts (part_number_fits_record_text p.number && is_etag p.etag) (nat_le p.size most) e in
      let size = leb-true p.size most parts.1 in
      and_from (part_number_fits_record_text p.number && is_etag p.etag) (nat_le p.size most_body_bytes) parts.0 (le-leb p.size most_body_bytes (omega (arith, size, low)))

  parts_wider : (list : List SealedPart) → list_all (part_fits_within most) list ≡ true → list_all part_fits_sealed_text list ≡ true
  parts_wider [] e = refl
  parts_wider (p ∷ list) e =
      let parts = and_parts (part_fits_within most p) (list_all (part_fits_within most) list) e in
      and_from (part_fits_sealed_text p) (list_all part_fits_sealed_text list) (part_wider p parts.0) (parts_wider list parts.1)

  text_wider : (s : Sealed) → has_sealed_text_within most s ≡ true → has_sealed_text s ≡ true
  unfolding has_sealed_text
  text_wider s e =
      let place = and_parts (is_sealed_place s) _ e in
      let id = and_parts (nat_lt s.id (2 ^ 128)) _ place.1 in
      let content = and_parts (content_fits_record_text s.content_type s.meta) _ id.1 in
      let listed = and_parts (is_sealed_list_within most s.list) _ content.1 in
      let list = and_parts (is_part_count (length s.list)) (list_all (part_fits_within most) s.list) listed.0 in
      and_from (is_sealed_place s) _ place.0 (and_from (nat_lt s.id (2 ^ 128)) _ id.0 (and_from (content_fits_record_text s.content_type s.meta) _ content.0
      (and_from (is_part_count (length s.list) && list_all part_fits_sealed_text s.list) _
      (and_from (is_part_count (length s.list)) (list_all part_fits_sealed_text s.list) list.0 (parts_wider s.list list.1)) listed.1)))

  -- a text that reads by the smaller bound reads so
  reads_wider : (text : List ℕ) (s : Sealed) → read_sealed_within most text ≡ Some s → read_sealed text ≡ Some s
  unfolding read_sealed
  reads_wider text s is = by (has_sealed_text_within most found && bytes_eq (sealed_text found) text) refl is
    where
      found : Sealed
      found = sealed_in_json (json_or_null text)

      by : (t : Bool) → (has_sealed_text_within most found && bytes_eq (sealed_text found) text) ≡ t → cond t (Some found) None ≡ Some s
          → cond (has_sealed_text found && bytes_eq (sealed_text found) text) (Some found) None ≡ Some s
      by true e is =
          let parts = and_parts (has_sealed_text_within most found) (bytes_eq (sealed_text found) text) e in
          ap (λ t. cond t (Some found) None) (and_from (has_sealed_text found) (bytes_eq (sealed_text found) text) (text_wider found parts.0) parts.1) ∙ is
      by false e is = absurd (none-some s is)

  file_wider : (name : List ℕ) (file : SwiftObject) → IsSealedFileWithin most name file → IsSealedFile name file
  file_wider name file f = record { text = f.text; is = f.is; named = f.named; own = f.own; reads = reads_wider f.text f.is f.reads }

  gateway_wider : (name : List ℕ) (file : SwiftObject) → IsGatewayFileWithin most name file → IsGatewayFile name file
  gateway_wider name file (inl f) = inl (file_wider name file f)
  gateway_wider name file (inr word) = inr word

  sealed_within : (file : SwiftObject) → IsGatewayFileWithin most sealed_name file → IsSealedFileWithin most sealed_name file
  sealed_within file (inl f) = f
  sealed_within file (inr word) = absurd (no_word word)

  -- the same is sealed
  seal_same : (found : Option SwiftObject) → ((file : SwiftObject) → found ≡ Some file → IsSealedFileWithin most sealed_name file) → seal_by_within most found ≡ seal_by found
  seal_same None are = refl
  seal_same (Some file) are =
      let f = are file refl in
      let bytes : plain_bytes file.content ≡ Some f.text = ap plain_bytes f.own in
      ap (option_and_then (read_sealed_within most)) bytes ∙ f.reads ∙ sym (reads_wider f.text f.is f.reads) ∙ sym (ap (option_and_then read_sealed) bytes)

  object_wider : (segments : Names SwiftObject) (folder key : List ℕ) (file : SwiftObject) → IsObjectWithin most segments folder key file → IsObject segments folder key file
  object_wider segments folder key file (whole keyed f) =
      let sized = f.sized in
      in_one_piece keyed (record {
        bytes = f.bytes;
        content_type = f.content_type;
        meta = f.meta;
        moment = f.moment;
        own = f.own;
        sized = omega (arith, sized, low);
        tagged = f.tagged;
        packed = f.packed;
        described = f.described;
      })
  object_wider segments folder key file (of_parts keyed f) = in_parts keyed f

  segment_wider : (name : List ℕ) (file : SwiftObject) → IsSegmentWithin most name file → IsSegment name file
  segment_wider name file (part f) =
      let sized = f.sized in
      is_part (record {
        id = f.id;
        number = f.number;
        bytes = f.bytes;
        content_type = f.content_type;
        moment = f.moment;
        named = f.named;
        fits = f.fits;
        counted = f.counted;
        own = f.own;
        sized = omega (arith, sized, low);
        tagged = f.tagged;
      })
  segment_wider name file (sub_manifest f) = is_sub_manifest f

  bucket_wider : (folder : List ℕ) (objects records segments : Names SwiftObject) (sealed other : Option ℕ) → sealed ≡ other
      → ConsistentBucketWithin most folder objects records segments sealed → ConsistentBucket folder objects records segments other
  bucket_wider folder objects records segments sealed other same b = record {
    of_objects = λ key file is. object_wider segments folder key file (b.of_objects key file is);
    of_segments = λ name file is. segment_wider name file (b.of_segments name file is);
    of_records = b.of_records;
    apart = λ id has opens. sym same ∙ b.apart id has opens;
    subs_apart = λ name file sub is opens. sym same ∙ b.subs_apart name file sub is opens;
  }

  seal_is : (tree : SwiftAccount) → IsConsistentWithin most tree → seal_of_within most tree ≡ seal_of tree
  unfolding seal_of
  seal_is tree within = seal_same (find_object tree gateway_name sealed_name) (λ file is. sealed_within file (within.gateway sealed_name file is))

  account_wider : (tree : SwiftAccount) → IsConsistentWithin most tree → IsConsistent tree
  account_wider tree within =
      let same = seal_is tree within in
      record {
        folders = within.folders;
        buckets = λ bucket is there. bucket_wider (segments_name bucket) (files tree bucket) (files tree (uploads_name bucket)) (files tree (segments_name bucket)) _ _
            (ap (λ s. sealed_in s bucket) same) (within.buckets bucket is there);
        gateway = λ name file is. gateway_wider name file (within.gateway name file is);
        sealed = λ s is. within.sealed s (same ∙ is);
        stored = within.stored;
      }

pub written_by_less : WrittenByLess
written_by_less most tree low within = (account_wider most low tree within, seal_is most low tree within)

-- ---- by the greatest

reads_back : (text : List ℕ) → read_sealed text ≡ read_sealed_within most_body_bytes text
unfolding read_sealed has_sealed_text
reads_back text = refl

seal_back : (found : Option SwiftObject) → seal_by found ≡ seal_by_within most_body_bytes found
seal_back None = refl
seal_back (Some file) = by (plain_bytes file.content)
  where
    by : (bytes : Option (List ℕ)) → option_and_then read_sealed bytes ≡ option_and_then (read_sealed_within most_body_bytes) bytes
    by None = refl
    by (Some text) = reads_back text

account_seal_back : (tree : SwiftAccount) → seal_of tree ≡ seal_of_within most_body_bytes tree
unfolding seal_of
account_seal_back tree = seal_back (find_object tree gateway_name sealed_name)

object_back : (segments : Names SwiftObject) (folder key : List ℕ) (file : SwiftObject) → IsObject segments folder key file → IsObjectWithin most_body_bytes segments folder key file
object_back segments folder key file (in_one_piece keyed f) = whole keyed (record {
  bytes = f.bytes;
  content_type = f.content_type;
  meta = f.meta;
  moment = f.moment;
  own = f.own;
  sized = f.sized;
  tagged = f.tagged;
  packed = f.packed;
  described = f.described;
})
object_back segments folder key file (in_parts keyed f) = of_parts keyed f

segment_back : (name : List ℕ) (file : SwiftObject) → IsSegment name file → IsSegmentWithin most_body_bytes name file
segment_back name file (is_part f) = part (record {
  id = f.id;
  number = f.number;
  bytes = f.bytes;
  content_type = f.content_type;
  moment = f.moment;
  named = f.named;
  fits = f.fits;
  counted = f.counted;
  own = f.own;
  sized = f.sized;
  tagged = f.tagged;
})
segment_back name file (is_sub_manifest f) = sub_manifest f

bucket_back : (folder : List ℕ) (objects records segments : Names SwiftObject) (sealed other : Option ℕ) → sealed ≡ other
    → ConsistentBucket folder objects records segments sealed → ConsistentBucketWithin most_body_bytes folder objects records segments other
bucket_back folder objects records segments sealed other same b = record {
  of_objects = λ key file is. object_back segments folder key file (b.of_objects key file is);
  of_segments = λ name file is. segment_back name file (b.of_segments name file is);
  of_records = b.of_records;
  apart = λ id has opens. sym same ∙ b.apart id has opens;
  subs_apart = λ name file sub is opens. sym same ∙ b.subs_apart name file sub is opens;
}

gateway_back : (name : List ℕ) (file : SwiftObject) → IsGatewayFile name file → IsGatewayFileWithin most_body_bytes name file
gateway_back name file (inl f) = inl (record { text = f.text; is = f.is; named = f.named; own = f.own; reads = sym (reads_back f.text) ∙ f.reads })
gateway_back name file (inr word) = inr word

pub written_by_most : WrittenByMost
written_by_most tree sound =
    let same = account_seal_back tree in
    record {
      folders = sound.folders;
      buckets = λ bucket is there. bucket_back (segments_name bucket) (files tree bucket) (files tree (uploads_name bucket)) (files tree (segments_name bucket)) _ _
          (ap (λ s. sealed_in s bucket) same) (sound.buckets bucket is there);
      gateway = λ name file is. gateway_back name file (sound.gateway name file is);
      sealed = λ s is. sound.sealed s (same ∙ is);
      stored = sound.stored;
    }
