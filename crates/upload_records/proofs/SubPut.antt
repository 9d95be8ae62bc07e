-- The PUT of a sub-manifest beside a bucket, and that of one under an id that nothing names, which leaves the state.
use Rattle.std.specs.Prelude.{◌≡◌, ℕ, List, true, is_some, Option, None, Some}
use Rattle.std.specs.Option.{option_and_then}
use Rattle.std.specs.FinMap.{get, insert}
use Rattle.std.proofs.Common.{refl, sym, ap, subst, ◌∙◌, inr}
use Rattle.gate_base.specs.Maps.{Names, picked}
use Rattle.gate_base.proofs.lemmas.Maps.{by_name, apart, off_insert, put_is, picked_same, table_same}
use Rattle.s3_names.specs.Bucket.{is_bucket}
use Rattle.s3_names.specs.Id.{id_digits}
use Rattle.s3_machine.specs.Uploads.{greatest_part}
use Rattle.swift_calls.specs.Account.{SwiftObject, SwiftContainer, SwiftAccount, files, files_of, put_file}
use Rattle.upload_records.specs.Layout.{uploads_name, segments_name, segment_name, sub_manifest_name}
use Rattle.upload_records.specs.Native.{object_of, part_of, part_at, parts_of, record_of, record_at, upload_of, bucket_from, plain, SameGateway, IsUnsealed, s3_state}
use Rattle.upload_records.specs.Consistent.{IsBeside, IsSubManifest, IsSegment, is_sub_manifest, IsOpen, HasList, ConsistentBucket, sealed_id, bucket_sound, IsStored, IsThere, IsConsistent}
use Rattle.upload_records.specs.Laws.{IsAbandoned, KeepsOrphan}
use Rattle.upload_records.proofs.lemmas.Settled.{OffSame, s3_state_by_plain, unsealed_same}
use Rattle.upload_records.proofs.Carried.{bucket_as}
use Rattle.upload_records.proofs.lemmas.Sides.{part_no_sub, sub_id, uploads_segments}
use Rattle.upload_records.proofs.Parts.{KeepsSegments}
use Rattle.upload_records.proofs.Segments.{objects_stay, objects_same, lists_as}
use Rattle.upload_records.proofs.SideCalls.{parts_same}
use Rattle.upload_records.proofs.lemmas.Beside.{bucket_stays, id_beside, same_beside, plain_same, segments_there, file_off, files_new, sound_files}

-- ---- a sub-manifest is no part

module _ (S : Names SwiftObject) (name : List ℕ) (file : SwiftObject) (sub : IsSubManifest name file) where
  -- what stands under another name stays
  pub other_name : (other : List ℕ) → (other ≡ name → ⊥) → get (insert S name file) other ≡ get S other
  other_name other never = off_insert by_name S name file other (apart by_name other name never)

  -- a part has another name
  pub part_stays : (q : List ℕ) (k : ℕ) → get (insert S name file) (segment_name q k) ≡ get S (segment_name q k)
  part_stays q k = other_name (segment_name q k) (λ e. part_no_sub q (id_digits sub.id) k sub.number (e ∙ sub.named))

  pub part_at_stays : (q : List ℕ) (k : ℕ) → part_at (insert S name file) q k ≡ part_at S q k
  part_at_stays q k = ap (option_and_then part_of) (part_stays q k)

  parts_stay : (q : List ℕ) → parts_of (insert S name file) q ≡ parts_of S q
  parts_stay q = table_same (part_at (insert S name file) q) (part_at S q) greatest_part (λ k low high. part_at_stays q k)

  uploads_same : (R : Names SwiftObject) → picked (upload_of (insert S name file)) R ≡ picked (upload_of S) R
  uploads_same R = picked_same by_name (upload_of (insert S name file)) (upload_of S) R (λ q x found. parts_same S (insert S name file) q (parts_stay q) (record_of x))

-- ---- the bucket

module _ (folder : List ℕ) (O R S : Names SwiftObject) (sealed : Option ℕ) (name : List ℕ) (file : SwiftObject) (sub : IsSubManifest name file) (old : ConsistentBucket folder O R S sealed)
    (keeps : (j : ℕ) → HasList O S j → KeepsSegments S (insert S name file) (id_digits j)) where
  -- it stays consistent, where no upload is open under the id but one that is sealed
  pub sub_bucket : ((x : IsSubManifest name file) → IsOpen (record_at R (id_digits x.id)) → sealed ≡ Some x.id) → ConsistentBucket folder O R (insert S name file) sealed
  sub_bucket mine = record {
    of_objects = objects_stay folder O S (insert S name file) old.of_objects keeps;
    of_segments = λ n f found. put_is IsSegment S name file n f (is_sub_manifest sub) (old.of_segments n f) found;
    of_records = old.of_records;
    apart = λ j lists opens. old.apart j (lists_as O S (insert S name file) j lists) opens;
    subs_apart = λ n f x found opens. put_is (λ m y. (z : IsSubManifest m y) → IsOpen (record_at R (id_digits z.id)) → sealed ≡ Some z.id) S name file n f
        mine (λ was z. old.subs_apart n f z was) found x opens;
  }

  pub sub_from : (b : SwiftContainer) → b.files ≡ O → bucket_from R (insert S name file) b ≡ bucket_from R S b
  sub_from b is =
      let same = ap (picked (object_of (insert S name file))) is ∙ objects_same folder O S (insert S name file) old.of_objects keeps ∙ sym (ap (picked (object_of S)) is) in
      let uploads = uploads_same S name file sub R in
      λ i. record (bucket_from R S b) { objects = same i; uploads = uploads i }

-- ---- under an id that nothing names

module _ (tree : SwiftAccount) (b name : List ℕ) (file : SwiftObject) (sub : IsSubManifest name file) (is : is_bucket b ≡ true) (abandoned : IsAbandoned tree b (id_digits sub.id))
    (stored : IsStored name file) (sound : IsConsistent tree) (unsealed : IsUnsealed tree) where
  beside : IsBeside (segments_name b) b
  beside = record { of_bucket = is; is = inr refl }

  off : OffSame tree (put_file (segments_name b) name file tree) (segments_name b)
  off = file_off tree b (segments_name b) (λ fs. insert fs name file) beside

  bucket_new : get (put_file (segments_name b) name file tree) b ≡ get tree b
  bucket_new = bucket_stays tree (put_file (segments_name b) name file tree) b (segments_name b) beside off b is

  records_new : files (put_file (segments_name b) name file tree) (uploads_name b) ≡ files tree (uploads_name b)
  records_new = ap files_of (off (uploads_name b) (uploads_segments b b is is))

  segments_new : IsThere tree b → files (put_file (segments_name b) name file tree) (segments_name b) ≡ insert (files tree (segments_name b)) name file
  segments_new there = files_new tree b (segments_name b) (λ fs. insert fs name file) beside (segments_there tree b sound is there)

  -- a list of the bucket is under another id
  keeps : (j : ℕ) → HasList (files tree b) (files tree (segments_name b)) j → KeepsSegments (files tree (segments_name b)) (insert (files tree (segments_name b)) name file) (id_digits j)
  keeps j lists = record {
    parts = λ k f found. part_stays (files tree (segments_name b)) name file sub (id_digits j) k ∙ found;
    subs = λ k f found. other_name (files tree (segments_name b)) name file sub (sub_manifest_name (id_digits j) k)
        (λ e. abandoned.unlisted j (sub_id (id_digits j) (id_digits sub.id) k sub.number (e ∙ sub.named)) lists) ∙ found;
  }

  same_id : (x : IsSubManifest name file) → id_digits x.id ≡ id_digits sub.id
  same_id x = sub_id (id_digits x.id) (id_digits sub.id) x.number sub.number (sym x.named ∙ sub.named)

  this_bucket : IsThere tree b → bucket_sound (put_file (segments_name b) name file tree) b
  this_bucket there = bucket_as (segments_name b) (ap files_of bucket_new) records_new (segments_new there)
      (id_beside tree (put_file (segments_name b) name file tree) b (segments_name b) beside off b)
      (sub_bucket (segments_name b) (files tree b) (files tree (uploads_name b)) (files tree (segments_name b)) (sealed_id tree b) name file sub (sound.buckets b is there) keeps
      (λ x opens. absurd (abandoned.closed (subst (λ t. IsOpen (record_at (files tree (uploads_name b)) t)) (same_id x) opens))))

  listed_sound : IsConsistent (put_file (segments_name b) name file tree)
  listed_sound = sound_files tree b (segments_name b) (λ fs. insert fs name file) beside sound unsealed this_bucket
      (λ n f found. put_is IsStored (files tree (segments_name b)) name file n f stored (sound.stored (segments_name b) n f) found)

  along : (folder : SwiftContainer) → get tree b ≡ Some folder
      → bucket_from (files (put_file (segments_name b) name file tree) (uploads_name b)) (files (put_file (segments_name b) name file tree) (segments_name b)) folder
      ≡ bucket_from (files tree (uploads_name b)) (files tree (segments_name b)) folder
  along folder found =
      let there : IsThere tree b = ap is_some found in
      let news = segments_new there in
      (λ i. bucket_from (records_new i) (news i) folder)
      ∙ sub_from (segments_name b) (files tree b) (files tree (uploads_name b)) (files tree (segments_name b)) (sealed_id tree b) name file sub (sound.buckets b is there) keeps folder (sym (ap files_of found))

  listed_state : s3_state (put_file (segments_name b) name file tree) ≡ s3_state tree
  listed_state =
      let new : SwiftAccount = put_file (segments_name b) name file tree in
      s3_state_by_plain tree new (λ state. state) unsealed (unsealed_same tree new (same_beside tree new b (segments_name b) beside off) unsealed)
      (plain_same tree new b (segments_name b) beside off along)

  listed_abandoned : IsAbandoned (put_file (segments_name b) name file tree) b (id_digits sub.id)
  listed_abandoned =
      let new : SwiftAccount = put_file (segments_name b) name file tree in
      let objects : files new b ≡ files tree b = ap files_of bucket_new in
      record {
        closed = λ opens. abandoned.closed (subst (λ R. IsOpen (record_at R (id_digits sub.id))) records_new opens);
        unlisted = λ j e lists. abandoned.unlisted j e (lists_as (files tree b) (files tree (segments_name b)) (files new (segments_name b)) j (subst (λ O. HasList O (files new (segments_name b)) j) objects lists));
      }

  pub orphan_kept : IsThere tree b → KeepsOrphan tree (put_file (segments_name b) name file tree) b (id_digits sub.id) name file
  orphan_kept there = record {
    sound = listed_sound;
    same = listed_state;
    gateway = same_beside tree (put_file (segments_name b) name file tree) b (segments_name b) beside off;
    abandoned = listed_abandoned;
    there = ap is_some bucket_new ∙ there;
    objects = ap files_of bucket_new;
    records = records_new;
    holds = segments_new there;
  }

pub orphan_listed : (tree : SwiftAccount) (b name : List ℕ) (file : SwiftObject) (sub : IsSubManifest name file) → is_bucket b ≡ true → IsThere tree b → IsAbandoned tree b (id_digits sub.id)
    → IsStored name file → IsConsistent tree → IsUnsealed tree → KeepsOrphan tree (put_file (segments_name b) name file tree) b (id_digits sub.id) name file
orphan_listed tree b name file sub is there abandoned stored sound unsealed = orphan_kept tree b name file sub is abandoned stored sound unsealed there
