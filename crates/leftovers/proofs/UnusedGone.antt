-- The DELETE of a segment that isn't used.
use Rattle.std.specs.Prelude.{◌≡◌, ◌≢◌, ℕ, true, false, List, ◌∷◌, ◌++◌, take, Option, None, Some}
use Rattle.std.specs.Option.{option_and_then}
use Rattle.std.specs.FinMap.{get, remove}
use Rattle.std.proofs.Common.{refl, sym, ap, ◌∙◌, inr, true≢false}
use Rattle.std.proofs.Math.Seq.{take-append_seam}
use Rattle.gate_base.specs.Maps.{Names, picked}
use Rattle.gate_base.proofs.lemmas.Maps.{by_name, apart, off_remove, removed_is, picked_same, table_same}
use Rattle.s3_names.specs.Bucket.{is_bucket}
use Rattle.s3_names.specs.Id.{id_digits}
use Rattle.s3_names.proofs.lemmas.Ids.{length-id_digits}
use Rattle.s3_machine.specs.Uploads.{greatest_part}
use Rattle.swift_calls.specs.declared.calls.SwiftRequest.TheVariants.{DeleteObject}
use Rattle.swift_calls.specs.Account.{SwiftObject, SwiftContainer, SwiftAccount, files, files_of, find_object, remove_file}
use Rattle.upload_texts.specs.declared.record.Record.{Record}
use Rattle.upload_texts.specs.declared.record.Record.TheVariants.{Open, Done}
use Rattle.upload_records.specs.Layout.{uploads_name, segments_name, segment_name, five_digits}
use Rattle.upload_records.specs.Native.{object_of, part_of, part_at, parts_of, record_of, record_at, upload_by, upload_of, bucket_from, IsUnsealed}
use Rattle.upload_records.specs.Consistent.{IsBeside, IsSegment, IsSubManifest, IsOpen, ConsistentBucket, sealed_id, bucket_sound, IsStored, IsThere, IsConsistent}
use Rattle.upload_records.specs.Laws.{IsQuiet}
use Rattle.upload_records.proofs.lemmas.Settled.{OffSame}
use Rattle.upload_records.proofs.lemmas.Objects.{delete_leaves}
use Rattle.upload_records.proofs.lemmas.Sides.{uploads_segments}
use Rattle.upload_records.proofs.lemmas.Beside.{bucket_stays, id_beside, same_beside, plain_same, segments_there, file_off, files_new, sound_files}
use Rattle.leftovers.specs.Leftovers.{id_in, is_listed_in, is_open, is_used}
use Rattle.leftovers.proofs.SubManifests.{or_false}
use Rattle.leftovers.proofs.Unused.{objects_left, objects_same}
use Rattle.leftovers.proofs.lemmas.Consistency.{bucket_as, changes_same, lists_as}

-- ---- the id in a name

pub id_in_name : (id n : ℕ) → id_in (segment_name (id_digits id) n) ≡ id_digits id
unfolding segment_name
id_in_name id n = ap (λ k. take k (id_digits id ++ 47 ∷ five_digits n)) (sym (length-id_digits id)) ∙ take-append_seam (id_digits id) (47 ∷ five_digits n)

-- ---- the bucket

module _ (folder : List ℕ) (O R S : Names SwiftObject) (sealed : Option ℕ) (name : List ℕ) (unlisted : is_listed_in O S name ≡ false) (closed : is_open (record_at R (id_in name)) ≡ false)
    (old : ConsistentBucket folder O R S sealed) where
  left_bucket : ConsistentBucket folder O R (remove S name) sealed
  left_bucket = record {
    of_objects = objects_left folder O S name unlisted old.of_objects;
    of_segments = λ n f found. removed_is IsSegment S name n f (old.of_segments n f) found;
    of_records = old.of_records;
    apart = λ j lists opens. old.apart j (lists_as O S (remove S name) j lists) opens;
    subs_apart = λ n f sub found opens. removed_is (λ m x. (z : IsSubManifest m x) → IsOpen (record_at R (id_digits z.id)) → sealed ≡ Some z.id) S name n f (λ was z. old.subs_apart n f z was) found sub opens;
  }

  -- the parts of an upload that is open stay
  parts_stay : (q : List ℕ) (id : ℕ) → q ≡ id_digits id → is_open (record_at R q) ≡ true → parts_of (remove S name) q ≡ parts_of S q
  parts_stay q id named opens = table_same (part_at (remove S name) q) (part_at S q) greatest_part (λ k low high.
      ap (option_and_then part_of) (off_remove by_name S name (segment_name q k) (apart by_name (segment_name q k) name (other k))))
    where
      other : (k : ℕ) → segment_name q k ≢ name
      other k e =
          let of_q : id_in name ≡ q = ap id_in (sym e) ∙ ap (λ t. id_in (segment_name t k)) named ∙ id_in_name id k ∙ sym named in
          true≢false (sym opens ∙ ap (λ t. is_open (record_at R t)) (sym of_q) ∙ closed)

  upload_stays : (q : List ℕ) (r : Option Record) → (is_open r ≡ true → parts_of (remove S name) q ≡ parts_of S q) → upload_by (remove S name) q r ≡ upload_by S q r
  upload_stays q None same = refl
  upload_stays q (Some (Open key content_type meta started)) same = let parts = same refl in λ i. Some (record { key = key; content_type = content_type; meta = meta; started = started; parts = parts i })
  upload_stays q (Some (Done key list etag started moment)) same = refl

  uploads_same : picked (upload_of (remove S name)) R ≡ picked (upload_of S) R
  uploads_same = picked_same by_name (upload_of (remove S name)) (upload_of S) R (λ q x found.
      let record_x = old.of_records q x found in
      upload_stays q (record_of x) (λ opens. parts_stay q record_x.id record_x.named (ap (λ o. is_open (option_and_then record_of o)) found ∙ opens)))

  left_from : (b : SwiftContainer) → b.files ≡ O → bucket_from R (remove S name) b ≡ bucket_from R S b
  left_from b is =
      let same = ap (picked (object_of (remove S name))) is ∙ objects_same folder O S name unlisted old.of_objects ∙ sym (ap (picked (object_of S)) is) in
      let uploads = uploads_same in
      λ i. record (bucket_from R S b) { objects = same i; uploads = uploads i }

-- ---- the account

module _ (tree : SwiftAccount) (b name : List ℕ) (is : is_bucket b ≡ true) (there : IsThere tree b) (unused : is_used tree b name ≡ false) (sound : IsConsistent tree) (unsealed : IsUnsealed tree) where
  pub segment_beside : IsBeside (segments_name b) b
  segment_beside = record { of_bucket = is; is = inr refl }

  abbrev new : SwiftAccount
  new = remove_file (segments_name b) name tree

  pub segment_off : OffSame tree new (segments_name b)
  segment_off = file_off tree b (segments_name b) (λ fs. remove fs name) segment_beside

  pub objects_new : files new b ≡ files tree b
  objects_new = ap files_of (bucket_stays tree new b (segments_name b) segment_beside segment_off b is)

  pub records_new : files new (uploads_name b) ≡ files tree (uploads_name b)
  records_new = ap files_of (segment_off (uploads_name b) (uploads_segments b b is is))

  pub segments_new : files new (segments_name b) ≡ remove (files tree (segments_name b)) name
  segments_new = files_new tree b (segments_name b) (λ fs. remove fs name) segment_beside (segments_there tree b sound is there)

  unlisted : is_listed_in (files tree b) (files tree (segments_name b)) name ≡ false
  unlisted = (or_false _ _ unused).0

  closed : is_open (record_at (files tree (uploads_name b)) (id_in name)) ≡ false
  closed = (or_false _ _ (or_false _ _ unused).1).0

  this_bucket : bucket_sound new b
  this_bucket = bucket_as (segments_name b) objects_new records_new segments_new (id_beside tree new b (segments_name b) segment_beside segment_off b)
      (left_bucket (segments_name b) (files tree b) (files tree (uploads_name b)) (files tree (segments_name b)) (sealed_id tree b) name unlisted closed (sound.buckets b is there))

  along : (folder : SwiftContainer) → get tree b ≡ Some folder
      → bucket_from (files new (uploads_name b)) (files new (segments_name b)) folder ≡ bucket_from (files tree (uploads_name b)) (files tree (segments_name b)) folder
  along folder found =
      (λ i. bucket_from (records_new i) (segments_new i) folder)
      ∙ left_from (segments_name b) (files tree b) (files tree (uploads_name b)) (files tree (segments_name b)) (sealed_id tree b) name unlisted closed (sound.buckets b is there) folder (sym (ap files_of found))

  pub unused_gone : IsQuiet tree (DeleteObject (segments_name b) name)
  unused_gone =
      changes_same tree new (DeleteObject (segments_name b) name) (λ state. state) unsealed
      (same_beside tree new b (segments_name b) segment_beside segment_off)
      (delete_leaves (find_object tree (segments_name b) name) (segments_name b) name tree refl)
      (sound_files tree b (segments_name b) (λ fs. remove fs name) segment_beside sound unsealed (λ here. this_bucket)
      (λ n f found. removed_is IsStored (files tree (segments_name b)) name n f (sound.stored (segments_name b) n f) found))
      (plain_same tree new b (segments_name b) segment_beside segment_off along)
