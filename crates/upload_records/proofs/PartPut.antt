-- The PUT of a part under an upload that is open puts the part.
use Rattle.std.specs.Prelude.{◌≡◌, ◌≢◌, ℕ, true, List, is_some, Option, None, Some}
use Rattle.std.specs.Option.{option_map, option_and_then}
use Rattle.std.specs.FinMap.{get, insert}
use Rattle.std.proofs.Common.{refl, sym, ap, subst, ◌∙◌, inl, inr, arith}
use Rattle.gate_base.specs.Maps.{Names, picked, adjust}
use Rattle.gate_base.proofs.lemmas.Maps.{by_name, apart, not_same, same_key, same_names, get-picked, at_insert, off_insert, at_adjust, off_adjust, put_is, table_insert, table_same}
use Rattle.s3_names.specs.Bucket.{is_bucket}
use Rattle.s3_names.specs.Id.{id_digits}
use Rattle.s3_machine.specs.Uploads.{greatest_part, with_part, on_upload}
use Rattle.swift_calls.specs.Account.{SwiftObject, SwiftContainer, SwiftAccount, files, files_of, put_file}
use Rattle.swift_calls.specs.Bodies.{plain_bytes}
use Rattle.swift_calls.specs.Files.{PutObject}
use Rattle.upload_texts.specs.declared.record.Record.{Record}
use Rattle.upload_texts.specs.declared.record.Record.TheVariants.{Open, Done}
use Rattle.upload_records.specs.Layout.{uploads_name, segments_name, segment_name, sub_manifest_name}
use Rattle.upload_records.specs.Native.{object_of, part_by, part_of, part_at, parts_of, record_of, record_at, upload_by, upload_of, bucket_from, IsUnsealed}
use Rattle.upload_records.specs.Consistent.{IsBeside, IsPart, IsSubManifest, IsSegment, is_part, IsOpen, HasList, ConsistentBucket, sealed_in, sealed_id, bucket_sound, IsStored, IsThere, IsConsistent}
use Rattle.upload_records.specs.Laws.{ChangesBy, file_put, part_in}
use Rattle.upload_records.proofs.lemmas.Settled.{seal_none}
use Rattle.upload_records.proofs.lemmas.Objects.{put_leaves}
use Rattle.upload_records.proofs.Carried.{none_found, bucket_as}
use Rattle.upload_records.proofs.lemmas.Sides.{part_no_sub, segment_id, segment_number, uploads_segments}
use Rattle.upload_records.proofs.Parts.{KeepsSegments, own_no_list}
use Rattle.upload_records.proofs.Segments.{objects_stay, objects_same, lists_as}
use Rattle.upload_records.proofs.lemmas.Beside.{bucket_stays, id_beside, same_beside, plain_beside, segments_there, file_off, files_new, sound_files}
use Rattle.upload_records.proofs.Leaves.{changes_same}

-- ---- the parts of an upload

module _ (S : Names SwiftObject) (name : List ℕ) (file : SwiftObject) (part : IsPart name file) where
  -- what stands under another name stays
  other_name : (other : List ℕ) → (other ≡ name → ⊥) → get (insert S name file) other ≡ get S other
  other_name other never = off_insert by_name S name file other (apart by_name other name never)

  at_part : part_at (insert S name file) (id_digits part.id) part.number ≡ Some (part_in part)
  at_part = ap (option_and_then part_of) (ap (get (insert S name file)) (sym part.named) ∙ at_insert by_name S name file) ∙ (λ i. part_by (part.tagged i) (plain_bytes (part.own i)))

  off_part : (k : ℕ) → k ≢ part.number → part_at (insert S name file) (id_digits part.id) k ≡ part_at S (id_digits part.id) k
  off_part k other = ap (option_and_then part_of) (other_name (segment_name (id_digits part.id) k) (λ e. other (segment_number (id_digits part.id) k part.number (e ∙ part.named))))

  -- the part is put into those of its upload
  parts_new : parts_of (insert S name file) (id_digits part.id) ≡ insert (parts_of S (id_digits part.id)) part.number (part_in part)
  parts_new = table_insert (part_at S (id_digits part.id)) (part_at (insert S name file) (id_digits part.id)) greatest_part part.number (part_in part)
      (let counted = part.counted.counted in omega (arith, counted)) part.counted.within at_part off_part

  -- those of another stay
  parts_other : (q : List ℕ) → q ≢ id_digits part.id → parts_of (insert S name file) q ≡ parts_of S q
  parts_other q other = table_same (part_at (insert S name file) q) (part_at S q) greatest_part
      (λ k low high. ap (option_and_then part_of) (other_name (segment_name q k) (λ e. other (segment_id q (id_digits part.id) k part.number (e ∙ part.named)))))

  upload_new : (r : Option Record) → upload_by (insert S name file) (id_digits part.id) r ≡ option_map (with_part part.number (part_in part)) (upload_by S (id_digits part.id) r)
  upload_new None = refl
  upload_new (Some (Open key content_type meta started)) = λ i. Some (record { key = key; content_type = content_type; meta = meta; started = started; parts = parts_new i })
  upload_new (Some (Done key list etag started moment)) = refl

  upload_other : (q : List ℕ) → q ≢ id_digits part.id → (r : Option Record) → upload_by (insert S name file) q r ≡ upload_by S q r
  upload_other q other None = refl
  upload_other q other (Some (Open key content_type meta started)) = λ i. Some (record { key = key; content_type = content_type; meta = meta; started = started; parts = parts_other q other i })
  upload_other q other (Some (Done key list etag started moment)) = refl

  at_id : (o : Option SwiftObject) → option_and_then (upload_of (insert S name file) (id_digits part.id)) o ≡ option_map (with_part part.number (part_in part)) (option_and_then (upload_of S (id_digits part.id)) o)
  at_id None = refl
  at_id (Some f) = upload_new (record_of f)

  off_id : (q : List ℕ) → q ≢ id_digits part.id → (o : Option SwiftObject) → option_and_then (upload_of (insert S name file) q) o ≡ option_and_then (upload_of S q) o
  off_id q other None = refl
  off_id q other (Some f) = upload_other q other (record_of f)

  uploads_new : (R : Names SwiftObject) → picked (upload_of (insert S name file)) R ≡ adjust (id_digits part.id) (with_part part.number (part_in part)) (picked (upload_of S) R)
  uploads_new R = same_names _ _ (λ q. elim (same_key by_name q (id_digits part.id)) [
    | inl e ↦ subst (λ x. get (picked (upload_of (insert S name file)) R) x ≡ get (adjust (id_digits part.id) (with_part part.number (part_in part)) (picked (upload_of S) R)) x) (sym e)
        (get-picked by_name (upload_of (insert S name file)) R (id_digits part.id) ∙ at_id (get R (id_digits part.id))
        ∙ sym (ap (option_map (with_part part.number (part_in part))) (get-picked by_name (upload_of S) R (id_digits part.id)))
        ∙ sym (at_adjust by_name (id_digits part.id) (with_part part.number (part_in part)) (picked (upload_of S) R)))
    | inr a ↦ get-picked by_name (upload_of (insert S name file)) R q ∙ off_id q (not_same by_name q (id_digits part.id) a) (get R q)
        ∙ sym (get-picked by_name (upload_of S) R q) ∙ sym (off_adjust by_name (id_digits part.id) (with_part part.number (part_in part)) (picked (upload_of S) R) q a)
  ])

-- ---- the bucket

module _ (folder : List ℕ) (O R S : Names SwiftObject) (sealed : Option ℕ) (name : List ℕ) (file : SwiftObject) (old : ConsistentBucket folder O R S sealed) (part : IsPart name file)
    (unlisted : (j : ℕ) → id_digits j ≡ id_digits part.id → HasList O S j → ⊥) where
  -- a list of the bucket is under another id
  other_id : (id : ℕ) → HasList O S id → KeepsSegments S (insert S name file) (id_digits id)
  other_id id lists = record {
    parts = λ k f found. other_name S name file part (segment_name (id_digits id) k) (λ e. unlisted id (segment_id (id_digits id) (id_digits part.id) k part.number (e ∙ part.named)) lists) ∙ found;
    subs = λ k f found. other_name S name file part (sub_manifest_name (id_digits id) k) (λ e. part_no_sub (id_digits part.id) (id_digits id) part.number k (sym (e ∙ part.named))) ∙ found;
  }

  -- a part is no sub-manifest
  no_sub : (x : SwiftObject) → x ≡ file → (n : List ℕ) → IsSubManifest n x → ⊥
  no_sub x e n sub = own_no_list x.content part.bytes sub.listed (ap (λ (y : SwiftObject). y.content) e ∙ part.own) sub.own

  part_bucket : ConsistentBucket folder O R (insert S name file) sealed
  part_bucket = record {
    of_objects = objects_stay folder O S (insert S name file) old.of_objects other_id;
    of_segments = λ n f found. put_is IsSegment S name file n f (is_part part) (old.of_segments n f) found;
    of_records = old.of_records;
    apart = λ id lists open_record. old.apart id (lists_as O S (insert S name file) id lists) open_record;
    subs_apart = λ n f sub found opens. put_is (λ m x. (sub : IsSubManifest m x) → IsOpen (record_at R (id_digits sub.id)) → sealed ≡ Some sub.id) S name file n f
        (λ sub opens. absurd (no_sub file refl name sub)) (λ was sub. old.subs_apart n f sub was) found sub opens;
  }

  part_from : (b : SwiftContainer) → b.files ≡ O → bucket_from R (insert S name file) b ≡ on_upload (id_digits part.id) (with_part part.number (part_in part)) (bucket_from R S b)
  part_from b is =
      let same = ap (picked (object_of (insert S name file))) is ∙ objects_same folder O S (insert S name file) old.of_objects other_id ∙ sym (ap (picked (object_of S)) is) in
      let news = uploads_new S name file part R in
      λ i. record (bucket_from R S b) { objects = same i; uploads = news i }

-- ---- the account

module _ (tree : SwiftAccount) (b name : List ℕ) (file : SwiftObject) (is : is_bucket b ≡ true) (sound : IsConsistent tree) (unsealed : IsUnsealed tree) (part : IsPart name file)
    (unlisted : IsThere tree b → (j : ℕ) → id_digits j ≡ id_digits part.id → HasList (files tree b) (files tree (segments_name b)) j → ⊥) (stored : IsStored name file) where
  beside : IsBeside (segments_name b) b
  beside = record { of_bucket = is; is = inr refl }

  pub bucket_new : get (put_file (segments_name b) name file tree) b ≡ get tree b
  bucket_new = bucket_stays tree (put_file (segments_name b) name file tree) b (segments_name b) beside (file_off tree b (segments_name b) (λ fs. insert fs name file) beside) b is

  pub records_new : files (put_file (segments_name b) name file tree) (uploads_name b) ≡ files tree (uploads_name b)
  records_new = ap files_of (file_off tree b (segments_name b) (λ fs. insert fs name file) beside (uploads_name b) (uploads_segments b b is is))

  pub segments_new : IsThere tree b → files (put_file (segments_name b) name file tree) (segments_name b) ≡ insert (files tree (segments_name b)) name file
  segments_new there = files_new tree b (segments_name b) (λ fs. insert fs name file) beside (segments_there tree b sound is there)

  this_bucket : IsThere tree b → bucket_sound (put_file (segments_name b) name file tree) b
  this_bucket there = bucket_as (segments_name b) (ap files_of bucket_new) records_new (segments_new there)
      (id_beside tree (put_file (segments_name b) name file tree) b (segments_name b) beside (file_off tree b (segments_name b) (λ fs. insert fs name file) beside) b)
      (part_bucket (segments_name b) (files tree b) (files tree (uploads_name b)) (files tree (segments_name b)) (sealed_id tree b) name file (sound.buckets b is there) part (unlisted there))

  part_sound : IsConsistent (put_file (segments_name b) name file tree)
  part_sound = sound_files tree b (segments_name b) (λ fs. insert fs name file) beside sound unsealed this_bucket
      (λ n f found. put_is IsStored (files tree (segments_name b)) name file n f stored (sound.stored (segments_name b) n f) found)

  along : (folder : SwiftContainer) → get tree b ≡ Some folder
      → bucket_from (files (put_file (segments_name b) name file tree) (uploads_name b)) (files (put_file (segments_name b) name file tree) (segments_name b)) folder
      ≡ on_upload (id_digits part.id) (with_part part.number (part_in part)) (bucket_from (files tree (uploads_name b)) (files tree (segments_name b)) folder)
  along folder found =
      let there : IsThere tree b = ap is_some found in
      let news = segments_new there in
      (λ i. bucket_from (records_new i) (news i) folder)
      ∙ part_from (segments_name b) (files tree b) (files tree (uploads_name b)) (files tree (segments_name b)) (sealed_id tree b) name file (sound.buckets b is there) part (unlisted there) folder (sym (ap files_of found))

-- a part's file is put under an id whose segments no object lists
pub part_changes : (tree : SwiftAccount) (b name content_type : List ℕ) (meta : List (List ℕ)) (body : List ℕ) (part : IsPart name (file_put content_type meta body))
    → is_bucket b ≡ true → (IsThere tree b → (j : ℕ) → id_digits j ≡ id_digits part.id → HasList (files tree b) (files tree (segments_name b)) j → ⊥)
    → IsStored name (file_put content_type meta body) → IsConsistent tree → IsUnsealed tree
    → ChangesBy tree (PutObject (segments_name b) name content_type meta body) (adjust b (on_upload (id_digits part.id) (with_part part.number (part_in part))))
part_changes tree b name content_type meta body part is unlisted stored sound unsealed =
    let file : SwiftObject = file_put content_type meta body in
    let new : SwiftAccount = put_file (segments_name b) name file tree in
    let side = beside tree b name file is sound unsealed part unlisted stored in
    let off = file_off tree b (segments_name b) (λ fs. insert fs name file) side in
    changes_same tree new (PutObject (segments_name b) name content_type meta body) (adjust b (on_upload (id_digits part.id) (with_part part.number (part_in part)))) unsealed
    (same_beside tree new b (segments_name b) side off)
    (put_leaves (get tree (segments_name b)) (segments_name b) name file tree refl)
    (part_sound tree b name file is sound unsealed part unlisted stored)
    (plain_beside tree new b (segments_name b) side off (on_upload (id_digits part.id) (with_part part.number (part_in part))) (along tree b name file is sound unsealed part unlisted stored))

-- no object lists the segments of an upload that is open
open_unlisted : (tree : SwiftAccount) (b id : List ℕ) → is_bucket b ≡ true → IsOpen (record_at (files tree (uploads_name b)) id) → IsConsistent tree → IsUnsealed tree
    → IsThere tree b → (j : ℕ) → id_digits j ≡ id → HasList (files tree b) (files tree (segments_name b)) j → ⊥
open_unlisted tree b id is opens sound unsealed there j e lists =
    let none : sealed_id tree b ≡ None = ap (λ s. sealed_in s b) (seal_none tree unsealed) in
    none_found j (sym none ∙ (sound.buckets b is there).apart j lists (subst (λ t. IsOpen (record_at (files tree (uploads_name b)) t)) (sym e) opens))

pub part_put : (tree : SwiftAccount) (b name content_type : List ℕ) (meta : List (List ℕ)) (body : List ℕ) (part : IsPart name (file_put content_type meta body))
    → is_bucket b ≡ true → IsOpen (record_at (files tree (uploads_name b)) (id_digits part.id)) → IsStored name (file_put content_type meta body) → IsConsistent tree → IsUnsealed tree
    → ChangesBy tree (PutObject (segments_name b) name content_type meta body) (adjust b (on_upload (id_digits part.id) (with_part part.number (part_in part))))
part_put tree b name content_type meta body part is opens stored sound unsealed =
    part_changes tree b name content_type meta body part is (open_unlisted tree b (id_digits part.id) is opens sound unsealed) stored sound unsealed
