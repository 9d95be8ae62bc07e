-- The DELETE of the record of an open upload drops the upload.
use Rattle.std.specs.Prelude.{◌≡◌, ℕ, true, List, is_some, Option, None, Some}
use Rattle.std.specs.Option.{option_and_then}
use Rattle.std.specs.FinMap.{get, remove}
use Rattle.std.proofs.Common.{refl, sym, ap, subst, ◌∙◌, inl, inr}
use Rattle.gate_base.specs.Maps.{Names, picked, adjust}
use Rattle.gate_base.proofs.lemmas.Maps.{by_name, same_key, get-picked, at_remove, off_remove, picked_remove, remove_missing, removed_is}
use Rattle.s3_names.specs.Bucket.{is_bucket}
use Rattle.s3_names.specs.Id.{id_digits}
use Rattle.s3_machine.specs.Uploads.{drop_upload}
use Rattle.swift_calls.specs.Account.{SwiftObject, SwiftContainer, SwiftAccount, files, files_of, find_object, remove_file}
use Rattle.swift_calls.specs.Step.{swift_step}
use Rattle.swift_calls.specs.declared.calls.SwiftRequest.TheVariants.{DeleteObject}
use Rattle.upload_texts.specs.declared.record.Record.{Record}
use Rattle.upload_texts.specs.declared.record.Record.TheVariants.{Open, Done}
use Rattle.upload_records.specs.Layout.{uploads_name, segments_name}
use Rattle.upload_records.specs.Native.{record_of, record_at, upload_of, kept_by, kept_of, bucket_from, IsUnsealed}
use Rattle.upload_records.specs.Consistent.{IsBeside, IsRecord, IsOpen, HasList, ConsistentBucket, sealed_in, sealed_id, bucket_sound, IsStored, IsThere, IsConsistent}
use Rattle.upload_records.specs.Laws.{ChangesBy, IsAbandoned}
use Rattle.upload_records.proofs.lemmas.Settled.{seal_none}
use Rattle.upload_records.proofs.lemmas.Objects.{delete_leaves}
use Rattle.upload_records.proofs.Carried.{none_found, bucket_as}
use Rattle.upload_records.proofs.lemmas.Sides.{segments_uploads}
use Rattle.upload_records.proofs.lemmas.Beside.{bucket_stays, id_beside, same_beside, plain_beside, records_there, file_off, files_new, sound_files}
use Rattle.upload_records.proofs.Leaves.{changes_same}

-- ---- the bucket

-- an open record keeps no completion
kept_none : (r : Option Record) → IsOpen r → kept_by r ≡ None
kept_none None opens = refl
kept_none (Some (Open key content_type meta started)) opens = refl
kept_none (Some (Done key list etag started moment)) opens = absurd opens

kept_at : (id : List ℕ) (o : Option SwiftObject) → IsOpen (option_and_then record_of o) → option_and_then (kept_of id) o ≡ None
kept_at id None opens = refl
kept_at id (Some file) opens = kept_none (record_of file) opens

module _ (folder : List ℕ) (O R S : Names SwiftObject) (sealed : Option ℕ) (id : List ℕ) where
  -- what stands under the removed name is no record
  gone : (j : List ℕ) → j ≡ id → record_at (remove R id) j ≡ None
  gone j e = ap (option_and_then record_of) (ap (get (remove R id)) e ∙ at_remove by_name R id)

  pub records_left : ConsistentBucket folder O R S sealed → ConsistentBucket folder O (remove R id) S sealed
  records_left old = record {
    of_objects = old.of_objects;
    of_segments = old.of_segments;
    of_records = λ n f found. removed_is IsRecord R id n f (old.of_records n f) found;
    apart = λ j lists opens. elim (same_key by_name (id_digits j) id) [
      | inl e ↦ absurd (subst IsOpen (gone (id_digits j) e) opens)
      | inr a ↦ old.apart j lists (subst IsOpen (ap (option_and_then record_of) (off_remove by_name R id (id_digits j) a)) opens)
    ];
    subs_apart = λ n f sub found opens. elim (same_key by_name (id_digits sub.id) id) [
      | inl e ↦ absurd (subst IsOpen (gone (id_digits sub.id) e) opens)
      | inr a ↦ old.subs_apart n f sub found (subst IsOpen (ap (option_and_then record_of) (off_remove by_name R id (id_digits sub.id) a)) opens)
    ];
  }

  dropped_from : IsOpen (record_at R id) → (b : SwiftContainer) → bucket_from (remove R id) S b ≡ drop_upload id (bucket_from R S b)
  dropped_from opens b =
      let uploads = picked_remove by_name (upload_of S) R id in
      let kept = picked_remove by_name kept_of R id ∙ remove_missing by_name (picked kept_of R) id (get-picked by_name kept_of R id ∙ kept_at id (get R id) opens) in
      λ i. record (bucket_from R S b) { uploads = uploads i; kept = kept i }

-- ---- the account

module _ (tree : SwiftAccount) (b id : List ℕ) (is : is_bucket b ≡ true) (opens : IsOpen (record_at (files tree (uploads_name b)) id)) (sound : IsConsistent tree) (unsealed : IsUnsealed tree) where
  beside : IsBeside (uploads_name b) b
  beside = record { of_bucket = is; is = inl refl }

  objects_new : files (remove_file (uploads_name b) id tree) b ≡ files tree b
  objects_new = ap files_of (bucket_stays tree (remove_file (uploads_name b) id tree) b (uploads_name b) beside (file_off tree b (uploads_name b) (λ fs. remove fs id) beside) b is)

  segments_new : files (remove_file (uploads_name b) id tree) (segments_name b) ≡ files tree (segments_name b)
  segments_new = ap files_of (file_off tree b (uploads_name b) (λ fs. remove fs id) beside (segments_name b) (segments_uploads b b is is))

  records_new : IsThere tree b → files (remove_file (uploads_name b) id tree) (uploads_name b) ≡ remove (files tree (uploads_name b)) id
  records_new there = files_new tree b (uploads_name b) (λ fs. remove fs id) beside (records_there tree b sound is there)

  this_bucket : IsThere tree b → bucket_sound (remove_file (uploads_name b) id tree) b
  this_bucket there = bucket_as (segments_name b) objects_new (records_new there) segments_new
      (id_beside tree (remove_file (uploads_name b) id tree) b (uploads_name b) beside (file_off tree b (uploads_name b) (λ fs. remove fs id) beside) b)
      (records_left (segments_name b) (files tree b) (files tree (uploads_name b)) (files tree (segments_name b)) (sealed_id tree b) id (sound.buckets b is there))

  dropped_sound : IsConsistent (remove_file (uploads_name b) id tree)
  dropped_sound = sound_files tree b (uploads_name b) (λ fs. remove fs id) beside sound unsealed this_bucket
      (λ n f found. removed_is IsStored (files tree (uploads_name b)) id n f (sound.stored (uploads_name b) n f) found)

  along : (folder : SwiftContainer) → get tree b ≡ Some folder
      → bucket_from (files (remove_file (uploads_name b) id tree) (uploads_name b)) (files (remove_file (uploads_name b) id tree) (segments_name b)) folder
      ≡ drop_upload id (bucket_from (files tree (uploads_name b)) (files tree (segments_name b)) folder)
  along folder found =
      let news = records_new (ap is_some found) in
      (λ i. bucket_from (news i) (segments_new i) folder)
      ∙ dropped_from (segments_name b) (files tree b) (files tree (uploads_name b)) (files tree (segments_name b)) None id opens folder

  none_sealed : sealed_id tree b ≡ None
  none_sealed = ap (λ s. sealed_in s b) (seal_none tree unsealed)

  lists_old : (j : ℕ) → HasList (files (remove_file (uploads_name b) id tree) b) (files (remove_file (uploads_name b) id tree) (segments_name b)) j → HasList (files tree b) (files tree (segments_name b)) j
  lists_old j lists = subst (λ O. HasList O (files tree (segments_name b)) j) objects_new (subst (λ S. HasList (files (remove_file (uploads_name b) id tree) b) S j) segments_new lists)

  dropped_abandoned : IsThere tree b → IsAbandoned (remove_file (uploads_name b) id tree) b id
  dropped_abandoned there = record {
    closed = λ left. subst IsOpen (ap (λ R. record_at R id) (records_new there) ∙ ap (option_and_then record_of) (at_remove by_name (files tree (uploads_name b)) id)) left;
    unlisted = λ j e lists. none_found j (sym none_sealed ∙ (sound.buckets b is there).apart j (lists_old j lists) (subst (λ t. IsOpen (record_at (files tree (uploads_name b)) t)) (sym e) opens));
  }

pub upload_abandoned : (tree : SwiftAccount) (b id : List ℕ) → is_bucket b ≡ true → IsThere tree b → IsOpen (record_at (files tree (uploads_name b)) id) → IsConsistent tree → IsUnsealed tree
    → IsAbandoned (swift_step (DeleteObject (uploads_name b) id) tree).tree b id
upload_abandoned tree b id is there opens sound unsealed =
    subst (λ x. IsAbandoned x b id) (sym (delete_leaves (find_object tree (uploads_name b) id) (uploads_name b) id tree refl)) (dropped_abandoned tree b id is opens sound unsealed there)

pub upload_dropped : (tree : SwiftAccount) (b id : List ℕ) → is_bucket b ≡ true → IsOpen (record_at (files tree (uploads_name b)) id) → IsConsistent tree → IsUnsealed tree
    → ChangesBy tree (DeleteObject (uploads_name b) id) (adjust b (drop_upload id))
upload_dropped tree b id is opens sound unsealed =
    let new : SwiftAccount = remove_file (uploads_name b) id tree in
    let side : IsBeside (uploads_name b) b = record { of_bucket = is; is = inl refl } in
    let off = file_off tree b (uploads_name b) (λ fs. remove fs id) side in
    changes_same tree new (DeleteObject (uploads_name b) id) (adjust b (drop_upload id)) unsealed
    (same_beside tree new b (uploads_name b) side off)
    (delete_leaves (find_object tree (uploads_name b) id) (uploads_name b) id tree refl)
    (dropped_sound tree b id is opens sound unsealed)
    (plain_beside tree new b (uploads_name b) side off (drop_upload id) (along tree b id is opens sound unsealed))
