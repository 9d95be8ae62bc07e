-- The PUT of the record of an open upload, under an id under which nothing stands, opens the upload.
use Rattle.std.specs.Prelude.{◌≡◌, ◌<◌, ◌^◌, ℕ, zero, suc, true, List, is_some, Option, None, Some}
use Rattle.std.specs.Option.{option_and_then}
use Rattle.std.specs.FinMap.{get, insert, empty}
use Rattle.std.proofs.Common.{refl, sym, ap, subst, ◌∙◌, inl, inr}
use Rattle.gate_base.specs.Maps.{Names, picked, adjust, table}
use Rattle.gate_base.proofs.lemmas.Maps.{by_name, same_key, get-picked, off_insert, picked_insert, picked_insert_same, put_is, table_same}
use Rattle.s3_names.specs.Bucket.{is_bucket}
use Rattle.s3_names.specs.Id.{id_digits}
use Rattle.s3_machine.specs.State.{Part}
use Rattle.s3_machine.specs.Uploads.{greatest_part, open_upload}
use Rattle.swift_calls.specs.Account.{SwiftObject, SwiftContainer, SwiftAccount, files, files_of, put_file}
use Rattle.swift_calls.specs.Bodies.{plain_bytes}
use Rattle.swift_calls.specs.declared.account.Content.TheVariants.{Plain}
use Rattle.swift_calls.specs.Files.{PutObject}
use Rattle.upload_texts.specs.Records.{read_record}
use Rattle.upload_texts.specs.declared.record.Record.TheVariants.{Open}
use Rattle.upload_records.specs.Layout.{uploads_name, segments_name, segment_name, sub_manifest_name}
use Rattle.upload_records.specs.Native.{part_of, part_at, parts_of, record_of, upload_by, upload_of, kept_by, kept_of, bucket_from, IsUnsealed}
use Rattle.upload_records.specs.Consistent.{IsBeside, IsRecord, IsOpen, HasList, by_object, ConsistentBucket, sealed_id, bucket_sound, IsStored, IsThere, IsConsistent}
use Rattle.upload_records.specs.Laws.{ChangesBy, file_put, IsUnused, IsOpenText, upload_in}
use Rattle.upload_records.proofs.lemmas.Objects.{put_leaves}
use Rattle.upload_records.proofs.Carried.{none_found, bucket_as}
use Rattle.upload_records.proofs.Parts.{unlisted}
use Rattle.upload_records.proofs.lemmas.Sides.{segments_uploads}
use Rattle.upload_records.proofs.lemmas.Beside.{bucket_stays, id_beside, same_beside, plain_beside, records_there, file_off, files_new, sound_files}
use Rattle.upload_records.proofs.Leaves.{changes_same}

-- ---- no part

table_none : (n : ℕ) → table {X = Part} (λ k. None) n ≡ empty
unfolding table
table_none zero = refl
table_none (suc n) = table_none n

-- an id under which no segment stands has no parts
parts_none : (S : Names SwiftObject) (id : List ℕ) → ((k : ℕ) → get S (segment_name id k) ≡ None) → parts_of S id ≡ empty
parts_none S id bare = table_same (part_at S id) (λ k. None) greatest_part (λ k low high. ap (option_and_then part_of) (bare k)) ∙ table_none greatest_part

-- ---- the bucket

module _ (folder : List ℕ) (O R S : Names SwiftObject) (sealed : Option ℕ) (id : ℕ) (file : SwiftObject) (text : List ℕ) (opens : IsOpenText text) (own : file.content ≡ Plain text) where
  record_file : record_of file ≡ Some (Open opens.key opens.content_type opens.meta opens.started)
  record_file = ap (λ c. option_and_then read_record (plain_bytes c)) own ∙ opens.reads

  opened_bucket : id < 2 ^ 128 → ((k : ℕ) → get S (segment_name (id_digits id) k) ≡ None) → ((k : ℕ) → get S (sub_manifest_name (id_digits id) k) ≡ None) → ConsistentBucket folder O R S sealed → ConsistentBucket folder O (insert R (id_digits id) file) S sealed
  opened_bucket fits bare unlisted_id old = record {
    of_objects = old.of_objects;
    of_segments = old.of_segments;
    of_records = λ n f found. put_is IsRecord R (id_digits id) file n f
        (record { id = id; text = text; is = Open opens.key opens.content_type opens.meta opens.started; named = refl; fits = fits; own = own; reads = opens.reads })
        (old.of_records n f) found;
    apart = λ j lists open_record. elim (same_key by_name (id_digits j) (id_digits id)) [
      | inl e ↦ absurd (none_listed j e lists)
      | inr a ↦ old.apart j lists (subst IsOpen (ap (option_and_then record_of) (off_insert by_name R (id_digits id) file (id_digits j) a)) open_record)
    ];
    subs_apart = λ n f sub found open_record. elim (same_key by_name (id_digits sub.id) (id_digits id)) [
      | inl e ↦ absurd (none_found f (sym (unlisted_id sub.number) ∙ ap (get S) (ap (λ t. sub_manifest_name t sub.number) (sym e) ∙ sym sub.named) ∙ found))
      | inr a ↦ old.subs_apart n f sub found (subst IsOpen (ap (option_and_then record_of) (off_insert by_name R (id_digits id) file (id_digits sub.id) a)) open_record)
    ];
  }
    where
      none_listed : (j : ℕ) → id_digits j ≡ id_digits id → HasList O S j → ⊥
      none_listed j e (by_object key f found lists) = unlisted S folder key f j (old.of_objects key f found) lists (λ k. ap (λ t. get S (segment_name t k)) e ∙ bare k)

  opened_from : (b : SwiftContainer) → get R (id_digits id) ≡ None → ((k : ℕ) → get S (segment_name (id_digits id) k) ≡ None)
      → bucket_from (insert R (id_digits id) file) S b ≡ open_upload (id_digits id) (upload_in opens) (bucket_from R S b)
  opened_from b unrecorded bare =
      let bare_parts = parts_none S (id_digits id) bare in
      let upload : upload_of S (id_digits id) file ≡ Some (upload_in opens)
      = ap (upload_by S (id_digits id)) record_file ∙ (λ i. Some (record { key = opens.key; content_type = opens.content_type; meta = opens.meta; started = opens.started; parts = bare_parts i })) in
      let uploads = picked_insert by_name (upload_of S) R (id_digits id) file (upload_in opens) upload in
      let none : kept_of (id_digits id) file ≡ get (picked kept_of R) (id_digits id)
      = ap kept_by record_file ∙ sym (get-picked by_name kept_of R (id_digits id) ∙ ap (option_and_then (kept_of (id_digits id))) unrecorded) in
      let kept = picked_insert_same by_name kept_of R (id_digits id) file none in
      λ i. record (bucket_from R S b) { uploads = uploads i; kept = kept i }

-- ---- the account

module _ (tree : SwiftAccount) (b : List ℕ) (id : ℕ) (file : SwiftObject) (text : List ℕ) (opens : IsOpenText text) (own : file.content ≡ Plain text) (is : is_bucket b ≡ true) (fits : id < 2 ^ 128)
    (unused : IsUnused tree b (id_digits id)) (stored : IsStored (id_digits id) file) (sound : IsConsistent tree) (unsealed : IsUnsealed tree) where
  beside : IsBeside (uploads_name b) b
  beside = record { of_bucket = is; is = inl refl }

  objects_new : files (put_file (uploads_name b) (id_digits id) file tree) b ≡ files tree b
  objects_new = ap files_of (bucket_stays tree (put_file (uploads_name b) (id_digits id) file tree) b (uploads_name b) beside (file_off tree b (uploads_name b) (λ fs. insert fs (id_digits id) file) beside) b is)

  segments_new : files (put_file (uploads_name b) (id_digits id) file tree) (segments_name b) ≡ files tree (segments_name b)
  segments_new = ap files_of (file_off tree b (uploads_name b) (λ fs. insert fs (id_digits id) file) beside (segments_name b) (segments_uploads b b is is))

  records_new : IsThere tree b → files (put_file (uploads_name b) (id_digits id) file tree) (uploads_name b) ≡ insert (files tree (uploads_name b)) (id_digits id) file
  records_new there = files_new tree b (uploads_name b) (λ fs. insert fs (id_digits id) file) beside (records_there tree b sound is there)

  this_bucket : IsThere tree b → bucket_sound (put_file (uploads_name b) (id_digits id) file tree) b
  this_bucket there = bucket_as (segments_name b) objects_new (records_new there) segments_new
      (id_beside tree (put_file (uploads_name b) (id_digits id) file tree) b (uploads_name b) beside (file_off tree b (uploads_name b) (λ fs. insert fs (id_digits id) file) beside) b)
      (opened_bucket (segments_name b) (files tree b) (files tree (uploads_name b)) (files tree (segments_name b)) (sealed_id tree b) id file text opens own fits unused.bare unused.unlisted (sound.buckets b is there))

  opened_sound : IsConsistent (put_file (uploads_name b) (id_digits id) file tree)
  opened_sound = sound_files tree b (uploads_name b) (λ fs. insert fs (id_digits id) file) beside sound unsealed this_bucket
      (λ n f found. put_is IsStored (files tree (uploads_name b)) (id_digits id) file n f stored (sound.stored (uploads_name b) n f) found)

  along : (folder : SwiftContainer) → get tree b ≡ Some folder
      → bucket_from (files (put_file (uploads_name b) (id_digits id) file tree) (uploads_name b)) (files (put_file (uploads_name b) (id_digits id) file tree) (segments_name b)) folder
      ≡ open_upload (id_digits id) (upload_in opens) (bucket_from (files tree (uploads_name b)) (files tree (segments_name b)) folder)
  along folder found =
      let news = records_new (ap is_some found) in
      (λ i. bucket_from (news i) (segments_new i) folder)
      ∙ opened_from (segments_name b) (files tree b) (files tree (uploads_name b)) (files tree (segments_name b)) None id file text opens own folder unused.unrecorded unused.bare

pub upload_opened : (tree : SwiftAccount) (b : List ℕ) (id : ℕ) (content_type : List ℕ) (meta : List (List ℕ)) (text : List ℕ) (opens : IsOpenText text)
    → is_bucket b ≡ true → id < 2 ^ 128 → IsUnused tree b (id_digits id) → IsStored (id_digits id) (file_put content_type meta text) → IsConsistent tree → IsUnsealed tree
    → ChangesBy tree (PutObject (uploads_name b) (id_digits id) content_type meta text) (adjust b (open_upload (id_digits id) (upload_in opens)))
upload_opened tree b id content_type meta text opens is fits unused stored sound unsealed =
    let file : SwiftObject = file_put content_type meta text in
    let new : SwiftAccount = put_file (uploads_name b) (id_digits id) file tree in
    let side : IsBeside (uploads_name b) b = record { of_bucket = is; is = inl refl } in
    let off = file_off tree b (uploads_name b) (λ fs. insert fs (id_digits id) file) side in
    changes_same tree new (PutObject (uploads_name b) (id_digits id) content_type meta text) (adjust b (open_upload (id_digits id) (upload_in opens))) unsealed
    (same_beside tree new b (uploads_name b) side off)
    (put_leaves (get tree (uploads_name b)) (uploads_name b) (id_digits id) file tree refl)
    (opened_sound tree b id file text opens refl is fits unused stored sound unsealed)
    (plain_beside tree new b (uploads_name b) side off (open_upload (id_digits id) (upload_in opens)) (along tree b id file text opens refl is fits unused stored sound unsealed))
