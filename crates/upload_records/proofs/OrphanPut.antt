-- The PUT of a part's file under an id that nothing names leaves the state, and the segments of the id as such. So is an id under
-- which nothing stands.
use Rattle.std.specs.Prelude.{◌≡◌, ℕ, true, cond, List, is_some, Option, None, Some}
use Rattle.std.specs.Option.{option_and_then}
use Rattle.std.specs.FinMap.{get}
use Rattle.std.proofs.Common.{refl, sym, ap, subst, ◌∙◌}
use Rattle.std.proofs.lemmas.Option.{same_Some}
use Rattle.gate_base.specs.Maps.{Names, picked, adjust}
use Rattle.gate_base.proofs.lemmas.Maps.{by_name, get-picked, adjust_missing, adjust_stays, some_value}
use Rattle.s3_names.specs.Bucket.{is_bucket}
use Rattle.s3_names.specs.Id.{id_digits}
use Rattle.s3_machine.specs.State.{Upload, Bucket}
use Rattle.s3_machine.specs.Uploads.{on_upload, with_part}
use Rattle.swift_calls.specs.Account.{SwiftObject, SwiftContainer, SwiftAccount, files, files_of, put_file}
use Rattle.swift_calls.specs.Files.{PutObject}
use Rattle.upload_texts.specs.declared.record.Record.{Record}
use Rattle.upload_texts.specs.declared.record.Record.TheVariants.{Open, Done}
use Rattle.upload_records.specs.Layout.{uploads_name, segments_name, segment_name}
use Rattle.upload_records.specs.Native.{record_of, record_at, upload_by, upload_of, bucket_from, bucket_of, IsUnsealed, s3_state}
use Rattle.upload_records.specs.Consistent.{IsPart, IsOpen, HasList, by_object, IsStored, IsThere, IsConsistent}
use Rattle.upload_records.specs.Laws.{IsAbandoned, IsUnused, PutsOrphan, file_put, part_in}
use Rattle.upload_records.proofs.lemmas.Settled.{s3_state_unsealed}
use Rattle.upload_records.proofs.lemmas.Objects.{put_leaves}
use Rattle.upload_records.proofs.Carried.{sound_object}
use Rattle.upload_records.proofs.lemmas.Plain.{get_plain}
use Rattle.upload_records.proofs.Parts as parts
use Rattle.upload_records.proofs.PartPut.{bucket_new, records_new, segments_new, part_changes}
use Rattle.upload_records.proofs.Segments.{lists_as}

-- ---- no upload

closed_none : (S : Names SwiftObject) (id : List ℕ) (r : Option Record) → (IsOpen r → ⊥) → upload_by S id r ≡ None
closed_none S id None closed = refl
closed_none S id (Some (Open key content_type meta started)) closed = absurd (closed tt)
closed_none S id (Some (Done key list etag started moment)) closed = refl

none_at : (S : Names SwiftObject) (id : List ℕ) (o : Option SwiftObject) → (IsOpen (option_and_then record_of o) → ⊥) → option_and_then (upload_of S id) o ≡ None
none_at S id None closed = refl
none_at S id (Some file) closed = closed_none S id (record_of file) closed

-- where no upload is open under an id, a change of it is none
no_upload : (R S : Names SwiftObject) (id : List ℕ) (f : Upload → Upload) (folder : SwiftContainer) → (IsOpen (record_at R id) → ⊥) → on_upload id f (bucket_from R S folder) ≡ bucket_from R S folder
no_upload R S id f folder closed =
    let same = adjust_missing by_name id f (picked (upload_of S) R) (get-picked by_name (upload_of S) R id ∙ none_at S id (get R id) closed) in
    λ i. record (bucket_from R S folder) { uploads = same i }

-- ---- the account

module _ (tree : SwiftAccount) (b id : List ℕ) (is : is_bucket b ≡ true) (there : IsThere tree b) (closed : IsOpen (record_at (files tree (uploads_name b)) id) → ⊥) (unsealed : IsUnsealed tree) where
  state_stays : (f : Upload → Upload) → adjust b (on_upload id f) (s3_state tree) ≡ s3_state tree
  state_stays f =
      let folder = some_value (get tree b) there in
      let made : Bucket = bucket_from (files tree (uploads_name b)) (files tree (segments_name b)) folder.0 in
      let at : get (s3_state tree) b ≡ Some made
      = ap (λ s. get s b) (s3_state_unsealed tree unsealed) ∙ get_plain tree b ∙ ap (option_and_then (bucket_of tree b)) folder.1 ∙ ap (λ t. cond t (Some made) None) is in
      adjust_stays by_name b (on_upload id f) (s3_state tree) (λ n found. subst (λ x. on_upload id f x ≡ x) (same_Some made n (sym at ∙ found))
      (no_upload (files tree (uploads_name b)) (files tree (segments_name b)) id f folder.0 closed))

pub orphan_put : (tree : SwiftAccount) (b name content_type : List ℕ) (meta : List (List ℕ)) (body : List ℕ) (part : IsPart name (file_put content_type meta body))
    → is_bucket b ≡ true → IsThere tree b → IsAbandoned tree b (id_digits part.id) → IsStored name (file_put content_type meta body) → IsConsistent tree → IsUnsealed tree
    → PutsOrphan tree (PutObject (segments_name b) name content_type meta body) b (id_digits part.id) name (file_put content_type meta body)
orphan_put tree b name content_type meta body part is there abandoned stored sound unsealed =
    let file : SwiftObject = file_put content_type meta body in
    let new : SwiftAccount = put_file (segments_name b) name file tree in
    let id : List ℕ = id_digits part.id in
    let unlisted : IsThere tree b → (j : ℕ) → id_digits j ≡ id → HasList (files tree b) (files tree (segments_name b)) j → ⊥ = λ here. abandoned.unlisted in
    let leaves = put_leaves (get tree (segments_name b)) (segments_name b) name file tree refl in
    let changes = part_changes tree b name content_type meta body part is unlisted stored sound unsealed in
    let same_bucket = bucket_new tree b name file is sound unsealed part unlisted stored in
    let objects : files new b ≡ files tree b = ap files_of same_bucket in
    let records = records_new tree b name file is sound unsealed part unlisted stored in
    let still : IsAbandoned new b id = record {
      closed = λ opens. abandoned.closed (subst (λ R. IsOpen (record_at R id)) records opens);
      unlisted = λ j e lists. abandoned.unlisted j e (lists_as (files tree b) (files tree (segments_name b)) (files new (segments_name b)) j (subst (λ O. HasList O (files new (segments_name b)) j) objects lists));
    } in
    record {
      quiet = record { sound = changes.sound; state = changes.state ∙ state_stays tree b id is there abandoned.closed unsealed (with_part part.number (part_in part)); gateway = changes.gateway };
      abandoned = subst (λ x. IsAbandoned x b id) (sym leaves) still;
      there = ap (λ (x : SwiftAccount). is_some (get x b)) leaves ∙ ap is_some same_bucket ∙ there;
      objects = ap (λ (x : SwiftAccount). files x b) leaves ∙ objects;
      records = ap (λ (x : SwiftAccount). files x (uploads_name b)) leaves ∙ records;
      holds = ap (λ (x : SwiftAccount). files x (segments_name b)) leaves ∙ segments_new tree b name file is sound unsealed part unlisted stored there;
    }

-- ---- an id under which nothing stands

none_listed : (tree : SwiftAccount) (b id : List ℕ) (j : ℕ) → is_bucket b ≡ true → ((k : ℕ) → get (files tree (segments_name b)) (segment_name id k) ≡ None) → IsConsistent tree
    → id_digits j ≡ id → HasList (files tree b) (files tree (segments_name b)) j → ⊥
none_listed tree b id j is bare sound e (by_object key f found lists) =
    parts.unlisted (files tree (segments_name b)) (segments_name b) key f j (sound_object tree b key f sound is found) lists (λ k. ap (λ t. get (files tree (segments_name b)) (segment_name t k)) e ∙ bare k)

pub unused_abandoned : (tree : SwiftAccount) (b id : List ℕ) → is_bucket b ≡ true → IsUnused tree b id → IsConsistent tree → IsAbandoned tree b id
unused_abandoned tree b id is unused sound = record {
  closed = λ opens. subst IsOpen (ap (option_and_then record_of) unused.unrecorded) opens;
  unlisted = λ j e lists. none_listed tree b id j is unused.bare sound e lists;
}
