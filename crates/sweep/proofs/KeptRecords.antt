-- The calls on the record of a completion: its DELETE, and the PUT of one with a moment.
use Rattle.std.specs.Prelude.{◌≡◌, ℕ, true, List, is_some, Option, None, Some}
use Rattle.std.specs.Option.{option_and_then, unwrap_or}
use Rattle.std.specs.FinMap.{get, insert, remove}
use Rattle.std.proofs.Common.{refl, sym, ap, subst, ◌∙◌, inl, inr}
use Rattle.gate_base.specs.Maps.{Names, picked, adjust}
use Rattle.gate_base.proofs.lemmas.Maps.{by_name, same_key, get-picked, at_insert, off_insert, picked_insert_same, picked_remove, remove_missing, removed_is, put_is}
use Rattle.s3_names.specs.Bucket.{is_bucket}
use Rattle.s3_names.specs.Id.{id_digits}
use Rattle.s3_machine.specs.declared.operation.Listed.{Listed}
use Rattle.swift_calls.specs.declared.account.Content.TheVariants.{Plain}
use Rattle.swift_calls.specs.Account.{SwiftObject, SwiftContainer, SwiftAccount, files, files_of, find_object, put_file, remove_file}
use Rattle.swift_calls.specs.Bodies.{plain_bytes}
use Rattle.swift_calls.specs.Files.{PutObject}
use Rattle.swift_calls.specs.declared.calls.SwiftRequest.TheVariants.{DeleteObject}
use Rattle.upload_texts.specs.Records.{read_record}
use Rattle.upload_texts.specs.declared.record.Record.TheVariants.{Done}
use Rattle.upload_records.specs.Layout.{uploads_name, segments_name}
use Rattle.upload_records.specs.Native.{record_of, record_at, upload_by, upload_of, kept_by, kept_of, bucket_from, IsUnsealed}
use Rattle.upload_records.specs.Consistent.{IsBeside, IsRecord, IsOpen, ConsistentBucket, sealed_id, bucket_sound, IsStored, IsThere, IsConsistent}
use Rattle.upload_records.specs.Laws.{ChangesBy, IsQuiet, file_put}
use Rattle.upload_records.proofs.lemmas.Objects.{delete_leaves, put_leaves}
use Rattle.upload_records.proofs.lemmas.Sides.{segments_uploads}
use Rattle.upload_records.proofs.lemmas.Beside.{bucket_stays, id_beside, same_beside, plain_beside, plain_same, records_there, file_off, files_new, sound_files}
use Rattle.sweep.specs.Forgetting.{forget_kept}
use Rattle.sweep.specs.Laws.{HasDone}
use Rattle.leftovers.proofs.lemmas.Consistency.{bucket_as, changes_same, none_found, records_left}

-- ---- a record that is done

module _ (S : Names SwiftObject) (id key : List ℕ) (list : List Listed) (etag : List ℕ) (started : ℕ) (moment : Option ℕ) where
  -- no upload is open under its id
  pub none_open : (o : Option SwiftObject) → option_and_then record_of o ≡ Some (Done key list etag started moment) → option_and_then (upload_of S id) o ≡ None
  none_open None e = refl
  none_open (Some file) e = ap (upload_by S id) e

  -- and its completion is kept
  pub kept_is : (o : Option SwiftObject) → option_and_then record_of o ≡ Some (Done key list etag started moment)
      → option_and_then (kept_of id) o ≡ Some (record { key = key; list = list; etag = etag; started = started; moment = unwrap_or moment started })
  kept_is None e = absurd (none_found (Done key list etag started moment) e)
  kept_is (Some file) e = ap kept_by e

-- ---- it goes

forgotten_from : (R S : Names SwiftObject) (id key : List ℕ) (list : List Listed) (etag : List ℕ) (started : ℕ) (moment : Option ℕ) → record_at R id ≡ Some (Done key list etag started moment)
    → (b : SwiftContainer) → bucket_from (remove R id) S b ≡ forget_kept id (bucket_from R S b)
forgotten_from R S id key list etag started moment done b =
    let uploads = picked_remove by_name (upload_of S) R id ∙ remove_missing by_name (picked (upload_of S) R) id
    (get-picked by_name (upload_of S) R id ∙ none_open S id key list etag started moment (get R id) done) in
    let kept = picked_remove by_name kept_of R id in
    λ i. record (bucket_from R S b) { uploads = uploads i; kept = kept i }

module _ (tree : SwiftAccount) (b id : List ℕ) (is : is_bucket b ≡ true) (sound : IsConsistent tree) (unsealed : IsUnsealed tree) where
  pub beside : IsBeside (uploads_name b) b
  beside = record { of_bucket = is; is = inl refl }

  module _ (done : HasDone tree b id) where
    abbrev gone : SwiftAccount
    gone = remove_file (uploads_name b) id tree

    objects_new : files gone b ≡ files tree b
    objects_new = ap files_of (bucket_stays tree gone b (uploads_name b) beside (file_off tree b (uploads_name b) (λ fs. remove fs id) beside) b is)

    segments_new : files gone (segments_name b) ≡ files tree (segments_name b)
    segments_new = ap files_of (file_off tree b (uploads_name b) (λ fs. remove fs id) beside (segments_name b) (segments_uploads b b is is))

    records_new : IsThere tree b → files gone (uploads_name b) ≡ remove (files tree (uploads_name b)) id
    records_new there = files_new tree b (uploads_name b) (λ fs. remove fs id) beside (records_there tree b sound is there)

    this_bucket : IsThere tree b → bucket_sound gone b
    this_bucket there = bucket_as (segments_name b) objects_new (records_new there) segments_new (id_beside tree gone b (uploads_name b) beside (file_off tree b (uploads_name b) (λ fs. remove fs id) beside) b)
        (records_left (segments_name b) (files tree b) (files tree (uploads_name b)) (files tree (segments_name b)) (sealed_id tree b) id (sound.buckets b is there))

    gone_sound : IsConsistent gone
    gone_sound = sound_files tree b (uploads_name b) (λ fs. remove fs id) beside sound unsealed this_bucket
        (λ n f found. removed_is IsStored (files tree (uploads_name b)) id n f (sound.stored (uploads_name b) n f) found)

    along : (folder : SwiftContainer) → get tree b ≡ Some folder
        → bucket_from (files gone (uploads_name b)) (files gone (segments_name b)) folder ≡ forget_kept id (bucket_from (files tree (uploads_name b)) (files tree (segments_name b)) folder)
    along folder found =
        let news = records_new (ap is_some found) in
        (λ i. bucket_from (news i) (segments_new i) folder)
        ∙ forgotten_from (files tree (uploads_name b)) (files tree (segments_name b)) id done.key done.list done.etag done.started done.moment done.is folder

    pub kept_forgotten : ChangesBy tree (DeleteObject (uploads_name b) id) (adjust b (forget_kept id))
    kept_forgotten =
        let off = file_off tree b (uploads_name b) (λ fs. remove fs id) beside in
        changes_same tree gone (DeleteObject (uploads_name b) id) (adjust b (forget_kept id)) unsealed (same_beside tree gone b (uploads_name b) beside off)
        (delete_leaves (find_object tree (uploads_name b) id) (uploads_name b) id tree refl) gone_sound
        (plain_beside tree gone b (uploads_name b) beside off (forget_kept id) along)

-- ---- it gets its moment

module _ (folder : List ℕ) (O R S : Names SwiftObject) (sealed : Option ℕ) (id : List ℕ) (file : SwiftObject) (text key : List ℕ) (list : List Listed) (etag : List ℕ) (started : ℕ)
    (own : file.content ≡ Plain text) (reads : read_record text ≡ Some (Done key list etag started (Some started))) (was : record_at R id ≡ Some (Done key list etag started None)) where
  file_is : record_of file ≡ Some (Done key list etag started (Some started))
  file_is = ap (λ c. option_and_then read_record (plain_bytes c)) own ∙ reads

  old_file : (o : Option SwiftObject) → get R id ≡ o → option_and_then record_of o ≡ Some (Done key list etag started None) → (f : SwiftObject) × (get R id ≡ Some f)
  old_file None e done = absurd (none_found (Done key list etag started None) done)
  old_file (Some f) e done = (f, e)

  dated_bucket : ConsistentBucket folder O R S sealed → ConsistentBucket folder O (insert R id file) S sealed
  dated_bucket old =
      let f = old_file (get R id) refl was in
      let of_old = old.of_records id f.0 f.1 in
      record {
        of_objects = old.of_objects;
        of_segments = old.of_segments;
        of_records = λ n g found. put_is IsRecord R id file n g
            (record { id = of_old.id; text = text; is = Done key list etag started (Some started); named = of_old.named; fits = of_old.fits; own = own; reads = reads })
            (old.of_records n g) found;
        apart = λ j lists opens. elim (same_key by_name (id_digits j) id) [
          | inl e ↦ absurd (subst IsOpen (ap (option_and_then record_of) (ap (get (insert R id file)) e ∙ at_insert by_name R id file) ∙ file_is) opens)
          | inr a ↦ old.apart j lists (subst IsOpen (ap (option_and_then record_of) (off_insert by_name R id file (id_digits j) a)) opens)
        ];
        subs_apart = λ n g sub found opens. elim (same_key by_name (id_digits sub.id) id) [
          | inl e ↦ absurd (subst IsOpen (ap (option_and_then record_of) (ap (get (insert R id file)) e ∙ at_insert by_name R id file) ∙ file_is) opens)
          | inr a ↦ old.subs_apart n g sub found (subst IsOpen (ap (option_and_then record_of) (off_insert by_name R id file (id_digits sub.id) a)) opens)
        ];
      }

  dated_from : (b : SwiftContainer) → bucket_from (insert R id file) S b ≡ bucket_from R S b
  dated_from b =
      let uploads = picked_insert_same by_name (upload_of S) R id file (ap (upload_by S id) file_is ∙ sym (get-picked by_name (upload_of S) R id ∙ none_open S id key list etag started None (get R id) was)) in
      let kept = picked_insert_same by_name kept_of R id file (ap kept_by file_is ∙ sym (get-picked by_name kept_of R id ∙ kept_is S id key list etag started None (get R id) was)) in
      λ i. record (bucket_from R S b) { uploads = uploads i; kept = kept i }

module _ (tree : SwiftAccount) (b id key : List ℕ) (list : List Listed) (etag : List ℕ) (started : ℕ) (content_type : List ℕ) (meta : List (List ℕ)) (text : List ℕ) (is : is_bucket b ≡ true)
    (was : record_at (files tree (uploads_name b)) id ≡ Some (Done key list etag started None)) (reads : read_record text ≡ Some (Done key list etag started (Some started)))
    (stored : IsStored id (file_put content_type meta text)) (sound : IsConsistent tree) (unsealed : IsUnsealed tree) where
  abbrev file : SwiftObject
  file = file_put content_type meta text

  abbrev dated : SwiftAccount
  dated = put_file (uploads_name b) id file tree

  side : IsBeside (uploads_name b) b
  side = record { of_bucket = is; is = inl refl }

  objects_dated : files dated b ≡ files tree b
  objects_dated = ap files_of (bucket_stays tree dated b (uploads_name b) side (file_off tree b (uploads_name b) (λ fs. insert fs id file) side) b is)

  segments_dated : files dated (segments_name b) ≡ files tree (segments_name b)
  segments_dated = ap files_of (file_off tree b (uploads_name b) (λ fs. insert fs id file) side (segments_name b) (segments_uploads b b is is))

  records_dated : IsThere tree b → files dated (uploads_name b) ≡ insert (files tree (uploads_name b)) id file
  records_dated there = files_new tree b (uploads_name b) (λ fs. insert fs id file) side (records_there tree b sound is there)

  dated_this : IsThere tree b → bucket_sound dated b
  dated_this there = bucket_as (segments_name b) objects_dated (records_dated there) segments_dated (id_beside tree dated b (uploads_name b) side (file_off tree b (uploads_name b) (λ fs. insert fs id file) side) b)
      (dated_bucket (segments_name b) (files tree b) (files tree (uploads_name b)) (files tree (segments_name b)) (sealed_id tree b) id file text key list etag started refl reads was (sound.buckets b is there))

  dated_sound : IsConsistent dated
  dated_sound = sound_files tree b (uploads_name b) (λ fs. insert fs id file) side sound unsealed dated_this
      (λ n f found. put_is IsStored (files tree (uploads_name b)) id file n f stored (sound.stored (uploads_name b) n f) found)

  along_dated : (folder : SwiftContainer) → get tree b ≡ Some folder
      → bucket_from (files dated (uploads_name b)) (files dated (segments_name b)) folder ≡ bucket_from (files tree (uploads_name b)) (files tree (segments_name b)) folder
  along_dated folder found =
      let news = records_dated (ap is_some found) in
      (λ i. bucket_from (news i) (segments_dated i) folder)
      ∙ dated_from (segments_name b) (files tree b) (files tree (uploads_name b)) (files tree (segments_name b)) None id file text key list etag started refl reads was folder

  pub kept_dated : IsQuiet tree (PutObject (uploads_name b) id content_type meta text)
  kept_dated =
      let off = file_off tree b (uploads_name b) (λ fs. insert fs id file) side in
      changes_same tree dated (PutObject (uploads_name b) id content_type meta text) (λ state. state) unsealed (same_beside tree dated b (uploads_name b) side off)
      (put_leaves (get tree (uploads_name b)) (uploads_name b) id file tree refl) dated_sound
      (plain_same tree dated b (uploads_name b) side off along_dated)
