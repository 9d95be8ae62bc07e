-- The calls that roll a sealed completion forward leave the state: the PUT of its object, the PUT of its record, and the DELETE of
-- `sealed` behind both.
use Rattle.std.specs.Prelude.{◌≡◌, ◌<◌, ◌^◌, ℕ, Bool, true, false, cond, nat_lt, bytes_eq, List, is_some, Option, None, Some}
use Rattle.std.specs.Option.{option_map, option_and_then}
use Rattle.std.specs.Ordering.{eq_by_cmp}
use Rattle.std.specs.FinMap.{get, insert, remove}
use Rattle.std.proofs.Common.{refl, sym, ap, subst, ◌∙◌, inl, inr, arith}
use Rattle.std.proofs.lemmas.Bool.{and_parts}
use Rattle.std.proofs.lemmas.Bool.Decides.{nat_tests}
use Rattle.std.proofs.lemmas.Option.{same_Some}
use Rattle.std.proofs.lemmas.Slice.Eq.{bytes_eq-Decides}
use Rattle.gate_base.specs.Maps.{Names, name_cmp, adjust, picked}
use Rattle.gate_base.proofs.lemmas.Maps.{by_name, get_empty, same_key, get-picked, at_insert, off_insert, at_remove, at_adjust, off_adjust, put_is, removed_is, picked_insert, picked_insert_none, insert_again, insert_there, remove_again, remove_missing, adjust_again, adjust_same, adjust_stays, some_value}
use Rattle.s3_names.specs.Bucket.{is_bucket}
use Rattle.s3_names.specs.Id.{id_digits}
use Rattle.s3_machine.specs.State.{Object, Completion, Bucket}
use Rattle.s3_machine.specs.Step.{put_object}
use Rattle.s3_machine.specs.Finish.{Finished, finish, finished}
use Rattle.swift_calls.specs.declared.account.Content.{Content}
use Rattle.swift_calls.specs.declared.account.Content.TheVariants.{Plain, Segments}
use Rattle.swift_calls.specs.Files.{PutObject}
use Rattle.swift_calls.specs.declared.calls.SwiftRequest.TheVariants.{DeleteObject}
use Rattle.swift_calls.specs.Account.{SwiftObject, SwiftContainer, SwiftAccount, files, files_of, find_object, on_files, put_file, remove_file}
use Rattle.swift_calls.specs.Bodies.{plain_bytes}
use Rattle.swift_calls.specs.Step.{swift_step}
use Rattle.upload_texts.specs.Records.{read_record}
use Rattle.upload_texts.specs.Sealed.{is_sealed_place, read_sealed, has_sealed_text}
use Rattle.upload_texts.specs.declared.record.Record.{Record}
use Rattle.upload_texts.specs.declared.sealed.Sealed.{Sealed}
use Rattle.upload_records.specs.Layout.{uploads_name, segments_name, gateway_name, sealed_name}
use Rattle.upload_records.specs.Native.{object_of, record_of, record_at, upload_by, upload_of, kept_by, kept_of, bucket_from, bucket_of, plain, seal_by, seal_of, sealed_of, sealed_object, sealed_kept, finished_from, laid, sealed_record, s3_state}
use Rattle.upload_records.specs.Consistent.{heads, ConsistentContainers, IsBeside, IsObject, IsRecord, IsOpen, IsListOf, HasList, by_object, ConsistentBucket, sealed_in, sealed_id, Agrees, ConsistentSealed, bucket_sound, IsStored, IsThere, SealedIn, IsConsistent}
use Rattle.upload_records.specs.Laws.{file_put, Rolls, IsRolled, Unseals}
use Rattle.upload_records.proofs.lemmas.Settled.{OffSame, same_off, seal_holds, unsealed_by, s3_state_unsealed}
use Rattle.upload_records.proofs.lemmas.Objects.{reads_as, put_leaves, delete_leaves}
use Rattle.upload_records.proofs.Apart.{gateway_apart}
use Rattle.upload_records.proofs.lemmas.Sides.{gateway_side, segments_uploads}
use Rattle.upload_records.proofs.Carried.{none_found, bucket_as, id_stays, containers_same, heads_stay, found_after, files_after, records_stay, segments_stay}
use Rattle.upload_records.proofs.lemmas.Plain.{get_plain, plain_put}
use Rattle.upload_records.proofs.lemmas.Beside.{bucket_stays, other_records, other_segments, id_beside, same_beside, plain_beside, records_there, file_off, files_new}
use Rattle.upload_records.proofs.GatewayPut.{sealed_bucket, plain_stays, sound_gateway}
use Rattle.upload_records.proofs.lemmas.SealedTexts.{sealed_has}

-- ---- what is sealed

seal_content : (s : Sealed) (content : Content) → option_and_then read_sealed (plain_bytes content) ≡ Some s → (text : List ℕ) × (read_sealed text ≡ Some s)
seal_content s (Plain bytes) e = (bytes, e)
seal_content s (Segments listed) e = absurd (none_found s e)

seal_text : (s : Sealed) (o : Option SwiftObject) → seal_by o ≡ Some s → (text : List ℕ) × (read_sealed text ≡ Some s)
seal_text s None e = absurd (none_found s e)
seal_text s (Some file) e = seal_content s file.content e

-- what is sealed was read from a text
pub seal_read : (tree : SwiftAccount) (s : Sealed) → seal_of tree ≡ Some s → (text : List ℕ) × (read_sealed text ≡ Some s)
unfolding seal_of
seal_read tree s e = seal_text s (find_object tree gateway_name sealed_name) e

pub seal_bucket : (tree : SwiftAccount) (s : Sealed) → seal_of tree ≡ Some s → is_bucket s.bucket ≡ true
seal_bucket tree s e = let text = seal_read tree s e in sealed_bucket text.0 s text.1

small_by : (id : ℕ) → nat_lt id (2 ^ 128) ≡ true → id < 2 ^ 128
small_by id e = grind (arith, nat_tests)

small_id : (s : Sealed) → has_sealed_text s ≡ true → s.id < 2 ^ 128
unfolding has_sealed_text
small_id s has = small_by s.id (and_parts (nat_lt s.id (2 ^ 128)) _ (and_parts (is_sealed_place s) _ has).1).0

pub seal_id : (tree : SwiftAccount) (s : Sealed) → seal_of tree ≡ Some s → s.id < 2 ^ 128
seal_id tree s e = let text = seal_read tree s e in small_id s (sealed_has text.0 s text.1)

pub sealed_here : (tree : SwiftAccount) (s : Sealed) → seal_of tree ≡ Some s → sealed_id tree s.bucket ≡ Some s.id
sealed_here tree s e = ap (λ x. sealed_in x s.bucket) e ∙ ap (λ t. cond t (Some s.id) None) ((bytes_eq-Decides s.bucket s.bucket).1 refl)

-- the state, with the completion finished
pub state_sealed : (tree : SwiftAccount) (s : Sealed) → seal_of tree ≡ Some s → s3_state tree ≡ finished (finished_from (files tree (segments_name s.bucket)) s) (plain tree)
unfolding s3_state sealed_of
state_sealed tree s e = ap (λ o. laid (option_map (λ x. finished_from (files tree (segments_name x.bucket)) x) o) (plain tree)) e

-- ---- a change of one container, while a completion is sealed

module _ (tree tree' : SwiftAccount) (c : List ℕ) (gate : eq_by_cmp name_cmp gateway_name c ≡ false) (off : OffSame tree tree' c) where
  pub sound_with : IsConsistent tree → ConsistentContainers (heads tree')
      → ((n : List ℕ) → is_bucket n ≡ true → IsThere tree' n → bucket_sound tree' n)
      → ((s : Sealed) → seal_of tree' ≡ Some s → SealedIn tree' s)
      → ((name : List ℕ) (file : SwiftObject) → find_object tree' c name ≡ Some file → IsStored name file)
      → IsConsistent tree'
  sound_with sound folders buckets sealed stored = record {
    folders = folders;
    buckets = buckets;
    gateway = λ n f found. sound.gateway n f (ap (λ o. get (files_of o) n) (sym (off gateway_name gate)) ∙ found);
    sealed = sealed;
    stored = λ n name file found. elim (same_key by_name n c) [
      | inl e ↦ stored name file (ap (λ m. find_object tree' m name) (sym e) ∙ found)
      | inr a ↦ sound.stored n name file (ap (λ o. get (files_of o) name) (sym (off n a)) ∙ found)
    ];
  }

-- what is sealed stays where it stands
sealed_carried : (tree tree' : SwiftAccount) (s : Sealed) → IsThere tree' s.bucket → files tree' (uploads_name s.bucket) ≡ files tree (uploads_name s.bucket) → files tree' (segments_name s.bucket) ≡ files tree (segments_name s.bucket)
    → SealedIn tree s → SealedIn tree' s
sealed_carried tree tree' s there records segments old = record {
  there = there;
  stands = subst (λ r. ConsistentSealed r (files tree' (segments_name s.bucket)) s) (sym records) (subst (λ x. ConsistentSealed (files tree (uploads_name s.bucket)) x s) (sym segments) old.stands);
}

some_still : (g : Names SwiftObject → Names SwiftObject) (o : Option SwiftContainer) → is_some o ≡ true → is_some (option_map (on_files g) o) ≡ true
some_still g None e = e
some_still g (Some folder) e = refl

some_was : (g : Names SwiftObject → Names SwiftObject) (o : Option SwiftContainer) → is_some (option_map (on_files g) o) ≡ true → is_some o ≡ true
some_was g None e = e
some_was g (Some folder) e = refl

-- ---- the PUT of its object

-- the completion covers an object under its key
covers_object : (f : Finished) (o : Object) (b : Bucket) → finish f (put_object f.key o b) ≡ finish f b
covers_object f o b = λ i. record (finish f b) { objects = insert_again by_name b.objects f.key o f.object i }

module _ (tree : SwiftAccount) (s : Sealed) (file : SwiftObject) (seals : seal_of tree ≡ Some s) (object : IsObject (files tree (segments_name s.bucket)) (segments_name s.bucket) s.key file)
    (lists : (id : ℕ) → IsListOf file id → id ≡ s.id) (stored : IsStored s.key file) (sound : IsConsistent tree) where
  is : is_bucket s.bucket ≡ true
  is = seal_bucket tree s seals

  off : OffSame tree (put_file s.bucket s.key file tree) s.bucket
  off = off_adjust by_name s.bucket (on_files (λ fs. insert fs s.key file)) tree

  at : get (put_file s.bucket s.key file tree) s.bucket ≡ option_map (on_files (λ fs. insert fs s.key file)) (get tree s.bucket)
  at = at_adjust by_name s.bucket (on_files (λ fs. insert fs s.key file)) tree

  seal_after : seal_of (put_file s.bucket s.key file tree) ≡ Some s
  seal_after = seal_holds tree (put_file s.bucket s.key file tree) (ap files_of (off gateway_name (gateway_apart s.bucket is))) ∙ seals

  was_there : IsThere (put_file s.bucket s.key file tree) s.bucket → IsThere tree s.bucket
  was_there there = some_was (λ fs. insert fs s.key file) (get tree s.bucket) (sym (ap is_some at) ∙ there)

  list_apart : ConsistentBucket (segments_name s.bucket) (files tree s.bucket) (files tree (uploads_name s.bucket)) (files tree (segments_name s.bucket)) (sealed_id tree s.bucket)
      → (id : ℕ) → HasList (insert (files tree s.bucket) s.key file) (files tree (segments_name s.bucket)) id → IsOpen (record_at (files tree (uploads_name s.bucket)) (id_digits id)) → sealed_id tree s.bucket ≡ Some id
  list_apart old id (by_object k f found listed) opens = elim (same_key by_name k s.key) [
    | inl e ↦ sealed_here tree s seals ∙ ap Some (sym (lists id (subst (λ x. IsListOf x id)
        (sym (same_Some file f (sym (at_insert by_name (files tree s.bucket) s.key file) ∙ ap (get (insert (files tree s.bucket) s.key file)) (sym e) ∙ found))) listed)))
    | inr a ↦ old.apart id (by_object k f (sym (off_insert by_name (files tree s.bucket) s.key file k a) ∙ found) listed) opens
  ]

  this_bucket : IsThere (put_file s.bucket s.key file tree) s.bucket → bucket_sound (put_file s.bucket s.key file tree) s.bucket
  this_bucket there =
      let old : bucket_sound tree s.bucket = sound.buckets s.bucket is (was_there there) in
      bucket_as (segments_name s.bucket) (ap files_of at ∙ files_after (λ fs. insert fs s.key file) (get tree s.bucket) (was_there there))
      (records_stay tree (put_file s.bucket s.key file tree) s.bucket is off s.bucket) (segments_stay tree (put_file s.bucket s.key file tree) s.bucket is off s.bucket)
      (id_stays tree (put_file s.bucket s.key file tree) s.bucket (gateway_apart s.bucket is) off s.bucket)
      (record {
        of_objects = λ k f found. put_is (IsObject (files tree (segments_name s.bucket)) (segments_name s.bucket)) (files tree s.bucket) s.key file k f object (old.of_objects k f) found;
        of_segments = old.of_segments;
        of_records = old.of_records;
        apart = λ id listed opens. list_apart old id listed opens;
        subs_apart = old.subs_apart;
      })

  each_bucket : (n : List ℕ) → is_bucket n ≡ true → IsThere (put_file s.bucket s.key file tree) n → bucket_sound (put_file s.bucket s.key file tree) n
  each_bucket n is_n here = elim (same_key by_name n s.bucket) [
    | inl e ↦ subst (bucket_sound (put_file s.bucket s.key file tree)) (sym e) (this_bucket (ap (λ m. is_some (get (put_file s.bucket s.key file tree) m)) (sym e) ∙ here))
    | inr a ↦ bucket_as (segments_name n) (ap files_of (off n a)) (records_stay tree (put_file s.bucket s.key file tree) s.bucket is off n) (segments_stay tree (put_file s.bucket s.key file tree) s.bucket is off n)
        (id_stays tree (put_file s.bucket s.key file tree) s.bucket (gateway_apart s.bucket is) off n) (sound.buckets n is_n (sym (ap is_some (off n a)) ∙ here))
  ]

  -- the file is there, and the segments stay
  pub object_there : find_object (put_file s.bucket s.key file tree) s.bucket s.key ≡ Some file
  object_there =
      ap (λ o. get (files_of o) s.key) at ∙ ap (λ fs. get fs s.key) (files_after (λ fs. insert fs s.key file) (get tree s.bucket) (sound.sealed s seals).there)
      ∙ at_insert by_name (files tree s.bucket) s.key file

  pub object_segments : files (put_file s.bucket s.key file tree) (segments_name s.bucket) ≡ files tree (segments_name s.bucket)
  object_segments = segments_stay tree (put_file s.bucket s.key file tree) s.bucket is off s.bucket

  sealed_after : SealedIn (put_file s.bucket s.key file tree) s
  sealed_after =
      let old = sound.sealed s seals in
      sealed_carried tree (put_file s.bucket s.key file tree) s (ap is_some at ∙ some_still (λ fs. insert fs s.key file) (get tree s.bucket) old.there)
      (records_stay tree (put_file s.bucket s.key file tree) s.bucket is off s.bucket) (segments_stay tree (put_file s.bucket s.key file tree) s.bucket is off s.bucket) old

  state_after : s3_state (put_file s.bucket s.key file tree) ≡ s3_state tree
  state_after =
      let new : SwiftAccount = put_file s.bucket s.key file tree in
      let f : Finished = finished_from (files tree (segments_name s.bucket)) s in
      let reads = reads_as (files tree (segments_name s.bucket)) (segments_name s.bucket) s.key file object in
      state_sealed new s seal_after
      ∙ ap (λ fs. finished (finished_from fs s) (plain new)) (segments_stay tree new s.bucket is off s.bucket)
      ∙ ap (finished f) (plain_put tree s.bucket s.key file reads.0 reads.1 is)
      ∙ adjust_again by_name s.bucket (finish f) (put_object s.key reads.0) (plain tree)
      ∙ adjust_same by_name s.bucket (λ b. finish f (put_object s.key reads.0 b)) (finish f) (plain tree) (λ b found. covers_object f reads.0 b)
      ∙ sym (state_sealed tree s seals)

  pub object_rolls : Rolls tree (put_file s.bucket s.key file tree)
  object_rolls = record {
    sound = sound_with tree (put_file s.bucket s.key file tree) s.bucket (gateway_apart s.bucket is) off sound
        (containers_same (heads tree) (heads (put_file s.bucket s.key file tree)) (heads_stay tree s.bucket (λ fs. insert fs s.key file)) sound.folders)
        each_bucket
        (λ x found. subst (SealedIn (put_file s.bucket s.key file tree)) (same_Some s x (sym seal_after ∙ found)) sealed_after)
        (λ n f found. put_is IsStored (files tree s.bucket) s.key file n f stored (sound.stored s.bucket n f) (found_after (λ fs. insert fs s.key file) (get tree s.bucket) n f (ap (λ o. get (files_of o) n) (sym at) ∙ found)));
    same = state_after;
    gateway = same_off tree (put_file s.bucket s.key file tree) s.bucket is off;
  }

-- ---- the PUT of its record

-- the completion covers its record
abbrev with_record : List ℕ → Completion → Bucket → Bucket
with_record id c b = record b { uploads = remove b.uploads id; kept = insert b.kept id c }

covers_record : (f : Finished) (b : Bucket) → finish f (with_record f.id f.kept b) ≡ finish f b
covers_record f b =
    let uploads = remove_again by_name b.uploads f.id in
    let kept = insert_again by_name b.kept f.id f.kept f.kept in
    λ i. record (finish f b) { uploads = uploads i; kept = kept i }

module _ (folder : List ℕ) (O R S : Names SwiftObject) (sealed : Option ℕ) (s : Sealed) (file : SwiftObject) (text : List ℕ) (own : file.content ≡ Plain text) (reads : read_record text ≡ Some (sealed_record s)) where
  record_file : record_of file ≡ Some (sealed_record s)
  record_file = ap (λ c. option_and_then read_record (plain_bytes c)) own ∙ reads

  record_there : record_at (insert R (id_digits s.id) file) (id_digits s.id) ≡ Some (sealed_record s)
  record_there = ap (option_and_then record_of) (at_insert by_name R (id_digits s.id) file) ∙ record_file

  done_bucket : s.id < 2 ^ 128 → ConsistentBucket folder O R S sealed → ConsistentBucket folder O (insert R (id_digits s.id) file) S sealed
  done_bucket fits old = record {
    of_objects = old.of_objects;
    of_segments = old.of_segments;
    of_records = λ n f found. put_is IsRecord R (id_digits s.id) file n f (record { id = s.id; text = text; is = sealed_record s; named = refl; fits = fits; own = own; reads = reads }) (old.of_records n f) found;
    apart = λ j lists opens. elim (same_key by_name (id_digits j) (id_digits s.id)) [
      | inl e ↦ absurd (subst IsOpen (ap (record_at (insert R (id_digits s.id) file)) e ∙ record_there) opens)
      | inr a ↦ old.apart j lists (subst IsOpen (ap (option_and_then record_of) (off_insert by_name R (id_digits s.id) file (id_digits j) a)) opens)
    ];
    subs_apart = λ n f sub found opens. elim (same_key by_name (id_digits sub.id) (id_digits s.id)) [
      | inl e ↦ absurd (subst IsOpen (ap (record_at (insert R (id_digits s.id) file)) e ∙ record_there) opens)
      | inr a ↦ old.subs_apart n f sub found (subst IsOpen (ap (option_and_then record_of) (off_insert by_name R (id_digits s.id) file (id_digits sub.id) a)) opens)
    ];
  }

  done_sealed : ConsistentSealed R S s → ConsistentSealed (insert R (id_digits s.id) file) S s
  done_sealed old = record {
    ascends = old.ascends;
    parts = old.parts;
    etag = old.etag;
    agrees = subst (Agrees s) (sym record_there) (refl, refl, refl, refl, refl);
    subs = old.subs;
  }

  done_from : (b : SwiftContainer) → bucket_from (insert R (id_digits s.id) file) S b ≡ with_record (id_digits s.id) (sealed_kept s) (bucket_from R S b)
  done_from b =
      let uploads = picked_insert_none by_name (upload_of S) R (id_digits s.id) file (ap (upload_by S (id_digits s.id)) record_file) in
      let kept = picked_insert by_name kept_of R (id_digits s.id) file (sealed_kept s) (ap kept_by record_file) in
      λ i. record (bucket_from R S b) { uploads = uploads i; kept = kept i }

module _ (tree : SwiftAccount) (s : Sealed) (file : SwiftObject) (text : List ℕ) (own : file.content ≡ Plain text) (seals : seal_of tree ≡ Some s) (reads : read_record text ≡ Some (sealed_record s))
    (stored : IsStored (id_digits s.id) file) (sound : IsConsistent tree) where
  named : is_bucket s.bucket ≡ true
  named = seal_bucket tree s seals

  beside : IsBeside (uploads_name s.bucket) s.bucket
  beside = record { of_bucket = named; is = inl refl }

  record_off : OffSame tree (put_file (uploads_name s.bucket) (id_digits s.id) file tree) (uploads_name s.bucket)
  record_off = file_off tree s.bucket (uploads_name s.bucket) (λ fs. insert fs (id_digits s.id) file) beside

  gate : eq_by_cmp name_cmp gateway_name (uploads_name s.bucket) ≡ false
  gate = gateway_side (uploads_name s.bucket) s.bucket beside

  seal_behind : seal_of (put_file (uploads_name s.bucket) (id_digits s.id) file tree) ≡ Some s
  seal_behind = seal_holds tree (put_file (uploads_name s.bucket) (id_digits s.id) file tree) (ap files_of (record_off gateway_name gate)) ∙ seals

  pub bucket_same : get (put_file (uploads_name s.bucket) (id_digits s.id) file tree) s.bucket ≡ get tree s.bucket
  bucket_same = bucket_stays tree (put_file (uploads_name s.bucket) (id_digits s.id) file tree) s.bucket (uploads_name s.bucket) beside record_off s.bucket named

  pub segments_same : files (put_file (uploads_name s.bucket) (id_digits s.id) file tree) (segments_name s.bucket) ≡ files tree (segments_name s.bucket)
  segments_same = ap files_of (record_off (segments_name s.bucket) (segments_uploads s.bucket s.bucket named named))

  records_new : files (put_file (uploads_name s.bucket) (id_digits s.id) file tree) (uploads_name s.bucket) ≡ insert (files tree (uploads_name s.bucket)) (id_digits s.id) file
  records_new = files_new tree s.bucket (uploads_name s.bucket) (λ fs. insert fs (id_digits s.id) file) beside (records_there tree s.bucket sound named (sound.sealed s seals).there)

  -- the record is there
  pub record_kept : record_at (files (put_file (uploads_name s.bucket) (id_digits s.id) file tree) (uploads_name s.bucket)) (id_digits s.id) ≡ Some (sealed_record s)
  record_kept =
      ap (λ fs. record_at fs (id_digits s.id)) records_new
      ∙ record_there (segments_name s.bucket) (files tree s.bucket) (files tree (uploads_name s.bucket)) (files tree (segments_name s.bucket)) (sealed_id tree s.bucket) s file text own reads

  done_here : bucket_sound (put_file (uploads_name s.bucket) (id_digits s.id) file tree) s.bucket
  done_here = bucket_as (segments_name s.bucket) (ap files_of bucket_same) records_new segments_same
      (id_beside tree (put_file (uploads_name s.bucket) (id_digits s.id) file tree) s.bucket (uploads_name s.bucket) beside record_off s.bucket)
      (done_bucket (segments_name s.bucket) (files tree s.bucket) (files tree (uploads_name s.bucket)) (files tree (segments_name s.bucket)) (sealed_id tree s.bucket) s file text own reads (seal_id tree s seals)
      (sound.buckets s.bucket named (sound.sealed s seals).there))

  every_bucket : (n : List ℕ) → is_bucket n ≡ true → IsThere (put_file (uploads_name s.bucket) (id_digits s.id) file tree) n → bucket_sound (put_file (uploads_name s.bucket) (id_digits s.id) file tree) n
  every_bucket n is_n here =
      let new : SwiftAccount = put_file (uploads_name s.bucket) (id_digits s.id) file tree in
      let same : get new n ≡ get tree n = bucket_stays tree new s.bucket (uploads_name s.bucket) beside record_off n is_n in
      elim (same_key by_name n s.bucket) [
        | inl e ↦ subst (bucket_sound new) (sym e) done_here
        | inr a ↦ bucket_as (segments_name n) (ap files_of same) (other_records tree new s.bucket (uploads_name s.bucket) beside record_off n is_n a) (other_segments tree new s.bucket (uploads_name s.bucket) beside record_off n is_n a)
            (id_beside tree new s.bucket (uploads_name s.bucket) beside record_off n) (sound.buckets n is_n (sym (ap is_some same) ∙ here))
      ]

  sealed_behind : SealedIn (put_file (uploads_name s.bucket) (id_digits s.id) file tree) s
  sealed_behind =
      let new : SwiftAccount = put_file (uploads_name s.bucket) (id_digits s.id) file tree in
      let old = sound.sealed s seals in
      record {
        there = ap is_some bucket_same ∙ old.there;
        stands = subst (λ r. ConsistentSealed r (files new (segments_name s.bucket)) s) (sym records_new)
            (subst (λ x. ConsistentSealed (insert (files tree (uploads_name s.bucket)) (id_digits s.id) file) x s) (sym segments_same)
            (done_sealed (segments_name s.bucket) (files tree s.bucket) (files tree (uploads_name s.bucket)) (files tree (segments_name s.bucket)) (sealed_id tree s.bucket) s file text own reads old.stands));
      }

  plain_behind : plain (put_file (uploads_name s.bucket) (id_digits s.id) file tree) ≡ adjust s.bucket (with_record (id_digits s.id) (sealed_kept s)) (plain tree)
  plain_behind = plain_beside tree (put_file (uploads_name s.bucket) (id_digits s.id) file tree) s.bucket (uploads_name s.bucket) beside record_off (with_record (id_digits s.id) (sealed_kept s))
      (λ folder found. (λ i. bucket_from (records_new i) (segments_same i) folder)
      ∙ done_from (segments_name s.bucket) (files tree s.bucket) (files tree (uploads_name s.bucket)) (files tree (segments_name s.bucket)) (sealed_id tree s.bucket) s file text own reads folder)

  state_behind : s3_state (put_file (uploads_name s.bucket) (id_digits s.id) file tree) ≡ s3_state tree
  state_behind =
      let new : SwiftAccount = put_file (uploads_name s.bucket) (id_digits s.id) file tree in
      let f : Finished = finished_from (files tree (segments_name s.bucket)) s in
      state_sealed new s seal_behind
      ∙ ap (λ fs. finished (finished_from fs s) (plain new)) segments_same
      ∙ ap (finished f) plain_behind
      ∙ adjust_again by_name s.bucket (finish f) (with_record (id_digits s.id) (sealed_kept s)) (plain tree)
      ∙ adjust_same by_name s.bucket (λ b. finish f (with_record (id_digits s.id) (sealed_kept s) b)) (finish f) (plain tree) (λ b found. covers_record f b)
      ∙ sym (state_sealed tree s seals)

  record_rolls_file : Rolls tree (put_file (uploads_name s.bucket) (id_digits s.id) file tree)
  record_rolls_file = record {
    sound = sound_with tree (put_file (uploads_name s.bucket) (id_digits s.id) file tree) (uploads_name s.bucket) gate record_off sound
        (containers_same (heads tree) (heads (put_file (uploads_name s.bucket) (id_digits s.id) file tree)) (heads_stay tree (uploads_name s.bucket) (λ fs. insert fs (id_digits s.id) file)) sound.folders)
        every_bucket
        (λ x found. subst (SealedIn (put_file (uploads_name s.bucket) (id_digits s.id) file tree)) (same_Some s x (sym seal_behind ∙ found)) sealed_behind)
        (λ n f found. put_is IsStored (files tree (uploads_name s.bucket)) (id_digits s.id) file n f stored (sound.stored (uploads_name s.bucket) n f) (ap (λ fs. get fs n) (sym records_new) ∙ found));
    same = state_behind;
    gateway = same_beside tree (put_file (uploads_name s.bucket) (id_digits s.id) file tree) s.bucket (uploads_name s.bucket) beside record_off;
  }

pub record_rolls : (tree : SwiftAccount) (s : Sealed) (content_type : List ℕ) (meta : List (List ℕ)) (text : List ℕ) → seal_of tree ≡ Some s → read_record text ≡ Some (sealed_record s)
    → IsStored (id_digits s.id) (file_put content_type meta text) → IsConsistent tree → Rolls tree (swift_step (PutObject (uploads_name s.bucket) (id_digits s.id) content_type meta text) tree).tree
record_rolls tree s content_type meta text seals reads stored sound =
    subst (Rolls tree) (sym (put_leaves (get tree (uploads_name s.bucket)) (uploads_name s.bucket) (id_digits s.id) (file_put content_type meta text) tree refl))
    (record_rolls_file tree s (file_put content_type meta text) text refl seals reads stored sound)

-- ---- the DELETE of `sealed`

upload_at : (S : Names SwiftObject) (id : List ℕ) (o : Option SwiftObject) (r : Option Record) → option_and_then record_of o ≡ r → option_and_then (upload_of S id) o ≡ upload_by S id r
upload_at S id None r e = ap (upload_by S id) e
upload_at S id (Some file) r e = ap (upload_by S id) e

kept_at : (id : List ℕ) (o : Option SwiftObject) (r : Option Record) → option_and_then record_of o ≡ r → option_and_then (kept_of id) o ≡ kept_by r
kept_at id None r e = ap kept_by e
kept_at id (Some file) r e = ap kept_by e

seal_tells : (t : Bool) (x y : ℕ) → cond t (Some x) None ≡ Some y → (t ≡ true) × (x ≡ y)
seal_tells true x y e = (refl, same_Some x y e)
seal_tells false x y e = absurd (none_found y e)

module _ (tree : SwiftAccount) where
  gone_off : OffSame tree (remove_file gateway_name sealed_name tree) gateway_name
  gone_off = off_adjust by_name gateway_name (on_files (λ fs. remove fs sealed_name)) tree

  gone_at : get (remove_file gateway_name sealed_name tree) gateway_name ≡ option_map (on_files (λ fs. remove fs sealed_name)) (get tree gateway_name)
  gone_at = at_adjust by_name gateway_name (on_files (λ fs. remove fs sealed_name)) tree

  none_after : (o : Option SwiftContainer) → seal_by (get (files_of (option_map (on_files (λ fs. remove fs sealed_name)) o)) sealed_name) ≡ None
  none_after None = ap seal_by (get_empty by_name sealed_name)
  none_after (Some folder) = ap seal_by (at_remove by_name folder.files sealed_name)

  -- over every account
  pub seal_gone : seal_of (remove_file gateway_name sealed_name tree) ≡ None
  unfolding seal_of
  seal_gone = ap (λ o. seal_by (get (files_of o) sealed_name)) gone_at ∙ none_after (get tree gateway_name)

  pub gateway_still : is_some (get tree gateway_name) ≡ true → is_some (get (remove_file gateway_name sealed_name tree) gateway_name) ≡ true
  gateway_still there = ap is_some gone_at ∙ some_still (λ fs. remove fs sealed_name) (get tree gateway_name) there

module _ (tree : SwiftAccount) (s : Sealed) (seals : seal_of tree ≡ Some s) (rolled : IsRolled tree s) (sound : IsConsistent tree) where
  -- the bucket has the completion already
  finish_stays : (folder : SwiftContainer) → get tree s.bucket ≡ Some folder
      → finish (finished_from (files tree (segments_name s.bucket)) s) (bucket_from (files tree (uploads_name s.bucket)) (files tree (segments_name s.bucket)) folder)
      ≡ bucket_from (files tree (uploads_name s.bucket)) (files tree (segments_name s.bucket)) folder
  finish_stays folder found =
      let S : Names SwiftObject = files tree (segments_name s.bucket) in
      let R : Names SwiftObject = files tree (uploads_name s.bucket) in
      let objects = insert_there by_name (picked (object_of S) folder.files) s.key (sealed_object S s)
      (get-picked by_name (object_of S) folder.files s.key ∙ ap (option_and_then (object_of S s.key)) (ap (λ o. get (files_of o) s.key) (sym found) ∙ rolled.there) ∙ rolled.stands) in
      let uploads = remove_missing by_name (picked (upload_of S) R) (id_digits s.id)
      (get-picked by_name (upload_of S) R (id_digits s.id) ∙ upload_at S (id_digits s.id) (get R (id_digits s.id)) (Some (sealed_record s)) rolled.recorded) in
      let kept = insert_there by_name (picked kept_of R) (id_digits s.id) (sealed_kept s)
      (get-picked by_name kept_of R (id_digits s.id) ∙ kept_at (id_digits s.id) (get R (id_digits s.id)) (Some (sealed_record s)) rolled.recorded) in
      λ i. record (bucket_from R S folder) { objects = objects i; uploads = uploads i; kept = kept i }

  finished_already : finished (finished_from (files tree (segments_name s.bucket)) s) (plain tree) ≡ plain tree
  finished_already =
      let f : Finished = finished_from (files tree (segments_name s.bucket)) s in
      let is = seal_bucket tree s seals in
      let folder = some_value (get tree s.bucket) (sound.sealed s seals).there in
      let made : Bucket = bucket_from (files tree (uploads_name s.bucket)) (files tree (segments_name s.bucket)) folder.0 in
      let at : get (plain tree) s.bucket ≡ Some made
      = get_plain tree s.bucket ∙ ap (option_and_then (bucket_of tree s.bucket)) folder.1 ∙ ap (λ t. cond t (Some made) None) is in
      adjust_stays by_name s.bucket (finish f) (plain tree) (λ b found. subst (λ x. finish f x ≡ x) (same_Some made b (sym at ∙ found)) (finish_stays folder.0 folder.1))

  state_gone : s3_state (remove_file gateway_name sealed_name tree) ≡ s3_state tree
  state_gone =
      let new : SwiftAccount = remove_file gateway_name sealed_name tree in
      s3_state_unsealed new (unsealed_by new (seal_gone tree)) ∙ plain_stays tree new (gone_off tree) ∙ sym finished_already ∙ sym (state_sealed tree s seals)

  -- no upload is open under the id
  unsealed_bucket : (n : List ℕ) → ConsistentBucket (segments_name n) (files tree n) (files tree (uploads_name n)) (files tree (segments_name n)) (sealed_id tree n)
      → ConsistentBucket (segments_name n) (files tree n) (files tree (uploads_name n)) (files tree (segments_name n)) (sealed_id (remove_file gateway_name sealed_name tree) n)
  unsealed_bucket n old = record {
    of_objects = old.of_objects;
    of_segments = old.of_segments;
    of_records = old.of_records;
    apart = λ id lists opens. absurd (never id (old.apart id lists opens) opens);
    subs_apart = λ name file sub found opens. absurd (never sub.id (old.subs_apart name file sub found opens) opens);
  }
    where
      never : (id : ℕ) → sealed_id tree n ≡ Some id → IsOpen (record_at (files tree (uploads_name n)) (id_digits id)) → ⊥
      never id sealed opens =
          let tells = seal_tells (bytes_eq s.bucket n) s.id id (sym (ap (λ x. sealed_in x n) seals) ∙ sealed) in
          let bucket : s.bucket ≡ n = (bytes_eq-Decides s.bucket n).0 tells.0 in
          let same : record_at (files tree (uploads_name s.bucket)) (id_digits s.id) ≡ record_at (files tree (uploads_name n)) (id_digits id)
          = λ i. record_at (files tree (uploads_name (bucket i))) (id_digits (tells.1 i)) in
          subst IsOpen (sym same ∙ rolled.recorded) opens

  gone_found : (name : List ℕ) (file : SwiftObject) → find_object (remove_file gateway_name sealed_name tree) gateway_name name ≡ Some file → find_object tree gateway_name name ≡ Some file
  gone_found name file found = removed_is (λ n x. find_object tree gateway_name n ≡ Some x) (files tree gateway_name) sealed_name name file (λ was. was)
      (found_after (λ fs. remove fs sealed_name) (get tree gateway_name) name file (ap (λ o. get (files_of o) name) (sym (gone_at tree)) ∙ found))

  gone_sound : IsConsistent (remove_file gateway_name sealed_name tree)
  gone_sound = sound_gateway tree (remove_file gateway_name sealed_name tree) (gone_off tree) sound
      (containers_same (heads tree) (heads (remove_file gateway_name sealed_name tree)) (heads_stay tree gateway_name (λ fs. remove fs sealed_name)) sound.folders)
      unsealed_bucket
      (λ name file found. sound.gateway name file (gone_found name file found))
      (λ x found. absurd (none_found x (sym (seal_gone tree) ∙ found)))
      (λ name file found. sound.stored gateway_name name file (gone_found name file found))

  pub seal_rolls : Unseals tree (DeleteObject gateway_name sealed_name)
  seal_rolls =
      let leaves = delete_leaves (find_object tree gateway_name sealed_name) gateway_name sealed_name tree refl in
      record {
        sound = subst IsConsistent (sym leaves) gone_sound;
        same = ap s3_state leaves ∙ state_gone;
        none = unsealed_by (swift_step (DeleteObject gateway_name sealed_name) tree).tree (ap seal_of leaves ∙ (seal_gone tree));
      }
