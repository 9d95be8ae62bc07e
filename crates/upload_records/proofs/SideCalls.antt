-- Calls on the containers beside a bucket that leave the state: the PUT of one, the DELETE of a file beside a bucket that is
-- missing, and the DELETE of a segment that nothing names.
use Rattle.std.specs.Prelude.{◌≡◌, ℕ, true, List, is_some, Option, None, Some}
use Rattle.std.specs.Option.{option_map, option_and_then}
use Rattle.std.specs.FinMap.{get, remove}
use Rattle.std.proofs.Common.{refl, sym, ap, subst, ◌∙◌, inl, inr, true≢false}
use Rattle.gate_base.specs.Maps.{Names, picked, adjust}
use Rattle.gate_base.proofs.lemmas.Maps.{by_name, apart, not_same, same_key, at_insert, at_adjust, off_adjust, off_remove, removed_is, picked_same, table_same}
use Rattle.s3_names.specs.Bucket.{is_bucket}
use Rattle.s3_names.specs.Id.{id_digits}
use Rattle.s3_machine.specs.Uploads.{greatest_part}
use Rattle.swift_calls.specs.declared.account.ReadList.TheVariants.{Nobody}
use Rattle.swift_calls.specs.declared.calls.SwiftRequest.TheVariants.{PutContainer, DeleteObject}
use Rattle.swift_calls.specs.Account.{SwiftObject, SwiftContainer, SwiftAccount, files, files_of, find_object, on_files, with_head, remove_file}
use Rattle.swift_calls.specs.Step.{put_container, swift_step}
use Rattle.upload_texts.specs.declared.record.Record.{Record}
use Rattle.upload_texts.specs.declared.record.Record.TheVariants.{Open, Done}
use Rattle.upload_records.specs.Layout.{uploads_name, segments_name, segment_name, sub_manifest_name}
use Rattle.upload_records.specs.Native.{object_of, part_of, part_at, parts_of, record_of, record_at, upload_by, upload_of, bucket_from, IsUnsealed}
use Rattle.upload_records.specs.Consistent.{Head, head_of, heads, IsBeside, IsSubManifest, IsSegment, IsOpen, HasList, ConsistentBucket, sealed_id, bucket_sound, IsStored, IsThere, IsConsistent}
use Rattle.upload_records.specs.Laws.{IsQuiet, MakesSide, StaysThere, LeavesContainers, IsAbandoned, IsNameUnder, of_part, of_sub_manifest}
use Rattle.upload_records.proofs.lemmas.Settled.{OffSame}
use Rattle.upload_records.proofs.lemmas.Objects.{delete_leaves}
use Rattle.upload_records.proofs.lemmas.Off.{put_off}
use Rattle.upload_records.proofs.Carried.{none_found, bucket_as, containers_beside}
use Rattle.upload_records.proofs.lemmas.Sides.{part_no_sub, segment_id, sub_id, uploads_segments}
use Rattle.upload_records.proofs.Parts.{KeepsSegments}
use Rattle.upload_records.proofs.Segments.{objects_stay, objects_same, lists_as}
use Rattle.upload_records.proofs.lemmas.Beside.{bucket_stays, id_beside, same_beside, plain_same, segments_there, sound_beside, file_off, files_new, sound_files}
use Rattle.upload_records.proofs.Leaves.{changes_same}

-- ---- the PUT of a container beside a bucket

abbrev hidden_head : Option ℕ → Head
hidden_head created = record { readers = Nobody; created = created }

module _ (tree : SwiftAccount) (b c : List ℕ) (created : Option ℕ) (beside : IsBeside c b) where
  made_head : (o : Option SwiftContainer) → get tree c ≡ o → heads (put_container o c Nobody created tree).tree c ≡ Some (hidden_head created)
  made_head None e = ap (option_map head_of) (at_insert by_name tree c _)
  made_head (Some folder) e = ap (option_map head_of) (at_adjust by_name c (with_head Nobody created) tree ∙ ap (option_map (with_head Nobody created)) e)

  made_files : (o : Option SwiftContainer) → get tree c ≡ o → files (put_container o c Nobody created tree).tree c ≡ files tree c
  made_files None e = ap files_of (at_insert by_name tree c _) ∙ sym (ap files_of e)
  made_files (Some folder) e = ap files_of (at_adjust by_name c (with_head Nobody created) tree ∙ ap (option_map (with_head Nobody created)) e) ∙ sym (ap files_of e)

  made_there : (o : Option SwiftContainer) → get tree c ≡ o → is_some (get (put_container o c Nobody created tree).tree c) ≡ true
  made_there None e = ap is_some (at_insert by_name tree c _)
  made_there (Some folder) e = ap is_some (at_adjust by_name c (with_head Nobody created) tree ∙ ap (option_map (with_head Nobody created)) e)

  off : OffSame tree (put_container (get tree c) c Nobody created tree).tree c
  off = put_off (get tree c) c Nobody created tree

  all_files : (n : List ℕ) → files (put_container (get tree c) c Nobody created tree).tree n ≡ files tree n
  all_files n = elim (same_key by_name n c) [
    | inl e ↦ subst (λ m. files (put_container (get tree c) c Nobody created tree).tree m ≡ files tree m) (sym e) (made_files (get tree c) refl)
    | inr a ↦ ap files_of (off n a)
  ]

  still_there : (n : List ℕ) → IsThere tree n → IsThere (put_container (get tree c) c Nobody created tree).tree n
  still_there n there = elim (same_key by_name n c) [
    | inl e ↦ subst (IsThere (put_container (get tree c) c Nobody created tree).tree) (sym e) (made_there (get tree c) refl)
    | inr a ↦ ap is_some (off n a) ∙ there
  ]

  module _ (sound : IsConsistent tree) (unsealed : IsUnsealed tree) where
    made_sound : IsConsistent (put_container (get tree c) c Nobody created tree).tree
    made_sound = sound_beside tree (put_container (get tree c) c Nobody created tree).tree b c beside off sound unsealed
        (containers_beside (heads tree) (heads (put_container (get tree c) c Nobody created tree).tree) c (λ n a. ap (option_map head_of) (off n a)) b beside sound.folders (hidden_head created) (made_head (get tree c) refl) refl)
        (λ there. bucket_as (segments_name b) (all_files b) (all_files (uploads_name b)) (all_files (segments_name b)) (id_beside tree (put_container (get tree c) c Nobody created tree).tree b c beside off b) (sound.buckets b beside.of_bucket there))
        (λ name file found. sound.stored c name file (ap (λ fs. get fs name) (sym (all_files c)) ∙ found))

    made_quiet : IsQuiet tree (PutContainer c Nobody created)
    made_quiet =
        let records = all_files (uploads_name b) in
        let segments = all_files (segments_name b) in
        changes_same tree (put_container (get tree c) c Nobody created tree).tree (PutContainer c Nobody created) (λ state. state) unsealed
        (same_beside tree (put_container (get tree c) c Nobody created tree).tree b c beside off) refl made_sound
        (plain_same tree (put_container (get tree c) c Nobody created tree).tree b c beside off (λ folder found i. bucket_from (records i) (segments i) folder))

    pub side_made : MakesSide tree (PutContainer c Nobody created) c
    side_made = record { quiet = made_quiet; there = made_there (get tree c) refl; stays = still_there; holds = all_files }

-- ---- the DELETE of a file beside a bucket that is missing

missing : (tree : SwiftAccount) (b : List ℕ) → get tree b ≡ None → IsThere tree b → ⊥
missing tree b none there = true≢false (sym there ∙ ap is_some none)

some_still : (g : Names SwiftObject → Names SwiftObject) (o : Option SwiftContainer) → is_some o ≡ true → is_some (option_map (on_files g) o) ≡ true
some_still g None e = e
some_still g (Some folder) e = refl

-- a change of the files of a container leaves each where it is
pub containers_stay : (tree : SwiftAccount) (c : List ℕ) (g : Names SwiftObject → Names SwiftObject) → StaysThere tree (adjust c (on_files g) tree)
containers_stay tree c g n there = elim (same_key by_name n c) [
  | inl e ↦ subst (IsThere (adjust c (on_files g) tree)) (sym e) (ap is_some (at_adjust by_name c (on_files g) tree) ∙ some_still g (get tree c) (ap (λ m. is_some (get tree m)) (sym e) ∙ there))
  | inr a ↦ ap is_some (off_adjust by_name c (on_files g) tree n a) ∙ there
]

file_quiet : (tree : SwiftAccount) (b c name : List ℕ) → IsBeside c b → get tree b ≡ None → IsConsistent tree → IsUnsealed tree → IsQuiet tree (DeleteObject c name)
file_quiet tree b c name beside none sound unsealed =
    let new : SwiftAccount = remove_file c name tree in
    let off = file_off tree b c (λ fs. remove fs name) beside in
    changes_same tree new (DeleteObject c name) (λ state. state) unsealed
    (same_beside tree new b c beside off)
    (delete_leaves (find_object tree c name) c name tree refl)
    (sound_files tree b c (λ fs. remove fs name) beside sound unsealed (λ there. absurd (missing tree b none there))
    (λ n f found. removed_is IsStored (files tree c) name n f (sound.stored c n f) found))
    (plain_same tree new b c beside off (λ folder found. absurd (none_found folder (sym none ∙ found))))

pub side_file_gone : (tree : SwiftAccount) (b c name : List ℕ) → IsBeside c b → get tree b ≡ None → IsConsistent tree → IsUnsealed tree
    → LeavesContainers tree (DeleteObject c name) × (get (swift_step (DeleteObject c name) tree).tree b ≡ None)
side_file_gone tree b c name beside none sound unsealed =
    let new : SwiftAccount = remove_file c name tree in
    let leaves = delete_leaves (find_object tree c name) c name tree refl in (
      record { quiet = file_quiet tree b c name beside none sound unsealed; stays = subst (StaysThere tree) (sym leaves) (containers_stay tree c (λ fs. remove fs name)) },
      ap (λ (x : SwiftAccount). get x b) leaves ∙ bucket_stays tree new b c beside (file_off tree b c (λ fs. remove fs name) beside) b beside.of_bucket ∙ none,
    )

-- ---- the DELETE of a segment that nothing names

-- the upload of a record that isn't open is none, whatever segments stand beside it
closed_same : (S S' : Names SwiftObject) (q : List ℕ) (r : Option Record) → (IsOpen r → ⊥) → upload_by S' q r ≡ upload_by S q r
closed_same S S' q None closed = refl
closed_same S S' q (Some (Open key content_type meta started)) closed = absurd (closed tt)
closed_same S S' q (Some (Done key list etag started moment)) closed = refl

pub parts_same : (S S' : Names SwiftObject) (q : List ℕ) → parts_of S' q ≡ parts_of S q → (r : Option Record) → upload_by S' q r ≡ upload_by S q r
parts_same S S' q same None = refl
parts_same S S' q same (Some (Open key content_type meta started)) = λ i. Some (record { key = key; content_type = content_type; meta = meta; started = started; parts = same i })
parts_same S S' q same (Some (Done key list etag started moment)) = refl

module _ (folder : List ℕ) (O R S : Names SwiftObject) (sealed : Option ℕ) (id name : List ℕ) (under : IsNameUnder id name) (closed : IsOpen (record_at R id) → ⊥)
    (unlisted : (j : ℕ) → id_digits j ≡ id → HasList O S j → ⊥) (old : ConsistentBucket folder O R S sealed) where
  -- no name under another id is this one
  part_name : (q : List ℕ) (k : ℕ) → IsNameUnder id name → (q ≡ id → ⊥) → segment_name q k ≡ name → ⊥
  part_name q k (of_part number is) other e = other (segment_id q id k number (e ∙ is))
  part_name q k (of_sub_manifest number is) other e = part_no_sub q id k number (e ∙ is)

  sub_name : (q : List ℕ) (k : ℕ) → IsNameUnder id name → (q ≡ id → ⊥) → sub_manifest_name q k ≡ name → ⊥
  sub_name q k (of_part number is) other e = part_no_sub id q number k (sym is ∙ sym e)
  sub_name q k (of_sub_manifest number is) other e = other (sub_id q id k number (e ∙ is))

  other_id : (q : List ℕ) (k : ℕ) → (q ≡ id → ⊥) → get (remove S name) (segment_name q k) ≡ get S (segment_name q k)
  other_id q k other = off_remove by_name S name (segment_name q k) (apart by_name (segment_name q k) name (part_name q k under other))

  other_sub : (q : List ℕ) (k : ℕ) → (q ≡ id → ⊥) → get (remove S name) (sub_manifest_name q k) ≡ get S (sub_manifest_name q k)
  other_sub q k other = off_remove by_name S name (sub_manifest_name q k) (apart by_name (sub_manifest_name q k) name (sub_name q k under other))

  listed_same : (j : ℕ) → HasList O S j → KeepsSegments S (remove S name) (id_digits j)
  listed_same j lists = record {
    parts = λ k f found. other_id (id_digits j) k (λ e. unlisted j e lists) ∙ found;
    subs = λ k f found. other_sub (id_digits j) k (λ e. unlisted j e lists) ∙ found;
  }

  left_bucket : ConsistentBucket folder O R (remove S name) sealed
  left_bucket = record {
    of_objects = objects_stay folder O S (remove S name) old.of_objects listed_same;
    of_segments = λ n f found. removed_is IsSegment S name n f (old.of_segments n f) found;
    of_records = old.of_records;
    apart = λ j lists opens. old.apart j (lists_as O S (remove S name) j lists) opens;
    subs_apart = λ n f sub found opens. removed_is (λ m x. (sub : IsSubManifest m x) → IsOpen (record_at R (id_digits sub.id)) → sealed ≡ Some sub.id) S name n f
        (λ was sub. old.subs_apart n f sub was) found sub opens;
  }

  uploads_same : picked (upload_of (remove S name)) R ≡ picked (upload_of S) R
  uploads_same = picked_same by_name (upload_of (remove S name)) (upload_of S) R (λ q x found. elim (same_key by_name q id) [
    | inl e ↦ closed_same S (remove S name) q (record_of x) (λ opens. closed (subst IsOpen (sym (ap (λ t. option_and_then record_of (get R t)) (sym e) ∙ ap (option_and_then record_of) found)) opens))
    | inr a ↦ parts_same S (remove S name) q (parts_stay q (not_same by_name q id a)) (record_of x)
  ])
    where
      parts_stay : (q : List ℕ) → (q ≡ id → ⊥) → parts_of (remove S name) q ≡ parts_of S q
      parts_stay q other = table_same (part_at (remove S name) q) (part_at S q) greatest_part (λ k low high. ap (option_and_then part_of) (other_id q k other))

  left_from : (b : SwiftContainer) → b.files ≡ O → bucket_from R (remove S name) b ≡ bucket_from R S b
  left_from b is =
      let same = ap (picked (object_of (remove S name))) is ∙ objects_same folder O S (remove S name) old.of_objects listed_same ∙ sym (ap (picked (object_of S)) is) in
      let uploads = uploads_same in
      λ i. record (bucket_from R S b) { objects = same i; uploads = uploads i }

module _ (tree : SwiftAccount) (b id name : List ℕ) (under : IsNameUnder id name) (is : is_bucket b ≡ true) (abandoned : IsAbandoned tree b id) (sound : IsConsistent tree) (unsealed : IsUnsealed tree) where
  segment_beside : IsBeside (segments_name b) b
  segment_beside = record { of_bucket = is; is = inr refl }

  segment_off : OffSame tree (remove_file (segments_name b) name tree) (segments_name b)
  segment_off = file_off tree b (segments_name b) (λ fs. remove fs name) segment_beside

  objects_new : files (remove_file (segments_name b) name tree) b ≡ files tree b
  objects_new = ap files_of (bucket_stays tree (remove_file (segments_name b) name tree) b (segments_name b) segment_beside segment_off b is)

  records_new : files (remove_file (segments_name b) name tree) (uploads_name b) ≡ files tree (uploads_name b)
  records_new = ap files_of (segment_off (uploads_name b) (uploads_segments b b is is))

  segments_new : IsThere tree b → files (remove_file (segments_name b) name tree) (segments_name b) ≡ remove (files tree (segments_name b)) name
  segments_new there = files_new tree b (segments_name b) (λ fs. remove fs name) segment_beside (segments_there tree b sound is there)

  this_bucket : IsThere tree b → bucket_sound (remove_file (segments_name b) name tree) b
  this_bucket there = bucket_as (segments_name b) objects_new records_new (segments_new there)
      (id_beside tree (remove_file (segments_name b) name tree) b (segments_name b) segment_beside segment_off b)
      (left_bucket (segments_name b) (files tree b) (files tree (uploads_name b)) (files tree (segments_name b)) (sealed_id tree b) id name under abandoned.closed abandoned.unlisted (sound.buckets b is there))

  along : (folder : SwiftContainer) → get tree b ≡ Some folder
      → bucket_from (files (remove_file (segments_name b) name tree) (uploads_name b)) (files (remove_file (segments_name b) name tree) (segments_name b)) folder
      ≡ bucket_from (files tree (uploads_name b)) (files tree (segments_name b)) folder
  along folder found =
      let there : IsThere tree b = ap is_some found in
      let news = segments_new there in
      (λ i. bucket_from (records_new i) (news i) folder)
      ∙ left_from (segments_name b) (files tree b) (files tree (uploads_name b)) (files tree (segments_name b)) (sealed_id tree b) id name under abandoned.closed abandoned.unlisted (sound.buckets b is there) folder (sym (ap files_of found))

  orphan_quiet : IsQuiet tree (DeleteObject (segments_name b) name)
  orphan_quiet =
      let new : SwiftAccount = remove_file (segments_name b) name tree in
      changes_same tree new (DeleteObject (segments_name b) name) (λ state. state) unsealed
      (same_beside tree new b (segments_name b) segment_beside segment_off)
      (delete_leaves (find_object tree (segments_name b) name) (segments_name b) name tree refl)
      (sound_files tree b (segments_name b) (λ fs. remove fs name) segment_beside sound unsealed this_bucket
      (λ n f found. removed_is IsStored (files tree (segments_name b)) name n f (sound.stored (segments_name b) n f) found))
      (plain_same tree new b (segments_name b) segment_beside segment_off along)

  orphan_abandoned : IsAbandoned (remove_file (segments_name b) name tree) b id
  orphan_abandoned =
      let new : SwiftAccount = remove_file (segments_name b) name tree in
      record {
        closed = λ opens. abandoned.closed (subst (λ R. IsOpen (record_at R id)) records_new opens);
        unlisted = λ j e lists. abandoned.unlisted j e (lists_as (files tree b) (files tree (segments_name b)) (files new (segments_name b)) j (subst (λ O. HasList O (files new (segments_name b)) j) objects_new lists));
      }

  pub orphan_gone : IsQuiet tree (DeleteObject (segments_name b) name) × IsAbandoned (swift_step (DeleteObject (segments_name b) name) tree).tree b id
  orphan_gone = (
    orphan_quiet,
    subst (λ x. IsAbandoned x b id) (sym (delete_leaves (find_object tree (segments_name b) name) (segments_name b) name tree refl)) orphan_abandoned,
  )
