-- A change of a bucket's container leaves the account consistent where that container is.
use Rattle.std.specs.Prelude.{◌≡◌, ◌<◌, ℕ, List, true, false, is_some, Option, None, Some}
use Rattle.std.specs.Option.{option_map, option_and_then}
use Rattle.std.specs.Ordering.{eq_by_cmp}
use Rattle.std.specs.FinMap.{get, insert, remove, empty}
use Rattle.std.proofs.Common.{refl, sym, ap, subst, ◌∙◌, inl, inr, true≢false}
use Rattle.gate_base.specs.Maps.{Names, name_cmp, adjust}
use Rattle.gate_base.proofs.lemmas.Maps.{by_name, get_empty, same_key, at_insert, off_insert, at_adjust, off_adjust, at_remove, off_remove, insert_is, remove_is}
use Rattle.std.proofs.lemmas.Option.{same_Some}
use Rattle.gate_base.specs.Told.{moment_limit}
use Rattle.s3_names.specs.declared.acl.Acl.{Acl}
use Rattle.s3_names.specs.Bucket.{is_bucket}
use Rattle.s3_names.specs.Id.{id_digits}
use Rattle.swift_calls.specs.declared.account.ReadList.{ReadList}
use Rattle.swift_calls.specs.declared.account.ReadList.TheVariants.{Nobody}
use Rattle.swift_calls.specs.Account.{SwiftObject, SwiftContainer, SwiftAccount, files, files_of, find_object, new_folder, on_files, with_readers, put_file, remove_file}
use Rattle.upload_records.specs.Layout.{uploads_name, segments_name, gateway_name, readers_of}
use Rattle.upload_records.specs.Native.{record_of, record_at, seal_of, IsUnsealed}
use Rattle.upload_records.specs.Consistent.{Head, heads, head_of, IsBeside, IsFolderName, IsHere, ConsistentContainers, IsOpen, IsListOf, HasList, by_object, ConsistentBucket, sealed_in, sealed_id, bucket_sound, IsObject, IsStored, IsThere, HasBareSides, IsConsistent}
use Rattle.upload_records.proofs.Apart.{uploads_apart, segments_apart, gateway_apart}
use Rattle.upload_records.proofs.lemmas.Sides.{bucket_side}
use Rattle.upload_records.proofs.lemmas.Settled.{OffSame, seal_holds, seal_none, unsealed_empty}

pub none_found : {X : Type 0} (x : X) → None ≡ Some x → ⊥
none_found x e = cc

-- a bucket's maps may be replaced by equal ones
pub bucket_as : (folder : List ℕ) {O O' R R' S S' : Names SwiftObject} {sealed sealed' : Option ℕ} → O' ≡ O → R' ≡ R → S' ≡ S → sealed' ≡ sealed → ConsistentBucket folder O R S sealed → ConsistentBucket folder O' R' S' sealed'
bucket_as folder {O = O} {O' = O'} {R = R} {R' = R'} {S = S} {S' = S'} {sealed = sealed} {sealed' = sealed'} objects records segments same old =
    subst (λ x. ConsistentBucket folder O' R' S' x) (sym same)
    (subst (λ x. ConsistentBucket folder O' R' x sealed) (sym segments)
    (subst (λ x. ConsistentBucket folder O' x S sealed) (sym records)
    (subst (λ x. ConsistentBucket folder x R S sealed) (sym objects) old)))

no_record : (id : List ℕ) → IsOpen (record_at empty id) → ⊥
no_record id opens = subst IsOpen (ap (option_and_then record_of) (get_empty by_name id)) opens

-- a bucket without a file is consistent
pub bucket_bare : (folder : List ℕ) (sealed : Option ℕ) → ConsistentBucket folder empty empty empty sealed
bucket_bare folder sealed = record {
  of_objects = λ k f found. absurd (none_found f (sym (get_empty by_name k) ∙ found));
  of_segments = λ k f found. absurd (none_found f (sym (get_empty by_name k) ∙ found));
  of_records = λ k f found. absurd (none_found f (sym (get_empty by_name k) ∙ found));
  apart = λ id lists opens. absurd (no_record (id_digits id) opens);
  subs_apart = λ n f sub found opens. absurd (no_record (id_digits sub.id) opens);
}

-- ---- a change of one container that isn't the gateway's own

module _ (tree tree' : SwiftAccount) (c : List ℕ) (gate : eq_by_cmp name_cmp gateway_name c ≡ false) (off : OffSame tree tree' c) where
  pub seal_stays : seal_of tree' ≡ seal_of tree
  seal_stays = seal_holds tree tree' (ap files_of (off gateway_name gate))

  pub id_stays : (n : List ℕ) → sealed_id tree' n ≡ sealed_id tree n
  id_stays n = ap (λ s. sealed_in s n) seal_stays

  -- it leaves the account consistent, by the containers, the buckets and what stands in the container
  pub sound_by : IsConsistent tree → IsUnsealed tree → ConsistentContainers (heads tree')
      → ((n : List ℕ) → is_bucket n ≡ true → IsThere tree' n → bucket_sound tree' n)
      → ((name : List ℕ) (file : SwiftObject) → find_object tree' c name ≡ Some file → IsStored name file)
      → IsConsistent tree'
  sound_by sound unsealed folders buckets stored = record {
    folders = folders;
    buckets = buckets;
    gateway = λ n f found. sound.gateway n f (ap (λ o. get (files_of o) n) (sym (off gateway_name gate)) ∙ found);
    sealed = λ s found. absurd (none_found s (sym (seal_none tree unsealed) ∙ sym seal_stays ∙ found));
    stored = λ n name file found. elim (same_key by_name n c) [
      | inl e ↦ stored name file (ap (λ m. find_object tree' m name) (sym e) ∙ found)
      | inr apart ↦ sound.stored n name file (ap (λ o. get (files_of o) name) (sym (off n apart)) ∙ found)
    ];
  }

-- ---- the containers

-- they may be replaced by equal ones
pub containers_same : (f g : List ℕ → Option Head) → ((n : List ℕ) → g n ≡ f n) → ConsistentContainers f → ConsistentContainers g
containers_same f g same old = record {
  names = λ n head e. old.names n head (sym (same n) ∙ e);
  hidden = λ n head e. old.hidden n head (sym (same n) ∙ e);
  timed = λ n head e. old.timed n head (sym (same n) ∙ e);
  records_beside = λ n is here. ap is_some (same (uploads_name n)) ∙ old.records_beside n is (sym (ap is_some (same n)) ∙ here);
  segments_beside = λ n is here. ap is_some (same (segments_name n)) ∙ old.segments_beside n is (sym (ap is_some (same n)) ∙ here);
}

module _ (f g : List ℕ → Option Head) (c : List ℕ) (off : (n : List ℕ) → eq_by_cmp name_cmp n c ≡ false → g n ≡ f n) where
  each_head : (P : List ℕ → Head → Type 0) (n : List ℕ) (head : Head) → ((h : Head) → g c ≡ Some h → P c h) → (f n ≡ Some head → P n head) → g n ≡ Some head → P n head
  each_head P n head new old found = elim (same_key by_name n c) [
    | inl e ↦ subst (λ m. P m head) (sym e) (new head (ap g (sym e) ∙ found))
    | inr apart ↦ old (sym (off n apart) ∙ found)
  ]

  -- a change of a bucket's own container
  pub containers_on : is_bucket c ≡ true → ConsistentContainers f
      → ((head : Head) → g c ≡ Some head → (moment : ℕ) × (head.created ≡ Some moment) × (moment < moment_limit))
      → (IsHere g c → IsHere f (uploads_name c)) → (IsHere g c → IsHere f (segments_name c))
      → ConsistentContainers g
  containers_on is old timed records segments = record {
    names = λ n head found. each_head (λ m h. IsFolderName m) n head (λ h new. inl is) (old.names n head) found;
    hidden = λ n head found. each_head (λ m h. is_bucket m ≡ false → h.readers ≡ Nobody) n head (λ h new not. absurd (true≢false (sym is ∙ not))) (old.hidden n head) found;
    timed = λ n head found. each_head (λ m h. is_bucket m ≡ true → (t : ℕ) × (h.created ≡ Some t) × (t < moment_limit)) n head (λ h new any. timed h new) (old.timed n head) found;
    records_beside = λ n is_n here. ap is_some (off (uploads_name n) (uploads_apart c n is)) ∙ beside_on n here (λ m. uploads_name m) records (old.records_beside n is_n);
    segments_beside = λ n is_n here. ap is_some (off (segments_name n) (segments_apart c n is)) ∙ beside_on n here (λ m. segments_name m) segments (old.segments_beside n is_n);
  }
    where
      beside_on : (n : List ℕ) → IsHere g n → (side : List ℕ → List ℕ) → (IsHere g c → IsHere f (side c)) → (IsHere f n → IsHere f (side n)) → IsHere f (side n)
      beside_on n here side at_c old_n = elim (same_key by_name n c) [
        | inl e ↦ subst (λ m. IsHere f (side m)) (sym e) (at_c (ap (λ m. is_some (g m)) (sym e) ∙ here))
        | inr apart ↦ old_n (sym (ap is_some (off n apart)) ∙ here)
      ]

  -- a container beside a bucket that is there after it, and that nobody may read
  pub containers_beside : (b : List ℕ) → IsBeside c b → ConsistentContainers f → (new : Head) → g c ≡ Some new → new.readers ≡ Nobody → ConsistentContainers g
  containers_beside b beside old new at hidden = record {
    names = λ n head found. each_head (λ m h. IsFolderName m) n head (λ h is_new. inr (inl (b, beside))) (old.names n head) found;
    hidden = λ n head found. each_head (λ m h. is_bucket m ≡ false → h.readers ≡ Nobody) n head (λ h is_new not. ap (λ (x : Head). x.readers) (same_Some h new (sym is_new ∙ at)) ∙ hidden) (old.hidden n head) found;
    timed = λ n head found is_n. old.timed n head (sym (off n (bucket_side c b beside n is_n)) ∙ found) is_n;
    records_beside = λ n is_n here. still (uploads_name n) (old.records_beside n is_n (sym (ap is_some (off n (bucket_side c b beside n is_n))) ∙ here));
    segments_beside = λ n is_n here. still (segments_name n) (old.segments_beside n is_n (sym (ap is_some (off n (bucket_side c b beside n is_n))) ∙ here));
  }
    where
      still : (m : List ℕ) → IsHere f m → IsHere g m
      still m was = elim (same_key by_name m c) [
        | inl e ↦ ap (λ x. is_some (g x)) e ∙ ap is_some at
        | inr apart ↦ ap is_some (off m apart) ∙ was
      ]

-- ---- a change of a bucket's own container

module _ (tree tree' : SwiftAccount) (b : List ℕ) (is : is_bucket b ≡ true) (off : OffSame tree tree' b) where
  -- what stands beside a bucket stays
  pub records_stay : (n : List ℕ) → files tree' (uploads_name n) ≡ files tree (uploads_name n)
  records_stay n = ap files_of (off (uploads_name n) (uploads_apart b n is))

  pub segments_stay : (n : List ℕ) → files tree' (segments_name n) ≡ files tree (segments_name n)
  segments_stay n = ap files_of (off (segments_name n) (segments_apart b n is))

  heads_off : (n : List ℕ) → eq_by_cmp name_cmp n b ≡ false → heads tree' n ≡ heads tree n
  heads_off n apart = ap (option_map head_of) (off n apart)

  module _ (sound : IsConsistent tree) (unsealed : IsUnsealed tree) where
    each_bucket : (IsThere tree' b → bucket_sound tree' b) → (n : List ℕ) → is_bucket n ≡ true → IsThere tree' n → bucket_sound tree' n
    each_bucket this n is_n here = elim (same_key by_name n b) [
      | inl e ↦ subst (bucket_sound tree') (sym e) (this (ap (λ m. is_some (get tree' m)) (sym e) ∙ here))
      | inr apart ↦ bucket_as (segments_name n) (ap files_of (off n apart)) (records_stay n) (segments_stay n) (id_stays tree tree' b (gateway_apart b is) off n)
          (sound.buckets n is_n (ap is_some (sym (off n apart)) ∙ here))
    ]

    pub sound_on : ((head : Head) → heads tree' b ≡ Some head → (moment : ℕ) × (head.created ≡ Some moment) × (moment < moment_limit))
        → (IsHere (heads tree') b → IsHere (heads tree) (uploads_name b)) → (IsHere (heads tree') b → IsHere (heads tree) (segments_name b))
        → (IsThere tree' b → bucket_sound tree' b)
        → ((name : List ℕ) (file : SwiftObject) → find_object tree' b name ≡ Some file → IsStored name file)
        → IsConsistent tree'
    sound_on timed records segments this stored =
        sound_by tree tree' b (gateway_apart b is) off sound unsealed (containers_on (heads tree) (heads tree') b heads_off is sound.folders timed records segments) (each_bucket this) stored

-- what a container is, but for its objects, is there where it is
pub here_by : (o : Option SwiftContainer) → is_some o ≡ true → is_some (option_map head_of o) ≡ true
here_by None e = e
here_by (Some folder) e = refl

pub there_of : (o : Option SwiftContainer) → is_some (option_map head_of o) ≡ true → is_some o ≡ true
there_of None e = e
there_of (Some folder) e = refl

-- ---- a container comes

-- a bucket's container that is made at a moment, beside which both containers are there and empty, leaves the account consistent
pub sound_made : (tree : SwiftAccount) (b : List ℕ) (acl : Acl) (moment : ℕ) → is_bucket b ≡ true → moment < moment_limit → IsConsistent tree → IsUnsealed tree → HasBareSides tree b
    → IsConsistent (insert tree b (new_folder (readers_of acl) (Some moment)))
sound_made tree b acl moment is below sound unsealed sides =
    let folder : SwiftContainer = new_folder (readers_of acl) (Some moment) in
    let new : SwiftAccount = insert tree b folder in
    let off : OffSame tree new b = off_insert by_name tree b folder in
    let at : get new b ≡ Some folder = at_insert by_name tree b folder in
    let none : (name : List ℕ) → find_object new b name ≡ None = λ name. ap (λ o. get (files_of o) name) at ∙ get_empty by_name name in
    sound_on tree new b is off sound unsealed
    (λ head found. new_moment folder head moment (sym (ap (option_map head_of) at) ∙ found) refl below)
    (λ here. here_by (get tree (uploads_name b)) sides.records.there)
    (λ here. here_by (get tree (segments_name b)) sides.segments.there)
    (λ there. bucket_as (segments_name b) (ap files_of at) (records_stay tree new b is off b ∙ sides.records.holds) (segments_stay tree new b is off b ∙ sides.segments.holds) refl (bucket_bare (segments_name b) (sealed_id new b)))
    (λ name file found. absurd (none_found file (sym (none name) ∙ found)))
  where
    new_moment : (folder : SwiftContainer) (head : Head) (moment : ℕ) → Some (head_of folder) ≡ Some head → folder.created ≡ Some moment → moment < moment_limit → (t : ℕ) × (head.created ≡ Some t) × (t < moment_limit)
    new_moment folder head moment same created below = (moment, (let e : head_of folder ≡ head = cc in ap (λ (h : Head). h.created) (sym e) ∙ created), below)

-- ---- a container goes

pub sound_dropped : (tree : SwiftAccount) (b : List ℕ) → is_bucket b ≡ true → IsConsistent tree → IsUnsealed tree → IsConsistent (remove tree b)
sound_dropped tree b is sound unsealed =
    let at : get (remove tree b) b ≡ None = at_remove by_name tree b in
    let none : (name : List ℕ) → find_object (remove tree b) b name ≡ None = λ name. ap (λ o. get (files_of o) name) at ∙ get_empty by_name name in
    let gone : is_some (heads (remove tree b) b) ≡ false = ap (λ o. is_some (option_map head_of o)) at in
    sound_on tree (remove tree b) b is (off_remove by_name tree b) sound unsealed
    (λ head found. absurd (none_found head (sym (ap (option_map head_of) at) ∙ found)))
    (λ here. absurd (true≢false (sym here ∙ gone)))
    (λ here. absurd (true≢false (sym here ∙ gone)))
    (λ there. absurd (true≢false (sym there ∙ ap is_some at)))
    (λ name file found. absurd (none_found file (sym (none name) ∙ found)))

-- ---- its read list is replaced

-- a container that is there with another read list was there, made at the same moment
was_head : (readers : ReadList) (o : Option SwiftContainer) (head : Head) → option_map head_of (option_map (with_readers readers) o) ≡ Some head → (old : Head) × (option_map head_of o ≡ Some old) × (head.created ≡ old.created)
was_head readers None head e = absurd (none_found head e)
was_head readers (Some folder) head e = (head_of folder, refl, (let same : head_of (with_readers readers folder) ≡ head = cc in ap (λ (h : Head). h.created) (sym same)))

same_files : (readers : ReadList) (o : Option SwiftContainer) → files_of (option_map (with_readers readers) o) ≡ files_of o
same_files readers None = refl
same_files readers (Some folder) = refl

was_there : (readers : ReadList) (o : Option SwiftContainer) → is_some (option_map (with_readers readers) o) ≡ is_some o
was_there readers None = refl
was_there readers (Some folder) = refl

pub sound_posted : (tree : SwiftAccount) (b : List ℕ) (readers : ReadList) → is_bucket b ≡ true → IsConsistent tree → IsUnsealed tree → IsConsistent (adjust b (with_readers readers) tree)
sound_posted tree b readers is sound unsealed =
    let new : SwiftAccount = adjust b (with_readers readers) tree in
    let off : OffSame tree new b = off_adjust by_name b (with_readers readers) tree in
    let at : get new b ≡ option_map (with_readers readers) (get tree b) = at_adjust by_name b (with_readers readers) tree in
    let same : files new b ≡ files tree b = ap files_of at ∙ same_files readers (get tree b) in
    let was : IsThere new b → IsThere tree b = λ there. sym (was_there readers (get tree b)) ∙ sym (ap is_some at) ∙ there in
    let here : IsHere (heads new) b → IsHere (heads tree) b = λ h. here_by (get tree b) (was (there_of (get new b) h)) in
    sound_on tree new b is off sound unsealed
    (λ head found.
    let old = was_head readers (get tree b) head (sym (ap (option_map head_of) at) ∙ found) in
    let timed = sound.folders.timed b old.0 old.1 is in
    (timed.0, old.2 ∙ timed.1, timed.2))
    (λ h. sound.folders.records_beside b is (here h))
    (λ h. sound.folders.segments_beside b is (here h))
    (λ there. bucket_as (segments_name b) same (records_stay tree new b is off b) (segments_stay tree new b is off b) (id_stays tree new b (gateway_apart b is) off b) (sound.buckets b is (was there)))
    (λ name file found. sound.stored b name file (ap (λ fs. get fs name) (sym same) ∙ found))

-- ---- its files change

pub heads_by : (g : Names SwiftObject → Names SwiftObject) (o : Option SwiftContainer) → option_map head_of (option_map (on_files g) o) ≡ option_map head_of o
heads_by g None = refl
heads_by g (Some folder) = refl

pub found_after : (g : Names SwiftObject → Names SwiftObject) (o : Option SwiftContainer) (key : List ℕ) (file : SwiftObject) → get (files_of (option_map (on_files g) o)) key ≡ Some file → get (g (files_of o)) key ≡ Some file
found_after g None key file is = absurd (none_found file (sym (get_empty by_name key) ∙ is))
found_after g (Some folder) key file is = is

pub files_after : (g : Names SwiftObject → Names SwiftObject) (o : Option SwiftContainer) → is_some o ≡ true → files_of (option_map (on_files g) o) ≡ g (files_of o)
files_after g None there = absurd (true≢false (sym there))
files_after g (Some folder) there = refl

was_some : (g : Names SwiftObject → Names SwiftObject) (o : Option SwiftContainer) → is_some (option_map (on_files g) o) ≡ true → is_some o ≡ true
was_some g None there = there
was_some g (Some folder) there = refl

-- a change of the files of one container leaves the head of each
pub heads_stay : (tree : SwiftAccount) (c : List ℕ) (g : Names SwiftObject → Names SwiftObject) (n : List ℕ) → heads (adjust c (on_files g) tree) n ≡ heads tree n
heads_stay tree c g n = elim (same_key by_name n c) [
  | inl e ↦ ap (heads (adjust c (on_files g) tree)) e ∙ ap (option_map head_of) (at_adjust by_name c (on_files g) tree) ∙ heads_by g (get tree c) ∙ ap (heads tree) (sym e)
  | inr a ↦ ap (option_map head_of) (off_adjust by_name c (on_files g) tree n a)
]

-- a change of a bucket's files leaves the account consistent where each file that is there after it is an object, and none lists
-- the segments of an upload that is open and that none listed before
sound_changed : (tree : SwiftAccount) (b : List ℕ) (g : Names SwiftObject → Names SwiftObject) → is_bucket b ≡ true → IsConsistent tree → IsUnsealed tree
    → ((key : List ℕ) (file : SwiftObject) → get (g (files tree b)) key ≡ Some file → IsObject (files tree (segments_name b)) (segments_name b) key file × IsStored key file)
    → ((id : ℕ) → HasList (g (files tree b)) (files tree (segments_name b)) id → IsOpen (record_at (files tree (uploads_name b)) (id_digits id)) → HasList (files tree b) (files tree (segments_name b)) id)
    → IsConsistent (adjust b (on_files g) tree)
sound_changed tree b g is sound unsealed all lists =
    let new : SwiftAccount = adjust b (on_files g) tree in
    let off : OffSame tree new b = off_adjust by_name b (on_files g) tree in
    let at : get new b ≡ option_map (on_files g) (get tree b) = at_adjust by_name b (on_files g) tree in
    let was : IsThere new b → IsThere tree b = λ there. was_some g (get tree b) (sym (ap is_some at) ∙ there) in
    let old : IsThere new b → bucket_sound tree b = λ there. sound.buckets b is (was there) in
    sound_by tree new b (gateway_apart b is) off sound unsealed
    (containers_same (heads tree) (heads new) (heads_stay tree b g) sound.folders)
    (each_bucket tree new b is off sound unsealed
    (λ there. bucket_as (segments_name b) (ap files_of at ∙ files_after g (get tree b) (was there)) (records_stay tree new b is off b) (segments_stay tree new b is off b) (id_stays tree new b (gateway_apart b is) off b)
    (record {
      of_objects = λ key file found. (all key file found).0;
      of_segments = (old there).of_segments;
      of_records = (old there).of_records;
      apart = λ id listed opens. (old there).apart id (lists id listed opens) opens;
      subs_apart = (old there).subs_apart;
    })))
    (λ key file found. (all key file (found_after g (get tree b) key file (ap (λ o. get (files_of o) key) (sym at) ∙ found))).1)

pub there_by : (o : Option SwiftContainer) (key : List ℕ) (file : SwiftObject) → get (files_of o) key ≡ Some file → is_some o ≡ true
there_by None key file found = absurd (none_found file (sym (get_empty by_name key) ∙ found))
there_by (Some folder) key file found = refl

-- over a consistent account each file of a bucket is an object
pub sound_object : (tree : SwiftAccount) (b key : List ℕ) (file : SwiftObject) → IsConsistent tree → is_bucket b ≡ true → find_object tree b key ≡ Some file → IsObject (files tree (segments_name b)) (segments_name b) key file
sound_object tree b key file sound is found = (sound.buckets b is (there_by (get tree b) key file found)).of_objects key file found

-- a file that doesn't list the segments of an id brings no list of it
lists_before : (objects segments : Names SwiftObject) (key : List ℕ) (file : SwiftObject) (id : ℕ) → (IsListOf file id → ⊥) → HasList (insert objects key file) segments id → HasList objects segments id
lists_before objects segments key file id apart (by_object k f found lists) = elim (same_key by_name k key) [
  | inl e ↦ absurd (apart (subst (λ x. IsListOf x id) (sym (same_Some file f (sym (at_insert by_name objects key file) ∙ ap (get (insert objects key file)) (sym e) ∙ found))) lists))
  | inr a ↦ by_object k f (sym (off_insert by_name objects key file k a) ∙ found) lists
]

lists_left : (objects segments : Names SwiftObject) (key : List ℕ) (id : ℕ) → HasList (remove objects key) segments id → HasList objects segments id
lists_left objects segments key id (by_object k f found lists) = by_object k f (remove_is by_name (λ n x. get objects n ≡ Some x) objects key k f (λ was. was) found) lists

-- an object that lists the segments of no open upload is put, with a name and a size that a store takes
pub sound_put : (tree : SwiftAccount) (b key : List ℕ) (file : SwiftObject) → is_bucket b ≡ true → IsConsistent tree → IsUnsealed tree → IsObject (files tree (segments_name b)) (segments_name b) key file
    → ((id : ℕ) → IsListOf file id → IsOpen (record_at (files tree (uploads_name b)) (id_digits id)) → ⊥) → IsStored key file → IsConsistent (put_file b key file tree)
sound_put tree b key file is sound unsealed object closed stored =
    sound_changed tree b (λ fs. insert fs key file) is sound unsealed
    (λ k f found. insert_is by_name (λ n x. IsObject (files tree (segments_name b)) (segments_name b) n x × IsStored n x) (files tree b) key file k f (object, stored)
    (λ was. (sound_object tree b k f sound is was, sound.stored b k f was)) found)
    (λ id listed opens. lists_before (files tree b) (files tree (segments_name b)) key file id (λ lists. closed id lists opens) listed)

-- an object that goes
pub sound_removed : (tree : SwiftAccount) (b key : List ℕ) → is_bucket b ≡ true → IsConsistent tree → IsUnsealed tree → IsConsistent (remove_file b key tree)
sound_removed tree b key is sound unsealed =
    sound_changed tree b (λ fs. remove fs key) is sound unsealed
    (λ k f found. remove_is by_name (λ n x. IsObject (files tree (segments_name b)) (segments_name b) n x × IsStored n x) (files tree b) key k f
    (λ was. (sound_object tree b k f sound is was, sound.stored b k f was)) found)
    (λ id listed opens. lists_left (files tree b) (files tree (segments_name b)) key id listed)

-- ---- the account without a container

none_here : (n : List ℕ) → heads empty n ≡ None
none_here n = ap (option_map head_of) (get_empty by_name n)

none_held : (n name : List ℕ) → find_object empty n name ≡ None
none_held n name = ap (λ o. get (files_of o) name) (get_empty by_name n) ∙ get_empty by_name name

pub sound_empty : IsConsistent empty
sound_empty = record {
  folders = record {
    names = λ n head is. absurd (none_found head (sym (none_here n) ∙ is));
    hidden = λ n head is. absurd (none_found head (sym (none_here n) ∙ is));
    timed = λ n head is. absurd (none_found head (sym (none_here n) ∙ is));
    records_beside = λ n is here. absurd (true≢false (sym here ∙ ap is_some (none_here n)));
    segments_beside = λ n is here. absurd (true≢false (sym here ∙ ap is_some (none_here n)));
  };
  buckets = λ n is_n there. absurd (true≢false (sym there ∙ ap is_some (get_empty by_name n)));
  gateway = λ name file is. absurd (none_found file (sym (none_held gateway_name name) ∙ is));
  sealed = λ s is. absurd (none_found s (sym (seal_none empty unsealed_empty) ∙ is));
  stored = λ n name file is. absurd (none_found file (sym (none_held n name) ∙ is));
}
