-- A change of the gateway's own container leaves the buckets; the PUT of the container itself leaves the state, the PUT of a sealed
-- completion into it is the step of the service, and that of the writer's word leaves both.
use Rattle.std.specs.Prelude.{◌≡◌, ℕ, Bool, true, false, cond, List, is_some, Option, None, Some}
use Rattle.std.specs.Option.{option_map, option_and_then}
use Rattle.std.specs.Ordering.{eq_by_cmp}
use Rattle.std.specs.FinMap.{get, insert}
use Rattle.std.proofs.Common.{refl, sym, ap, subst, ◌∙◌, inl, inr}
use Rattle.std.proofs.lemmas.Bool.{and_parts}
use Rattle.std.proofs.lemmas.Option.{none-some, same_Some}
use Rattle.gate_base.specs.Maps.{Names, name_cmp}
use Rattle.gate_base.proofs.lemmas.Maps.{by_name, apart_back, same_key, same_names, at_insert, at_adjust, off_adjust, off_insert, put_is}
use Rattle.s3_names.specs.Bucket.{is_bucket}
use Rattle.s3_names.specs.Key.{is_key}
use Rattle.s3_machine.specs.Finish.{finished}
use Rattle.s3_machine.specs.State.{State}
use Rattle.swift_calls.specs.declared.account.ReadList.TheVariants.{Nobody}
use Rattle.swift_calls.specs.declared.account.Content.TheVariants.{Plain}
use Rattle.swift_calls.specs.Files.{PutFile}
use Rattle.swift_calls.specs.declared.calls.SwiftRequest.TheVariants.{PutContainer}
use Rattle.swift_calls.specs.Account.{SwiftObject, SwiftContainer, SwiftAccount, files, files_of, find_object, on_files, with_head, put_file}
use Rattle.swift_calls.specs.Bodies.{plain_bytes}
use Rattle.swift_calls.specs.Step.{Answer, is_taken, put_container, put_object, put_unless, swift_step}
use Rattle.swift_calls.proofs.lemmas.Files.{put_unless_by}
use Rattle.upload_texts.specs.Sealed.{is_sealed_place, read_sealed, has_sealed_text}
use Rattle.upload_texts.specs.declared.sealed.Sealed.{Sealed}
use Rattle.upload_records.specs.Layout.{uploads_name, segments_name, gateway_name, sealed_name, writer_name}
use Rattle.upload_records.specs.Native.{bucket_from, bucket_of, plain, seal_by, seal_of, sealed_of, finished_from, laid, IsUnsealed, s3_state}
use Rattle.upload_records.specs.Consistent.{Head, head_of, heads, IsFolderName, ConsistentContainers, ConsistentBucket, sealed_in, sealed_id, ConsistentSealed, IsGatewayFile, IsStored, IsThere, SealedIn, IsConsistent}
use Rattle.upload_records.specs.Laws.{file_put, KeepsSealed, MakesGateway, SealsCompletion, WordPut}
use Rattle.upload_records.proofs.Apart.{gateway_apart}
use Rattle.upload_records.proofs.lemmas.GatewayFiles.{sealed_file}
use Rattle.upload_records.proofs.lemmas.SealedTexts.{sealed_has}
use Rattle.upload_records.proofs.lemmas.Sides.{gateway_uploads, gateway_segments}
use Rattle.upload_records.proofs.Carried.{none_found, bucket_as, containers_same, heads_stay, files_after, found_after}
use Rattle.upload_records.proofs.lemmas.Plain.{get_plain}
use Rattle.upload_records.proofs.lemmas.Settled.{OffSame, seal_holds, seal_none, s3_state_unsealed}
use Rattle.upload_records.proofs.lemmas.Objects.{put_leaves}
use Rattle.upload_records.proofs.lemmas.Off.{put_off}

bucket_off : (n : List ℕ) → is_bucket n ≡ true → eq_by_cmp name_cmp n gateway_name ≡ false
bucket_off n is = apart_back by_name gateway_name n (gateway_apart n is)

uploads_off : (n : List ℕ) → is_bucket n ≡ true → eq_by_cmp name_cmp (uploads_name n) gateway_name ≡ false
uploads_off n is = apart_back by_name gateway_name (uploads_name n) (gateway_uploads n is)

segments_off : (n : List ℕ) → is_bucket n ≡ true → eq_by_cmp name_cmp (segments_name n) gateway_name ≡ false
segments_off n is = apart_back by_name gateway_name (segments_name n) (gateway_segments n is)

none_of : (name : List ℕ) (tree : SwiftAccount) (o : Option SwiftContainer) → is_bucket name ≡ false → option_and_then (bucket_of tree name) o ≡ None
none_of name tree None not = refl
none_of name tree (Some folder) not = ap (λ t. cond t (Some (bucket_from (files tree (uploads_name name)) (files tree (segments_name name)) folder)) None) not

-- ---- the buckets stay

module _ (tree tree' : SwiftAccount) (off : OffSame tree tree' gateway_name) where
  bucket_stays : (n : List ℕ) → is_bucket n ≡ true → get tree' n ≡ get tree n
  bucket_stays n is = off n (bucket_off n is)

  records_stay : (n : List ℕ) → is_bucket n ≡ true → files tree' (uploads_name n) ≡ files tree (uploads_name n)
  records_stay n is = ap files_of (off (uploads_name n) (uploads_off n is))

  segments_stay : (n : List ℕ) → is_bucket n ≡ true → files tree' (segments_name n) ≡ files tree (segments_name n)
  segments_stay n is = ap files_of (off (segments_name n) (segments_off n is))

  taken_same : (n : List ℕ) → is_bucket n ≡ true → option_and_then (bucket_of tree' n) (get tree' n) ≡ option_and_then (bucket_of tree n) (get tree n)
  taken_same n is = λ i. option_and_then (λ folder. cond (is_bucket n) (Some (bucket_from (records_stay n is i) (segments_stay n is i) folder)) None) (bucket_stays n is i)

  each_stays : (n : List ℕ) (t : Bool) → is_bucket n ≡ t → option_and_then (bucket_of tree' n) (get tree' n) ≡ option_and_then (bucket_of tree n) (get tree n)
  each_stays n true is = taken_same n is
  each_stays n false not = none_of n tree' (get tree' n) not ∙ sym (none_of n tree (get tree n) not)

  pub plain_stays : plain tree' ≡ plain tree
  plain_stays = same_names _ _ (λ n. get_plain tree' n ∙ each_stays n (is_bucket n) refl ∙ sym (get_plain tree n))

  -- by what the container holds after it, the account stays consistent
  pub sound_gateway : IsConsistent tree → ConsistentContainers (heads tree')
      → ((n : List ℕ) → ConsistentBucket (segments_name n) (files tree n) (files tree (uploads_name n)) (files tree (segments_name n)) (sealed_id tree n)
      → ConsistentBucket (segments_name n) (files tree n) (files tree (uploads_name n)) (files tree (segments_name n)) (sealed_id tree' n))
      → ((name : List ℕ) (file : SwiftObject) → find_object tree' gateway_name name ≡ Some file → IsGatewayFile name file)
      → ((s : Sealed) → seal_of tree' ≡ Some s → SealedIn tree' s)
      → ((name : List ℕ) (file : SwiftObject) → find_object tree' gateway_name name ≡ Some file → IsStored name file)
      → IsConsistent tree'
  sound_gateway sound folders buckets gateway sealed stored = record {
    folders = folders;
    buckets = λ n is there. bucket_as (segments_name n) (ap files_of (bucket_stays n is)) (records_stay n is) (segments_stay n is) refl
        (buckets n (sound.buckets n is (sym (ap is_some (bucket_stays n is)) ∙ there)));
    gateway = gateway;
    sealed = sealed;
    stored = λ n name file found. elim (same_key by_name n gateway_name) [
      | inl e ↦ stored name file (ap (λ m. find_object tree' m name) (sym e) ∙ found)
      | inr a ↦ sound.stored n name file (ap (λ o. get (files_of o) name) (sym (off n a)) ∙ found)
    ];
  }

-- ---- the PUT of the gateway's own container

module _ (f g : List ℕ → Option Head) (off : (n : List ℕ) → eq_by_cmp name_cmp n gateway_name ≡ false → g n ≡ f n) where
  each_head : (P : List ℕ → Head → Type 0) (n : List ℕ) (head : Head) → ((h : Head) → g gateway_name ≡ Some h → P gateway_name h) → (f n ≡ Some head → P n head) → g n ≡ Some head → P n head
  each_head P n head new old found = elim (same_key by_name n gateway_name) [
    | inl e ↦ subst (λ m. P m head) (sym e) (new head (ap g (sym e) ∙ found))
    | inr a ↦ old (sym (off n a) ∙ found)
  ]

  containers_gateway : ConsistentContainers f → (new : Head) → g gateway_name ≡ Some new → new.readers ≡ Nobody → ConsistentContainers g
  containers_gateway old new at hidden = record {
    names = λ n head found. each_head (λ m h. IsFolderName m) n head (λ h is_new. inr (inr refl)) (old.names n head) found;
    hidden = λ n head found. each_head (λ m h. is_bucket m ≡ false → h.readers ≡ Nobody) n head (λ h is_new not. ap (λ (x : Head). x.readers) (same_Some h new (sym is_new ∙ at)) ∙ hidden) (old.hidden n head) found;
    timed = λ n head found is. old.timed n head (sym (off n (bucket_off n is)) ∙ found) is;
    records_beside = λ n is here. ap is_some (off (uploads_name n) (uploads_off n is)) ∙ old.records_beside n is (sym (ap is_some (off n (bucket_off n is))) ∙ here);
    segments_beside = λ n is here. ap is_some (off (segments_name n) (segments_off n is)) ∙ old.segments_beside n is (sym (ap is_some (off n (bucket_off n is))) ∙ here);
  }

abbrev hidden_head : Option ℕ → Head
hidden_head created = record { readers = Nobody; created = created }

made_head : (tree : SwiftAccount) (created : Option ℕ) (o : Option SwiftContainer) → get tree gateway_name ≡ o → heads (put_container o gateway_name Nobody created tree).tree gateway_name ≡ Some (hidden_head created)
made_head tree created None e = ap (option_map head_of) (at_insert by_name tree gateway_name _)
made_head tree created (Some folder) e = ap (option_map head_of) (at_adjust by_name gateway_name (with_head Nobody created) tree ∙ ap (option_map (with_head Nobody created)) e)

pub made_there : (tree : SwiftAccount) (created : Option ℕ) (o : Option SwiftContainer) → get tree gateway_name ≡ o → is_some (get (put_container o gateway_name Nobody created tree).tree gateway_name) ≡ true
made_there tree created None e = ap is_some (at_insert by_name tree gateway_name _)
made_there tree created (Some folder) e = ap is_some (at_adjust by_name gateway_name (with_head Nobody created) tree ∙ ap (option_map (with_head Nobody created)) e)

pub made_files : (tree : SwiftAccount) (created : Option ℕ) (o : Option SwiftContainer) → get tree gateway_name ≡ o → files (put_container o gateway_name Nobody created tree).tree gateway_name ≡ files tree gateway_name
made_files tree created None e = ap files_of (at_insert by_name tree gateway_name _) ∙ sym (ap files_of e)
made_files tree created (Some folder) e = ap files_of (at_adjust by_name gateway_name (with_head Nobody created) tree ∙ ap (option_map (with_head Nobody created)) e) ∙ sym (ap files_of e)

-- accounts that hold the same files, and the same buckets, represent the same state
state_alike : (tree tree' : SwiftAccount) → ((n : List ℕ) → files tree' n ≡ files tree n) → plain tree' ≡ plain tree → s3_state tree' ≡ s3_state tree
unfolding s3_state sealed_of
state_alike tree tree' same plains =
    let seals = seal_holds tree tree' (same gateway_name) in
    λ i. laid (option_map (λ s. finished_from (same (segments_name s.bucket) i) s) (seals i)) (plains i)

module _ (tree : SwiftAccount) (created : Option ℕ) (sound : IsConsistent tree) where
  made_off : OffSame tree (put_container (get tree gateway_name) gateway_name Nobody created tree).tree gateway_name
  made_off = put_off (get tree gateway_name) gateway_name Nobody created tree

  all_files : (n : List ℕ) → files (put_container (get tree gateway_name) gateway_name Nobody created tree).tree n ≡ files tree n
  all_files n = elim (same_key by_name n gateway_name) [
    | inl e ↦ subst (λ m. files (put_container (get tree gateway_name) gateway_name Nobody created tree).tree m ≡ files tree m) (sym e) (made_files tree created (get tree gateway_name) refl)
    | inr a ↦ ap files_of (made_off n a)
  ]

  seal_stays : seal_of (put_container (get tree gateway_name) gateway_name Nobody created tree).tree ≡ seal_of tree
  seal_stays = seal_holds tree (put_container (get tree gateway_name) gateway_name Nobody created tree).tree (all_files gateway_name)

  still_there : (n : List ℕ) → IsThere tree n → IsThere (put_container (get tree gateway_name) gateway_name Nobody created tree).tree n
  still_there n there = elim (same_key by_name n gateway_name) [
    | inl e ↦ subst (IsThere (put_container (get tree gateway_name) gateway_name Nobody created tree).tree) (sym e) (made_there tree created (get tree gateway_name) refl)
    | inr a ↦ ap is_some (made_off n a) ∙ there
  ]

  sealed_still : (s : Sealed) → SealedIn tree s → SealedIn (put_container (get tree gateway_name) gateway_name Nobody created tree).tree s
  sealed_still s old = record {
    there = still_there s.bucket old.there;
    stands = subst (λ r. ConsistentSealed r (files (put_container (get tree gateway_name) gateway_name Nobody created tree).tree (segments_name s.bucket)) s) (sym (all_files (uploads_name s.bucket)))
        (subst (λ x. ConsistentSealed (files tree (uploads_name s.bucket)) x s) (sym (all_files (segments_name s.bucket))) old.stands);
  }

  pub gateway_made : MakesGateway tree (PutContainer gateway_name Nobody created)
  gateway_made = record {
    sound = sound_gateway tree (put_container (get tree gateway_name) gateway_name Nobody created tree).tree made_off sound
        (containers_gateway (heads tree) (heads (put_container (get tree gateway_name) gateway_name Nobody created tree).tree) (λ n a. ap (option_map head_of) (made_off n a)) sound.folders (hidden_head created) (made_head tree created (get tree gateway_name) refl) refl)
        (λ n old. bucket_as (segments_name n) refl refl refl (ap (λ s. sealed_in s n) seal_stays) old)
        (λ name file found. sound.gateway name file (ap (λ fs. get fs name) (sym (all_files gateway_name)) ∙ found))
        (λ s found. sealed_still s (sound.sealed s (sym seal_stays ∙ found)))
        (λ name file found. sound.stored gateway_name name file (ap (λ fs. get fs name) (sym (all_files gateway_name)) ∙ found));
    same = state_alike tree (put_container (get tree gateway_name) gateway_name Nobody created tree).tree all_files (plain_stays tree (put_container (get tree gateway_name) gateway_name Nobody created tree).tree made_off);
    there = made_there tree created (get tree gateway_name) refl;
  }

-- ---- the PUT of a sealed completion

-- its bucket has the name of one
pub sealed_bucket : (text : List ℕ) (s : Sealed) → read_sealed text ≡ Some s → is_bucket s.bucket ≡ true
unfolding has_sealed_text
sealed_bucket text s reads = (and_parts (is_bucket s.bucket) (is_key s.key) (and_parts (is_sealed_place s) _ (sealed_has text s reads)).0).0

resealed : (folder : List ℕ) (O R S : Names SwiftObject) (sealed : Option ℕ) → ConsistentBucket folder O R S None → ConsistentBucket folder O R S sealed
resealed folder O R S sealed old = record {
  of_objects = old.of_objects;
  of_segments = old.of_segments;
  of_records = old.of_records;
  apart = λ id lists opens. absurd (none_found id (old.apart id lists opens));
  subs_apart = λ n f sub found opens. absurd (none_found sub.id (old.subs_apart n f sub found opens));
}

module _ (tree : SwiftAccount) (text : List ℕ) (s : Sealed) (file : SwiftObject) (own : file.content ≡ Plain text) (reads : read_sealed text ≡ Some s) (there : IsThere tree gateway_name)
    (stands : SealedIn tree s) (stored : IsStored sealed_name file) (sound : IsConsistent tree) (unsealed : IsUnsealed tree) where
  put_off_gateway : OffSame tree (put_file gateway_name sealed_name file tree) gateway_name
  put_off_gateway = off_adjust by_name gateway_name (on_files (λ fs. insert fs sealed_name file)) tree

  at_gateway : get (put_file gateway_name sealed_name file tree) gateway_name ≡ option_map (on_files (λ fs. insert fs sealed_name file)) (get tree gateway_name)
  at_gateway = at_adjust by_name gateway_name (on_files (λ fs. insert fs sealed_name file)) tree

  gateway_files : files (put_file gateway_name sealed_name file tree) gateway_name ≡ insert (files tree gateway_name) sealed_name file
  gateway_files = ap files_of at_gateway ∙ files_after (λ fs. insert fs sealed_name file) (get tree gateway_name) there

  seal_put : seal_of (put_file gateway_name sealed_name file tree) ≡ Some s
  unfolding seal_of
  seal_put = ap (λ fs. seal_by (get fs sealed_name)) gateway_files ∙ ap seal_by (at_insert by_name (files tree gateway_name) sealed_name file)
      ∙ ap (λ c. option_and_then read_sealed (plain_bytes c)) own ∙ reads

  none_sealed : (n : List ℕ) → sealed_id tree n ≡ None
  none_sealed n = ap (λ x. sealed_in x n) (seal_none tree unsealed)

  sealed_new : SealedIn (put_file gateway_name sealed_name file tree) s
  sealed_new =
      let is = sealed_bucket text s reads in
      let new : SwiftAccount = put_file gateway_name sealed_name file tree in
      record {
        there = ap is_some (bucket_stays tree new put_off_gateway s.bucket is) ∙ stands.there;
        stands = subst (λ r. ConsistentSealed r (files new (segments_name s.bucket)) s) (sym (records_stay tree new put_off_gateway s.bucket is))
            (subst (λ x. ConsistentSealed (files tree (uploads_name s.bucket)) x s) (sym (segments_stay tree new put_off_gateway s.bucket is)) stands.stands);
      }

  sealed_sound : IsConsistent (put_file gateway_name sealed_name file tree)
  sealed_sound = sound_gateway tree (put_file gateway_name sealed_name file tree) put_off_gateway sound
      (containers_same (heads tree) (heads (put_file gateway_name sealed_name file tree)) (heads_stay tree gateway_name (λ fs. insert fs sealed_name file)) sound.folders)
      (λ n old. resealed (segments_name n) (files tree n) (files tree (uploads_name n)) (files tree (segments_name n)) (sealed_id (put_file gateway_name sealed_name file tree) n)
      (bucket_as (segments_name n) refl refl refl (sym (none_sealed n)) old))
      (λ name f found. put_is IsGatewayFile (files tree gateway_name) sealed_name file name f (inl (record { text = text; is = s; named = refl; own = own; reads = reads })) (sound.gateway name f) (ap (λ fs. get fs name) (sym gateway_files) ∙ found))
      (λ x found. subst (SealedIn (put_file gateway_name sealed_name file tree)) (same_Some s x (sym seal_put ∙ found)) sealed_new)
      (λ name f found. put_is IsStored (files tree gateway_name) sealed_name file name f stored (sound.stored gateway_name name f) (ap (λ fs. get fs name) (sym gateway_files) ∙ found))

  sealed_state : s3_state (put_file gateway_name sealed_name file tree) ≡ finished (finished_from (files tree (segments_name s.bucket)) s) (s3_state tree)
  unfolding s3_state sealed_of
  sealed_state =
      let new : SwiftAccount = put_file gateway_name sealed_name file tree in
      ap (λ v. laid (option_map (λ x. finished_from (files new (segments_name x.bucket)) x) v) (plain new)) seal_put
      ∙ ap (λ fs. finished (finished_from fs s) (plain new)) (segments_stay tree new put_off_gateway s.bucket (sealed_bucket text s reads))
      ∙ ap (finished (finished_from (files tree (segments_name s.bucket)) s)) (plain_stays tree new put_off_gateway ∙ sym (s3_state_unsealed tree unsealed))

-- ---- what is put fresh

-- where none is sealed, no file is there under the name
seal_missing : (tree : SwiftAccount) → IsConsistent tree → IsUnsealed tree → (o : Option SwiftObject) → find_object tree gateway_name sealed_name ≡ o → find_object tree gateway_name sealed_name ≡ None
unfolding seal_of
seal_missing tree sound unsealed None e = e
seal_missing tree sound unsealed (Some file) e =
    let kept = sealed_file file (sound.gateway sealed_name file e) in
    let seals : seal_of tree ≡ Some kept.is = ap seal_by e ∙ ap (λ c. option_and_then read_sealed (plain_bytes c)) kept.own ∙ kept.reads in
    absurd (none-some kept.is (sym (seal_none tree unsealed) ∙ seals))

-- none is in the way of a file whose name isn't there
never_taken : (fresh : Bool) (put : Answer) (tree : SwiftAccount) → let none : Option SwiftObject = None in (put_unless (is_taken fresh none) put tree).tree ≡ put.tree
never_taken false put tree = refl
never_taken true put tree = refl

pub completion_sealed : (tree : SwiftAccount) (content_type : List ℕ) (meta : List (List ℕ)) (text : List ℕ) (fresh : Bool) (s : Sealed) → read_sealed text ≡ Some s → IsThere tree gateway_name → SealedIn tree s
    → IsStored sealed_name (file_put content_type meta text) → IsConsistent tree → IsUnsealed tree → SealsCompletion tree (PutFile gateway_name sealed_name content_type meta text fresh) s
completion_sealed tree content_type meta text fresh s reads there stands stored sound unsealed =
    let file : SwiftObject = file_put content_type meta text in
    let put : Answer = put_object (get tree gateway_name) gateway_name sealed_name file tree in
    let leaves : (swift_step (PutFile gateway_name sealed_name content_type meta text fresh) tree).tree ≡ put_file gateway_name sealed_name file tree =
    ap (λ o. (put_unless (is_taken fresh o) put tree).tree) (seal_missing tree sound unsealed (find_object tree gateway_name sealed_name) refl)
    ∙ never_taken fresh put tree ∙ put_leaves (get tree gateway_name) gateway_name sealed_name file tree refl in
    record {
      sound = subst IsConsistent (sym leaves) (sealed_sound tree text s file refl reads there stands stored sound unsealed);
      state = ap s3_state leaves ∙ sealed_state tree text s file refl reads there stands stored sound unsealed;
      seals = ap seal_of leaves ∙ seal_put tree text s file refl reads there stands stored sound unsealed;
    }

-- ---- the PUT of the writer's word

names_apart : eq_by_cmp name_cmp sealed_name writer_name ≡ false
unfolding sealed_name writer_name
names_apart = refl

module _ (tree : SwiftAccount) (file : SwiftObject) (stored : IsStored writer_name file) (sound : IsConsistent tree) where
  abbrev with_word : SwiftAccount
  with_word = put_file gateway_name writer_name file tree

  word_off : OffSame tree with_word gateway_name
  word_off = off_adjust by_name gateway_name (on_files (λ fs. insert fs writer_name file)) tree

  word_at : get with_word gateway_name ≡ option_map (on_files (λ fs. insert fs writer_name file)) (get tree gateway_name)
  word_at = at_adjust by_name gateway_name (on_files (λ fs. insert fs writer_name file)) tree

  -- what the container holds after it
  word_found : (name : List ℕ) (f : SwiftObject) → find_object with_word gateway_name name ≡ Some f → get (insert (files tree gateway_name) writer_name file) name ≡ Some f
  word_found name f found = found_after (λ fs. insert fs writer_name file) (get tree gateway_name) name f (ap (λ o. get (files_of o) name) (sym word_at) ∙ found)

  word_sealed : (o : Option SwiftContainer) → get (files_of (option_map (on_files (λ fs. insert fs writer_name file)) o)) sealed_name ≡ get (files_of o) sealed_name
  word_sealed None = refl
  word_sealed (Some folder) = off_insert by_name folder.files writer_name file sealed_name names_apart

  word_seals : seal_of with_word ≡ seal_of tree
  unfolding seal_of
  word_seals = ap seal_by (ap (λ o. get (files_of o) sealed_name) word_at ∙ word_sealed (get tree gateway_name))

  -- the bucket of what is sealed has the name of one
  word_bucket : (s : Sealed) → seal_of tree ≡ Some s → is_bucket s.bucket ≡ true
  unfolding seal_of
  word_bucket s e = by (find_object tree gateway_name sealed_name) e
    where
      by_bytes : (bytes : Option (List ℕ)) → option_and_then read_sealed bytes ≡ Some s → is_bucket s.bucket ≡ true
      by_bytes None e = absurd (none-some s e)
      by_bytes (Some text) e = sealed_bucket text s e

      by : (o : Option SwiftObject) → seal_by o ≡ Some s → is_bucket s.bucket ≡ true
      by None e = absurd (none-some s e)
      by (Some f) e = by_bytes (plain_bytes f.content) e

  word_stands : (s : Sealed) → seal_of with_word ≡ Some s → SealedIn with_word s
  word_stands s found =
      let was : seal_of tree ≡ Some s = sym word_seals ∙ found in
      let is = word_bucket s was in
      let old = sound.sealed s was in
      record {
        there = ap is_some (bucket_stays tree with_word word_off s.bucket is) ∙ old.there;
        stands = subst (λ r. ConsistentSealed r (files with_word (segments_name s.bucket)) s) (sym (records_stay tree with_word word_off s.bucket is))
            (subst (λ x. ConsistentSealed (files tree (uploads_name s.bucket)) x s) (sym (segments_stay tree with_word word_off s.bucket is)) old.stands);
      }

  word_sound : IsConsistent with_word
  word_sound = sound_gateway tree with_word word_off sound
      (containers_same (heads tree) (heads with_word) (heads_stay tree gateway_name (λ fs. insert fs writer_name file)) sound.folders)
      (λ n old. bucket_as (segments_name n) refl refl refl (ap (λ s. sealed_in s n) word_seals) old)
      (λ name f found. put_is IsGatewayFile (files tree gateway_name) writer_name file name f (inr refl) (sound.gateway name f) (word_found name f found))
      word_stands
      (λ name f found. put_is IsStored (files tree gateway_name) writer_name file name f stored (sound.stored gateway_name name f) (word_found name f found))

  abbrev laid_on : SwiftAccount → Option Sealed → State
  laid_on on v = laid (option_map (λ s. finished_from (files on (segments_name s.bucket)) s) v) (plain on)

  word_state : s3_state with_word ≡ s3_state tree
  unfolding s3_state sealed_of
  word_state = by (seal_of tree) refl
    where
      by : (v : Option Sealed) → seal_of tree ≡ v → laid_on with_word (seal_of with_word) ≡ laid_on tree (seal_of tree)
      by None e = ap (laid_on with_word) (word_seals ∙ e) ∙ plain_stays tree with_word word_off ∙ sym (ap (laid_on tree) e)
      by (Some s) e =
          ap (laid_on with_word) (word_seals ∙ e)
          ∙ (λ i. laid (Some (finished_from (segments_stay tree with_word word_off s.bucket (word_bucket s e) i) s)) (plain_stays tree with_word word_off i))
          ∙ sym (ap (laid_on tree) e)

  word_keeps : KeepsSealed tree with_word
  word_keeps = record { sound = word_sound; same = word_state; sealed = word_seals; there = ap is_some word_at ∙ kept (get tree gateway_name) }
    where
      kept : (o : Option SwiftContainer) → is_some (option_map (on_files (λ fs. insert fs writer_name file)) o) ≡ is_some o
      kept None = refl
      kept (Some folder) = refl

pub word_put : WordPut
word_put tree content_type meta text fresh stored sound =
    let file : SwiftObject = file_put content_type meta text in
    put_unless_by (λ a. KeepsSealed tree a.tree) (is_taken fresh (find_object tree gateway_name writer_name)) (put_object (get tree gateway_name) gateway_name writer_name file tree) tree
    (λ free. subst (KeepsSealed tree) (sym (put_leaves (get tree gateway_name) gateway_name writer_name file tree refl)) (word_keeps tree file stored sound))
    (λ taken. record { sound = sound; same = refl; sealed = refl; there = refl })
