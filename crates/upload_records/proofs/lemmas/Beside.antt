-- A change of a container beside a bucket: what stays, and what it is of the state.
use Rattle.std.specs.Prelude.{◌≡◌, ℕ, Bool, List, true, false, cond, is_some, Option, None, Some}
use Rattle.std.specs.Option.{option_map, option_and_then}
use Rattle.std.specs.Ordering.{eq_by_cmp}
use Rattle.std.specs.FinMap.{get}
use Rattle.std.proofs.Common.{refl, sym, ap, subst, ◌∙◌, inl, inr}
use Rattle.gate_base.specs.Maps.{Names, name_cmp, adjust}
use Rattle.gate_base.proofs.lemmas.Maps.{by_name, same_key, same_names, at_adjust, off_adjust, adjust_stays}
use Rattle.s3_names.specs.Bucket.{is_bucket}
use Rattle.s3_machine.specs.State.{Bucket}
use Rattle.swift_calls.specs.Account.{SwiftObject, SwiftContainer, SwiftAccount, files, files_of, find_object, on_files}
use Rattle.upload_records.specs.Layout.{uploads_name, segments_name}
use Rattle.upload_records.specs.Native.{bucket_from, bucket_of, plain, SameGateway, IsUnsealed}
use Rattle.upload_records.specs.Consistent.{heads, IsBeside, ConsistentContainers, sealed_id, bucket_sound, IsStored, IsThere, IsConsistent}
use Rattle.upload_records.proofs.lemmas.Settled.{OffSame, same_apart}
use Rattle.upload_records.proofs.lemmas.Sides.{bucket_side, uploads_side, segments_side, gateway_side}
use Rattle.upload_records.proofs.Carried.{bucket_as, id_stays, sound_by, containers_same, heads_stay, here_by, there_of, found_after, files_after}
use Rattle.upload_records.proofs.lemmas.Plain.{get_plain}

none_of : (name : List ℕ) (tree : SwiftAccount) (o : Option SwiftContainer) → is_bucket name ≡ false → option_and_then (bucket_of tree name) o ≡ None
none_of name tree None not = refl
none_of name tree (Some folder) not = ap (λ t. cond t (Some (bucket_from (files tree (uploads_name name)) (files tree (segments_name name)) folder)) None) not

module _ (tree tree' : SwiftAccount) (b c : List ℕ) (beside : IsBeside c b) (off : OffSame tree tree' c) where
  pub bucket_stays : (n : List ℕ) → is_bucket n ≡ true → get tree' n ≡ get tree n
  bucket_stays n is_n = off n (bucket_side c b beside n is_n)

  pub other_records : (n : List ℕ) → is_bucket n ≡ true → eq_by_cmp name_cmp n b ≡ false → files tree' (uploads_name n) ≡ files tree (uploads_name n)
  other_records n is_n apart = ap files_of (off (uploads_name n) (uploads_side c b beside n is_n apart))

  pub other_segments : (n : List ℕ) → is_bucket n ≡ true → eq_by_cmp name_cmp n b ≡ false → files tree' (segments_name n) ≡ files tree (segments_name n)
  other_segments n is_n apart = ap files_of (off (segments_name n) (segments_side c b beside n is_n apart))

  pub same_beside : SameGateway tree tree'
  same_beside = same_apart tree tree' c (gateway_side c b beside) off

  pub id_beside : (n : List ℕ) → sealed_id tree' n ≡ sealed_id tree n
  id_beside n = id_stays tree tree' c (gateway_side c b beside) off n

  -- ---- the state

  other_bucket : (n : List ℕ) → is_bucket n ≡ true → eq_by_cmp name_cmp n b ≡ false → option_and_then (bucket_of tree' n) (get tree' n) ≡ option_and_then (bucket_of tree n) (get tree n)
  other_bucket n is_n apart = λ i. option_and_then (λ folder. cond (is_bucket n) (Some (bucket_from (other_records n is_n apart i) (other_segments n is_n apart i) folder)) None) (bucket_stays n is_n i)

  each_stays : (n : List ℕ) (t : Bool) → is_bucket n ≡ t → eq_by_cmp name_cmp n b ≡ false → option_and_then (bucket_of tree' n) (get tree' n) ≡ option_and_then (bucket_of tree n) (get tree n)
  each_stays n true is_n apart = other_bucket n is_n apart
  each_stays n false not apart = none_of n tree' (get tree' n) not ∙ sym (none_of n tree (get tree n) not)

  module _ (g : Bucket → Bucket) (along : (folder : SwiftContainer) → get tree b ≡ Some folder
      → bucket_from (files tree' (uploads_name b)) (files tree' (segments_name b)) folder ≡ g (bucket_from (files tree (uploads_name b)) (files tree (segments_name b)) folder)) where
    taken_by : (o : Option SwiftContainer) → get tree b ≡ o → option_and_then (bucket_of tree' b) o ≡ option_map g (option_and_then (bucket_of tree b) o)
    taken_by None e = refl
    taken_by (Some folder) e =
        ap (λ t. cond t (Some (bucket_from (files tree' (uploads_name b)) (files tree' (segments_name b)) folder)) None) beside.of_bucket ∙ ap Some (along folder e)
        ∙ sym (ap (λ t. option_map g (cond t (Some (bucket_from (files tree (uploads_name b)) (files tree (segments_name b)) folder)) None)) beside.of_bucket)

    at_bucket : get (plain tree') b ≡ get (adjust b g (plain tree)) b
    at_bucket = get_plain tree' b ∙ ap (option_and_then (bucket_of tree' b)) (bucket_stays b beside.of_bucket) ∙ taken_by (get tree b) refl
        ∙ sym (ap (option_map g) (get_plain tree b)) ∙ sym (at_adjust by_name b g (plain tree))

    -- it is a change of the bucket
    pub plain_beside : plain tree' ≡ adjust b g (plain tree)
    plain_beside = same_names _ _ (λ q. elim (same_key by_name q b) [
      | inl e ↦ subst (λ x. get (plain tree') x ≡ get (adjust b g (plain tree)) x) (sym e) at_bucket
      | inr a ↦ get_plain tree' q ∙ each_stays q (is_bucket q) refl a ∙ sym (get_plain tree q) ∙ sym (off_adjust by_name b g (plain tree) q a)
    ])

  -- or of none
  pub plain_same : ((folder : SwiftContainer) → get tree b ≡ Some folder
      → bucket_from (files tree' (uploads_name b)) (files tree' (segments_name b)) folder ≡ bucket_from (files tree (uploads_name b)) (files tree (segments_name b)) folder)
      → plain tree' ≡ plain tree
  plain_same along = plain_beside (λ n. n) along ∙ adjust_stays by_name b (λ n. n) (plain tree) (λ n found. refl)

  -- ---- consistency

  module _ (sound : IsConsistent tree) (unsealed : IsUnsealed tree) where
    each_bucket : (IsThere tree b → bucket_sound tree' b) → (n : List ℕ) → is_bucket n ≡ true → IsThere tree' n → bucket_sound tree' n
    each_bucket this n is_n here = elim (same_key by_name n b) [
      | inl e ↦ subst (bucket_sound tree') (sym e) (this (ap (λ m. is_some (get tree m)) (sym e) ∙ sym (ap is_some (bucket_stays n is_n)) ∙ here))
      | inr a ↦ bucket_as (segments_name n) (ap files_of (bucket_stays n is_n)) (other_records n is_n a) (other_segments n is_n a) (id_stays tree tree' c (gateway_side c b beside) off n)
          (sound.buckets n is_n (sym (ap is_some (bucket_stays n is_n)) ∙ here))
    ]

    pub sound_beside : ConsistentContainers (heads tree') → (IsThere tree b → bucket_sound tree' b)
        → ((name : List ℕ) (file : SwiftObject) → find_object tree' c name ≡ Some file → IsStored name file)
        → IsConsistent tree'
    sound_beside folders this stored = sound_by tree tree' c (gateway_side c b beside) off sound unsealed folders (each_bucket this) stored

-- ---- the containers beside a bucket that is there are there

pub records_there : (tree : SwiftAccount) (b : List ℕ) → IsConsistent tree → is_bucket b ≡ true → IsThere tree b → IsThere tree (uploads_name b)
records_there tree b sound is there = there_of (get tree (uploads_name b)) (sound.folders.records_beside b is (here_by (get tree b) there))

pub segments_there : (tree : SwiftAccount) (b : List ℕ) → IsConsistent tree → is_bucket b ≡ true → IsThere tree b → IsThere tree (segments_name b)
segments_there tree b sound is there = there_of (get tree (segments_name b)) (sound.folders.segments_beside b is (here_by (get tree b) there))

-- ---- its files change

module _ (tree : SwiftAccount) (b c : List ℕ) (g : Names SwiftObject → Names SwiftObject) (beside : IsBeside c b) where
  pub file_off : OffSame tree (adjust c (on_files g) tree) c
  file_off = off_adjust by_name c (on_files g) tree

  pub files_new : IsThere tree c → files (adjust c (on_files g) tree) c ≡ g (files tree c)
  files_new there = ap files_of (at_adjust by_name c (on_files g) tree) ∙ files_after g (get tree c) there

  pub sound_files : IsConsistent tree → IsUnsealed tree → (IsThere tree b → bucket_sound (adjust c (on_files g) tree) b)
      → ((name : List ℕ) (file : SwiftObject) → get (g (files tree c)) name ≡ Some file → IsStored name file)
      → IsConsistent (adjust c (on_files g) tree)
  sound_files sound unsealed this stored =
      sound_beside tree (adjust c (on_files g) tree) b c beside file_off sound unsealed
      (containers_same (heads tree) (heads (adjust c (on_files g) tree)) (heads_stay tree c g) sound.folders) this
      (λ name file found. stored name file (found_after g (get tree c) name file (ap (λ o. get (files_of o) name) (sym (at_adjust by_name c (on_files g) tree)) ∙ found)))
