-- While a completion is sealed, the PUT of one of its sub-manifests leaves the state.
use Rattle.std.specs.Prelude.{◌≡◌, ◌<◌, ◌+◌, ◌^◌, ◌++◌, ℕ, List, [], ◌∷◌, true, false, is_some, Option, None, Some}
use Rattle.std.specs.FinMap.{get, insert}
use Rattle.std.specs.Ordering.{eq_by_cmp}
use Rattle.std.proofs.Common.{refl, sym, ap, subst, ◌∙◌, inl, inr, arith}
use Rattle.std.proofs.lemmas.Bool.{cases_lt}
use Rattle.std.proofs.lemmas.Option.{same_Some}
use Rattle.gate_base.specs.Maps.{Names, name_cmp}
use Rattle.gate_base.proofs.lemmas.Maps.{by_name, same_key, at_insert, off_insert, put_is, insert_there, adjust_stays}
use Rattle.s3_names.specs.Bucket.{is_bucket}
use Rattle.s3_names.specs.Id.{id_digits, id_of}
use Rattle.s3_names.proofs.lemmas.Ids.{id_reads_back}
use Rattle.s3_machine.specs.Finish.{Finished, finished}
use Rattle.swift_calls.specs.Account.{SwiftObject, SwiftContainer, SwiftAccount, files, files_of, find_object, on_files, put_file}
use Rattle.upload_texts.specs.declared.sealed.Sealed.{Sealed}
use Rattle.upload_texts.specs.declared.sealed.SealedPart.{SealedPart}
use Rattle.upload_records.specs.Layout.{uploads_name, segments_name, gateway_name, segment_name, sub_manifest_name}
use Rattle.upload_records.specs.Native.{bucket_from, record_at, part_bytes, plain, seal_of, sealed_bytes, sealed_kept, finished_from, s3_state, sealed_segments, sealed_sub_manifests, sub_file_at}
use Rattle.upload_records.specs.Consistent.{heads, IsBeside, IsSubManifest, IsSubManifestOf, HasSubManifests, IsOpen, HasList, sealed_id, IsSealedPart, AreSealedParts, IsSealedSub, ConsistentSealed, bucket_sound, IsStored, IsThere, SealedIn, IsConsistent}
use Rattle.upload_records.specs.Laws.{Rolls}
use Rattle.upload_records.proofs.lemmas.Settled.{OffSame, same_none, seal_holds}
use Rattle.upload_records.proofs.lemmas.Sides.{gateway_side, sub_id, sub_number, uploads_segments}
use Rattle.upload_records.proofs.Carried.{none_found, bucket_as, containers_same, heads_stay}
use Rattle.upload_records.proofs.Parts.{KeepsSegments}
use Rattle.upload_records.proofs.SubPut.{other_name, part_stays, part_at_stays, sub_bucket, sub_from}
use Rattle.upload_records.proofs.Rolls.{seal_bucket, seal_id, sealed_here, sound_with, state_sealed}
use Rattle.upload_records.proofs.lemmas.Beside.{bucket_stays, other_records, other_segments, id_beside, same_beside, plain_same, segments_there, file_off, files_new}

-- an id is told by its digits
same_by_digits : (a b : ℕ) → a < 2 ^ 128 → b < 2 ^ 128 → id_digits a ≡ id_digits b → a ≡ b
same_by_digits a b low high e = same_Some a b (sym (id_reads_back a low) ∙ ap id_of e ∙ id_reads_back b high)

-- the bytes of the sealed parts, where the parts stay
module _ (S S' : Names SwiftObject) (id : List ℕ) (same : (k : ℕ) → get S' (segment_name id k) ≡ get S (segment_name id k)) where
  sealed_parts_stay : (list : List SealedPart) → AreSealedParts S id list → AreSealedParts S' id list
  sealed_parts_stay [] parts = tt
  sealed_parts_stay (p ∷ list) (part, parts) = (
    record { file = part.file; bytes = part.bytes; there = same p.number ∙ part.there; own = part.own; etag = part.etag; size = part.size },
    sealed_parts_stay list parts,
  )

-- ---- one that is there already

module _ (tree : SwiftAccount) (s : Sealed) (n : ℕ) (seals : seal_of tree ≡ Some s) (below : n < sealed_sub_manifests s)
    (sub : IsSubManifest (sub_manifest_name (id_digits s.id) (n + 1)) (sub_file_at s n)) (stored : IsStored (sub_manifest_name (id_digits s.id) (n + 1)) (sub_file_at s n)) (sound : IsConsistent tree) where
  abbrev name : List ℕ
  name = sub_manifest_name (id_digits s.id) (n + 1)

  abbrev file : SwiftObject
  file = sub_file_at s n

  abbrev S : Names SwiftObject
  S = files tree (segments_name s.bucket)

  abbrev new : SwiftAccount
  new = put_file (segments_name s.bucket) name file tree

  is : is_bucket s.bucket ≡ true
  is = seal_bucket tree s seals

  beside : IsBeside (segments_name s.bucket) s.bucket
  beside = record { of_bucket = is; is = inr refl }

  off : OffSame tree new (segments_name s.bucket)
  off = file_off tree s.bucket (segments_name s.bucket) (λ fs. insert fs name file) beside

  sub_same : (o : SwiftObject) → IsSealedSub s (n + 1) o → o ≡ file
  sub_same o was = let same : was.n ≡ n = (let is = was.is in omega (arith, is)) in was.same ∙ ap (sub_file_at s) same

  there_same : get S name ≡ Some file → new ≡ tree
  there_same there = adjust_stays by_name (segments_name s.bucket) (on_files (λ fs. insert fs name file)) tree
      (λ folder found i. record folder { files = insert_there by_name folder.files name file (ap (λ o. get (files_of o) name) (sym found) ∙ there) i })

  rolls_there : get S name ≡ Some file → Rolls tree new
  rolls_there there = subst (Rolls tree) (sym (there_same there)) (record { sound = sound; same = refl; gateway = same_none tree })

  -- ---- one that is new

  pub bucket_same : get new s.bucket ≡ get tree s.bucket
  bucket_same = bucket_stays tree new s.bucket (segments_name s.bucket) beside off s.bucket is

  pub records_same : files new (uploads_name s.bucket) ≡ files tree (uploads_name s.bucket)
  records_same = ap files_of (off (uploads_name s.bucket) (uploads_segments s.bucket s.bucket is is))

  pub segments_new : files new (segments_name s.bucket) ≡ insert S name file
  segments_new = files_new tree s.bucket (segments_name s.bucket) (λ fs. insert fs name file) beside (segments_there tree s.bucket sound is (sound.sealed s seals).there)

  seal_after : seal_of new ≡ Some s
  seal_after = seal_holds tree new (ap files_of (off gateway_name (gateway_side (segments_name s.bucket) s.bucket beside))) ∙ seals

  module _ (none : get S name ≡ None) where
    keeps : (j : ℕ) → HasList (files tree s.bucket) S j → KeepsSegments S (insert S name file) (id_digits j)
    keeps j lists = record {
      parts = λ k f found. part_stays S name file sub (id_digits j) k ∙ found;
      subs = λ k f found. other_name S name file sub (sub_manifest_name (id_digits j) k) (λ e. none_found f (sym none ∙ ap (get S) (sym e) ∙ found)) ∙ found;
    }

    its_id : (x : IsSubManifest name file) → s.id ≡ x.id
    its_id x = same_by_digits s.id x.id (seal_id tree s seals) x.fits (sub_id (id_digits s.id) (id_digits x.id) (n + 1) x.number x.named)

    this_bucket : bucket_sound new s.bucket
    this_bucket = bucket_as (segments_name s.bucket) (ap files_of bucket_same) records_same segments_new
        (id_beside tree new s.bucket (segments_name s.bucket) beside off s.bucket)
        (sub_bucket (segments_name s.bucket) (files tree s.bucket) (files tree (uploads_name s.bucket)) S (sealed_id tree s.bucket) name file sub
        (sound.buckets s.bucket is (sound.sealed s seals).there) keeps (λ x opens. sealed_here tree s seals ∙ ap Some (its_id x)))

    every_bucket : (m : List ℕ) → is_bucket m ≡ true → IsThere new m → bucket_sound new m
    every_bucket m is_m here =
        let same : get new m ≡ get tree m = bucket_stays tree new s.bucket (segments_name s.bucket) beside off m is_m in
        elim (same_key by_name m s.bucket) [
          | inl e ↦ subst (bucket_sound new) (sym e) this_bucket
          | inr a ↦ bucket_as (segments_name m) (ap files_of same) (other_records tree new s.bucket (segments_name s.bucket) beside off m is_m a) (other_segments tree new s.bucket (segments_name s.bucket) beside off m is_m a)
              (id_beside tree new s.bucket (segments_name s.bucket) beside off m) (sound.buckets m is_m (sym (ap is_some same) ∙ here))
        ]

    sub_sealed : (k : ℕ) (f : SwiftObject) → get (insert S name file) (sub_manifest_name (id_digits s.id) k) ≡ Some f → IsSealedSub s k f
    sub_sealed k f found = elim (same_key by_name (sub_manifest_name (id_digits s.id) k) name) [
      | inl e ↦ record {
        n = n;
        is = sub_number (id_digits s.id) k (n + 1) e;
        within = below;
        same = sym (same_Some file f (sym (at_insert by_name S name file) ∙ ap (get (insert S name file)) (sym e) ∙ found));
      }
      | inr a ↦ (sound.sealed s seals).stands.subs k f (sym (off_insert by_name S name file (sub_manifest_name (id_digits s.id) k) a) ∙ found)
    ]

    sealed_stands : ConsistentSealed (files tree (uploads_name s.bucket)) (insert S name file) s
    sealed_stands =
        let old = (sound.sealed s seals).stands in
        record {
          ascends = old.ascends;
          parts = sealed_parts_stay S (insert S name file) (id_digits s.id) (part_stays S name file sub (id_digits s.id)) s.list old.parts;
          etag = old.etag;
          agrees = old.agrees;
          subs = sub_sealed;
        }

    sealed_behind : SealedIn new s
    sealed_behind = record {
      there = ap is_some bucket_same ∙ (sound.sealed s seals).there;
      stands = subst (λ r. ConsistentSealed r (files new (segments_name s.bucket)) s) (sym records_same)
          (subst (λ x. ConsistentSealed (files tree (uploads_name s.bucket)) x s) (sym segments_new) sealed_stands);
    }

    bytes_stay : (list : List SealedPart) → sealed_bytes (insert S name file) (id_digits s.id) list ≡ sealed_bytes S (id_digits s.id) list
    bytes_stay [] = refl
    bytes_stay (p ∷ list) =
        let one = part_at_stays S name file sub (id_digits s.id) p.number in
        let later = bytes_stay list in
        λ i. part_bytes (one i) ++ later i

    finished_same : finished_from (files new (segments_name s.bucket)) s ≡ finished_from S s
    finished_same =
        let bytes = ap (λ fs. sealed_bytes fs (id_digits s.id) s.list) segments_new ∙ bytes_stay s.list in
        λ i. record {
          bucket = s.bucket;
          key = s.key;
          id = id_digits s.id;
          object = record { bytes = bytes i; etag = s.etag; content_type = s.content_type; meta = s.meta; modified = s.moment };
          kept = sealed_kept s;
        }

    along : (folder : SwiftContainer) → get tree s.bucket ≡ Some folder
        → bucket_from (files new (uploads_name s.bucket)) (files new (segments_name s.bucket)) folder ≡ bucket_from (files tree (uploads_name s.bucket)) S folder
    along folder found =
        (λ i. bucket_from (records_same i) (segments_new i) folder)
        ∙ sub_from (segments_name s.bucket) (files tree s.bucket) (files tree (uploads_name s.bucket)) S (sealed_id tree s.bucket) name file sub
        (sound.buckets s.bucket is (sound.sealed s seals).there) keeps folder (sym (ap files_of found))

    state_behind : s3_state new ≡ s3_state tree
    state_behind =
        let plains : plain new ≡ plain tree = plain_same tree new s.bucket (segments_name s.bucket) beside off along in
        state_sealed new s seal_after ∙ (λ i. finished (finished_same i) (plains i)) ∙ sym (state_sealed tree s seals)

    rolls_new : Rolls tree new
    rolls_new = record {
      sound = sound_with tree new (segments_name s.bucket) (gateway_side (segments_name s.bucket) s.bucket beside) off sound
          (containers_same (heads tree) (heads new) (heads_stay tree (segments_name s.bucket) (λ fs. insert fs name file)) sound.folders)
          every_bucket
          (λ x found. subst (SealedIn new) (same_Some s x (sym seal_after ∙ found)) sealed_behind)
          (λ m f found. put_is IsStored S name file m f stored (sound.stored (segments_name s.bucket) m f) (ap (λ fs. get fs m) (sym segments_new) ∙ found));
      same = state_behind;
      gateway = same_beside tree new s.bucket (segments_name s.bucket) beside off;
    }

  rolls_by : (o : Option SwiftObject) → get S name ≡ o → Rolls tree new
  rolls_by None e = rolls_new e
  rolls_by (Some was) e = rolls_there (e ∙ ap Some (sub_same was ((sound.sealed s seals).stands.subs (n + 1) was e)))

  pub sub_rolls : Rolls tree new
  sub_rolls = rolls_by (get S name) refl

  -- the first sub-manifests, and this one
  pub subs_grow : HasSubManifests S (id_digits s.id) (sealed_segments s) n → HasSubManifests (files new (segments_name s.bucket)) (id_digits s.id) (sealed_segments s) (n + 1)
  subs_grow has k within = elim (cases_lt k n) [
    | inl before ↦
        let old = has k before in
        let other : sub_manifest_name (id_digits s.id) (k + 1) ≡ name → ⊥ = λ e. (let same = sub_number (id_digits s.id) (k + 1) (n + 1) e in omega (arith, same, before)) in
        record { file = old.file; there = ap (λ fs. get fs (sub_manifest_name (id_digits s.id) (k + 1))) segments_new ∙ other_name S name file sub (sub_manifest_name (id_digits s.id) (k + 1)) other ∙ old.there; own = old.own }
    | inr last ↦
        let same : k ≡ n = omega (arith, last, within) in
        subst (IsSubManifestOf (files new (segments_name s.bucket)) (id_digits s.id) (sealed_segments s)) (sym same)
        (record { file = file; there = ap (λ fs. get fs name) segments_new ∙ at_insert by_name S name file; own = refl })
  ]
