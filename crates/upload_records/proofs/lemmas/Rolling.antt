-- The calls that settle an account on which a completion is sealed: what the GET of its file tells, and the accounts after the calls
-- that roll it forward.
use Rattle.std.specs.Prelude.{◌≡◌, ◌⊎◌, ◌<◌, ◌+◌, ℕ, true, false, List, length, Option, None, Some}
use Rattle.std.specs.Option.{option_and_then}
use Rattle.std.specs.FinMap.{get}
use Rattle.std.proofs.Common.{refl, sym, ap, subst, ◌∙◌, inl, inr}
use Rattle.gate_base.specs.Maps.{Names}
use Rattle.s3_names.specs.Id.{id_digits}
use Rattle.slo_manifest.specs.declared.Segment.{Segment}
use Rattle.swift_calls.specs.declared.account.Content.TheVariants.{Plain}
use Rattle.swift_calls.specs.declared.calls.SwiftReply.TheVariants.{NotFound, Bytes}
use Rattle.swift_calls.specs.Files.{PutObject}
use Rattle.swift_calls.specs.declared.calls.SwiftRequest.TheVariants.{GetObject, DeleteObject}
use Rattle.swift_calls.specs.declared.heads.StoredHead.{StoredHead}
use Rattle.swift_calls.specs.Account.{SwiftObject, SwiftAccount, files, files_of, find_object, put_file, remove_file}
use Rattle.swift_calls.specs.Bodies.{bytes_of, etag_text, head_of, is_list, is_segment, plain_bytes}
use Rattle.swift_calls.specs.Step.{swift_step, body_reply, get_reply}
use Rattle.upload_texts.specs.Records.{read_record}
use Rattle.upload_texts.specs.Sealed.{read_sealed, has_sealed_text}
use Rattle.upload_texts.specs.declared.sealed.Sealed.{Sealed}
use Rattle.upload_records.specs.Layout.{uploads_name, segments_name, gateway_name, sealed_name, sub_manifest_name}
use Rattle.upload_records.specs.Native.{record_at, seal_by, seal_of, completed_file, sealed_record, sealed_segments, sealed_sub_manifests, sub_file_at, IsSettled}
use Rattle.upload_records.specs.Consistent.{HasSubManifests, IsSubManifest, IsObject, IsListOf, IsStored, IsThere, IsConsistent}
use Rattle.upload_records.specs.Laws.{file_put, Rolls, IsRolled, ListingStands, Unseals, MayStand, Stands}
use Rattle.upload_records.proofs.Completed as completed
use Rattle.upload_records.proofs.Parts as parts
use Rattle.upload_records.proofs.Rolls as rolls
use Rattle.upload_records.proofs.SubRolls as subs
use Rattle.upload_records.proofs.lemmas.GatewayFiles.{sealed_file}
use Rattle.upload_records.proofs.lemmas.Objects.{put_leaves, delete_leaves}
use Rattle.upload_records.proofs.lemmas.SealedTexts.{sealed_has}
use Rattle.upload_records.proofs.lemmas.Settled.{unsealed_by}

-- ---- what is sealed

-- it has a text, from which it was read
pub seal_has_text : (tree : SwiftAccount) (s : Sealed) → seal_of tree ≡ Some s → has_sealed_text s ≡ true
seal_has_text tree s seals = let text = rolls.seal_read tree s seals in sealed_has text.0 s text.1

-- the bytes of the file that it is
pub record TellsSeal (tree : SwiftAccount) (s : Sealed) : Type 0 where
  pub head : StoredHead
  pub text : List ℕ
  pub reply : (swift_step (GetObject gateway_name sealed_name None) tree).reply ≡ Bytes head text
  pub own : head.manifest ≡ false
  pub reads : read_sealed text ≡ Some s
  pub seals : seal_of tree ≡ Some s

-- no file is there
pub record TellsNone (tree : SwiftAccount) : Type 0 where
  pub reply : (swift_step (GetObject gateway_name sealed_name None) tree).reply ≡ NotFound
  pub none : seal_of tree ≡ None

seal_found : (tree : SwiftAccount) (o : Option SwiftObject) → find_object tree gateway_name sealed_name ≡ o → seal_of tree ≡ seal_by o
unfolding seal_of
seal_found tree o e = ap seal_by e

told_by : (tree : SwiftAccount) (o : Option SwiftObject) → find_object tree gateway_name sealed_name ≡ o → IsConsistent tree → TellsNone tree ⊎ ((s : Sealed) × TellsSeal tree s)
told_by tree None e sound = inl (record { reply = ap (get_reply (find_object tree) None) e; none = seal_found tree None e })
told_by tree (Some file) e sound =
    let kept = sealed_file file (sound.gateway sealed_name file e) in
    inr (
      kept.is,
      record {
        head = head_of file;
        text = kept.text;
        reply = ap (get_reply (find_object tree) None) e ∙ ap (λ c. body_reply (head_of file) None (bytes_of (find_object tree) c)) kept.own;
        own = ap is_list kept.own;
        reads = kept.reads;
        seals = seal_found tree (Some file) e ∙ ap (λ c. option_and_then read_sealed (plain_bytes c)) kept.own ∙ kept.reads;
      },
    )

-- over a consistent account its GET tells that nothing is sealed, or what is
pub sealed_told : (tree : SwiftAccount) → IsConsistent tree → TellsNone tree ⊎ ((s : Sealed) × TellsSeal tree s)
sealed_told tree sound = told_by tree (find_object tree gateway_name sealed_name) refl sound

-- ---- its object

-- a segment that is there with bytes of its own is there as it says
pub as_listed : (s : Segment) (file : SwiftObject) (bytes : List ℕ) → file.content ≡ Plain bytes → s.etag ≡ etag_text bytes → s.size ≡ length bytes → is_segment s file ≡ true
as_listed s file bytes own etag size = parts.as_listed s file bytes own etag size

-- the parts that it lists, but the empty ones, are the segments of an object
pub listing_stands : ListingStands
listing_stands segments folder id above list ascends counted filed sealed = completed.listing_stands segments folder id above list ascends counted filed sealed

-- the file that is put is the object of the completion
pub completed_stands : (segments : Names SwiftObject) (s : Sealed) → MayStand segments s → Stands segments s (completed_file s)
completed_stands segments s may = completed.completed_stands segments s may

-- ---- its sub-manifests

module _ (tree : SwiftAccount) (s : Sealed) (n : ℕ) (seals : seal_of tree ≡ Some s) (below : n < sealed_sub_manifests s)
    (sub : IsSubManifest (sub_manifest_name (id_digits s.id) (n + 1)) (sub_file_at s n)) (stored : IsStored (sub_manifest_name (id_digits s.id) (n + 1)) (sub_file_at s n)) (sound : IsConsistent tree) where
  pub sub_rolls : Rolls tree (put_file (segments_name s.bucket) (sub_manifest_name (id_digits s.id) (n + 1)) (sub_file_at s n) tree)
  sub_rolls = subs.sub_rolls tree s n seals below sub stored sound

  -- the first sub-manifests, and this one
  pub subs_grow : HasSubManifests (files tree (segments_name s.bucket)) (id_digits s.id) (sealed_segments s) n
      → HasSubManifests (files (put_file (segments_name s.bucket) (sub_manifest_name (id_digits s.id) (n + 1)) (sub_file_at s n) tree) (segments_name s.bucket)) (id_digits s.id) (sealed_segments s) (n + 1)
  subs_grow has = subs.subs_grow tree s n seals below sub stored sound has

module _ (tree : SwiftAccount) (s : Sealed) (file : SwiftObject) (seals : seal_of tree ≡ Some s) (object : IsObject (files tree (segments_name s.bucket)) (segments_name s.bucket) s.key file)
    (lists : (id : ℕ) → IsListOf file id → id ≡ s.id) (stored : IsStored s.key file) (sound : IsConsistent tree) where
  pub object_rolls : Rolls tree (put_file s.bucket s.key file tree)
  object_rolls = rolls.object_rolls tree s file seals object lists stored sound

  pub object_there : find_object (put_file s.bucket s.key file tree) s.bucket s.key ≡ Some file
  object_there = rolls.object_there tree s file seals object lists stored sound

  pub object_segments : files (put_file s.bucket s.key file tree) (segments_name s.bucket) ≡ files tree (segments_name s.bucket)
  object_segments = rolls.object_segments tree s file seals object lists stored sound

-- ---- its record

module _ (tree : SwiftAccount) (s : Sealed) (content_type : List ℕ) (meta : List (List ℕ)) (text : List ℕ) (seals : seal_of tree ≡ Some s) (reads : read_record text ≡ Some (sealed_record s))
    (stored : IsStored (id_digits s.id) (file_put content_type meta text)) (sound : IsConsistent tree) where
  abbrev after_record : SwiftAccount
  after_record = (swift_step (PutObject (uploads_name s.bucket) (id_digits s.id) content_type meta text) tree).tree

  abbrev with_record : SwiftAccount
  with_record = put_file (uploads_name s.bucket) (id_digits s.id) (file_put content_type meta text) tree

  leaves : after_record ≡ with_record
  leaves = put_leaves (get tree (uploads_name s.bucket)) (uploads_name s.bucket) (id_digits s.id) (file_put content_type meta text) tree refl

  pub record_rolls : Rolls tree after_record
  record_rolls = rolls.record_rolls tree s content_type meta text seals reads stored sound

  -- the object's file stays, and so do the segments
  pub record_object : find_object after_record s.bucket s.key ≡ find_object tree s.bucket s.key
  record_object = ap (λ t. find_object t s.bucket s.key) leaves ∙ ap (λ o. get (files_of o) s.key) (rolls.bucket_same tree s (file_put content_type meta text) text refl seals reads stored sound)

  pub record_segments : files after_record (segments_name s.bucket) ≡ files tree (segments_name s.bucket)
  record_segments = ap (λ t. files t (segments_name s.bucket)) leaves ∙ rolls.segments_same tree s (file_put content_type meta text) text refl seals reads stored sound

  pub record_there : record_at (files after_record (uploads_name s.bucket)) (id_digits s.id) ≡ Some (sealed_record s)
  record_there = ap (λ t. record_at (files t (uploads_name s.bucket)) (id_digits s.id)) leaves ∙ rolls.record_kept tree s (file_put content_type meta text) text refl seals reads stored sound

-- ---- the DELETE of what is sealed

pub seal_rolls : (tree : SwiftAccount) (s : Sealed) → seal_of tree ≡ Some s → IsRolled tree s → IsConsistent tree → Unseals tree (DeleteObject gateway_name sealed_name)
seal_rolls tree s seals rolled sound = rolls.seal_rolls tree s seals rolled sound

delete_same : (tree : SwiftAccount) → (swift_step (DeleteObject gateway_name sealed_name) tree).tree ≡ remove_file gateway_name sealed_name tree
delete_same tree = delete_leaves (find_object tree gateway_name sealed_name) gateway_name sealed_name tree refl

-- the container stays
pub delete_there : (tree : SwiftAccount) → IsThere tree gateway_name → IsThere (swift_step (DeleteObject gateway_name sealed_name) tree).tree gateway_name
delete_there tree there = subst (λ t. IsThere t gateway_name) (sym (delete_same tree)) (rolls.gateway_still tree there)

-- over every account that has it none is sealed after it
pub delete_unseals : (tree : SwiftAccount) → IsThere tree gateway_name → IsSettled (swift_step (DeleteObject gateway_name sealed_name) tree).tree
delete_unseals tree there = record {
  none = unsealed_by (swift_step (DeleteObject gateway_name sealed_name) tree).tree (ap seal_of (delete_same tree) ∙ rolls.seal_gone tree);
  gateway = delete_there tree there;
}
