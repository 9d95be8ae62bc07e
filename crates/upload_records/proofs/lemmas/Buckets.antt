-- What the calls on a bucket's own container do to the state, over an account on which no completion is sealed, and what is found of a bucket.
use Rattle.std.specs.Prelude.{◌≡◌, ◌<◌, ℕ, List, true, cond, is_some, Option, None, Some}
use Rattle.std.specs.Option.{option_map, option_and_then}
use Rattle.std.specs.FinMap.{get, insert, remove}
use Rattle.std.proofs.Common.{refl, sym, ap, ◌∙◌}
use Rattle.gate_base.specs.Maps.{adjust}
use Rattle.gate_base.proofs.lemmas.Maps.{by_name, adjust_missing, off_insert, off_remove, off_adjust}
use Rattle.gate_base.specs.Told.{moment_limit}
use Rattle.s3_names.specs.declared.acl.Acl.{Acl}
use Rattle.s3_names.specs.Bucket.{is_bucket}
use Rattle.s3_machine.specs.State.{Bucket}
use Rattle.s3_machine.specs.Step.{new_bucket, with_acl}
use Rattle.s3_machine.specs.Step as machine
use Rattle.swift_calls.specs.declared.account.ReadList.{ReadList}
use Rattle.swift_calls.specs.declared.calls.SwiftRequest.TheVariants.{PutContainer, PostContainer, DeleteContainer}
use Rattle.swift_calls.specs.Account.{SwiftContainer, SwiftAccount, files, files_of, new_folder, with_readers}
use Rattle.swift_calls.specs.Step.{put_container, post_container, delete_container, delete_by}
use Rattle.swift_calls.specs.Step as store
use Rattle.upload_records.specs.Layout.{segments_name, uploads_name, readers_of}
use Rattle.upload_records.specs.Native.{object_of, bucket_from, bucket_of, IsUnsealed, s3_state}
use Rattle.upload_records.specs.Consistent.{HasBareSides, IsConsistent}
use Rattle.upload_records.specs.Laws.{ChangesBy}
use Rattle.upload_records.proofs.lemmas.Settled.{s3_state_unsealed}
use Rattle.upload_records.proofs.lemmas.Readers.{acl_of_folder}
use Rattle.upload_records.proofs.lemmas.Plain.{get_plain, plain_there, plain_acl, plain_made, plain_dropped, plain_posted, bare_alike}
use Rattle.upload_records.proofs.Carried.{sound_made, sound_dropped, sound_posted}
use Rattle.upload_records.proofs.Leaves.{changes_by}
use Rattle.upload_records.proofs.lemmas.Objects.{object_reads}

-- ---- what is found

-- a bucket is where its container is
pub s3_state_there : (tree : SwiftAccount) (b : List ℕ) → is_bucket b ≡ true → IsUnsealed tree → is_some (get (s3_state tree) b) ≡ is_some (get tree b)
s3_state_there tree b is unsealed = ap (λ s. is_some (get s b)) (s3_state_unsealed tree unsealed) ∙ plain_there tree b is

-- HEAD of a bucket's container tells who may read the bucket
pub s3_state_acl : (tree : SwiftAccount) (b : List ℕ) → is_bucket b ≡ true → IsUnsealed tree → option_map (λ (n : Bucket). n.acl) (get (s3_state tree) b) ≡ option_map acl_of_folder (get tree b)
s3_state_acl tree b is unsealed = ap (λ s. option_map (λ (n : Bucket). n.acl) (get s b)) (s3_state_unsealed tree unsealed) ∙ plain_acl tree b is

bare_by : (tree : SwiftAccount) (b : List ℕ) (o : Option SwiftContainer) → is_bucket b ≡ true → IsConsistent tree → get tree b ≡ o → option_map machine.is_bare (option_and_then (bucket_of tree b) o) ≡ option_map store.is_bare o
bare_by tree b None is sound found = refl
bare_by tree b (Some folder) is sound found =
    ap (λ t. option_map machine.is_bare (cond t (Some (bucket_from (files tree (uploads_name b)) (files tree (segments_name b)) folder)) None)) is
    ∙ ap Some (bare_alike (object_of (files tree (segments_name b))) folder.files (λ k x there. object_reads tree b k x sound is (ap (λ o. get (files_of o) k) found ∙ there)))

-- a bucket has no object exactly where its container has none
pub s3_state_bare : (tree : SwiftAccount) (b : List ℕ) → is_bucket b ≡ true → IsConsistent tree → IsUnsealed tree → option_map machine.is_bare (get (s3_state tree) b) ≡ option_map store.is_bare (get tree b)
s3_state_bare tree b is sound unsealed =
    ap (λ s. option_map machine.is_bare (get s b)) (s3_state_unsealed tree unsealed) ∙ ap (option_map machine.is_bare) (get_plain tree b) ∙ bare_by tree b (get tree b) is sound refl

-- ---- what is changed

-- what the PUT of a container that is missing leaves
put_leaves : (o : Option SwiftContainer) (name : List ℕ) (readers : ReadList) (created : Option ℕ) (tree : SwiftAccount) → o ≡ None → (put_container o name readers created tree).tree ≡ insert tree name (new_folder readers created)
put_leaves o name readers created tree none = ap (λ v. (put_container v name readers created tree).tree) none

pub bucket_made : (tree : SwiftAccount) (b : List ℕ) (acl : Acl) (moment : ℕ) → is_bucket b ≡ true → moment < moment_limit → IsConsistent tree → IsUnsealed tree → get tree b ≡ None → HasBareSides tree b
    → ChangesBy tree (PutContainer b (readers_of acl) (Some moment)) (λ state. insert state b (new_bucket moment acl))
bucket_made tree b acl moment is below sound unsealed none sides =
    let folder : SwiftContainer = new_folder (readers_of acl) (Some moment) in
    changes_by tree (insert tree b folder) b (PutContainer b (readers_of acl) (Some moment)) (λ state. insert state b (new_bucket moment acl)) is unsealed (off_insert by_name tree b folder)
    (put_leaves (get tree b) b (readers_of acl) (Some moment) tree none) (sound_made tree b acl moment is below sound unsealed sides) (plain_made tree b acl moment is sides.records.holds)

-- what the DELETE of a container that is empty leaves
drop_leaves : (o : Option SwiftContainer) (name : List ℕ) (tree : SwiftAccount) → option_map store.is_bare o ≡ Some true → (delete_container o name tree).tree ≡ remove tree name
drop_leaves None name tree e = cc
drop_leaves (Some folder) name tree e = let bare : store.is_bare folder ≡ true = cc in ap (λ t. (delete_by t name tree).tree) bare

pub bucket_gone : (tree : SwiftAccount) (b : List ℕ) → is_bucket b ≡ true → IsConsistent tree → IsUnsealed tree → option_map store.is_bare (get tree b) ≡ Some true → ChangesBy tree (DeleteContainer b) (λ state. remove state b)
bucket_gone tree b is sound unsealed bare =
    changes_by tree (remove tree b) b (DeleteContainer b) (λ state. remove state b) is unsealed (off_remove by_name tree b)
    (drop_leaves (get tree b) b tree bare) (sound_dropped tree b is sound unsealed) (plain_dropped tree b is)

-- what the POST of a container leaves, also where it is missing
post_leaves : (o : Option SwiftContainer) (name : List ℕ) (readers : ReadList) (tree : SwiftAccount) → get tree name ≡ o → (post_container o name readers tree).tree ≡ adjust name (with_readers readers) tree
post_leaves None name readers tree none = sym (adjust_missing by_name name (with_readers readers) tree none)
post_leaves (Some folder) name readers tree there = refl

pub acl_replaced : (tree : SwiftAccount) (b : List ℕ) (acl : Acl) → is_bucket b ≡ true → IsConsistent tree → IsUnsealed tree → ChangesBy tree (PostContainer b (readers_of acl)) (adjust b (with_acl acl))
acl_replaced tree b acl is sound unsealed =
    changes_by tree (adjust b (with_readers (readers_of acl)) tree) b (PostContainer b (readers_of acl)) (adjust b (with_acl acl)) is unsealed (off_adjust by_name b (with_readers (readers_of acl)) tree)
    (post_leaves (get tree b) b (readers_of acl) tree refl) (sound_posted tree b (readers_of acl) is sound unsealed) (plain_posted tree b acl is)
