-- What DELETE and POST of a bucket's container do to the state.
use Rattle.std.specs.Prelude.{◌≡◌, ℕ, Bool, true, false, List, Option, Some, None, is_some, Ok}
use Rattle.std.specs.Option.{option_map}
use Rattle.std.specs.FinMap.{get}
use Rattle.std.proofs.Common.{refl, sym, ap, subst, ◌∙◌}
use Rattle.s3_names.specs.declared.acl.Acl.{Acl}
use Rattle.s3_names.specs.Bucket.{is_bucket}
use Rattle.s3_machine.specs.Step as machine
use Rattle.swift_calls.specs.Account.{SwiftContainer, SwiftAccount}
use Rattle.swift_calls.specs.Step.{delete_by, delete_container, post_container}
use Rattle.swift_calls.specs.Step as store
use Rattle.swift_calls.specs.declared.account.ReadList.{ReadList}
use Rattle.swift_calls.specs.declared.calls.SwiftRequest.TheVariants.{DeleteContainer, PostContainer}
use Rattle.upload_records.specs.Layout.{readers_of}
use Rattle.upload_records.specs.Native.{IsSettled, s3_state}
use Rattle.upload_records.specs.Consistent.{IsConsistent}
use Rattle.upload_records.proofs.lemmas.Buckets.{s3_state_there, s3_state_bare, bucket_gone, acl_replaced}
use Rattle.upload_records.proofs.lemmas.Off.{same_drop, same_post}
use Rattle.upload_records.proofs.lemmas.Settled.{unsealed_of, settled_same}
use Rattle.account_calls.specs.declared.bucket.Dropped.TheVariants.{Gone, Full, Missing}
use Rattle.account_calls.specs.Calls.{Any, DropsBucket, SetsAcl}
use Rattle.account_calls.specs.Interpret.{dropped_due, set_due}
use Rattle.account_calls.proofs.lemmas.One.{Effect, IsWriting}

none_of : {X Y : Type 0} (f : X → Y) (o : Option X) → option_map f o ≡ None → o ≡ None
none_of f None e = refl
none_of f (Some x) e = cc

-- ---- DELETE

module _ (tree : SwiftAccount) (bucket : List ℕ) (is : is_bucket bucket ≡ true) (sound : IsConsistent tree) (settled : IsSettled tree) where
  -- a container that has an object stays
  stays_full : (o : Option SwiftContainer) → option_map store.is_bare o ≡ Some false → ((delete_container o bucket tree).tree ≡ tree) × (dropped_due (delete_container o bucket tree).reply ≡ Ok Full)
  stays_full None e = cc
  stays_full (Some folder) e =
      let full : store.is_bare folder ≡ false = cc in
      (ap (λ t. (delete_by t bucket tree).tree) full, ap (λ t. dropped_due (delete_by t bucket tree).reply) full)

  says_gone : (o : Option SwiftContainer) → option_map store.is_bare o ≡ Some true → dropped_due (delete_container o bucket tree).reply ≡ Ok Gone
  says_gone None e = cc
  says_gone (Some folder) e = let bare : store.is_bare folder ≡ true = cc in ap (λ t. dropped_due (delete_by t bucket tree).reply) bare

  bare : option_map machine.is_bare (get (s3_state tree) bucket) ≡ option_map store.is_bare (get tree bucket)
  bare = s3_state_bare tree bucket is sound (unsealed_of settled)

  drop_by : (o : Option Bool) → option_map store.is_bare (get tree bucket) ≡ o → Effect tree (DeleteContainer bucket) dropped_due (DropsBucket bucket)
  drop_by None e =
      let none : get tree bucket ≡ None = none_of store.is_bare (get tree bucket) e in
      let same : (delete_container (get tree bucket) bucket tree).tree ≡ tree = ap (λ v. (delete_container v bucket tree).tree) none in
      record {
        answer = Missing;
        says = ap (λ v. dropped_due (delete_container v bucket tree).reply) none;
        after = subst IsConsistent (sym same) sound;
        state = (none_of machine.is_bare (get (s3_state tree) bucket) (bare ∙ e), ap s3_state same);
      }
  drop_by (Some true) e =
      let done = bucket_gone tree bucket is sound (unsealed_of settled) e in
      record { answer = Gone; says = says_gone (get tree bucket) e; after = done.sound; state = (bare ∙ e, done.state) }
  drop_by (Some false) e =
      let stays = stays_full (get tree bucket) e in
      record { answer = Full; says = stays.1; after = subst IsConsistent (sym stays.0) sound; state = (bare ∙ e, ap s3_state stays.0) }

-- DELETE of a bucket's container takes the bucket away where it has no object
pub drops : {name bucket : List ℕ} → name ≡ bucket → is_bucket bucket ≡ true → IsWriting (DeleteContainer name) dropped_due Any (DropsBucket bucket)
drops {bucket = bucket} named is = subst (λ n. IsWriting (DeleteContainer n) dropped_due Any (DropsBucket bucket)) (sym named) (record {
  effect = λ tree sound settled any. drop_by tree bucket is sound settled (option_map store.is_bare (get tree bucket)) refl;
  settled = λ tree. settled_same (same_drop tree bucket is);
})

-- ---- POST

module _ (tree : SwiftAccount) (bucket : List ℕ) (acl : Acl) (is : is_bucket bucket ≡ true) (sound : IsConsistent tree) (settled : IsSettled tree) where
  post_by : (o : Option SwiftContainer) → get tree bucket ≡ o → Effect tree (PostContainer bucket (readers_of acl)) set_due (SetsAcl bucket acl)
  post_by None e =
      let same : (post_container (get tree bucket) bucket (readers_of acl) tree).tree ≡ tree = ap (λ v. (post_container v bucket (readers_of acl) tree).tree) e in
      record {
        answer = false;
        says = ap (λ v. set_due (post_container v bucket (readers_of acl) tree).reply) e;
        after = subst IsConsistent (sym same) sound;
        state = (missing (get (s3_state tree) bucket) (s3_state_there tree bucket is (unsealed_of settled) ∙ ap is_some e), ap s3_state same);
      }
    where
      missing : {X : Type 0} (o : Option X) → is_some o ≡ false → o ≡ None
      missing None e = refl
      missing (Some x) e = cc
  post_by (Some folder) e =
      let done = acl_replaced tree bucket acl is sound (unsealed_of settled) in
      record {
        answer = true;
        says = ap (λ v. set_due (post_container v bucket (readers_of acl) tree).reply) e;
        after = done.sound;
        state = (s3_state_there tree bucket is (unsealed_of settled) ∙ ap is_some e, done.state);
      }

-- POST of a bucket's container replaces who may read the bucket
pub sets : {name bucket : List ℕ} {readers : ReadList} (acl : Acl) → name ≡ bucket → readers ≡ readers_of acl → is_bucket bucket ≡ true → IsWriting (PostContainer name readers) set_due Any (SetsAcl bucket acl)
sets {name = name} {bucket = bucket} {readers = readers} acl named listed is =
    let own : IsWriting (PostContainer bucket (readers_of acl)) set_due Any (SetsAcl bucket acl) = record {
      effect = λ tree sound settled any. post_by tree bucket acl is sound settled (get tree bucket) refl;
      settled = λ tree. settled_same (same_post tree bucket is (readers_of acl));
    } in
    let first : IsWriting (PostContainer name (readers_of acl)) set_due Any (SetsAcl bucket acl) = subst (λ n. IsWriting (PostContainer n (readers_of acl)) set_due Any (SetsAcl bucket acl)) (sym named) own in
    subst (λ r. IsWriting (PostContainer name r) set_due Any (SetsAcl bucket acl)) (sym listed) first
