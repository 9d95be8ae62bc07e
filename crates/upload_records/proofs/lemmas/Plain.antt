-- What a change of a bucket's container does to the state that the containers hold, and what is found there.
use Rattle.std.specs.Prelude.{◌≡◌, ℕ, Bool, nat_eq, List, true, false, cond, is_some, Option, None, Some}
use Rattle.std.specs.Option.{option_map, option_and_then, unwrap_or}
use Rattle.std.specs.FinMap.{get, insert, remove, empty, len, len-empty, empty_of_len}
use Rattle.std.proofs.Common.{refl, sym, ap, ◌∙◌, true≢false}
use Rattle.std.proofs.lemmas.Bool.{eqb-true}
use Rattle.gate_base.specs.Maps.{Names, name_cmp, adjust, picked}
use Rattle.gate_base.proofs.lemmas.Maps.{by_name, get-picked, get_empty, picked_empty, picked_insert, picked_remove, picked_adjust, picked_same, same_names, off_insert, off_adjust, off_remove}
use Rattle.s3_names.specs.declared.acl.Acl.{Acl}
use Rattle.s3_names.specs.declared.acl.Acl.TheVariants.{Private, PublicRead}
use Rattle.s3_names.specs.Bucket.{is_bucket}
use Rattle.s3_machine.specs.State.{Object, Bucket}
use Rattle.s3_machine.specs.Step.{new_bucket, with_acl, put_object, drop_object}
use Rattle.swift_calls.specs.declared.account.ReadList.{ReadList}
use Rattle.swift_calls.specs.Account.{SwiftObject, SwiftContainer, SwiftAccount, files, files_of, find_object, new_folder, on_files, with_readers, put_file, remove_file}
use Rattle.upload_records.specs.Layout.{uploads_name, segments_name, readers_of, acl_of}
use Rattle.upload_records.specs.Native.{object_of, object_at, upload_of, kept_of, bucket_from, bucket_of, plain}
use Rattle.upload_records.proofs.lemmas.Readers.{acl_of_folder}
use Rattle.upload_records.proofs.Apart.{uploads_apart, segments_apart}
use Rattle.upload_records.proofs.lemmas.Settled.{OffSame}

-- ---- a change of one container

module _ (tree tree' : SwiftAccount) (b : List ℕ) (is : is_bucket b ≡ true) (off : OffSame tree tree' b) where
  -- a bucket is no container beside one
  pub beside_stays : (name : List ℕ) (folder : SwiftContainer) → bucket_of tree' name folder ≡ bucket_of tree name folder
  beside_stays name folder =
      let records : files tree' (uploads_name name) ≡ files tree (uploads_name name) = ap files_of (off (uploads_name name) (uploads_apart b name is)) in
      let segments : files tree' (segments_name name) ≡ files tree (segments_name name) = ap files_of (off (segments_name name) (segments_apart b name is)) in
      λ i. cond (is_bucket name) (Some (bucket_from (records i) (segments i) folder)) None

  pub plain_by_old : plain tree' ≡ picked (bucket_of tree) tree'
  unfolding plain
  plain_by_old = picked_same by_name (bucket_of tree') (bucket_of tree) tree' (λ k x found. beside_stays k x)

-- a change of what stands in a bucket's container is one of the bucket
pub plain_changes : (tree : SwiftAccount) (b : List ℕ) (h : SwiftContainer → SwiftContainer) (g : Bucket → Bucket) → is_bucket b ≡ true
    → ((folder : SwiftContainer) → get tree b ≡ Some folder → bucket_from (files tree (uploads_name b)) (files tree (segments_name b)) (h folder) ≡ g (bucket_from (files tree (uploads_name b)) (files tree (segments_name b)) folder))
    → plain (adjust b h tree) ≡ adjust b g (plain tree)
unfolding plain
plain_changes tree b h g is along =
    plain_by_old tree (adjust b h tree) b is (off_adjust by_name b h tree)
    ∙ picked_adjust by_name (bucket_of tree) g b h tree (λ folder found. taken_both folder (along folder found))
  where
    taken_both : (folder : SwiftContainer) → bucket_from (files tree (uploads_name b)) (files tree (segments_name b)) (h folder) ≡ g (bucket_from (files tree (uploads_name b)) (files tree (segments_name b)) folder)
        → bucket_of tree b (h folder) ≡ option_map g (bucket_of tree b folder)
    taken_both folder e =
        ap (λ t. cond t (Some (bucket_from (files tree (uploads_name b)) (files tree (segments_name b)) (h folder))) None) is ∙ ap Some e
        ∙ sym (ap (λ t. option_map g (cond t (Some (bucket_from (files tree (uploads_name b)) (files tree (segments_name b)) folder)) None)) is)

-- ---- a new container

-- a container without objects, beside which no record stands, is a bucket without any
bucket_of_new : (segments : Names SwiftObject) (readers : ReadList) (created : Option ℕ) → bucket_from empty segments (new_folder readers created) ≡ new_bucket (unwrap_or created 0) (acl_of readers)
bucket_of_new segments readers created = λ i. record {
  created = unwrap_or created 0;
  acl = acl_of readers;
  objects = picked_empty by_name (object_of segments) i;
  uploads = picked_empty by_name (upload_of segments) i;
  kept = picked_empty by_name kept_of i;
}

read_back : (acl : Acl) → acl_of (readers_of acl) ≡ acl
read_back Private = refl
read_back PublicRead = refl

made_of : (tree : SwiftAccount) (b : List ℕ) (acl : Acl) (moment : ℕ) → is_bucket b ≡ true → files tree (uploads_name b) ≡ empty → bucket_of tree b (new_folder (readers_of acl) (Some moment)) ≡ Some (new_bucket moment acl)
made_of tree b acl moment is bare =
    ap (λ t. cond t (Some (bucket_from (files tree (uploads_name b)) (files tree (segments_name b)) (new_folder (readers_of acl) (Some moment)))) None) is
    ∙ ap Some ((λ i. bucket_from (bare i) (files tree (segments_name b)) (new_folder (readers_of acl) (Some moment)))
    ∙ bucket_of_new (files tree (segments_name b)) (readers_of acl) (Some moment) ∙ (λ i. new_bucket moment (read_back acl i)))

-- the PUT of a new container, beside which no record stands, is the making of the bucket
pub plain_made : (tree : SwiftAccount) (b : List ℕ) (acl : Acl) (moment : ℕ) → is_bucket b ≡ true → files tree (uploads_name b) ≡ empty
    → plain (insert tree b (new_folder (readers_of acl) (Some moment))) ≡ insert (plain tree) b (new_bucket moment acl)
unfolding plain
plain_made tree b acl moment is bare =
    let folder : SwiftContainer = new_folder (readers_of acl) (Some moment) in
    plain_by_old tree (insert tree b folder) b is (off_insert by_name tree b folder)
    ∙ picked_insert by_name (bucket_of tree) tree b folder (new_bucket moment acl) (made_of tree b acl moment is bare)

-- the account without a container
pub plain_empty : plain empty ≡ empty
unfolding plain
plain_empty = picked_empty by_name (bucket_of empty)

-- ---- a container goes, and its read list is replaced

-- the DELETE of a bucket's container takes the bucket away
pub plain_dropped : (tree : SwiftAccount) (b : List ℕ) → is_bucket b ≡ true → plain (remove tree b) ≡ remove (plain tree) b
unfolding plain
plain_dropped tree b is =
    plain_by_old tree (remove tree b) b is (off_remove by_name tree b)
    ∙ picked_remove by_name (bucket_of tree) tree b

-- the POST of a bucket's container replaces who may read it
pub plain_posted : (tree : SwiftAccount) (b : List ℕ) (acl : Acl) → is_bucket b ≡ true → plain (adjust b (with_readers (readers_of acl)) tree) ≡ adjust b (with_acl acl) (plain tree)
plain_posted tree b acl is =
    plain_changes tree b (with_readers (readers_of acl)) (with_acl acl) is
    (λ folder found i. record (bucket_from (files tree (uploads_name b)) (files tree (segments_name b)) folder) { acl = read_back acl i })

-- ---- what is found of a bucket

pub get_plain : (tree : SwiftAccount) (b : List ℕ) → get (plain tree) b ≡ option_and_then (bucket_of tree b) (get tree b)
unfolding plain
get_plain tree b = get-picked by_name (bucket_of tree) tree b

taken : (tree : SwiftAccount) (b : List ℕ) (o : Option SwiftContainer) → is_bucket b ≡ true → is_some (option_and_then (bucket_of tree b) o) ≡ is_some o
taken tree b None is = refl
taken tree b (Some folder) is = ap (λ t. is_some (cond t (Some (bucket_from (files tree (uploads_name b)) (files tree (segments_name b)) folder)) None)) is

-- a bucket is where its container is
pub plain_there : (tree : SwiftAccount) (b : List ℕ) → is_bucket b ≡ true → is_some (get (plain tree) b) ≡ is_some (get tree b)
plain_there tree b is = ap is_some (get_plain tree b) ∙ taken tree b (get tree b) is

acl_taken : (tree : SwiftAccount) (b : List ℕ) (o : Option SwiftContainer) → is_bucket b ≡ true → option_map (λ (n : Bucket). n.acl) (option_and_then (bucket_of tree b) o) ≡ option_map acl_of_folder o
acl_taken tree b None is = refl
acl_taken tree b (Some folder) is = ap (λ t. option_map (λ (n : Bucket). n.acl) (cond t (Some (bucket_from (files tree (uploads_name b)) (files tree (segments_name b)) folder)) None)) is

-- HEAD of a bucket's container tells who may read the bucket
pub plain_acl : (tree : SwiftAccount) (b : List ℕ) → is_bucket b ≡ true → option_map (λ (n : Bucket). n.acl) (get (plain tree) b) ≡ option_map acl_of_folder (get tree b)
plain_acl tree b is = ap (option_map (λ (n : Bucket). n.acl)) (get_plain tree b) ∙ acl_taken tree b (get tree b) is

-- ---- objects

found_by : (tree : SwiftAccount) (b key : List ℕ) (o : Option SwiftContainer) → is_bucket b ≡ true
    → object_at (option_and_then (bucket_of tree b) o) key ≡ option_and_then (object_of (files tree (segments_name b)) key) (get (files_of o) key)
found_by tree b key None is = sym (ap (option_and_then (object_of (files tree (segments_name b)) key)) (get_empty by_name key))
found_by tree b key (Some folder) is =
    ap (λ t. object_at (cond t (Some (bucket_from (files tree (uploads_name b)) (files tree (segments_name b)) folder)) None) key) is
    ∙ get-picked by_name (object_of (files tree (segments_name b))) folder.files key

-- an object is what the file of its key represents
pub plain_at : (tree : SwiftAccount) (b key : List ℕ) → is_bucket b ≡ true
    → object_at (get (plain tree) b) key ≡ option_and_then (object_of (files tree (segments_name b)) key) (find_object tree b key)
plain_at tree b key is = ap (λ v. object_at v key) (get_plain tree b) ∙ found_by tree b key (get tree b) is

-- the PUT of an object's file puts the object that it represents
pub plain_put : (tree : SwiftAccount) (b key : List ℕ) (file : SwiftObject) (o : Object) → object_of (files tree (segments_name b)) key file ≡ Some o → is_bucket b ≡ true
    → plain (put_file b key file tree) ≡ adjust b (put_object key o) (plain tree)
plain_put tree b key file o reads is =
    plain_changes tree b (on_files (λ fs. insert fs key file)) (put_object key o) is
    (λ folder found i. record (bucket_from (files tree (uploads_name b)) (files tree (segments_name b)) folder) {
      objects = picked_insert by_name (object_of (files tree (segments_name b))) folder.files key file o reads i;
    })

-- the DELETE of a file takes the object of its key away
pub plain_removed : (tree : SwiftAccount) (b key : List ℕ) → is_bucket b ≡ true → plain (remove_file b key tree) ≡ adjust b (drop_object key) (plain tree)
plain_removed tree b key is =
    plain_changes tree b (on_files (λ fs. remove fs key)) (drop_object key) is
    (λ folder found i. record (bucket_from (files tree (uploads_name b)) (files tree (segments_name b)) folder) {
      objects = picked_remove by_name (object_of (files tree (segments_name b))) folder.files key i;
    })

-- ---- a bucket without objects

no_entries : (X : Type 0) → nat_eq (len (empty {X = X} {R = name_cmp})) 0 ≡ true
no_entries X = ap (λ n. nat_eq n 0) (len-empty name_cmp X)

-- where f takes something over of each entry, the map of that is empty exactly where the map is
module _ {X Y : Type 0} (f : List ℕ → X → Option Y) (m : Names X) (all : (k : List ℕ) (x : X) → get m k ≡ Some x → is_some (f k x) ≡ true) where
  none_taken : (k : List ℕ) (o : Option X) → get m k ≡ o → option_and_then (f k) o ≡ None → o ≡ None
  none_taken k None found e = refl
  none_taken k (Some x) found e = absurd (true≢false (sym (all k x found) ∙ ap is_some e))

  empty_below : picked f m ≡ empty → m ≡ empty
  empty_below e = same_names m empty (λ k. none_taken k (get m k) refl (sym (get-picked by_name f m k) ∙ ap (λ p. get p k) e ∙ get_empty by_name k) ∙ sym (get_empty by_name k))

  bare_by : (a b : Bool) → nat_eq (len (picked f m)) 0 ≡ a → nat_eq (len m) 0 ≡ b → a ≡ b
  bare_by true true above below = refl
  bare_by false false above below = refl
  bare_by true false above below =
      let none : picked f m ≡ empty = empty_of_len (picked f m) (eqb-true (len (picked f m)) 0 above) in
      absurd (true≢false (sym (ap (λ n. nat_eq (len n) 0) (empty_below none) ∙ no_entries X) ∙ below))
  bare_by false true above below =
      let none : m ≡ empty = empty_of_len m (eqb-true (len m) 0 below) in
      absurd (true≢false (sym (ap (λ n. nat_eq (len n) 0) (ap (picked f) none ∙ picked_empty by_name f) ∙ no_entries Y) ∙ above))

  pub bare_alike : nat_eq (len (picked f m)) 0 ≡ nat_eq (len m) 0
  bare_alike = bare_by _ _ refl refl
