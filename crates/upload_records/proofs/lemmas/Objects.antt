-- What the calls on an object's file do to the state, over an account on which no completion is sealed, and what is found of an object.
use Rattle.std.specs.Prelude.{◌≡◌, ℕ, List, true, false, is_some, Option, None, Some}
use Rattle.std.specs.Option.{option_and_then}
use Rattle.std.specs.FinMap.{get, insert, remove}
use Rattle.std.proofs.Common.{refl, sym, ap, subst, ◌∙◌, true≢false}
use Rattle.gate_base.specs.Maps.{Names, adjust}
use Rattle.gate_base.proofs.lemmas.Maps.{by_name, off_adjust, adjust_stays, adjust_missing, remove_missing}
use Rattle.s3_names.specs.Bucket.{is_bucket}
use Rattle.s3_names.specs.Id.{id_digits}
use Rattle.s3_names.specs.Key.{is_key}
use Rattle.s3_machine.specs.State.{Object}
use Rattle.s3_machine.specs.Step.{put_object, drop_object}
use Rattle.swift_calls.specs.Files.{PutObject}
use Rattle.swift_calls.specs.declared.calls.SwiftRequest.TheVariants.{DeleteObject}
use Rattle.swift_calls.specs.Account.{SwiftObject, SwiftContainer, SwiftAccount, files, files_of, find_object, on_files, put_file, remove_file}
use Rattle.swift_calls.specs.Bodies.{bytes_of, is_list}
use Rattle.swift_calls.specs.Step as store
use Rattle.upload_records.specs.Layout.{uploads_name, segments_name}
use Rattle.upload_records.specs.Native.{within, object_by, object_of, object_at, record_at, SameGateway, IsUnsealed, s3_state}
use Rattle.upload_records.specs.Consistent.{IsConsistent, IsPlainObject, IsCompletedObject, IsObject, in_one_piece, in_parts, IsOpen, IsListOf, IsStored}
use Rattle.upload_records.specs.Laws.{ChangesBy, FindsObject, PutsFile, file_put, object_in}
use Rattle.upload_records.proofs.lemmas.Settled.{same_off, unsealed_same, s3_state_unsealed, s3_state_by_plain}
use Rattle.upload_records.proofs.lemmas.Plain.{plain_at, plain_put, plain_removed}
use Rattle.upload_records.proofs.Carried.{sound_object, sound_put, sound_removed}
use Rattle.upload_records.proofs.Parts.{completed_bytes}
use Rattle.upload_records.proofs.Leaves.{changes_by}

-- ---- what a file represents

pub plain_object : (segments : Names SwiftObject) (key : List ℕ) (file : SwiftObject) (plain : IsPlainObject file) → object_of segments key file ≡ Some (object_in plain)
plain_object segments key file plain = λ i. object_by (plain.tagged i) (plain.packed i) (bytes_of (within segments) (plain.own i))

-- the object that a completed file is, by the bytes of its parts
completed_object : (segments : Names SwiftObject) (folder key : List ℕ) (file : SwiftObject) → IsCompletedObject segments folder file → (o : Object) × (object_of segments key file ≡ Some o)
completed_object segments folder key file object =
    let all = completed_bytes segments folder file object in
    (record { bytes = all.0; etag = object.etag; content_type = object.content_type; meta = object.meta; modified = object.moment }, (λ i. object_by (object.tagged i) (object.packed i) (all.1 i)))

-- each form of a file that is an object represents one
pub reads_as : (segments : Names SwiftObject) (folder key : List ℕ) (file : SwiftObject) → IsObject segments folder key file → (o : Object) × (object_of segments key file ≡ Some o)
reads_as segments folder key file (in_one_piece keyed plain) = (object_in plain, plain_object segments key file plain)
reads_as segments folder key file (in_parts keyed object) = completed_object segments folder key file object

pub object_reads : (tree : SwiftAccount) (b key : List ℕ) (file : SwiftObject) → IsConsistent tree → is_bucket b ≡ true → find_object tree b key ≡ Some file → is_some (object_of (files tree (segments_name b)) key file) ≡ true
object_reads tree b key file sound is found = ap is_some (reads_as (files tree (segments_name b)) (segments_name b) key file (sound_object tree b key file sound is found)).1

-- a file of a bucket's container is an object's
pub file_is_object : (tree : SwiftAccount) (b key : List ℕ) (file : SwiftObject) → IsConsistent tree → is_bucket b ≡ true → find_object tree b key ≡ Some file → IsObject (files tree (segments_name b)) (segments_name b) key file
file_is_object tree b key file sound is found = sound_object tree b key file sound is found

-- ---- what is found

-- over an account on which no completion is sealed an object of the state is what the file of its key represents
pub s3_state_at : (tree : SwiftAccount) (b key : List ℕ) → is_bucket b ≡ true → IsUnsealed tree
    → object_at (get (s3_state tree) b) key ≡ option_and_then (object_of (files tree (segments_name b)) key) (find_object tree b key)
s3_state_at tree b key is unsealed = ap (λ s. object_at (get s b) key) (s3_state_unsealed tree unsealed) ∙ plain_at tree b key is

finds : (tree : SwiftAccount) (b key : List ℕ) (o : Option SwiftObject) → is_bucket b ≡ true → IsConsistent tree → IsUnsealed tree → find_object tree b key ≡ o → FindsObject tree b key o
finds tree b key None is sound unsealed e = s3_state_at tree b key is unsealed ∙ ap (option_and_then (object_of (files tree (segments_name b)) key)) e
finds tree b key (Some file) is sound unsealed e =
    let object = sound_object tree b key file sound is e in
    let reads = reads_as (files tree (segments_name b)) (segments_name b) key file object in
    (object, reads.0, reads.1, s3_state_at tree b key is unsealed ∙ ap (option_and_then (object_of (files tree (segments_name b)) key)) e ∙ reads.1)

pub found : (tree : SwiftAccount) (b key : List ℕ) → is_bucket b ≡ true → IsConsistent tree → IsUnsealed tree → FindsObject tree b key (find_object tree b key)
found tree b key is sound unsealed = finds tree b key (find_object tree b key) is sound unsealed refl

-- ---- an object comes, or goes

-- what the PUT of a file leaves, also where the container is missing
pub put_leaves : (o : Option SwiftContainer) (b key : List ℕ) (file : SwiftObject) (tree : SwiftAccount) → get tree b ≡ o → (store.put_object o b key file tree).tree ≡ put_file b key file tree
put_leaves None b key file tree none = sym (adjust_missing by_name b _ tree none)
put_leaves (Some folder) b key file tree there = refl

-- what the DELETE of a file leaves, also where the file is missing
pub delete_leaves : (o : Option SwiftObject) (b key : List ℕ) (tree : SwiftAccount) → find_object tree b key ≡ o → (store.delete_object o b key tree).tree ≡ remove_file b key tree
delete_leaves None b key tree none =
    sym (adjust_stays by_name b _ tree (λ folder is i. record folder { files = remove_missing by_name folder.files key (ap (λ v. get (files_of v) key) (sym is) ∙ none) i }))
delete_leaves (Some file) b key tree there = refl

pub file_puts : (tree : SwiftAccount) (b key : List ℕ) (file : SwiftObject) (o : Object) → is_bucket b ≡ true
    → IsObject (files tree (segments_name b)) (segments_name b) key file → object_of (files tree (segments_name b)) key file ≡ Some o
    → ((id : ℕ) → IsListOf file id → IsOpen (record_at (files tree (uploads_name b)) (id_digits id)) → ⊥)
    → IsStored key file → IsConsistent tree → IsUnsealed tree → PutsFile tree b key o (put_file b key file tree)
file_puts tree b key file o is object reads closed stored sound unsealed =
    let new : SwiftAccount = put_file b key file tree in
    let same : SameGateway tree new = same_off tree new b is (off_adjust by_name b (on_files (λ fs. insert fs key file)) tree) in
    record {
      sound = sound_put tree b key file is sound unsealed object closed stored;
      state = s3_state_by_plain tree new (adjust b (put_object key o)) unsealed (unsealed_same tree new same unsealed) (plain_put tree b key file o reads is);
      gateway = same;
    }

-- a file with bytes of its own lists nothing
no_list : (file : SwiftObject) (id : ℕ) → is_list file.content ≡ false → IsListOf file id → ⊥
no_list file id own lists = true≢false (sym lists.lists ∙ own)

pub object_put : (tree : SwiftAccount) (b key content_type : List ℕ) (meta : List (List ℕ)) (body : List ℕ) (plain : IsPlainObject (file_put content_type meta body))
    → is_bucket b ≡ true → is_key key ≡ true → IsStored key (file_put content_type meta body) → IsConsistent tree → IsUnsealed tree
    → ChangesBy tree (PutObject b key content_type meta body) (adjust b (put_object key (object_in plain)))
object_put tree b key content_type meta body plain is keyed stored sound unsealed =
    let file : SwiftObject = file_put content_type meta body in
    let leaves = put_leaves (get tree b) b key file tree refl in
    let puts = file_puts tree b key file (object_in plain) is (in_one_piece keyed plain) (plain_object (files tree (segments_name b)) key file plain)
    (λ id lists opens. no_list file id refl lists) stored sound unsealed in
    record {
      sound = subst IsConsistent (sym leaves) puts.sound;
      state = ap s3_state leaves ∙ puts.state;
      gateway = subst (SameGateway tree) (sym leaves) puts.gateway;
    }

pub object_gone : (tree : SwiftAccount) (b key : List ℕ) → is_bucket b ≡ true → IsConsistent tree → IsUnsealed tree → ChangesBy tree (DeleteObject b key) (adjust b (drop_object key))
object_gone tree b key is sound unsealed =
    changes_by tree (remove_file b key tree) b (DeleteObject b key) (adjust b (drop_object key)) is unsealed (off_adjust by_name b (on_files (λ fs. remove fs key)) tree)
    (delete_leaves (find_object tree b key) b key tree refl) (sound_removed tree b key is sound unsealed) (plain_removed tree b key is)
