-- A bucket that is there, the PUT of a segment's file beside it, and the tag of a part.
use Rattle.std.specs.Prelude.{◌≡◌, ◌<◌, ◌^◌, ℕ, true, is_some, List, Option, None, Some}
use Rattle.std.specs.Option.{option_map}
use Rattle.std.specs.FinMap.{get, insert}
use Rattle.std.proofs.Common.{refl, sym, ap, subst, ◌∙◌, inl, inr}
use Rattle.std.proofs.lemmas.Bool.{and_from, lt-ltb}
use Rattle.gate_base.proofs.lemmas.Maps.{apart, by_name, off_adjust, off_insert, same_key}
use Rattle.gate_base.specs.Told.{moment_limit}
use Rattle.s3_names.specs.Bucket.{is_bucket}
use Rattle.s3_names.specs.Id.{id_digits}
use Rattle.s3_names.specs.declared.acl.Acl.{Acl}
use Rattle.s3_machine.specs.ETag.{body_etag}
use Rattle.s3_machine.specs.State.{Bucket, Object}
use Rattle.swift_calls.specs.Account.{SwiftObject, SwiftContainer, SwiftAccount, files, files_of, on_files}
use Rattle.swift_calls.specs.Step.{put_object, swift_step}
use Rattle.swift_calls.specs.Files.{PutObject}
use Rattle.swift_marks.specs.Tag.{has_text}
use Rattle.upload_records.specs.Consistent.{IsThere}
use Rattle.upload_records.specs.Laws.{IsNameUnder, file_put, of_part, of_sub_manifest}
use Rattle.upload_records.specs.Layout.{segment_name, segments_name}
use Rattle.upload_records.specs.Native.{IsSettled, SameGateway, object_at, s3_state}
use Rattle.upload_records.proofs.lemmas.Beside.{same_beside}
use Rattle.upload_records.proofs.lemmas.Buckets.{s3_state_there}
use Rattle.upload_records.proofs.lemmas.Settled.{OffSame, unsealed_of}
use Rattle.upload_records.proofs.lemmas.Sides.{part_no_sub, segment_id}
use Rattle.account_calls.specs.Calls.{TellsBucket, acl_of_bucket}
use Rattle.account_calls.proofs.lemmas.Etags.{etag_is_etag}
use Rattle.upload_calls.specs.Interpret.{part_tag}
use Rattle.many_keys.specs.CopiedLists.{IsApart, IsOther, KeepsOthers}

-- ---- what is there

some_bucket : (o : Option Bucket) (acl : Acl) → option_map acl_of_bucket o ≡ Some acl → is_some o ≡ true
some_bucket None acl e = cc
some_bucket (Some b) acl e = refl

-- a bucket that HEAD told is there
pub bucket_there : (tree : SwiftAccount) (bucket : List ℕ) (acl : Acl) → is_bucket bucket ≡ true → IsSettled tree → TellsBucket bucket (s3_state tree) (Some acl) → IsThere tree bucket
bucket_there tree bucket acl is settled told = sym (s3_state_there tree bucket is (unsealed_of settled)) ∙ some_bucket (get (s3_state tree) bucket) acl told

some_object : (o : Option Bucket) (key : List ℕ) (x : Object) → object_at o key ≡ Some x → is_some o ≡ true
some_object None key x e = cc
some_object (Some b) key x e = refl

-- and one that has an object
pub listed_there : (tree : SwiftAccount) (bucket key : List ℕ) → is_bucket bucket ≡ true → IsSettled tree → (o : Object) → object_at (get (s3_state tree) bucket) key ≡ Some o → IsThere tree bucket
listed_there tree bucket key is settled o found = sym (s3_state_there tree bucket is (unsealed_of settled)) ∙ some_object (get (s3_state tree) bucket) key o found

-- ---- the PUT of a file

pub put_stays : (o : Option SwiftContainer) (folder name : List ℕ) (file : SwiftObject) (tree : SwiftAccount) → OffSame tree (put_object o folder name file tree).tree folder
put_stays None folder name file tree = λ n apart. refl
put_stays (Some c) folder name file tree = off_adjust by_name folder (on_files (λ fs. insert fs name file)) tree

-- of a segment leaves the gateway's own container
pub same_put : (tree : SwiftAccount) (bucket name content_type : List ℕ) (meta : List (List ℕ)) (body : List ℕ) → is_bucket bucket ≡ true
    → SameGateway tree (swift_step (PutObject (segments_name bucket) name content_type meta body) tree).tree
same_put tree bucket name content_type meta body is =
    same_beside tree (put_object (get tree (segments_name bucket)) (segments_name bucket) name (file_put content_type meta body) tree).tree bucket (segments_name bucket)
    (record { of_bucket = is; is = inr refl })
    (put_stays (get tree (segments_name bucket)) (segments_name bucket) name (file_put content_type meta body) tree)

-- ---- the tag

-- that of a part has a text
pub part_has_text : (body : List ℕ) (moment id : ℕ) → moment < moment_limit → id < 2 ^ 128 → has_text (part_tag (body_etag body) moment id) ≡ true
unfolding has_text
part_has_text body moment id below fits = and_from _ _ (and_from _ _ (and_from _ _ refl (etag_is_etag body)) (lt-ltb moment moment_limit below)) (lt-ltb id (2 ^ 128) fits)

-- ---- the files beside it

-- each file stays but that of a name under the id
pub others_stay : (tree new : SwiftAccount) (bucket id name : List ℕ) (file : SwiftObject) → IsNameUnder id name → OffSame tree new (segments_name bucket)
    → files new (segments_name bucket) ≡ insert (files tree (segments_name bucket)) name file → KeepsOthers bucket id tree new
others_stay tree new bucket id name file under off holds folder other is_other = elim (same_key by_name folder (segments_name bucket)) [
  | inl same ↦ (λ i. get (files new (same i)) other) ∙ ap (λ fs. get fs other) holds
      ∙ off_insert by_name (files tree (segments_name bucket)) name file other (apart by_name other name (λ e. is_other same (subst (IsNameUnder id) (sym e) under)))
      ∙ (λ i. get (files tree (sym same i)) other)
  | inr away ↦ ap (λ o. get (files_of o) other) (off folder away)
]

-- a part of another id is such a file
pub part_is_other : (bucket : List ℕ) (id : ℕ) (from_bucket : List ℕ) (from_id number : ℕ) → IsApart bucket id from_bucket from_id → IsOther bucket (id_digits id) (segments_name from_bucket) (segment_name (id_digits from_id) number)
part_is_other bucket id from_bucket from_id number never same (of_part k e) = never same (segment_id (id_digits from_id) (id_digits id) number k e)
part_is_other bucket id from_bucket from_id number never same (of_sub_manifest k e) = part_no_sub (id_digits from_id) (id_digits id) number k e
