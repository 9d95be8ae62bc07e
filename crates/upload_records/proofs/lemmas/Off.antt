-- A call on a bucket's container, or on a file in it, leaves the gateway's own container.
use Rattle.std.specs.Prelude.{◌≡◌, ℕ, Bool, List, true, false, Option, None, Some}
use Rattle.std.specs.FinMap.{get, insert, remove}
use Rattle.std.proofs.Common.{refl}
use Rattle.gate_base.proofs.lemmas.Maps.{by_name, off_insert, off_adjust, off_remove}
use Rattle.s3_names.specs.Bucket.{is_bucket}
use Rattle.swift_calls.specs.declared.account.ReadList.{ReadList}
use Rattle.swift_calls.specs.Files.{PutObject}
use Rattle.swift_calls.specs.declared.calls.SwiftRequest.TheVariants.{PutContainer, PostContainer, DeleteContainer, DeleteObject}
use Rattle.swift_calls.specs.Account.{SwiftObject, SwiftContainer, SwiftAccount, find_object, on_files, with_head, with_readers}
use Rattle.swift_calls.specs.Step.{swift_step, is_bare, put_container, post_container, delete_by, delete_container, put_object, delete_object}
use Rattle.upload_records.specs.Native.{SameGateway}
use Rattle.upload_records.specs.Laws.{file_put}
use Rattle.upload_records.proofs.lemmas.Settled.{OffSame, same_off}

pub put_off : (o : Option SwiftContainer) (b : List ℕ) (readers : ReadList) (created : Option ℕ) (tree : SwiftAccount) → OffSame tree (put_container o b readers created tree).tree b
put_off None b readers created tree = off_insert by_name tree b _
put_off (Some folder) b readers created tree = off_adjust by_name b (with_head readers created) tree

post_off : (o : Option SwiftContainer) (b : List ℕ) (readers : ReadList) (tree : SwiftAccount) → OffSame tree (post_container o b readers tree).tree b
post_off None b readers tree = λ n apart. refl
post_off (Some folder) b readers tree = off_adjust by_name b (with_readers readers) tree

drop_off_by : (t : Bool) (b : List ℕ) (tree : SwiftAccount) → OffSame tree (delete_by t b tree).tree b
drop_off_by true b tree = off_remove by_name tree b
drop_off_by false b tree = λ n apart. refl

drop_off : (o : Option SwiftContainer) (b : List ℕ) (tree : SwiftAccount) → OffSame tree (delete_container o b tree).tree b
drop_off None b tree = λ n apart. refl
drop_off (Some folder) b tree = drop_off_by (is_bare folder) b tree

put_file_off : (o : Option SwiftContainer) (b key : List ℕ) (file : SwiftObject) (tree : SwiftAccount) → OffSame tree (put_object o b key file tree).tree b
put_file_off None b key file tree = λ n apart. refl
put_file_off (Some folder) b key file tree = off_adjust by_name b (on_files (λ fs. insert fs key file)) tree

delete_file_off : (o : Option SwiftObject) (b key : List ℕ) (tree : SwiftAccount) → OffSame tree (delete_object o b key tree).tree b
delete_file_off None b key tree = λ n apart. refl
delete_file_off (Some file) b key tree = off_adjust by_name b (on_files (λ fs. remove fs key)) tree

module _ (tree : SwiftAccount) (b : List ℕ) (is : is_bucket b ≡ true) where
  pub same_put : (readers : ReadList) (created : Option ℕ) → SameGateway tree (swift_step (PutContainer b readers created) tree).tree
  same_put readers created = same_off tree _ b is (put_off (get tree b) b readers created tree)

  pub same_post : (readers : ReadList) → SameGateway tree (swift_step (PostContainer b readers) tree).tree
  same_post readers = same_off tree _ b is (post_off (get tree b) b readers tree)

  pub same_drop : SameGateway tree (swift_step (DeleteContainer b) tree).tree
  same_drop = same_off tree _ b is (drop_off (get tree b) b tree)

  pub same_put_file : (key content_type : List ℕ) (meta : List (List ℕ)) (body : List ℕ) → SameGateway tree (swift_step (PutObject b key content_type meta body) tree).tree
  same_put_file key content_type meta body = same_off tree _ b is (put_file_off (get tree b) b key (file_put content_type meta body) tree)

  pub same_delete_file : (key : List ℕ) → SameGateway tree (swift_step (DeleteObject b key) tree).tree
  same_delete_file key = same_off tree _ b is (delete_file_off (find_object tree b key) b key tree)
