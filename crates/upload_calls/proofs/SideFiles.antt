-- A call on a file beside a bucket leaves the gateway's own container.
use Rattle.std.specs.Prelude.{◌≡◌, ℕ, List, false, Option, None, Some}
use Rattle.std.specs.FinMap.{get, insert, remove}
use Rattle.std.specs.Ordering.{eq_by_cmp}
use Rattle.std.proofs.Common.{refl}
use Rattle.gate_base.specs.Maps.{name_cmp}
use Rattle.gate_base.proofs.lemmas.Maps.{by_name, off_adjust}
use Rattle.swift_calls.specs.Account.{SwiftObject, SwiftContainer, SwiftAccount, find_object, on_files}
use Rattle.swift_calls.specs.Step.{delete_object, put_object, swift_step}
use Rattle.swift_calls.specs.Files.{PutObject}
use Rattle.swift_calls.specs.declared.calls.SwiftRequest.TheVariants.{DeleteObject}
use Rattle.upload_records.specs.Native.{SameGateway}
use Rattle.upload_records.specs.Consistent.{IsBeside}
use Rattle.upload_records.specs.Laws.{file_put}
use Rattle.upload_records.proofs.lemmas.Beside.{same_beside}

-- what stands in each other container stays
abbrev OthersStay : SwiftAccount → SwiftAccount → List ℕ → Type 0
OthersStay tree new folder = (name : List ℕ) → eq_by_cmp name_cmp name folder ≡ false → get new name ≡ get tree name

put_stays : (o : Option SwiftContainer) (folder name : List ℕ) (file : SwiftObject) (tree : SwiftAccount) → OthersStay tree (put_object o folder name file tree).tree folder
put_stays None folder name file tree = λ n apart. refl
put_stays (Some c) folder name file tree = off_adjust by_name folder (on_files (λ fs. insert fs name file)) tree

delete_stays : (o : Option SwiftObject) (folder name : List ℕ) (tree : SwiftAccount) → OthersStay tree (delete_object o folder name tree).tree folder
delete_stays None folder name tree = λ n apart. refl
delete_stays (Some file) folder name tree = off_adjust by_name folder (on_files (λ fs. remove fs name)) tree

module _ (tree : SwiftAccount) (folder bucket : List ℕ) (beside : IsBeside folder bucket) (name : List ℕ) where
  pub same_put : (content_type : List ℕ) (meta : List (List ℕ)) (body : List ℕ) → SameGateway tree (swift_step (PutObject folder name content_type meta body) tree).tree
  same_put content_type meta body =
      same_beside tree (put_object (get tree folder) folder name (file_put content_type meta body) tree).tree bucket folder beside
      (put_stays (get tree folder) folder name (file_put content_type meta body) tree)

  pub same_delete : SameGateway tree (swift_step (DeleteObject folder name) tree).tree
  same_delete = same_beside tree (delete_object (find_object tree folder name) folder name tree).tree bucket folder beside (delete_stays (find_object tree folder name) folder name tree)
