-- DELETE of an open record leaves the segments of the upload as they were, and to be deleted.
use Rattle.std.specs.Prelude.{◌≡◌, ℕ, true, false, List, Option, None, Some, Ok}
use Rattle.std.specs.Ordering.{eq_by_cmp}
use Rattle.std.specs.FinMap.{remove}
use Rattle.std.proofs.Common.{refl, ap, ◌∙◌}
use Rattle.gate_base.specs.Maps.{name_cmp}
use Rattle.gate_base.proofs.lemmas.Maps.{by_name, off_adjust}
use Rattle.s3_names.specs.Bucket.{is_bucket}
use Rattle.s3_names.specs.Id.{id_digits}
use Rattle.swift_calls.specs.Account.{SwiftAccount, SwiftObject, files, files_of, find_object, on_files}
use Rattle.swift_calls.specs.History.{History, Calls, present}
use Rattle.swift_calls.specs.Step.{delete_object, swift_step}
use Rattle.swift_calls.specs.declared.calls.SwiftRequest.TheVariants.{DeleteObject}
use Rattle.swift_calls.specs.declared.calls.SwiftReply.{SwiftReply}
use Rattle.upload_records.specs.Layout.{segments_name, uploads_name}
use Rattle.upload_records.specs.Laws.{UploadAbandoned}
use Rattle.upload_records.proofs.lemmas.Sides.{segments_uploads}
use Rattle.account_calls.specs.Calls.{GivenOf, Met}
use Rattle.account_calls.proofs.lemmas.One.{found}
use Rattle.upload_calls.specs.Records.{HasOpen, MayClear}
use Rattle.upload_calls.proofs.DropCalls.{purgeable}

-- the files of another container stay
side_left : (o : Option SwiftObject) (folder file : List ℕ) (tree : SwiftAccount) (name : List ℕ) → eq_by_cmp name_cmp name folder ≡ false → files (delete_object o folder file tree).tree name ≡ files tree name
side_left None folder file tree name apart = refl
side_left (Some f) folder file tree name apart = ap files_of (off_adjust by_name folder (on_files (λ fs. remove fs file)) tree name apart)

module _ (container name bucket : List ℕ) (id : ℕ) (named : container ≡ uploads_name bucket) (under : name ≡ id_digits id) (is : is_bucket bucket ≡ true) where
  segments_left : (tree : SwiftAccount) → files (swift_step (DeleteObject container name) tree).tree (segments_name bucket) ≡ files tree (segments_name bucket)
  segments_left tree =
      ap (λ c. files (swift_step (DeleteObject c name) tree).tree (segments_name bucket)) named
      ∙ side_left (find_object tree (uploads_name bucket) name) (uploads_name bucket) name tree (segments_name bucket) (segments_uploads bucket bucket is is)

  pub clearable : {old new : History} {reply : SwiftReply} → UploadAbandoned → Calls old new (DeleteObject container name) (Ok reply) → Met (GivenOf (HasOpen bucket id)) old
      → MayClear bucket id (present old) (present new)
  clearable {old = old} {new = new} law calls met = record {
    may = purgeable container name bucket id named under is law calls met;
    same = ap (λ tree. files tree (segments_name bucket)) ((calls.effect met.observable).tree ∙ ap (λ tree. (swift_step (DeleteObject container name) tree).tree) (found calls met.observable)) ∙ segments_left (present old);
  }
