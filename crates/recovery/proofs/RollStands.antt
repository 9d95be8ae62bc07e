-- What the calls that finish a sealed completion leave where it stands, over every observable store.
use Rattle.std.specs.Prelude.{◌≡◌, ◌⊎◌, ℕ, true, false, IsTrue, List, [], ◌∷◌, codes, Option, None, Some, Result, Ok, Err, IfOk}
use Rattle.std.specs.FinMap.{get, remove}
use Rattle.std.specs.Ordering.{eq_by_cmp}
use Rattle.std.proofs.Common.{refl, sym, ap, subst, ◌∙◌, inl, inr}
use Rattle.gate_base.specs.Maps.{name_cmp}
use Rattle.gate_base.proofs.lemmas.Maps.{apart_back, by_name, off_adjust}
use Rattle.s3_names.specs.Bucket.{is_bucket}
use Rattle.s3_names.specs.Id.{id_digits}
use Rattle.slo_manifest.specs.declared.Segment.{Segment}
use Rattle.swift_calls.specs.Account.{SwiftObject, SwiftAccount, files, files_of, find_object, on_files}
use Rattle.swift_calls.specs.History.{History, Calls, present}
use Rattle.swift_calls.specs.Step.{delete_object, swift_step}
use Rattle.swift_calls.specs.declared.calls.SwiftFault.{SwiftFault}
use Rattle.swift_calls.specs.declared.calls.SwiftReply.{SwiftReply}
use Rattle.swift_calls.specs.declared.calls.SwiftRequest.{SwiftRequest}
use Rattle.swift_calls.specs.declared.calls.SwiftRequest.TheVariants.{DeleteObject}
use Rattle.swift_marks.specs.Pack.{pack_of}
use Rattle.swift_marks.specs.Tag.{tag_text}
use Rattle.upload_texts.specs.Records.{record_text}
use Rattle.upload_texts.specs.Sealed.{has_sealed_text}
use Rattle.upload_texts.specs.declared.sealed.Sealed.{Sealed}
use Rattle.upload_records.specs.Laws.{file_put}
use Rattle.upload_records.specs.Layout.{uploads_name, gateway_name, sealed_name}
use Rattle.upload_records.specs.Native.{SameGateway, sealed_record, sealed_tag}
use Rattle.upload_records.proofs.Apart.{gateway_apart}
use Rattle.upload_records.proofs.lemmas.Settled.{OffSame}
use Rattle.upload_records.proofs.lemmas.Sides.{bucket_uploads, gateway_uploads}
use Rattle.account_calls.specs.Puts.{Ensures, StandsIn}
use Rattle.account_calls.specs.Sealed.{put_by, put_object_of, put_record_of, put_sub_of, sealed_listing}
use Rattle.account_calls.specs.declared.fault.PlanFault.{PlanFault}
use Rattle.account_calls.proofs.lemmas.ListPut.{put_stays}
use Rattle.account_calls.proofs.lemmas.One.{stays_so}
use Rattle.account_calls.proofs.lemmas.SealStands.{limits}
use Rattle.recovery.specs.Rolls.{HoldsSealed, KeepsFile}
use Rattle.recovery.proofs.RollCalls.{called_so, object_same, record_same, so_called, sub_same}

-- ---- what stands in the gateway's own container

-- a call that leaves it on every account leaves it
holds_same : {a b : History} {request : SwiftRequest} {result : Result SwiftReply SwiftFault} → ((tree : SwiftAccount) → SameGateway tree (swift_step request tree).tree) → Calls a b request result → HoldsSealed a b
holds_same {a = a} same calls = λ observable.
    stays_so {P = λ tree. files tree gateway_name ≡ files (present a) gateway_name} (λ tree has. (same tree).holds ∙ has) calls observable refl

pub sub_holds : {a b : History} {request : SwiftRequest} (s : Sealed) (n : ℕ) {result : Result SwiftReply SwiftFault} → request ≡ put_sub_of s n → has_sealed_text s ≡ true → Calls a b request result → HoldsSealed a b
sub_holds {a = a} {b = b} s n {result = result} same has calls = holds_same (λ tree. sub_same tree s n has) (subst (λ r. Calls a b r result) same calls)

pub object_holds : {a b : History} {request : SwiftRequest} (s : Sealed) {result : Result SwiftReply SwiftFault} → request ≡ put_object_of s → has_sealed_text s ≡ true → Calls a b request result → HoldsSealed a b
object_holds {a = a} {b = b} s {result = result} same has calls = holds_same (λ tree. object_same tree s has) (subst (λ r. Calls a b r result) same calls)

pub record_holds : {a b : History} {request : SwiftRequest} (s : Sealed) {result : Result SwiftReply SwiftFault} → request ≡ put_record_of s → has_sealed_text s ≡ true → Calls a b request result → HoldsSealed a b
record_holds {a = a} {b = b} s {result = result} same has calls = holds_same (λ tree. record_same tree s has) (subst (λ r. Calls a b r result) same calls)

-- ---- what stands in another container than the one that a call changes

stands_there : (tree new : SwiftAccount) (bucket key content_type : List ℕ) (meta : List (List ℕ)) (segments : List Segment) → get new bucket ≡ get tree bucket
    → StandsIn tree (put_by bucket key content_type meta segments) → StandsIn new (put_by bucket key content_type meta segments)
stands_there tree new bucket key content_type meta [] same stands = ap (λ o. get (files_of o) key) same ∙ stands
stands_there tree new bucket key content_type meta (x ∷ rest) same stands = ap (λ o. get (files_of o) key) same ∙ stands

object_there : (tree new : SwiftAccount) (s : Sealed) → get new s.bucket ≡ get tree s.bucket → StandsIn tree (put_object_of s) → StandsIn new (put_object_of s)
object_there tree new s same stands = stands_there tree new s.bucket s.key (tag_text (sealed_tag s)) (pack_of s.meta) (sealed_listing s) same stands

-- the PUT of the record leaves the object
record_off : (tree : SwiftAccount) (s : Sealed) → OffSame tree (swift_step (put_record_of s) tree).tree (uploads_name s.bucket)
record_off tree s = put_stays tree (uploads_name s.bucket) (id_digits s.id) (codes "application/json") [] (get tree (uploads_name s.bucket)) (file_put (codes "application/json") [] (record_text (sealed_record s)))

pub object_through_record : {a b : History} {request : SwiftRequest} (s : Sealed) {result : Result SwiftReply SwiftFault} → request ≡ put_record_of s → has_sealed_text s ≡ true → Calls a b request result → KeepsFile (put_object_of s) a b
object_through_record {a = a} {b = b} s {result = result} same has calls =
    stays_so {P = λ tree. StandsIn tree (put_object_of s)}
    (λ tree stands. object_there tree (swift_step (put_record_of s) tree).tree s (record_off tree s s.bucket (bucket_uploads s.bucket s.bucket (limits s has).bucket)) stands)
    (subst (λ r. Calls a b r result) same calls)

-- the DELETE of what is sealed leaves the object and the record
delete_off : (o : Option SwiftObject) (tree : SwiftAccount) (folder name : List ℕ) → OffSame tree (delete_object o folder name tree).tree folder
delete_off None tree folder name = λ n apart. refl
delete_off (Some file) tree folder name = off_adjust by_name folder (on_files (λ fs. remove fs name)) tree

abbrev unsealed : SwiftAccount → SwiftAccount
unsealed tree = (swift_step (DeleteObject gateway_name sealed_name) tree).tree

bucket_gateway : (bucket : List ℕ) → is_bucket bucket ≡ true → eq_by_cmp name_cmp bucket gateway_name ≡ false
bucket_gateway bucket is = apart_back by_name gateway_name bucket (gateway_apart bucket is)

uploads_gateway : (bucket : List ℕ) → is_bucket bucket ≡ true → eq_by_cmp name_cmp (uploads_name bucket) gateway_name ≡ false
uploads_gateway bucket is = apart_back by_name gateway_name (uploads_name bucket) (gateway_uploads bucket is)

module _ {a b : History} {folder name : List ℕ} (s : Sealed) {result : Result SwiftReply SwiftFault} (foldered : folder ≡ gateway_name) (named : name ≡ sealed_name) (has : has_sealed_text s ≡ true)
    (calls : Calls a b (DeleteObject folder name) result) where
  pub object_through_delete : KeepsFile (put_object_of s) a b
  object_through_delete =
      stays_so {P = λ tree. StandsIn tree (put_object_of s)}
      (λ tree stands. object_there tree (unsealed tree) s (delete_off (find_object tree gateway_name sealed_name) tree gateway_name sealed_name s.bucket (bucket_gateway s.bucket (limits s has).bucket)) stands)
      (so_called foldered named calls)

  pub record_through_delete : KeepsFile (put_record_of s) a b
  record_through_delete =
      stays_so {P = λ tree. StandsIn tree (put_record_of s)}
      (λ tree stands.
      ap (λ o. get (files_of o) (id_digits s.id)) (delete_off (find_object tree gateway_name sealed_name) tree gateway_name sealed_name (uploads_name s.bucket) (uploads_gateway s.bucket (limits s has).bucket)) ∙ stands)
      (so_called foldered named calls)

-- ---- the end

-- so it is whatever the last call came to
pub ensures_so : {h : History} {P : SwiftAccount → Type 0} (result : Result (Unit {0}) PlanFault) → (IsTrue h.observable → P (present h)) → Ensures h P result
ensures_so (Ok done) so = record { so = so }
ensures_so (Err fault) so = record { so = λ observable. tt }

-- what was held stays so, or else
pub held_then : {A P : Type 0} {x y z : A} → y ≡ x → (z ≡ y) ⊎ P → (z ≡ x) ⊎ P
held_then same (inl then) = inl (then ∙ same)
held_then same (inr done) = inr done
