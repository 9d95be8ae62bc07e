-- The file of a PUT that was answered stands, and its ETag is the one that a store has of it.
use Rattle.s3_machine.specs.declared.operation.Reply.TheVariants.{OfObjects, OfUploads}
use Rattle.s3_machine.specs.declared.operation.ObjectsReply.TheVariants as objects_reply
use Rattle.s3_machine.specs.declared.operation.UploadsReply.TheVariants as uploads_reply
use Rattle.std.specs.Prelude.{◌≡◌, ℕ, Bool, true, false, cond, IsTrue, List, [], ◌∷◌, Option, None, Some, Result, Ok, Err}
use Rattle.std.specs.FinMap.{get, insert}
use Rattle.std.specs.Option.{option_map}
use Rattle.std.proofs.Common.{refl, sym, ap, subst, ◌∙◌}
use Rattle.std.proofs.lemmas.Slice.Eq.{bytes_eq-Decides}
use Rattle.gate_base.proofs.lemmas.Maps.{at_adjust, at_insert, by_name}
use Rattle.hex.specs.Hex.{encode_lower}
use Rattle.md5.specs.Md5.{md5}
use Rattle.s3_machine.specs.ETag.{body_etag}
use Rattle.s3_machine.specs.declared.operation.Reply.{Reply}
use Rattle.s3_machine.specs.declared.operation.Reply.TheVariants as replies
use Rattle.slo_manifest.specs.Etag.{joined_etags}
use Rattle.slo_manifest.specs.declared.Segment.{Segment}
use Rattle.swift_calls.specs.Account.{SwiftObject, SwiftContainer, SwiftAccount, files_of, find_object, on_files}
use Rattle.swift_calls.specs.Bodies.{etag_of, etag_text, is_good_list}
use Rattle.swift_calls.specs.History.{History, Calls, present}
use Rattle.swift_calls.specs.Step.{is_taken, plain_file, put_listed, put_manifest, put_object, put_unless, swift_step}
use Rattle.swift_calls.specs.declared.account.Content.TheVariants.{Plain, Segments}
use Rattle.swift_calls.specs.declared.calls.FilePut.{FilePut}
use Rattle.swift_calls.specs.declared.calls.SwiftReply.{SwiftReply}
use Rattle.swift_calls.specs.declared.calls.SwiftReply.TheVariants.{Made, There, Gone, Stored, NotFound, Exists, NotEmpty, BadManifest, Unsatisfiable, Containers, Readers, Names, Head, Bytes, Manifest}
use Rattle.swift_calls.specs.declared.calls.SwiftRequest.{SwiftRequest}
use Rattle.swift_calls.specs.declared.calls.SwiftRequest.TheVariants.{ListContainers, HeadContainer, PutContainer, PostContainer, DeleteContainer, ListNames, PutObject, PutManifest, HeadObject, GetObject, GetManifest, DeleteObject}
use Rattle.upload_records.specs.Native.{content_by}
use Rattle.account_calls.specs.declared.fault.PlanFault.{PlanFault}
use Rattle.account_calls.specs.declared.fault.PlanFault.TheVariants.{Failed, Memory, Inconsistent}
use Rattle.account_calls.specs.Interpret.{stored_due}
use Rattle.account_calls.specs.Plan.{ended, reply_of}
use Rattle.account_calls.specs.Puts.{Ensures, EnsuresIfDone, IfDone, Stands, StandsIn, etag_put}
use Rattle.account_calls.specs.Sealed.{put_by}

-- ---- its ETag

pub digits_of_list : (segments : List Segment) → encode_lower (md5 (joined_etags segments)) ≡ etag_of (Segments segments)
unfolding etag_text
digits_of_list segments = refl

own_etag : (body : List ℕ) → etag_of (Plain body) ≡ body_etag body
unfolding etag_text body_etag
own_etag body = refl

-- an answer with the ETag that is asked for
pub due_of : (stored etag : List ℕ) → stored ≡ etag → stored_due etag (Stored stored) ≡ Ok tt
due_of stored etag same = ap (λ t. cond t (Ok tt) (Err Inconsistent)) ((bytes_eq-Decides stored etag).1 same)

-- the ETag of an object that lists these segments, or has no byte where there are none
pub by_etag : (bucket key content_type : List ℕ) (meta : List (List ℕ)) (segments : List Segment) → etag_of (content_by segments) ≡ etag_put (put_by bucket key content_type meta segments)
by_etag bucket key content_type meta [] = own_etag []
by_etag bucket key content_type meta (x ∷ rest) = refl

-- ---- it stands

module _ (tree : SwiftAccount) (bucket key : List ℕ) where
  put_here : (file : SwiftObject) (o : Option SwiftContainer) (etag : List ℕ) → get tree bucket ≡ o → (put_object o bucket key file tree).reply ≡ Stored etag
      → find_object (put_object o bucket key file tree).tree bucket key ≡ Some file
  put_here file None etag is says = cc
  put_here file (Some folder) etag is says =
      ap (λ o. get (files_of o) key) (at_adjust by_name bucket (on_files (λ fs. insert fs key file)) tree ∙ ap (option_map (on_files (λ fs. insert fs key file))) is)
      ∙ at_insert by_name folder.files key file

  listed_here : (t : Bool) (file : SwiftObject) (folder : SwiftContainer) (etag : List ℕ) → get tree bucket ≡ Some folder → (put_listed t (Some folder) bucket key file tree).reply ≡ Stored etag
      → find_object (put_listed t (Some folder) bucket key file tree).tree bucket key ≡ Some file
  listed_here true file folder etag is says = put_here file (Some folder) etag is says
  listed_here false file folder etag is says = cc

  manifest_here : (content_type : List ℕ) (meta : List (List ℕ)) (segments : List Segment) (o : Option SwiftContainer) (etag : List ℕ) → get tree bucket ≡ o
      → (put_manifest o bucket key content_type meta segments tree).reply ≡ Stored etag
      → find_object (put_manifest o bucket key content_type meta segments tree).tree bucket key ≡ Some (record { content_type = content_type; meta = meta; content = Segments segments })
  manifest_here content_type meta segments None etag is says = cc
  manifest_here content_type meta segments (Some folder) etag is says =
      listed_here (is_good_list (find_object tree) segments) (record { content_type = content_type; meta = meta; content = Segments segments }) folder etag is says

-- a fresh file whose name is taken isn't stored
free_here : (taken : Bool) (put : FilePut) (tree : SwiftAccount) (etag : List ℕ)
    → (put_unless taken (put_object (get tree put.container) put.container put.name (plain_file put) tree) tree).reply ≡ Stored etag
    → find_object (put_unless taken (put_object (get tree put.container) put.container put.name (plain_file put) tree) tree).tree put.container put.name ≡ Some (plain_file put)
free_here true put tree etag says = cc
free_here false put tree etag says = put_here tree put.container put.name (plain_file put) (get tree put.container) etag refl says

-- over every account a request that was answered so put its file
stands_in : (request : SwiftRequest) (tree : SwiftAccount) (etag : List ℕ) → (swift_step request tree).reply ≡ Stored etag → StandsIn (swift_step request tree).tree request
stands_in (ListContainers marker limit) tree etag says = tt
stands_in (HeadContainer container) tree etag says = tt
stands_in (PutContainer container readers created) tree etag says = tt
stands_in (PostContainer container readers) tree etag says = tt
stands_in (DeleteContainer container) tree etag says = tt
stands_in (ListNames container prefix marker limit) tree etag says = tt
stands_in (PutObject put) tree etag says = free_here (is_taken put.fresh (find_object tree put.container put.name)) put tree etag says
stands_in (PutManifest container name content_type meta segments) tree etag says = manifest_here tree container name content_type meta segments (get tree container) etag refl says
stands_in (HeadObject container name) tree etag says = tt
stands_in (GetObject container name range) tree etag says = tt
stands_in (GetManifest container name) tree etag says = tt
stands_in (DeleteObject container name) tree etag says = tt

stored_if : (etag : List ℕ) (reply : SwiftReply) → stored_due etag reply ≡ Ok tt → (stored : List ℕ) × (reply ≡ Stored stored)
stored_if etag Made e = cc
stored_if etag There e = cc
stored_if etag Gone e = cc
stored_if etag (Stored stored) e = (stored, refl)
stored_if etag NotFound e = cc
stored_if etag Exists e = cc
stored_if etag NotEmpty e = cc
stored_if etag BadManifest e = cc
stored_if etag Unsatisfiable e = cc
stored_if etag (Containers names) e = cc
stored_if etag (Readers readers created) e = cc
stored_if etag (Names items) e = cc
stored_if etag (Head head) e = cc
stored_if etag (Bytes head body) e = cc
stored_if etag (Manifest segments) e = cc

pub file_stands : {a b : History} {request : SwiftRequest} {reply : SwiftReply} (etag : List ℕ) → Calls a b request (Ok reply) → stored_due etag reply ≡ Ok tt → IsTrue b.observable → StandsIn (present b) request
file_stands {a = a} {b = b} {request = request} {reply = reply} etag calls due observable =
    let replied = calls.effect (calls.told observable) in
    let stored = stored_if etag reply due in
    subst (λ tree. StandsIn tree request) (sym replied.tree) (stands_in request (b.account_at a.called) stored.0 (sym replied.reply ∙ stored.1))

-- so it is where the answer is what the call comes to
pub stands_by : {a b : History} {request other : SwiftRequest} {reply : SwiftReply} (etag : List ℕ) → request ≡ other → Calls a b request (Ok reply) → (result : Result (Unit {0}) PlanFault) → result ≡ stored_due etag reply → Stands b other result
stands_by {b = b} etag same calls (Ok done) is = record { so = λ observable. subst (StandsIn (present b)) same (file_stands etag calls (sym is) observable) }
stands_by etag same calls (Err fault) is = record { so = λ observable. tt }

-- and where a fault is handed on
pub stands_not : {T : Type 0} {h : History} {P : SwiftAccount → Type 0} {fault : PlanFault} (result : Result T PlanFault) → result ≡ Err fault → Ensures h P result
stands_not {T = T} {h = h} {P = P} result is = subst (Ensures {T = T} h P) (sym is) (record { so = λ observable. tt })

-- ---- the end of a plan

module _ {P Q : Type 0} (gives : P → Q) where
  pub if_done : (reply : Reply) → IfDone reply P → IfDone reply Q
  if_done (replies.Refused code) has = tt
  if_done replies.Memory has = tt
  if_done replies.Done has = gives has
  if_done replies.Gone has = gives has
  if_done (replies.NotModified head) has = gives has
  if_done (OfObjects (objects_reply.Buckets page)) has = gives has
  if_done (OfObjects (objects_reply.Made bucket)) has = gives has
  if_done (OfObjects (objects_reply.Location region)) has = gives has
  if_done (OfObjects (objects_reply.AclOf acl)) has = gives has
  if_done (OfObjects (objects_reply.Objects page)) has = gives has
  if_done (OfUploads (uploads_reply.Uploads page)) has = gives has
  if_done (replies.Stored stored) has = gives has
  if_done (replies.Object object) has = gives has
  if_done (OfUploads (uploads_reply.Started started)) has = gives has
  if_done (OfUploads (uploads_reply.Parts page)) has = gives has
  if_done (OfUploads (uploads_reply.Completed completed)) has = gives has
  if_done (OfObjects (objects_reply.Deleted deleted)) has = gives has
  if_done (OfObjects (objects_reply.Setting page)) has = gives has
  if_done (replies.Copied copied) has = gives has

-- what holds holds where the operation was done
pub done_so : {P : Type 0} (reply : Reply) → P → IfDone reply P
done_so {P = P} reply has = if_done {P = Unit {0}} (λ any. has) reply (any_done reply)
  where
    any_done : (reply : Reply) → IfDone reply (Unit {0})
    any_done (replies.Refused code) = tt
    any_done replies.Memory = tt
    any_done replies.Done = tt
    any_done replies.Gone = tt
    any_done (replies.NotModified head) = tt
    any_done (OfObjects (objects_reply.Buckets page)) = tt
    any_done (OfObjects (objects_reply.Made bucket)) = tt
    any_done (OfObjects (objects_reply.Location region)) = tt
    any_done (OfObjects (objects_reply.AclOf acl)) = tt
    any_done (OfObjects (objects_reply.Objects page)) = tt
    any_done (OfUploads (uploads_reply.Uploads page)) = tt
    any_done (replies.Stored stored) = tt
    any_done (replies.Object object) = tt
    any_done (OfUploads (uploads_reply.Started started)) = tt
    any_done (OfUploads (uploads_reply.Parts page)) = tt
    any_done (OfUploads (uploads_reply.Completed completed)) = tt
    any_done (OfObjects (objects_reply.Deleted deleted)) = tt
    any_done (OfObjects (objects_reply.Setting page)) = tt
    any_done (replies.Copied copied) = tt

-- less is ensured
pub ensures_less : {h : History} {P Q : SwiftAccount → Type 0} → ((tree : SwiftAccount) → P tree → Q tree) → (end : Result Reply PlanFault) → EnsuresIfDone h P end → EnsuresIfDone h Q end
ensures_less {h = h} gives (Ok reply) has = record { so = λ observable. if_done (gives (present h)) reply (has.so observable) }
ensures_less gives (Err fault) has = record { so = λ observable. tt }

-- what the last call ensures the plan ensures
pub ensures_ended : {h : History} {P : SwiftAccount → Type 0} (reply : Unit {0} → Reply) (end : Result (Unit {0}) PlanFault) → Ensures h P end → EnsuresIfDone h P (ended end reply)
ensures_ended reply (Ok done) has = record { so = λ observable. done_so (reply done) (has.so observable) }
ensures_ended reply (Err fault) has = record { so = λ observable. tt }

-- nothing is asked
pub ensures_nothing : {h : History} (end : Result Reply PlanFault) → EnsuresIfDone h (λ tree. Unit {0}) end
ensures_nothing (Ok reply) = record { so = λ observable. done_so reply tt }
ensures_nothing (Err fault) = record { so = λ observable. tt }

-- what the plan ensures its reply says
pub ensures_reply : {h : History} {P : SwiftAccount → Type 0} (end : Result Reply PlanFault) → EnsuresIfDone h P end → IsTrue h.observable → IfDone (reply_of end) (P (present h))
ensures_reply (Ok reply) has = has.so
ensures_reply (Err Failed) has = λ observable. tt
ensures_reply (Err Memory) has = λ observable. tt
ensures_reply (Err Inconsistent) has = λ observable. tt
