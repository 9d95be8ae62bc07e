-- The laws of the accounts that calls make.
use Rattle.std.specs.Prelude.{◌≡◌, ℕ, true, Bool, false, List, Option, None, Some, IfSome}
use Rattle.std.specs.FinMap.{get}
use Rattle.swift_calls.specs.Account.{SwiftAccount, SwiftContainer, SwiftObject, find_object}
use Rattle.std.proofs.Common.{refl}
use Rattle.slo_manifest.specs.declared.Segment.{Segment}
use Rattle.swift_calls.specs.Bodies.{is_good_list}
use Rattle.swift_calls.specs.Step.{Fit, is_taken, plain_file, put_listed, put_manifest, IsContainerName, IsMoment, is_bare, head_container, put_container, post_container, delete_by, delete_container, put_object, delete_object}
use Rattle.swift_calls.specs.declared.account.ReadList.{ReadList}
use Rattle.swift_calls.specs.declared.account.Content.TheVariants.{Plain, Segments}
use Rattle.swift_calls.specs.declared.calls.SwiftRequest.TheVariants.{
  ListContainers,
  HeadContainer,
  PutContainer,
  PostContainer,
  DeleteContainer,
  ListNames,
  PutObject,
  PutManifest,
  HeadObject,
  GetObject,
  GetManifest,
  DeleteObject,
}
use Rattle.swift_calls.proofs.lemmas.Files.{put_unless_by}
use Rattle.swift_store.specs.Made.{IsMade, IsMadeObject}
use Rattle.swift_store.specs.MadeLaws.{HasSpelling, StaysMade}
use Rattle.swift_store.proofs.MadeChanges.{made_head, made_readers, made_new, made_removed, made_put, made_taken}
use Rattle.swift_store.proofs.Writing.{good_made, put_made}
use Rattle.swift_store.proofs.MadeReplies.{containers_row, names_row, readers_row, head_row, get_row, put_row, post_row, delete_row, unless_row, list_row, manifest_row, remove_row}

-- ---- what each call leaves

module _ (account : SwiftAccount) (made : IsMade account) where
  after_head : (v : Option SwiftContainer) → IsMade (head_container v account).tree
  after_head None = made
  after_head (Some folder) = made

  after_put : (v : Option SwiftContainer) (c : List ℕ) (readers : ReadList) (created : Option ℕ) → IsContainerName c → IfSome created IsMoment
      → IsMade (put_container v c readers created account).tree
  after_put None c readers created name moment = made_new c readers created account made name moment
  after_put (Some folder) c readers created name moment = made_head c readers created account made moment

  after_post : (v : Option SwiftContainer) (c : List ℕ) (readers : ReadList) → IsMade (post_container v c readers account).tree
  after_post None c readers = made
  after_post (Some folder) c readers = made_readers c readers account made

  after_delete_by : (b : Bool) (c : List ℕ) → IsMade (delete_by b c account).tree
  after_delete_by true c = made_removed c account made
  after_delete_by false c = made

  after_delete : (v : Option SwiftContainer) (c : List ℕ) → IsMade (delete_container v c account).tree
  after_delete None c = made
  after_delete (Some folder) c = after_delete_by (is_bare folder) c

  after_stored : (v : Option SwiftContainer) (c n : List ℕ) (object : SwiftObject) → IsMadeObject n object → IsMade (put_object v c n object account).tree
  after_stored None c n object own = made
  after_stored (Some folder) c n object own = made_put c n object account made own

  after_listed : (b : Bool) (folder : SwiftContainer) (c n content_type : List ℕ) (meta : List (List ℕ)) (segments : List Segment) → is_good_list (find_object account) segments ≡ b → Fit (PutManifest c n content_type meta segments)
      → IsMade (put_listed b (Some folder) c n (record { content_type = content_type; meta = meta; content = Segments segments }) account).tree
  after_listed true folder c n content_type meta segments good fit = made_put c n (record { content_type = content_type; meta = meta; content = Segments segments }) account made (good_made c n content_type meta segments (find_object account) good fit)
  after_listed false folder c n content_type meta segments good fit = made

  after_manifest : (v : Option SwiftContainer) (c n content_type : List ℕ) (meta : List (List ℕ)) (segments : List Segment) → Fit (PutManifest c n content_type meta segments) → IsMade (put_manifest v c n content_type meta segments account).tree
  after_manifest None c n content_type meta segments fit = made
  after_manifest (Some folder) c n content_type meta segments fit = after_listed (is_good_list (find_object account) segments) folder c n content_type meta segments refl fit

  after_removed : (v : Option SwiftObject) (c n : List ℕ) → IsMade (delete_object v c n account).tree
  after_removed None c n = made
  after_removed (Some file) c n = made_taken c n account made

pub stays_made : StaysMade
stays_made (ListContainers marker limit) account fit made = made
stays_made (HeadContainer c) account fit made = after_head account made (get account c)
stays_made (PutContainer c readers created) account fit made = after_put account made (get account c) c readers created fit.0 fit.1
stays_made (PostContainer c readers) account fit made = after_post account made (get account c) c readers
stays_made (DeleteContainer c) account fit made = after_delete account made (get account c) c
stays_made (ListNames c prefix marker limit) account fit made = made
stays_made (PutObject put) account fit made =
    put_unless_by (λ a. IsMade a.tree) (is_taken put.fresh (find_object account put.container put.name))
    (put_object (get account put.container) put.container put.name (plain_file put) account) account
    (λ free. after_stored account made (get account put.container) put.container put.name (plain_file put) (put_made put fit)) (λ taken. made)
stays_made (PutManifest c n content_type meta segments) account fit made = after_manifest account made (get account c) c n content_type meta segments fit
stays_made (HeadObject c n) account fit made = made
stays_made (GetObject c n range) account fit made = made
stays_made (GetManifest c n) account fit made = made
stays_made (DeleteObject c n) account fit made = after_removed account made (find_object account c n) c n

pub has_spelling : HasSpelling
has_spelling (ListContainers marker limit) account fit made = containers_row account made limit marker
has_spelling (HeadContainer c) account fit made = readers_row account made c
has_spelling (PutContainer c readers created) account fit made = put_row (get account c) c readers created account
has_spelling (PostContainer c readers) account fit made = post_row (get account c) c readers account
has_spelling (DeleteContainer c) account fit made = delete_row (get account c) c account
has_spelling (ListNames c prefix marker limit) account fit made = names_row account made c limit prefix marker
has_spelling (PutObject put) account fit made = unless_row put.fresh (find_object account put.container put.name) (get account put.container) put account
has_spelling (PutManifest c n content_type meta segments) account fit made = list_row (get account c) c n content_type meta segments account
has_spelling (HeadObject c n) account fit made = head_row account made c n
has_spelling (GetObject c n range) account fit made = get_row account made c n range fit.2
has_spelling (GetManifest c n) account fit made = manifest_row account made c n
has_spelling (DeleteObject c n) account fit made = remove_row (find_object account c n) c n account
