-- The account after each call, by what was written.
use Rattle.std.specs.Prelude.{◌≡◌, ◌≤◌, ℕ, Bool, true, false, List, [], length, Option, None, Some, IfSome, Result, Ok, Err}
use Rattle.std.specs.Option.{option_map}
use Rattle.std.specs.FinMap.{get, remove}
use Rattle.std.proofs.Common.{subst, refl, sym, ap, ◌∙◌, inl, inr, true≢false}
use Rattle.std.proofs.lemmas.Option.{none-some, same_Some}
use Rattle.gate_base.proofs.lemmas.Maps.{by_name, adjust_same}
use Rattle.swift_calls.specs.Account.{SwiftAccount, SwiftContainer, SwiftObject, find_object, put_file, remove_file, with_head, with_readers}
use Rattle.swift_calls.specs.Bodies.{Look, etag_text, etag_of, is_list, is_good_list}
use Rattle.swift_calls.specs.Limits.{most_body}
use Rattle.swift_calls.specs.declared.account.Content.{Content}
use Rattle.swift_calls.specs.Step.{Answer, Fit, IsMoment, swift_step, is_bare, is_taken, plain_file, put_unless, head_container, put_container, post_container, delete_container, delete_by, put_object, delete_object, put_listed, put_manifest}
use Rattle.swift_calls.specs.declared.account.ReadList.{ReadList}
use Rattle.swift_calls.specs.declared.account.Content.TheVariants.{Plain, Segments}
use Rattle.swift_calls.specs.declared.calls.FilePut.{FilePut}
use Rattle.swift_calls.specs.declared.calls.SwiftRequest.TheVariants.{HeadContainer, PostContainer, DeleteContainer, PutObject, PutManifest, DeleteObject}
use Rattle.swift_calls.specs.declared.calls.SwiftReply.{SwiftReply}
use Rattle.swift_calls.specs.declared.calls.SwiftReply.TheVariants as replies
use Rattle.slo_manifest.specs.declared.Segment.{Segment}
use Rattle.swift_store.specs.Made.{IsMadeContent, IsMadeList, IsMadeObject, IsSized}
use Rattle.swift_store.specs.Shelf.{Writes, container_head, with_container}
use Rattle.swift_store.specs.Serving.{TagsList, TagsWith, etag_in, is_gone_reply}
use Rattle.swift_store.specs.declared.faults.StoreFault.{StoreFault}
use Rattle.swift_store.proofs.Listed.{good_sized}
use Rattle.swift_store.specs.declared.faults.StoreFault.TheVariants.{Failed, Memory}

-- nothing was written
pub unwritten : (old written new : SwiftAccount) (fault : StoreFault) → new ≡ old → Writes {A = Unit {0}} old written new (Err fault)
unwritten old written new Failed same = inl same
unwritten old written new Memory same = same

pub head_leaves : (n : List ℕ) (account : SwiftAccount) → account ≡ (swift_step (HeadContainer n) account).tree
head_leaves n account = by (get account n)
  where
    by : (v : Option SwiftContainer) → account ≡ (head_container v account).tree
    by None = refl
    by (Some c) = refl

-- ---- POST of a container

pub posted : (n : List ℕ) (readers kept : ReadList) (created : Option ℕ) (account later : SwiftAccount) → Some (kept, created) ≡ option_map container_head (get account n) → later ≡ account
    → with_container n readers created later ≡ (swift_step (PostContainer n readers) account).tree
posted n readers kept created account later e same = ap (with_container n readers created) same ∙ by (get account n) refl e
  where
    by : (v : Option SwiftContainer) → get account n ≡ v → Some (kept, created) ≡ option_map container_head v → (put_container v n readers created account).tree ≡ (post_container v n readers account).tree
    by None at e = absurd (none-some _ (sym e))
    by (Some c) at e =
        let given : created ≡ c.created = ap (λ (p : ReadList × Option ℕ). p.1) (same_Some (kept, created) (container_head c) e) in
        adjust_same by_name n (with_head readers created) (with_readers readers) account (λ x is. λ i. record x { readers = readers; created = (given ∙ ap (λ (y : SwiftContainer). y.created) (same_Some c x (sym at ∙ is))) i })

-- the creation time that is told can be given again
pub moment_told : (readers : ReadList) (created : Option ℕ) (head : Option (ReadList × Option ℕ)) → Some (readers, created) ≡ head
    → IfSome head (λ told. IfSome told.1 IsMoment) → IfSome created IsMoment
moment_told readers created head is told = subst (λ (h : Option (ReadList × Option ℕ)). IfSome h (λ t. IfSome t.1 IsMoment)) (sym is) told

-- what was written of it, or failed
pub posted_by : (n : List ℕ) (readers kept : ReadList) (created : Option ℕ) (account later new : SwiftAccount) (result : Result (Unit {0}) StoreFault) → Some (kept, created) ≡ option_map container_head (get account n) → later ≡ account
    → Writes later (with_container n readers created later) new result → Writes account (swift_step (PostContainer n readers) account).tree new result
posted_by n readers kept created account later new (Ok done) e same writes = writes ∙ posted n readers kept created account later e same
posted_by n readers kept created account later new (Err Failed) e same (inl stayed) = inl (stayed ∙ same)
posted_by n readers kept created account later new (Err Failed) e same (inr done) = inr (done ∙ posted n readers kept created account later e same)
posted_by n readers kept created account later new (Err Memory) e same stayed = stayed ∙ same

pub not_posted : (n : List ℕ) (readers : ReadList) (account : SwiftAccount) → None ≡ option_map container_head (get account n) → account ≡ (swift_step (PostContainer n readers) account).tree
not_posted n readers account e = by (get account n) e
  where
    by : (v : Option SwiftContainer) → None ≡ option_map container_head v → account ≡ (post_container v n readers account).tree
    by None e = refl
    by (Some c) e = absurd (none-some _ e)

-- ---- DELETE of a container

pub dropped : (n : List ℕ) (account : SwiftAccount) (reply : SwiftReply) → is_gone_reply reply ≡ true → reply ≡ (swift_step (DeleteContainer n) account).reply → remove account n ≡ (swift_step (DeleteContainer n) account).tree
dropped n account reply gone e = by (get account n) (sym (ap is_gone_reply e) ∙ gone)
  where
    on_test : (b : Bool) → is_gone_reply (delete_by b n account).reply ≡ true → remove account n ≡ (delete_by b n account).tree
    on_test true e = refl
    on_test false e = absurd (true≢false (sym e))

    by : (v : Option SwiftContainer) → is_gone_reply (delete_container v n account).reply ≡ true → remove account n ≡ (delete_container v n account).tree
    by None e = absurd (true≢false (sym e))
    by (Some c) e = on_test (is_bare c) e

pub not_dropped : (n : List ℕ) (account : SwiftAccount) (reply : SwiftReply) → is_gone_reply reply ≡ false → reply ≡ (swift_step (DeleteContainer n) account).reply → account ≡ (swift_step (DeleteContainer n) account).tree
not_dropped n account reply gone e = by (get account n) (sym (ap is_gone_reply e) ∙ gone)
  where
    on_test : (b : Bool) → is_gone_reply (delete_by b n account).reply ≡ false → account ≡ (delete_by b n account).tree
    on_test true e = absurd (true≢false e)
    on_test false e = refl

    by : (v : Option SwiftContainer) → is_gone_reply (delete_container v n account).reply ≡ false → account ≡ (delete_container v n account).tree
    by None e = refl
    by (Some c) e = on_test (is_bare c) e

-- ---- PUT of an object

module _ (put : FilePut) (account : SwiftAccount) where
  abbrev taken : Bool
  taken = is_taken put.fresh (find_object account put.container put.name)

  abbrev put_into : Bool → Option SwiftContainer → Answer
  put_into b v = put_unless b (put_object v put.container put.name (plain_file put) account) account

  written : (reply : SwiftReply) (etag : List ℕ) → Some etag ≡ etag_in reply → reply ≡ (swift_step (PutObject put) account).reply
      → put_file put.container put.name (plain_file put) account ≡ (swift_step (PutObject put) account).tree
  written reply etag tag e = by taken (get account put.container) (tag ∙ ap etag_in e)
    where
      by : (b : Bool) (v : Option SwiftContainer) → Some etag ≡ etag_in (put_into b v).reply → put_file put.container put.name (plain_file put) account ≡ (put_into b v).tree
      by true v e = absurd (none-some _ (sym e))
      by false None e = absurd (none-some _ (sym e))
      by false (Some folder) e = refl

  pub put_by : (reply : SwiftReply) (etag : List ℕ) (new : SwiftAccount) (result : Result (Unit {0}) StoreFault) → Some etag ≡ etag_in reply → reply ≡ (swift_step (PutObject put) account).reply
      → Writes account (put_file put.container put.name (plain_file put) account) new result → Writes account (swift_step (PutObject put) account).tree new result
  put_by reply etag new result tag e writes = subst (λ (tree : SwiftAccount). Writes account tree new result) (written reply etag tag e) writes

  pub not_put : (reply : SwiftReply) → None ≡ etag_in reply → reply ≡ (swift_step (PutObject put) account).reply → account ≡ (swift_step (PutObject put) account).tree
  not_put reply tag e = by taken (get account put.container) (tag ∙ ap etag_in e)
    where
      by : (b : Bool) (v : Option SwiftContainer) → None ≡ etag_in (put_into b v).reply → account ≡ (put_into b v).tree
      by true v e = refl
      by false None e = refl
      by false (Some folder) e = absurd (none-some _ e)

-- the ETag that is answered is that of the object
pub tagged : (body : List ℕ) (reply : SwiftReply) (etag : List ℕ) → TagsWith body reply → Some etag ≡ etag_in reply → etag ≡ etag_of (Plain body)
tagged body reply etag tags e = by reply tags e
  where
    by : (reply : SwiftReply) → TagsWith body reply → Some etag ≡ etag_in reply → etag ≡ etag_text body
    by replies.Made tags e = absurd (none-some _ (sym e))
    by replies.There tags e = absurd (none-some _ (sym e))
    by replies.Gone tags e = absurd (none-some _ (sym e))
    by (replies.Stored tag) tags e = same_Some etag tag e ∙ tags
    by replies.NotFound tags e = absurd (none-some _ (sym e))
    by replies.Exists tags e = absurd (none-some _ (sym e))
    by replies.NotEmpty tags e = absurd (none-some _ (sym e))
    by replies.BadManifest tags e = absurd (none-some _ (sym e))
    by replies.Unsatisfiable tags e = absurd (none-some _ (sym e))
    by (replies.Containers names) tags e = absurd (none-some _ (sym e))
    by (replies.Readers readers created) tags e = absurd (none-some _ (sym e))
    by (replies.Names items) tags e = absurd (none-some _ (sym e))
    by (replies.Head head) tags e = absurd (none-some _ (sym e))
    by (replies.Bytes head bytes) tags e = absurd (none-some _ (sym e))
    by (replies.Manifest list) tags e = absurd (none-some _ (sym e))

abbrev own_text : Content → List ℕ
own_text (Plain bytes) = bytes
own_text (Segments segments) = []

abbrev own_list : Content → List Segment
own_list (Plain bytes) = []
own_list (Segments segments) = segments

own_made : (body : List ℕ) → length body ≤ most_body → IsMadeContent (Plain body)
own_made body within = record {
  own = λ bytes e. subst (λ (l : List ℕ). length l ≤ most_body) (ap own_text e) within;
  list = λ segments e. absurd (true≢false (sym (ap is_list e)));
}

list_content : (segments : List Segment) → IsMadeList segments → IsMadeContent (Segments segments)
list_content segments made = record {
  own = λ bytes e. absurd (true≢false (ap is_list e));
  list = λ others e. subst (λ (l : List Segment). IsMadeList l) (ap own_list e) made;
}

-- an object that a call puts
pub put_made : (put : FilePut) → Fit (PutObject put) → IsMadeObject put.name (plain_file put)
put_made put fit = record { named = fit.1; content_type = fit.2; meta = fit.3; content = own_made put.body fit.4 }

-- ---- PUT of segments

module _ (c n content_type : List ℕ) (meta : List (List ℕ)) (segments : List Segment) (account : SwiftAccount) where
  abbrev list : SwiftObject
  list = record { content_type = content_type; meta = meta; content = Segments segments }

  put_list : (reply : SwiftReply) (etag : List ℕ) → Some etag ≡ etag_in reply → reply ≡ (swift_step (PutManifest c n content_type meta segments) account).reply
      → put_file c n list account ≡ (swift_step (PutManifest c n content_type meta segments) account).tree
  put_list reply etag tag e = by (get account c) (tag ∙ ap etag_in e)
    where
      good : (b : Bool) (folder : SwiftContainer) → Some etag ≡ etag_in (put_listed b (Some folder) c n list account).reply → put_file c n list account ≡ (put_listed b (Some folder) c n list account).tree
      good true folder e = refl
      good false folder e = absurd (none-some _ (sym e))

      by : (v : Option SwiftContainer) → Some etag ≡ etag_in (put_manifest v c n content_type meta segments account).reply → put_file c n list account ≡ (put_manifest v c n content_type meta segments account).tree
      by None e = absurd (none-some _ (sym e))
      by (Some folder) e = good (is_good_list (find_object account) segments) folder e

  pub put_list_by : (reply : SwiftReply) (etag : List ℕ) (new : SwiftAccount) (result : Result (Unit {0}) StoreFault) → Some etag ≡ etag_in reply → reply ≡ (swift_step (PutManifest c n content_type meta segments) account).reply
      → Writes account (put_file c n list account) new result → Writes account (swift_step (PutManifest c n content_type meta segments) account).tree new result
  put_list_by reply etag new result tag e writes = subst (λ (tree : SwiftAccount). Writes account tree new result) (put_list reply etag tag e) writes

  pub not_put_list : (reply : SwiftReply) → None ≡ etag_in reply → reply ≡ (swift_step (PutManifest c n content_type meta segments) account).reply → account ≡ (swift_step (PutManifest c n content_type meta segments) account).tree
  not_put_list reply tag e = by (get account c) (tag ∙ ap etag_in e)
    where
      good : (b : Bool) (folder : SwiftContainer) → None ≡ etag_in (put_listed b (Some folder) c n list account).reply → account ≡ (put_listed b (Some folder) c n list account).tree
      good true folder e = absurd (none-some _ e)
      good false folder e = refl

      by : (v : Option SwiftContainer) → None ≡ etag_in (put_manifest v c n content_type meta segments account).reply → account ≡ (put_manifest v c n content_type meta segments account).tree
      by None e = refl
      by (Some folder) e = good (is_good_list (find_object account) segments) folder e

-- the ETag that is answered is that of the segments, and they may be listed
list_tags : (segments : List Segment) (reply : SwiftReply) (etag : List ℕ) → TagsList segments reply → Some etag ≡ etag_in reply → (etag ≡ etag_of (Segments segments)) × IsSized segments
list_tags segments reply etag tags e = by reply tags e
  where
    by : (reply : SwiftReply) → TagsList segments reply → Some etag ≡ etag_in reply → (etag ≡ etag_of (Segments segments)) × IsSized segments
    by replies.Made tags e = absurd (none-some _ (sym e))
    by replies.There tags e = absurd (none-some _ (sym e))
    by replies.Gone tags e = absurd (none-some _ (sym e))
    by (replies.Stored tag) tags e = (same_Some etag tag e ∙ tags.0, tags.1)
    by replies.NotFound tags e = absurd (none-some _ (sym e))
    by replies.Exists tags e = absurd (none-some _ (sym e))
    by replies.NotEmpty tags e = absurd (none-some _ (sym e))
    by replies.BadManifest tags e = absurd (none-some _ (sym e))
    by replies.Unsatisfiable tags e = absurd (none-some _ (sym e))
    by (replies.Containers names) tags e = absurd (none-some _ (sym e))
    by (replies.Readers readers created) tags e = absurd (none-some _ (sym e))
    by (replies.Names items) tags e = absurd (none-some _ (sym e))
    by (replies.Head head) tags e = absurd (none-some _ (sym e))
    by (replies.Bytes head bytes) tags e = absurd (none-some _ (sym e))
    by (replies.Manifest list) tags e = absurd (none-some _ (sym e))

pub list_tagged : (segments : List Segment) (reply : SwiftReply) (etag : List ℕ) → TagsList segments reply → Some etag ≡ etag_in reply → etag ≡ etag_of (Segments segments)
list_tagged segments reply etag tags e = (list_tags segments reply etag tags e).0

pub list_made : (c n content_type : List ℕ) (meta : List (List ℕ)) (segments : List Segment) (reply : SwiftReply) (etag : List ℕ) → TagsList segments reply → Some etag ≡ etag_in reply → Fit (PutManifest c n content_type meta segments)
    → IsMadeObject n (record { content_type = content_type; meta = meta; content = Segments segments })
list_made c n content_type meta segments reply etag tags e fit = record {
  named = fit.1;
  content_type = fit.2;
  meta = fit.3;
  content = list_content segments (record { sized = (list_tags segments reply etag tags e).1; within = fit.4; places = fit.5 });
}

-- the same by the step
pub good_made : (c n content_type : List ℕ) (meta : List (List ℕ)) (segments : List Segment) (look : Look) → is_good_list look segments ≡ true → Fit (PutManifest c n content_type meta segments)
    → IsMadeObject n (record { content_type = content_type; meta = meta; content = Segments segments })
good_made c n content_type meta segments look good fit = record {
  named = fit.1;
  content_type = fit.2;
  meta = fit.3;
  content = list_content segments (record { sized = good_sized look segments good; within = fit.4; places = fit.5 });
}

-- ---- DELETE of an object

pub removed : (c n : List ℕ) (account : SwiftAccount) (reply : SwiftReply) → is_gone_reply reply ≡ true → reply ≡ (swift_step (DeleteObject c n) account).reply → remove_file c n account ≡ (swift_step (DeleteObject c n) account).tree
removed c n account reply gone e = by (find_object account c n) (sym (ap is_gone_reply e) ∙ gone)
  where
    by : (v : Option SwiftObject) → is_gone_reply (delete_object v c n account).reply ≡ true → remove_file c n account ≡ (delete_object v c n account).tree
    by None e = absurd (true≢false (sym e))
    by (Some found) e = refl

pub not_removed : (c n : List ℕ) (account : SwiftAccount) (reply : SwiftReply) → is_gone_reply reply ≡ false → reply ≡ (swift_step (DeleteObject c n) account).reply → account ≡ (swift_step (DeleteObject c n) account).tree
not_removed c n account reply gone e = by (find_object account c n) (sym (ap is_gone_reply e) ∙ gone)
  where
    by : (v : Option SwiftObject) → is_gone_reply (delete_object v c n account).reply ≡ false → account ≡ (delete_object v c n account).tree
    by None e = refl
    by (Some found) e = absurd (true≢false e)
