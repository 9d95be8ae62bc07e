-- An id that is free, and the upload that is opened under it.
use Rattle.std.specs.Prelude.{◌≡◌, ◌<◌, ◌^◌, ℕ, true, false, is_some, List, Option, Some, None, Result, Ok, Err}
use Rattle.std.specs.Option.{option_and_then, option_map}
use Rattle.std.specs.Ordering.{eq_by_cmp}
use Rattle.std.specs.FinMap.{get}
use Rattle.std.proofs.Common.{refl, sym, ap, subst, ◌∙◌, inl, inr, arith, true≢false}
use Rattle.gate_base.specs.Maps.{adjust, name_cmp}
use Rattle.gate_base.specs.declared.page.Pair.{Pair}
use Rattle.gate_base.proofs.lemmas.Maps.{by_name, same_key, at_adjust, off_insert}
use Rattle.s3_names.specs.declared.acl.Acl.{Acl}
use Rattle.s3_names.specs.Bucket.{is_bucket}
use Rattle.s3_names.specs.Id.{id_digits}
use Rattle.s3_machine.specs.State.{Bucket, Upload, State}
use Rattle.s3_machine.specs.Step.{IsNewId}
use Rattle.s3_machine.specs.Uploads.{new_upload, open_upload}
use Rattle.s3_machine.specs.declared.operation.Label.{Label}
use Rattle.s3_machine.specs.declared.operation.Reply.{Reply}
use Rattle.swift_calls.specs.Account.{SwiftAccount, files}
use Rattle.swift_calls.specs.History.{History, present}
use Rattle.upload_records.specs.Layout.{segments_name, uploads_name}
use Rattle.upload_records.specs.Native.{bucket_from, kept_by, record_of, s3_state, upload_by}
use Rattle.account_calls.specs.declared.fault.PlanFault.{PlanFault}
use Rattle.account_calls.specs.declared.fault.PlanFault.TheVariants.{Failed, Memory, Inconsistent}
use Rattle.account_calls.specs.Answers.{IsFirstFree, SaysBeside, opens_in, upload_at}
use Rattle.account_calls.specs.Calls.{Bound, always, Asks, Becomes, Changes, Commits, Given, GivenOf, TellsBucket, Writes}
use Rattle.account_calls.specs.Listing.{TellsOf}
use Rattle.account_calls.specs.Plan.{reply_of}
use Rattle.account_calls.proofs.lemmas.Ends.{met_within}
use Rattle.account_calls.proofs.lemmas.Ask.{asks_told}
use Rattle.upload_calls.specs.Records.{InBucket, MayOpen, TellsFree, opens_upload}
use Rattle.upload_calls.proofs.lemmas.Free.{unused}
use Rattle.upload_calls.proofs.lemmas.Finding.{bucket_there, in_bucket_of, kept_is, there_of, upload_is}
use Rattle.plan_uploads.specs.Plans.{LeavesBeside, MayStart}
use Rattle.plan_uploads.proofs.Beside.{opens_nothing}

-- ---- an upload that may be opened

module _ {bucket : List ℕ} {acl : Acl} {draw id : ℕ} {tree : SwiftAccount} (may : MayStart bucket acl draw id tree) where
  pub may_open : MayOpen bucket id tree
  may_open = record { there = may.there; unused = unused tree bucket (id_digits id) may.first.free }

  some_same : {x y : Bucket} → Some x ≡ Some y → x ≡ y
  some_same e = cc

  pub new_id : (is : is_bucket bucket ≡ true) → id < 2 ^ 128 → {b : Bucket} → get (s3_state tree) bucket ≡ Some b → IsNewId b id
  new_id is small {b = b} found =
      let none = (unused tree bucket (id_digits id) may.first.free).unrecorded in
      let from = bucket_there tree bucket is may.settled may.there in
      let same : bucket_from (files tree (uploads_name bucket)) (files tree (segments_name bucket)) from.folder ≡ b = some_same (sym from.is ∙ found) in
      subst (λ b. IsNewId b id) same (record {
        fits = small;
        closed = upload_is tree bucket is may.settled may.there (id_digits id) ∙ ap (λ o. upload_by (files tree (segments_name bucket)) (id_digits id) (option_and_then record_of o)) none;
        forgotten = kept_is tree bucket is may.settled may.there (id_digits id) ∙ ap (λ o. kept_by (option_and_then record_of o)) none;
      })

-- the first free id, in a bucket that has this list
pub may_start : (bucket : List ℕ) (acl : Acl) (draw : ℕ) → is_bucket bucket ≡ true → (tree : SwiftAccount) (id : ℕ) → Given (λ s. TellsBucket bucket s (Some acl)) tree → IsFirstFree tree bucket draw (id_digits id) → MayStart bucket acl draw id tree
may_start bucket acl draw is tree id has first = record { settled = has.settled; there = there_of tree bucket acl is has.settled has.is; listed = has.is; first = first }

-- ---- what is new has the id

module _ (bucket i : List ℕ) (u : Upload) (old : State) (id : List ℕ) where
  off_by : (o : Option Bucket) → eq_by_cmp name_cmp id i ≡ false → upload_at (option_map (open_upload i u) o) id ≡ upload_at o id
  off_by None off = refl
  off_by (Some b) off = off_insert by_name b.uploads i u id off

  new_is : upload_at (get old bucket) id ≡ None → is_some (upload_at (get (adjust bucket (open_upload i u) old) bucket) id) ≡ true → id ≡ i
  new_is none some = elim (same_key by_name id i) [
    | inl e ↦ e
    | inr off ↦ absurd (true≢false (sym some ∙ ap (λ o. is_some (upload_at o id)) (at_adjust by_name bucket (open_upload i u) old) ∙ ap is_some (off_by (get old bucket) off ∙ none)))
  ]

module _ (bucket : List ℕ) (id : ℕ) (key content_type : List ℕ) (meta : List Pair) (started : ℕ) (label : Label) (h : History) (p q : ℕ) (reply : Reply) (first : IsFirstFree (h.account_at p) bucket label.draw (id_digits id)) where
  by_commit : (done : Unit {0}) → Commits h p q (Becomes (opens_upload bucket id key content_type meta started) done) → SaysBeside (opens_in bucket) label h p q reply
  by_commit done commits = λ i none some.
      let is : i ≡ id_digits id = new_is bucket (id_digits id) (new_upload key content_type meta started) (s3_state (h.account_at p)) i none (subst (λ s. is_some (upload_at (get s bucket) i) ≡ true) commits.made some) in
      subst (IsFirstFree (h.account_at p) bucket label.draw) (sym is) first

  pub opens_written : (end : Result (Unit {0}) PlanFault) → Writes h p q (Becomes (opens_upload bucket id key content_type meta started)) end → SaysBeside (opens_in bucket) label h p q reply
  opens_written (Ok done) (commits, same) = by_commit done commits
  opens_written (Err Failed) (inl (quiet, failed)) = opens_nothing bucket label h p q reply quiet
  opens_written (Err Failed) (inr ((done, commits), rose)) = by_commit done commits
  opens_written (Err Memory) (inl quiet, same) = opens_nothing bucket label h p q reply quiet
  opens_written (Err Memory) (inr (done, commits), same) = by_commit done commits
  opens_written (Err Inconsistent) never = absurd never

-- the upload that a PUT of its record opened, or may have
pub opens_first : {bucket : List ℕ} {acl : Acl} {id : ℕ} (key content_type : List ℕ) (meta : List Pair) (started : ℕ) {label : Label} {a b : History} {end : Result (Unit {0}) PlanFault}
    → Changes (always 1) a b (GivenOf (MayOpen bucket id)) (Becomes (opens_upload bucket id key content_type meta started)) end → (whole : Result Reply PlanFault)
    → LeavesBeside (opens_in bucket) label a b (GivenOf (MayStart bucket acl label.draw id)) whole
opens_first {bucket = bucket} {id = id} key content_type meta started {label = label} {a = a} {b = b} {end = end} changes whole = record {
  says = λ met.
      let from : b.account_at a.called ≡ present a = (changes.grows.on.kept met.observable).accounts a.called (omega arith) in
      opens_written bucket id key content_type meta started label b a.called b.called (reply_of whole) (subst (λ tree. IsFirstFree tree bucket label.draw (id_digits id)) (sym from) met.has.is.first) end
      (changes.effect (met_within (λ tree may. may_open may) met));
}

-- ---- the search of the id

abbrev pub TellsStart : List ℕ → Acl → ℕ → SwiftAccount → ℕ → Type 0
TellsStart bucket acl draw tree id = MayStart bucket acl draw id tree

-- what it tells, in a bucket that has this list
pub asks_start : (bucket : List ℕ) (acl : Acl) (draw : ℕ) → is_bucket bucket ≡ true → {n : Bound} {a b : History} {id : ℕ} → Asks n a b (GivenOf (InBucket bucket)) (TellsOf (TellsFree bucket draw)) (Ok id)
    → Asks n a b (Given (λ s. TellsBucket bucket s (Some acl))) (TellsOf (TellsStart bucket acl draw)) (Ok id)
asks_start bucket acl draw is {id = id} asks = asks_told {Q = TellsStart bucket acl draw} (in_bucket_of bucket acl is) id (λ tree sound has first. may_start bucket acl draw is tree id has first) asks

pub start_after : {bucket : List ℕ} {acl : Acl} {draw id : ℕ} {old new : SwiftAccount} → TellsOf (TellsStart bucket acl draw) old new id → MayStart bucket acl draw id new
start_after {bucket = bucket} {acl = acl} {draw = draw} {id = id} tells = subst (MayStart bucket acl draw id) (sym tells.same) tells.of_account
