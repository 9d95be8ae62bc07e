-- The steps of the operations on uploads, from what the calls told.
use Rattle.std.specs.Prelude.{◌≡◌, ◌<◌, ◌^◌, ℕ, Bool, true, false, List, Option, Some, None}
use Rattle.std.specs.Option.{unwrap_or}
use Rattle.std.specs.FinMap.{get}
use Rattle.std.specs.List.{All}
use Rattle.std.proofs.Common.{sym, ap, subst, ◌∙◌}
use Rattle.gate_base.specs.Maps.{adjust}
use Rattle.gate_base.specs.declared.page.Pair.{Pair}
use Rattle.s3_names.specs.declared.acl.Acl.{Acl}
use Rattle.s3_names.specs.Bucket.{is_bucket}
use Rattle.s3_names.proofs.lemmas.Ids.{id_reads_back}
use Rattle.s3_machine.specs.ETag.{body_etag}
use Rattle.s3_machine.specs.Shown.{IsShownPart, IsShownUpload}
use Rattle.s3_machine.specs.State.{Bucket, Upload, State}
use Rattle.s3_machine.specs.Step.{S3Step, Outcome, IsNewId, in_bucket_by, in_upload, is_other_acl, refuses, puts_part, lists_parts, aborts, lists_uploads, starts}
use Rattle.s3_machine.specs.Uploads.{cut, drop_upload, id_value, new_part, new_upload, on_upload, uploads_after, with_part}
use Rattle.s3_machine.specs.declared.code.Code.TheVariants.{NoSuchBucket, NoSuchUpload, NotImplemented}
use Rattle.s3_machine.specs.declared.items.PartItem.{PartItem}
use Rattle.s3_machine.specs.declared.items.UploadItem.{UploadItem}
use Rattle.s3_machine.specs.declared.operation.Label.{Label}
use Rattle.s3_machine.specs.declared.operation.Settings.{Settings}
use Rattle.s3_machine.specs.Ops.{ListUploads, CreateUpload, UploadPart, ListParts, AbortUpload}
use Rattle.s3_machine.specs.Replies as reply
use Rattle.s3_machine.proofs.lemmas.StepLemmas.{steps, in_missing, in_found, step_part, step_parts, step_aborted, step_started, start_with_another_acl}
use Rattle.swift_calls.specs.Account.{SwiftAccount, files}
use Rattle.upload_records.specs.Native.{IsSettled}
use Rattle.upload_records.proofs.lemmas.Settled.{unsealed_of}
use Rattle.upload_records.proofs.lemmas.SideCalls.{open_unlisted}
use Rattle.upload_records.specs.Layout.{segments_name, uploads_name}
use Rattle.upload_records.specs.Native.{bucket_from, parts_of, s3_state}
use Rattle.account_calls.specs.Calls.{LacksBucket, TellsBucket}
use Rattle.account_calls.specs.Plan.{IsOwnReply}
use Rattle.upload_calls.specs.Found.{IsOpenUpload, LacksUpload}
use Rattle.upload_calls.specs.Records.{HasOnlyParts, HasOpen, TellsParts, TellsUploads, opens_upload, uploads_in}
use Rattle.upload_calls.specs.Records as records
use Rattle.upload_calls.proofs.lemmas.Finding.{bucket_there, has_upload, no_upload}
use Rattle.upload_calls.proofs.lemmas.Opened.{bucket_by}
use Rattle.plan_uploads.specs.Plans.{parts_told, uploads_told}

-- ---- the bucket is missing

module _ (settings : Settings) (state : State) (bucket : List ℕ) (label : Label) (missing : LacksBucket bucket state) where
  pub part_missing : (key text : List ℕ) (number : ℕ) (body : List ℕ) (checksum : Option Pair) → S3Step settings state (UploadPart bucket key text number body checksum) label (reply.Refused NoSuchBucket) state
  part_missing key text number body checksum = steps _ _ 0 tt (in_missing state bucket missing (in_upload state key text (puts_part state bucket text number (new_part label.moment body) checksum)))

  pub parts_missing : (key text : List ℕ) (marker max : ℕ) → S3Step settings state (ListParts bucket key text marker max) label (reply.Refused NoSuchBucket) state
  parts_missing key text marker max = steps _ _ 0 tt (in_missing state bucket missing (in_upload state key text (lists_parts state bucket key text marker max)))

  pub abort_missing : (key text : List ℕ) → S3Step settings state (AbortUpload bucket key text) label (reply.Refused NoSuchBucket) state
  abort_missing key text = steps _ _ 0 tt (in_missing state bucket missing (in_upload state key text (aborts state bucket text)))

  pub uploads_missing : (prefix key_marker id_marker : List ℕ) (max : ℕ) (url : Bool) → S3Step settings state (ListUploads bucket prefix key_marker id_marker max url) label (reply.Refused NoSuchBucket) state
  uploads_missing prefix key_marker id_marker max url = steps _ _ 0 tt (in_missing state bucket missing (lists_uploads state bucket prefix key_marker id_marker max url))

  pub create_missing : (key : List ℕ) (acl : Option Acl) (content_type : List ℕ) (meta : List Pair) → S3Step settings state (CreateUpload bucket key acl content_type meta) label (reply.Refused NoSuchBucket) state
  create_missing key acl content_type meta =
      steps _ _ 0 (λ b found same. let never : None ≡ Some b = sym missing ∙ found in cc)
      (in_missing state bucket missing (starts state bucket key acl (new_upload key content_type meta label.moment) 0))

-- ---- the upload

module _ (settings : Settings) (bucket key text : List ℕ) (label : Label) (tree : SwiftAccount) (is : is_bucket bucket ≡ true) where
  -- none is open
  module _ (lacks : LacksUpload bucket key text tree) where
    none_in : (f : Upload → Outcome) → in_bucket_by (get (s3_state tree) bucket) (s3_state tree) (in_upload (s3_state tree) key text f) ≡ refuses NoSuchUpload (s3_state tree)
    none_in f =
        let it = bucket_there tree bucket is lacks.settled lacks.there in
        in_found (s3_state tree) bucket (bucket_from (files tree (uploads_name bucket)) (files tree (segments_name bucket)) it.folder) it.is (in_upload (s3_state tree) key text f) ∙ no_upload bucket key text tree is lacks f

    pub part_lost : (number : ℕ) (body : List ℕ) (checksum : Option Pair) → S3Step settings (s3_state tree) (UploadPart bucket key text number body checksum) label (reply.Refused NoSuchUpload) (s3_state tree)
    part_lost number body checksum = steps _ _ 0 tt (none_in (puts_part (s3_state tree) bucket text number (new_part label.moment body) checksum))

    pub parts_lost : (marker max : ℕ) → S3Step settings (s3_state tree) (ListParts bucket key text marker max) label (reply.Refused NoSuchUpload) (s3_state tree)
    parts_lost marker max = steps _ _ 0 tt (none_in (lists_parts (s3_state tree) bucket key text marker max))

    pub abort_lost : S3Step settings (s3_state tree) (AbortUpload bucket key text) label (reply.Refused NoSuchUpload) (s3_state tree)
    abort_lost = steps _ _ 0 tt (none_in (aborts (s3_state tree) bucket text))

  -- it is open
  module _ (id : ℕ) (found : IsOpenUpload bucket key text id tree) where
    pub part_stored : (number : ℕ) (body etag : List ℕ) (checksum : Option Pair) → etag ≡ body_etag body
        → S3Step settings (s3_state tree) (UploadPart bucket key text number body checksum) label (reply.Stored etag checksum) (records.puts_part bucket id number body label.moment (s3_state tree))
    part_stored number body etag checksum same =
        subst (λ e. S3Step settings (s3_state tree) (UploadPart bucket key text number body checksum) label (reply.Stored e checksum) (records.puts_part bucket id number body label.moment (s3_state tree))) (sym same)
        (subst (λ t. S3Step settings (s3_state tree) (UploadPart bucket key text number body checksum) label (reply.Stored (body_etag body) checksum) (adjust_part t)) found.is
        (step_part settings (s3_state tree) bucket key text label (has_upload bucket key text id tree is found).has number body checksum))
      where
        adjust_part : List ℕ → State
        adjust_part t = adjust bucket (on_upload t (with_part number (new_part label.moment body))) (s3_state tree)

    pub aborted : S3Step settings (s3_state tree) (AbortUpload bucket key text) label reply.Gone (records.drops_upload bucket id (s3_state tree))
    aborted =
        subst (λ t. S3Step settings (s3_state tree) (AbortUpload bucket key text) label reply.Gone (adjust bucket (drop_upload t) (s3_state tree))) found.is
        (step_aborted settings (s3_state tree) bucket key text label (has_upload bucket key text id tree is found).has)

    pub parts_listed : id < 2 ^ 128 → (marker max : ℕ) (told : List PartItem × Bool) → TellsParts bucket id marker max tree told
        → S3Step settings (s3_state tree) (ListParts bucket key text marker max) label (parts_told bucket key id marker max told) (s3_state tree)
    parts_listed small marker max told tells =
        let it = has_upload bucket key text id tree is found in
        let value : id_value text ≡ id = ap id_value found.is ∙ ap (λ v. unwrap_or v 0) (id_reads_back id small) in
        let listed : cut max (records.items_above marker it.has.u.parts) ≡ told =
        ap (λ p. cut max (records.items_above marker p)) (it.parts ∙ ap (parts_of (files tree (segments_name bucket))) found.is) ∙ sym tells in
        subst (λ r. S3Step settings (s3_state tree) (ListParts bucket key text marker max) label r (s3_state tree))
        (λ i. reply.Parts bucket key (value i) marker max (listed i).0 (listed i).1)
        (step_parts settings (s3_state tree) bucket key text label it.has marker max)

-- ---- the bucket is there

module _ (settings : Settings) (state : State) (bucket : List ℕ) (label : Label) (acl : Acl) (told : TellsBucket bucket state (Some acl)) where
  pub it : (b : Bucket) × (get state bucket ≡ Some b) × (b.acl ≡ acl)
  it = bucket_by (get state bucket) acl told

  pub uploads_listed : (prefix key_marker id_marker : List ℕ) (max : ℕ) (url : Bool) (listed : List UploadItem × Bool) → TellsUploads bucket prefix key_marker id_marker max state listed
      → S3Step settings state (ListUploads bucket prefix key_marker id_marker max url) label (uploads_told bucket prefix key_marker id_marker max url listed) state
  uploads_listed prefix key_marker id_marker max url listed tells =
      let same : cut max (uploads_after prefix key_marker id_marker it.0.uploads) ≡ listed = ap (λ o. cut max (uploads_after prefix key_marker id_marker (uploads_in o))) (sym it.1) ∙ sym tells in
      subst (λ l. S3Step settings state (ListUploads bucket prefix key_marker id_marker max url) label (uploads_told bucket prefix key_marker id_marker max url l) state) same
      (steps _ _ 0 tt (in_found state bucket it.0 it.1 (lists_uploads state bucket prefix key_marker id_marker max url)))

  pub create_other : (key : List ℕ) (given : Option Acl) (content_type : List ℕ) (meta : List Pair) → is_other_acl given acl ≡ true
      → S3Step settings state (CreateUpload bucket key given content_type meta) label (reply.Refused NotImplemented) state
  create_other key given content_type meta other = start_with_another_acl settings state bucket label it.0 it.1 key given content_type meta (ap (is_other_acl given) it.2 ∙ other)

  pub created : (key name : List ℕ) (given : Option Acl) (content_type : List ℕ) (meta : List Pair) (id : ℕ) → name ≡ key → is_other_acl given acl ≡ false → IsNewId it.0 id
      → S3Step settings state (CreateUpload bucket key given content_type meta) label (reply.Started bucket key id) (opens_upload bucket id name content_type meta label.moment state)
  created key name given content_type meta id named same new =
      subst (λ n. S3Step settings state (CreateUpload bucket key given content_type meta) label (reply.Started bucket key id) (opens_upload bucket id n content_type meta label.moment state)) (sym named)
      (step_started settings state bucket label it.0 it.1 key given content_type meta id (ap (is_other_acl given) it.2 ∙ same) new)

-- ---- the replies are the service's own, and have a page

pub parts_are_own : (bucket key : List ℕ) (id marker max : ℕ) (told : List PartItem × Bool) → All IsShownPart told.0 → IsOwnReply (parts_told bucket key id marker max told)
parts_are_own bucket key id marker max told dated = record { showable = dated; no_memory = λ e. cc; no_failure = λ e. cc; no_inconsistency = λ e. cc }

pub uploads_are_own : (bucket prefix key_marker id_marker : List ℕ) (max : ℕ) (url : Bool) (told : List UploadItem × Bool) → All IsShownUpload told.0 → IsOwnReply (uploads_told bucket prefix key_marker id_marker max url told)
uploads_are_own bucket prefix key_marker id_marker max url told dated = record { showable = dated; no_memory = λ e. cc; no_failure = λ e. cc; no_inconsistency = λ e. cc }

-- ---- what the calls ask

-- over a consistent account all that stands under the id of an upload that is open are parts
pub only_parts : {bucket : List ℕ} {id : ℕ} {tree : SwiftAccount} → is_bucket bucket ≡ true → IsSettled tree → HasOpen bucket id tree → HasOnlyParts bucket id tree
only_parts {bucket = bucket} {id = id} {tree = tree} is settled has = λ sound. record {
  there = has.there;
  unlisted = open_unlisted tree bucket id is has.there has.opens sound (unsealed_of settled);
}
