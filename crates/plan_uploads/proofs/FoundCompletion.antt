-- What is found of the upload that a completion is of, over consistent accounts on which no completion is sealed; and the steps by
-- it that change nothing.
use Rattle.std.specs.Prelude.{◌≡◌, ◌≤◌, is_some, ℕ, Bool, true, false, bytes_eq, ◌&&◌, cond, List, Option, Some, None}
use Rattle.std.specs.Cmp.Lexicographic.{pointwise}
use Rattle.std.specs.FinMap.{get}
use Rattle.std.proofs.Common.{refl, sym, ap, subst, ◌∙◌, true≢false, lit≤}
use Rattle.std.proofs.lemmas.Slice.Eq.{bytes_eq-Decides}
use Rattle.gate_base.specs.declared.page.Pair.{Pair}
use Rattle.s3_names.specs.Bucket.{is_bucket}
use Rattle.s3_names.specs.Id.{id_digits}
use Rattle.s3_machine.specs.State.{Bucket, State}
use Rattle.s3_machine.specs.Step.{S3Step, completes, completes_by, completes_open, refusal_in}
use Rattle.s3_machine.specs.Uploads.{kept_as, same_listed}
use Rattle.s3_machine.specs.declared.code.Code.TheVariants.{NoSuchBucket, NoSuchUpload}
use Rattle.s3_machine.specs.declared.operation.Label.{Label}
use Rattle.s3_machine.specs.declared.operation.Listed.{Listed}
use Rattle.s3_machine.specs.declared.operation.Settings.{Settings}
use Rattle.s3_machine.specs.declared.only_if.OnlyIf.{OnlyIf}
use Rattle.s3_machine.specs.Ops.{CompleteUpload}
use Rattle.s3_machine.specs.Replies as reply
use Rattle.s3_machine.proofs.lemmas.StepLemmas.{in_found, in_missing, step_repeated, steps}
use Rattle.swift_calls.specs.Account.{SwiftAccount, files}
use Rattle.upload_texts.specs.declared.record.Record.{Record}
use Rattle.upload_texts.specs.declared.record.Record.TheVariants.{Open, Done}
use Rattle.upload_records.specs.Layout.{segments_name, uploads_name}
use Rattle.upload_records.specs.Native.{IsSettled, bucket_from, kept_by, record_at, s3_state}
use Rattle.upload_records.specs.Consistent.{IsConsistent, IsThere}
use Rattle.account_calls.specs.Answers.{completion_calls, kept_in, named_by}
use Rattle.account_calls.specs.Calls.{LacksBucket}
use Rattle.account_calls.specs.Listing.{TellsOf}
use Rattle.upload_calls.specs.Found.{LacksUpload}
use Rattle.upload_calls.specs.Records.{ReadsId}
use Rattle.upload_calls.proofs.lemmas.Finding.{bucket_there, kept_is, no_record, no_upload}
use Rattle.plan_uploads.specs.declared.completed.Opened.{Opened}
use Rattle.plan_uploads.specs.declared.completed.ToComplete.{ToComplete}
use Rattle.plan_uploads.specs.declared.completed.ToComplete.TheVariants as found
use Rattle.plan_uploads.specs.Completing.{IsCompleted, IsOpenAs, LacksCompletion, TellsToComplete, to_complete_by}

key_is : {under key c d : List ℕ} {m n : List Pair} {s t : ℕ} → Some (Open under c m s) ≡ Some (Open key d n t) → under ≡ key
key_is e = cc

module _ (b key : List ℕ) (id : ℕ) (list : List Listed) (tree : SwiftAccount) (settled : IsSettled tree) (there : IsThere tree b) where
  -- no completion is kept by a record of this kind
  unkept_by : (r : Option Record) → record_at (files tree (uploads_name b)) (id_digits id) ≡ r → kept_as key list (kept_by r) ≡ None
      → kept_as key list (kept_by (record_at (files tree (uploads_name b)) (id_digits id))) ≡ None
  unkept_by r e none = ap (λ r. kept_as key list (kept_by r)) e ∙ none

  -- what is found by a record
  pub tells_completion : (r : Option Record) → record_at (files tree (uploads_name b)) (id_digits id) ≡ r → TellsToComplete b key (id_digits id) list tree (to_complete_by r key id list)
  tells_completion None e = record {
    settled = settled;
    there = there;
    unkept = unkept_by None e refl;
    closed = λ content_type meta started f. let never : None ≡ Some (Open key content_type meta started) = sym e ∙ f in cc;
  }
  tells_completion (Some (Done under kept etag started moment)) e =
      elim (bytes_eq under key && pointwise same_listed kept list) as (λ t. bytes_eq under key && pointwise same_listed kept list ≡ t → TellsToComplete b key (id_digits id) list tree (cond t (found.Again etag) found.NoUpload)) [
        | true ↦ λ same. record {
          settled = settled;
          there = there;
          kept = ap (λ r. kept_as key list (kept_by r)) e ∙ ap (λ t. cond t (Some etag) None) same;
        }
        | false ↦ λ other. record {
          settled = settled;
          there = there;
          unkept = unkept_by (Some (Done under kept etag started moment)) e (ap (λ t. cond t (Some etag) None) other);
          closed = λ content_type meta begun f. let never : Some (Done under kept etag started moment) ≡ Some (Open key content_type meta begun) = sym e ∙ f in cc;
        }
      ] refl
  tells_completion (Some (Open under content_type meta started)) e =
      elim (bytes_eq under key) as (λ t. bytes_eq under key ≡ t
      → TellsToComplete b key (id_digits id) list tree (cond t (found.Open (record { id = id; content_type = content_type; meta = meta; started = started })) found.NoUpload)) [
        | true ↦ λ same. record {
          settled = settled;
          there = there;
          is = refl;
          reads = e ∙ ap (λ k. Some (Open k content_type meta started)) ((bytes_eq-Decides under key).0 same);
        }
        | false ↦ λ other. record {
          settled = settled;
          there = there;
          unkept = unkept_by (Some (Open under content_type meta started)) e refl;
          closed = λ c m s f. absurd (true≢false (sym ((bytes_eq-Decides under key).1 (key_is (sym e ∙ f))) ∙ other));
        }
      ] refl

-- under a text that isn't that of an id nothing is open, and nothing is kept
pub no_completion : (tree : SwiftAccount) (b key text : List ℕ) (list : List Listed) → is_bucket b ≡ true → IsConsistent tree → IsSettled tree → IsThere tree b → ReadsId text None → LacksCompletion b key text list tree
no_completion tree b key text list is sound settled there none = record {
  settled = settled;
  there = there;
  unkept = by (record_at (files tree (uploads_name b)) text) refl;
  closed = λ content_type meta started f. no_record tree b text (Open key content_type meta started) is sound there none f;
}
  where
    by : (r : Option Record) → record_at (files tree (uploads_name b)) text ≡ r → kept_as key list (kept_by r) ≡ None
    by None e = refl
    by (Some r) e = absurd (no_record tree b text r is sound there none e)

-- ---- the steps

module _ (settings : Settings) (bucket key text : List ℕ) (list : List Listed) (only_if : OnlyIf) (label : Label) where
  pub complete_missing : (state : State) → LacksBucket bucket state → S3Step settings state (CompleteUpload bucket key text list only_if) label (reply.Refused NoSuchBucket) state
  complete_missing state missing = steps _ _ 0 tt (in_missing state bucket missing (completes settings state bucket key text list only_if label.moment))

  module _ (tree : SwiftAccount) (is : is_bucket bucket ≡ true) where
    pub complete_lost : LacksCompletion bucket key text list tree → S3Step settings (s3_state tree) (CompleteUpload bucket key text list only_if) label (reply.Refused NoSuchUpload) (s3_state tree)
    complete_lost lacks =
        let it = bucket_there tree bucket is lacks.settled lacks.there in
        let b : Bucket = bucket_from (files tree (uploads_name bucket)) (files tree (segments_name bucket)) it.folder in
        let none : LacksUpload bucket key text tree = record { settled = lacks.settled; there = lacks.there; none = lacks.closed } in
        let kept : kept_as key list (get b.kept text) ≡ None = ap (kept_as key list) (kept_is tree bucket is lacks.settled lacks.there text) ∙ lacks.unkept in
        steps _ _ 0 tt (
        in_found (s3_state tree) bucket b it.is (completes settings (s3_state tree) bucket key text list only_if label.moment)
        ∙ ap (λ v. completes_by v settings (s3_state tree) bucket key text list only_if label.moment b) kept
        ∙ no_upload bucket key text tree is none (completes_open settings (s3_state tree) bucket text list (refusal_in only_if key b) label.moment))

    pub completed_again : (etag : List ℕ) → IsCompleted bucket key text list etag tree → S3Step settings (s3_state tree) (CompleteUpload bucket key text list only_if) label (reply.Completed bucket key etag) (s3_state tree)
    completed_again etag completed =
        let it = bucket_there tree bucket is completed.settled completed.there in
        step_repeated settings (s3_state tree) bucket label (bucket_from (files tree (uploads_name bucket)) (files tree (segments_name bucket)) it.folder) it.is key text list only_if etag
        (ap (kept_as key list) (kept_is tree bucket is completed.settled completed.there text) ∙ completed.kept)

-- ---- how many segments are counted

-- as many are named by the id of the upload that was found as by its text before
pub named_alike : {bucket key text : List ℕ} {list : List Listed} {opened : Opened} {old new : SwiftAccount} {value : ToComplete} → value ≡ found.Open opened → TellsOf (TellsToComplete bucket key text list) old new value
    → named_by new bucket (id_digits opened.id) ≡ named_by old bucket text
named_alike {bucket = bucket} {key = key} {text = text} {list = list} {opened = opened} {old = old} is tells =
    let it : IsOpenAs bucket key text opened old = subst (TellsToComplete bucket key text list old) is tells.of_account in
    ap (λ tree. named_by tree bucket (id_digits opened.id)) tells.same ∙ ap (named_by old bucket) (sym it.is)

-- ---- how many calls there may be

two_if : (t : Bool) (n : ℕ) → 2 ≤ n → 2 ≤ cond t 2 n
two_if true n within = lit≤ tt
two_if false n within = within

-- at least the two by which the upload is found
pub two_calls : (n : ℕ) (state : State) (bucket key text : List ℕ) (list : List Listed) → 2 ≤ n → 2 ≤ completion_calls n state bucket key text list
two_calls n state bucket key text list within = two_if (is_some (kept_as key list (kept_in (get state bucket) text))) n within

-- and more where the upload is open, since no completion of it is kept then
pub unkept_calls : (m n : ℕ) {opened : Opened} {told : List Listed} {new : SwiftAccount} {value : ToComplete} (old : SwiftAccount) (bucket key text : List ℕ) (list : List Listed) → is_bucket bucket ≡ true
    → value ≡ found.Open opened → TellsOf (TellsToComplete bucket key text told) old new value → m ≤ n → m ≤ completion_calls n (s3_state old) bucket key text list
unkept_calls m n {opened = opened} {told = told} old bucket key text list is same tells within =
    let open_as : IsOpenAs bucket key text opened old = subst (TellsToComplete bucket key text told old) same tells.of_account in
    let it = bucket_there old bucket is open_as.settled open_as.there in
    let unkept : kept_as key list (kept_in (get (s3_state old) bucket) text) ≡ None =
    ap (λ o. kept_as key list (kept_in o text)) it.is
    ∙ ap (kept_as key list) (kept_is old bucket is open_as.settled open_as.there text)
    ∙ ap (λ r. kept_as key list (kept_by r)) open_as.reads in
    subst (λ o. m ≤ cond (is_some o) 2 n) (sym unkept) within
