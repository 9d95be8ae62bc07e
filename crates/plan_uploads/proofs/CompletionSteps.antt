-- The steps of a completion of an upload that is open.
use Rattle.std.specs.Prelude.{◌≡◌, ℕ, true, false, not, List, map, Option, Some, None, bytes_eq}
use Rattle.std.proofs.Common.{refl, sym, ap, ◌∙◌}
use Rattle.std.proofs.lemmas.Slice.Eq.{bytes_eq-Decides}
use Rattle.std.specs.FinMap.{get}
use Rattle.std.specs.Option.{option_map}
use Rattle.gate_base.specs.Maps.{Names}
use Rattle.s3_names.specs.Bucket.{is_bucket}
use Rattle.s3_machine.specs.State.{Bucket, Part, State, Upload}
use Rattle.s3_machine.specs.Finish.{finished}
use Rattle.s3_machine.specs.Step.{Outcome, S3Step, completes, completes_by, completes_chosen, completes_open, etag_of_object, gives, refusal_in, unless}
use Rattle.s3_machine.specs.Step as step
use Rattle.s3_machine.specs.OnlyIf.{refusal}
use Rattle.s3_machine.specs.Uploads.{chosen, completed, etag_in, is_too_small, kept_as, rises, upload_etag}
use Rattle.s3_machine.specs.declared.code.Code.{Code}
use Rattle.s3_machine.specs.declared.code.Code.TheVariants.{EntityTooSmall, InvalidPart, InvalidPartOrder}
use Rattle.s3_machine.specs.declared.only_if.OnlyIf.{OnlyIf}
use Rattle.s3_machine.specs.declared.only_if.OnlyIf.TheVariants.{Always}
use Rattle.s3_machine.specs.declared.operation.Label.{Label}
use Rattle.s3_machine.specs.declared.operation.Listed.{Listed}
use Rattle.s3_machine.specs.Ops.{CompleteUpload}
use Rattle.s3_machine.specs.declared.operation.Reply.{Reply}
use Rattle.s3_machine.specs.declared.operation.Reply.TheVariants.{Refused}
use Rattle.s3_machine.specs.Replies.{Completed}
use Rattle.s3_machine.specs.declared.operation.Settings.{Settings}
use Rattle.s3_machine.proofs.lemmas.StepLemmas.{HasUpload, complete_held, in_found, step_completed, steps, unless_false, unless_true, upload_there}
use Rattle.s3_machine.proofs.lemmas.WriteConditions.{complete_as_always}
use Rattle.swift_calls.specs.Account.{SwiftAccount, SwiftObject, files}
use Rattle.upload_records.specs.Layout.{segments_name, uploads_name}
use Rattle.upload_records.specs.Native.{bucket_from, kept_by, object_at, parts_of, s3_state, upload_by}
use Rattle.account_calls.specs.Condition.{TellsRefusal}
use Rattle.upload_calls.proofs.lemmas.Finding.{bucket_there, kept_is, upload_is}
use Rattle.plan_uploads.specs.declared.completed.Opened.{Opened}
use Rattle.plan_uploads.specs.Completing.{IsOpenAs}

-- the upload as it was created, with the parts that stand beside its bucket
abbrev pub upload_as : SwiftAccount → List ℕ → List ℕ → List ℕ → Opened → Upload
upload_as tree bucket key text opened = record {
  key = key;
  content_type = opened.content_type;
  meta = opened.meta;
  started = opened.started;
  parts = parts_of (files tree (segments_name bucket)) text;
}

-- it is one of the state, and no completion of it is kept
pub record IsUploadOf (tree : SwiftAccount) (bucket key text : List ℕ) (opened : Opened) : Type 0 where
  pub b : Bucket
  pub in_bucket : get (s3_state tree) bucket ≡ Some b
  pub in_uploads : get b.uploads text ≡ Some (upload_as tree bucket key text opened)
  pub unkept : (list : List Listed) → kept_as key list (get b.kept text) ≡ None

module _ (tree : SwiftAccount) (bucket key text : List ℕ) (opened : Opened) (is : is_bucket bucket ≡ true) (opens : IsOpenAs bucket key text opened tree) where
  abbrev records : Names SwiftObject
  records = files tree (uploads_name bucket)

  abbrev segments : Names SwiftObject
  segments = files tree (segments_name bucket)

  is_upload : IsUploadOf tree bucket key text opened
  is_upload =
      let it = bucket_there tree bucket is opens.settled opens.there in
      record {
        b = bucket_from records segments it.folder;
        in_bucket = it.is;
        in_uploads = upload_is tree bucket is opens.settled opens.there text ∙ ap (upload_by segments text) opens.reads;
        unkept = λ list. ap (kept_as key list) (kept_is tree bucket is opens.settled opens.there text ∙ ap kept_by opens.reads);
      }

  abbrev u : Upload
  u = upload_as tree bucket key text opened

  same_key : bytes_eq key key ≡ true
  same_key = (bytes_eq-Decides key key).1 refl

  module _ (settings : Settings) (list : List Listed) (only_if : OnlyIf) (label : Label) where
    abbrev state : State
    state = s3_state tree

    -- what its condition comes to
    abbrev held : Option Code
    held = refusal_in only_if key is_upload.b

    held_by : (refused : Option Code) → TellsRefusal bucket key only_if state refused → held ≡ refused
    held_by refused told = sym (ap (λ v. refusal only_if (option_map etag_of_object (object_at v key))) is_upload.in_bucket) ∙ told

    abbrev outcome : Outcome
    outcome = completes_open settings state bucket text list held label.moment u

    refuses_by : (code : Code) → outcome ≡ step.refuses code state → S3Step settings state (CompleteUpload bucket key text list only_if) label (Refused code) state
    refuses_by code so = steps _ _ 0 tt (
        in_found state bucket is_upload.b is_upload.in_bucket (completes settings state bucket key text list only_if label.moment)
        ∙ ap (λ v. completes_by v settings state bucket key text list only_if label.moment is_upload.b) (is_upload.unkept list)
        ∙ upload_there state key text (completes_open settings state bucket text list held label.moment) is_upload.b u is_upload.in_uploads same_key
        ∙ so)

    -- the numbers of its list don't ascend
    pub order_refused : rises list ≡ false → S3Step settings state (CompleteUpload bucket key text list only_if) label (Refused InvalidPartOrder) state
    order_refused falls = refuses_by InvalidPartOrder (unless_true _ _ _ _ (ap not falls))

    module _ (ascends : rises list ≡ true) where
      by_chosen : (v : Option (List Part)) → chosen u.parts list ≡ v → outcome ≡ completes_chosen settings state bucket text list held label.moment u v
      by_chosen v is = unless_false _ _ _ _ (ap not ascends) ∙ ap (completes_chosen settings state bucket text list held label.moment u) is

      -- a part of it isn't there
      pub part_refused : chosen u.parts list ≡ None → S3Step settings state (CompleteUpload bucket key text list only_if) label (Refused InvalidPart) state
      part_refused none = refuses_by InvalidPart (by_chosen None none)

      module _ (ps : List Part) (chose : chosen u.parts list ≡ Some ps) where
        -- one is too small
        pub small_refused : is_too_small settings.least_part ps ≡ true → S3Step settings state (CompleteUpload bucket key text list only_if) label (Refused EntityTooSmall) state
        small_refused small = refuses_by EntityTooSmall (by_chosen (Some ps) chose ∙ unless_true _ _ _ _ small)

        abbrev open_upload : HasUpload state bucket key text
        open_upload = record { b = is_upload.b; u = u; in_bucket = is_upload.in_bucket; in_uploads = is_upload.in_uploads; of_key = same_key }

        -- its condition refuses it
        pub condition_refused : is_too_small settings.least_part ps ≡ false → (code : Code) → TellsRefusal bucket key only_if state (Some code)
            → S3Step settings state (CompleteUpload bucket key text list only_if) label (Refused code) state
        unfolding held_by
        condition_refused large code told =
            complete_held settings state bucket key text label open_upload list only_if ps (is_upload.unkept list) ascends chose large code (held_by (Some code) told)

        -- it is done
        pub is_completed : is_too_small settings.least_part ps ≡ false → TellsRefusal bucket key only_if state None
            → S3Step settings state (CompleteUpload bucket key text list only_if) label (Completed bucket key (upload_etag (map etag_in ps))) (finished (completed bucket text u list ps label.moment) state)
        unfolding held_by
        is_completed large told = step_completed settings state bucket key text label open_upload list only_if ps (is_upload.unkept list) ascends chose large (held_by None told)

    -- where its condition is met, it is the one without any
    pub condition_met : TellsRefusal bucket key only_if state None → (answer : Reply) (new : State) → S3Step settings state (CompleteUpload bucket key text list Always) label answer new
        → S3Step settings state (CompleteUpload bucket key text list only_if) label answer new
    unfolding held_by
    condition_met told answer new does = complete_as_always settings state bucket key only_if label is_upload.b is_upload.in_bucket (held_by None told) text list does
