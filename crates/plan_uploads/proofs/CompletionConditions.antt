-- A completion that asks what stands under its key: where that refuses it it ends, and else it goes on as the one without a condition.
use Rattle.std.specs.Prelude.{◌≡◌, ℕ, ◌+◌, true, List, Option, None, Some, Result, Ok}
use Rattle.std.proofs.Common.{refl, sym, subst, inl, inr, arith}
use Rattle.s3_names.specs.Bucket.{is_bucket}
use Rattle.s3_machine.specs.declared.code.Code.{Code}
use Rattle.s3_machine.specs.declared.only_if.OnlyIf.{OnlyIf}
use Rattle.s3_machine.specs.declared.only_if.OnlyIf.TheVariants.{Always}
use Rattle.s3_machine.specs.declared.operation.Label.{Label}
use Rattle.s3_machine.specs.declared.operation.Listed.{Listed}
use Rattle.s3_machine.specs.Ops.{CompleteUpload}
use Rattle.s3_machine.specs.declared.operation.Reply.{Reply}
use Rattle.s3_machine.specs.declared.operation.Reply.TheVariants.{Refused}
use Rattle.s3_machine.specs.declared.operation.Settings.{Settings}
use Rattle.s3_machine.specs.Step.{S3Step}
use Rattle.s3_machine.specs.declared.items.PartItem.{PartItem}
use Rattle.swift_calls.specs.Account.{SwiftAccount}
use Rattle.swift_calls.specs.History.{History}
use Rattle.upload_records.specs.Consistent.{IsConsistent}
use Rattle.upload_records.specs.Native.{IsSettled, s3_state}
use Rattle.account_calls.specs.Answers.{condition_calls}
use Rattle.account_calls.specs.Calls.{Asks, GivenOf, Tells, always}
use Rattle.account_calls.specs.Condition.{IsOfCondition, TellsRefusal}
use Rattle.account_calls.specs.declared.fault.PlanFault.{PlanFault}
use Rattle.account_calls.specs.declared.state.Known.{Known}
use Rattle.account_calls.specs.declared.state.Known.TheVariants.{Settled}
use Rattle.account_calls.specs.Plan.{IsOwnReply, Plans}
use Rattle.account_calls.proofs.lemmas.Alike.{plans_as, plans_given}
use Rattle.account_calls.proofs.lemmas.Ends.{after_told, calls_end, goes_on_from, met_settled}
use Rattle.plan_uploads.specs.Completing.{HasParts, ShownByParts}
use Rattle.plan_uploads.specs.declared.completed.Opened.{Opened}
use Rattle.plan_uploads.proofs.CompletionCalls.{goes_on_sound}
use Rattle.plan_uploads.proofs.CompletionSteps.{condition_met}

-- a refusal by a condition is the service's own
own_refusal : (code : Code) → IsOfCondition code → IsOwnReply (Refused code)
own_refusal code (inl is) = record { showable = tt; no_memory = λ e. cc; no_failure = λ e. cc; no_inconsistency = λ e. cc }
own_refusal code (inr is) = record { showable = tt; no_memory = λ e. cc; no_failure = λ e. cc; no_inconsistency = λ e. cc }

-- by how many calls it is known isn't told
pub refused_shown : (code : Code) → IsOfCondition code → ShownByParts (Ok (Refused code))
refused_shown code (inl is) = subst (λ c. ShownByParts (Ok (Refused c))) (sym is) refl
refused_shown code (inr is) = subst (λ c. ShownByParts (Ok (Refused c))) (sym is) refl

-- its parts are there, on a consistent account
abbrev Sounds : List ℕ → List ℕ → List ℕ → Opened → List PartItem → SwiftAccount → Type 0
Sounds bucket key text opened parts tree = IsConsistent tree × HasParts bucket key text opened parts tree

-- and its condition is met
abbrev Allowed : List ℕ → List ℕ → List ℕ → Opened → List PartItem → OnlyIf → SwiftAccount → Type 0
Allowed bucket key text opened parts only_if tree = HasParts bucket key text opened parts tree × TellsRefusal bucket key only_if (s3_state tree) None

module _ {settings : Settings} (bucket key text : List ℕ) (opened : Opened) (parts : List PartItem) (list : List Listed) (only_if : OnlyIf) (label : Label) (most : ℕ) {a b : History} (is : is_bucket bucket ≡ true) where
  -- it refuses the completion
  pub refuses : {value : Option Code} (code : Code) → value ≡ Some code → IsOfCondition code → Asks (always (condition_calls only_if)) a b IsSettled (Tells (TellsRefusal bucket key only_if)) (Ok value)
      → ((tree : SwiftAccount) → IsConsistent tree → HasParts bucket key text opened parts tree → TellsRefusal bucket key only_if (s3_state tree) (Some code)
      → S3Step settings (s3_state tree) (CompleteUpload bucket key text list only_if) label (Refused code) (s3_state tree))
      → Plans (always (4 + condition_calls only_if + most)) a b settings (GivenOf (HasParts bucket key text opened parts)) (CompleteUpload bucket key text list only_if) label Settled (Ok (Refused code))
  refuses code value of asks step =
      goes_on_sound {rest = Sounds bucket key text opened parts} {n = condition_calls only_if} (omega arith) (λ tree sound has. (sound, has))
      (calls_end (always (condition_calls only_if)) (omega arith) met_settled (Some code) value (Ok (Refused code)) asks (own_refusal code of) (λ e. cc)
      (λ tree given told. (Refused code, refl, step tree given.0 given.1 told)))

  -- it doesn't, and the completion goes on as the one without a condition
  pub allows : {value : Option Code} {c : History} {now : Settings} {after : Known} {end : Result Reply PlanFault} → value ≡ None → now ≡ settings
      → Asks (always (condition_calls only_if)) a b IsSettled (Tells (TellsRefusal bucket key only_if)) (Ok value)
      → Plans (always (4 + most)) b c now (GivenOf (HasParts bucket key text opened parts)) (CompleteUpload bucket key text list Always) label after end
      → Plans (always (4 + condition_calls only_if + most)) a c settings (GivenOf (HasParts bucket key text opened parts)) (CompleteUpload bucket key text list only_if) label after end
  allows {now = now} {after = after} {end = end} value same asks plans =
      goes_on_from {rest = Allowed bucket key text opened parts only_if} {m = always (4 + most)} met_settled same asks
      (plans_as (record { parts = refl; failed = refl; out_of_memory = refl; commit = λ reply. refl })
      (λ tree given. condition_met tree bucket key text opened is given.is.0.opens now list only_if label given.is.1)
      (plans_given {given = HasParts bucket key text opened parts} {more = Allowed bucket key text opened parts only_if} (λ tree has. has.0) plans))
      (after_told (HasParts bucket key text opened parts) (Allowed bucket key text opened parts only_if) None value (λ tree has told. (has, told))) (omega arith)
