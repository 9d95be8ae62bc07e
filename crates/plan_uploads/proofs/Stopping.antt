-- A plan stops at the call that shows why it is refused.
use Rattle.std.specs.Prelude.{◌≡◌, ◌&&◌, ℕ, true, false, cond, bytes_eq, List, Option, None, Some, Result, Ok, Err, IfOk}
use Rattle.std.specs.Cmp.Lexicographic.{pointwise}
use Rattle.std.proofs.Common.{refl, sym, ◌∙◌, true≢false}
use Rattle.s3_machine.specs.Uploads.{same_listed}
use Rattle.s3_machine.specs.declared.operation.Listed.{Listed}
use Rattle.s3_machine.specs.declared.operation.Reply.{Reply}
use Rattle.swift_calls.specs.Account.{SwiftAccount}
use Rattle.swift_calls.specs.History.{History}
use Rattle.upload_texts.specs.declared.record.Record.{Record}
use Rattle.upload_texts.specs.declared.record.Record.TheVariants.{Open, Done}
use Rattle.account_calls.specs.declared.fault.PlanFault.{PlanFault}
use Rattle.account_calls.specs.declared.fault.PlanFault.TheVariants.{Failed, Memory, Inconsistent}
use Rattle.account_calls.specs.Calls.{Asks, Bound}
use Rattle.account_calls.specs.Refusals.{Unrefused, is_refusal}
use Rattle.account_calls.specs.Shows.{in_upload}
use Rattle.account_calls.proofs.lemmas.Refusals.{no_refusal}
use Rattle.plan_uploads.specs.Completing.{ShownByParts, StopsAtBucket, end_complete_upload_sealed, lacks_bucket, to_complete_by}
use Rattle.plan_uploads.specs.Plans.{gone_behind}
use Rattle.plan_uploads.specs.declared.completed.ToComplete.{ToComplete}
use Rattle.plan_uploads.specs.declared.completed.ToComplete.TheVariants as found

-- a record is of a bucket that is there
pub found_in_bucket : (r : Option Record) (key : List ℕ) (id : ℕ) (list : List Listed) → lacks_bucket (to_complete_by r key id list) ≡ false
found_in_bucket None key id list = refl
found_in_bucket (Some (Open under content_type meta started)) key id list =
    elim (bytes_eq under key) as (λ t. lacks_bucket (cond t (found.Open (record { id = id; content_type = content_type; meta = meta; started = started })) found.NoUpload) ≡ false) [ true ↦ refl | false ↦ refl ]
found_in_bucket (Some (Done under kept etag started moment)) key id list =
    elim (bytes_eq under key && pointwise same_listed kept list) as (λ t. lacks_bucket (cond t (found.Again etag) found.NoUpload) ≡ false) [ true ↦ refl | false ↦ refl ]

pub stops_in_bucket : {T : Type 0} {m n : Bound} {given then : SwiftAccount → Type 0} {P : SwiftAccount → SwiftAccount → T → Type 0} {Q : SwiftAccount → SwiftAccount → ToComplete → Type 0} {a b c : History} {value : Result T PlanFault}
    → Asks m a b given P value → (result : Result ToComplete PlanFault) → Asks n b c then Q result → IfOk result (λ found. lacks_bucket found ≡ false) → StopsAtBucket a c result
stops_in_bucket before (Ok found) after there = λ is. absurd (true≢false (sym is ∙ there))
stops_in_bucket before (Err fault) after there = tt

-- the end of an abort, and of a completion that was sealed, is no refusal
pub gone_unrefused : (end : Result (Unit {0}) PlanFault) → Unrefused (gone_behind end)
gone_unrefused (Ok done) = refl
gone_unrefused (Err Failed) = refl
gone_unrefused (Err Memory) = tt
gone_unrefused (Err Inconsistent) = tt

pub sealed_unrefused : (finished : Result (Unit {0}) PlanFault) (reply : Reply) → is_refusal reply ≡ false → Unrefused (end_complete_upload_sealed finished reply).end
sealed_unrefused (Ok done) reply made = made
sealed_unrefused (Err Failed) reply made = made
sealed_unrefused (Err Memory) reply made = made
sealed_unrefused (Err Inconsistent) reply made = tt

pub shown_by_none : (end : Result Reply PlanFault) → Unrefused end → ShownByParts end
shown_by_none (Ok reply) made = no_refusal in_upload reply made
shown_by_none (Err fault) made = tt
