-- The reply by the end of a whole plan, and what the plan leaves beside the state.
use Rattle.std.specs.Prelude.{◌≡◌, ℕ, true, Result}
use Rattle.std.proofs.Common.{sym, subst}
use Rattle.s3_machine.specs.declared.operation.Label.{Label}
use Rattle.s3_machine.specs.declared.operation.Settings.{Settings}
use Rattle.s3_machine.specs.declared.operation.Op.{Op}
use Rattle.s3_machine.specs.declared.operation.Reply.{Reply}
use Rattle.swift_calls.specs.History.{History}
use Rattle.upload_records.specs.Native.{IsSettled}
use Rattle.account_calls.specs.declared.fault.PlanFault.{PlanFault}
use Rattle.account_calls.specs.declared.state.Known.{Known}
use Rattle.account_calls.specs.declared.state.Known.TheVariants.{Settled, Unsure}
use Rattle.account_calls.specs.Answers.{SaysBeside, beside_of, ends_by_commit, may_leave_unsure}
use Rattle.account_calls.specs.Calls.{Any, Bound, always, by_account, Given, IsWithin, Met}
use Rattle.account_calls.specs.Plan.{Answered, Plans, reply_of}
use Rattle.account_calls.specs.Refusals.{Stops, shows}
use Rattle.account_calls.proofs.lemmas.Refusals.{shown_of}
use Rattle.account_calls.proofs.lemmas.Replies.{rose_of, steady_of, consistent_of, showable_of}
use Rattle.plan_uploads.specs.Plans.{LeavesBeside}

met_any : {h : History} → Met IsSettled h → Met (Given Any) h
met_any met = record { observable = met.observable; sound = met.sound; has = record { settled = met.has; is = tt } }

within_any : (most : Bound) {P Q : Type 0} (p q : ℕ) → (Q → P) → IsWithin most P p q → IsWithin most Q p q
within_any (always n) p q from within = within
within_any (by_account n) p q from within = λ met. within (from met)

module _ {most : Bound} {a b : History} {settings : Settings} {op : Op} {label : Label} {end : Result Reply PlanFault} where
  -- a completion may be sealed after it, where the reply allows that
  pub answered_as : {known : Known} → (Met IsSettled a → SaysBeside (beside_of op) label b a.called b.called (reply_of end)) → (known ≡ Unsure → may_leave_unsure op (reply_of end) ≡ true) → Stops (shows op) 0 a b end
      → Plans most a b settings (Given Any) op label known end → Answered most a b settings op label known (reply_of end)
  answered_as beside unsure stops plans = record {
    grows = record { on = plans.grows.on; calls = within_any most a.called b.called met_any plans.grows.calls };
    refused = shown_of op a b end stops;
    showable = showable_of end plans.own;
    unavailable = rose_of (ends_by_commit op (reply_of end)) a.faults b.faults end plans.own plans.cause;
    unsure = unsure;
    steady = steady_of (ends_by_commit op (reply_of end)) a.faults b.faults end plans.cause;
    effect = λ met. let ends = plans.effect (met_any met) in (ends.committed, ends.takes, ends.answers);
    beside = beside;
    consistent = λ met. consistent_of end plans.own (plans.effect (met_any met)).consistent;
    knows = plans.knows;
  }

  -- none is
  pub answered_with : LeavesBeside (beside_of op) label a b (Given Any) end → Stops (shows op) 0 a b end → Plans most a b settings (Given Any) op label Settled end → Answered most a b settings op label Settled (reply_of end)
  answered_with leaves stops plans = answered_as (λ met. leaves.says (met_any met)) (λ is. absurd (let no : Settled ≡ Unsure = is in cc)) stops plans

-- of what is the same
pub answered_alike : {most : Bound} {a b : History} {settings : Settings} {op : Op} {label : Label} {known other : Known} {reply told : Reply} → other ≡ known → told ≡ reply
    → Answered most a b settings op label known reply → Answered most a b settings op label other told
answered_alike {most = most} {a = a} {b = b} {settings = settings} {op = op} {label = label} {known = known} {told = told} knows replies answered =
    subst (λ k. Answered most a b settings op label k told) (sym knows) (subst (Answered most a b settings op label known) (sym replies) answered)
