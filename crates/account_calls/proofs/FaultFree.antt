-- Where no call failed, the answer is the service's own, or the word that memory ran out.
use Rattle.std.specs.Prelude.{◌≡◌, ◌<◌, ◌≤◌, ◌⊎◌, ℕ}
use Rattle.std.proofs.Common.{inl, inr, arith}
use Rattle.s3_machine.specs.declared.operation.Label.{Label}
use Rattle.s3_machine.specs.declared.operation.Settings.{Settings}
use Rattle.s3_machine.specs.declared.operation.Op.{Op}
use Rattle.s3_machine.specs.declared.operation.Reply.{Reply}
use Rattle.s3_machine.specs.declared.operation.Reply.TheVariants.{Memory}
use Rattle.s3_machine.specs.Step.{S3Step}
use Rattle.swift_calls.specs.History.{History, budget, FaultFree}
use Rattle.upload_records.specs.Native.{s3_state}
use Rattle.account_calls.specs.Stutters.{calm}
use Rattle.account_calls.specs.Answers.{AnswersBy, machine, unavailable, memory}
use Rattle.account_calls.proofs.Calm.{none_failed}

pub own_or_memory : {settings : Settings} {h : History} {p q : ℕ} {op : Op} {label : Label} {takes : ℕ} {reply : Reply} → p ≤ q → FaultFree h p q → AnswersBy settings h p q op label takes reply
    → S3Step settings (s3_state (h.account_at p)) op label reply (s3_state (h.account_at q)) ⊎ (reply ≡ Memory)
own_or_memory ordered none (machine one stepped) = inl stepped
own_or_memory ordered none (unavailable is failed old) = absurd (none_failed none (omega arith) ordered (omega arith) failed)
own_or_memory ordered none (memory is old) = inr is

-- over the history in which no call failed none does, while calls are left
pub calm_never_fails : (h : History) (p q : ℕ) → q < budget → FaultFree (calm h) p q
calm_never_fails h p q left j k from order to (inl rose) = omega arith
calm_never_fails h p q left j k from order to (inr spent) = omega arith
