-- What the calls of an operation amounted to where none of them failed is so over the history in which no call failed.
use Rattle.std.specs.Prelude.{◌≡◌, ◌⊎◌, ◌≤◌, ◌+◌, ℕ, Bool, true, false}
use Rattle.std.proofs.Common.{inl, inr, arith}
use Rattle.gate_base.specs.Causes.{Rose}
use Rattle.s3_machine.specs.declared.operation.Label.{Label}
use Rattle.s3_machine.specs.declared.operation.Settings.{Settings}
use Rattle.s3_machine.specs.declared.operation.Op.{Op}
use Rattle.s3_machine.specs.declared.operation.Reply.{Reply}
use Rattle.swift_calls.specs.History.{History, budget, FaultFree}
use Rattle.account_calls.specs.Stutters.{Stutters, calm, LastFailed}
use Rattle.account_calls.specs.Answers.{Passes, is_old_if_out_of_memory, OldIf, AnswersBy, machine, unavailable, memory, Answers}

-- the accounts are the same, and quiet calls and steps speak of them alone
pub quiet_calm : {h : History} {p q : ℕ} → Stutters h p q → Stutters (calm h) p q
quiet_calm quiet = record { ordered = quiet.ordered; same = quiet.same; sound = quiet.sound }

pub passes_calm : {h : History} {settings : Settings} {p t q : ℕ} {op : Op} {label : Label} {takes : ℕ} → Passes settings h p t q op label takes → Passes settings (calm h) p t q op label takes
passes_calm passes = record { after_p = passes.after_p; up_to_q = passes.up_to_q; stage = passes.stage; rises = passes.rises; before = passes.before; since = passes.since; is = passes.is; sound = passes.sound }

-- where no call failed, the last one didn't
pub none_failed : {h : History} {b c p q : ℕ} → FaultFree h b c → b ≤ p → p ≤ q → q ≤ c → LastFailed h p q → ⊥
none_failed {h = h} {b = b} {q = q} none from order to failed = let after_p = failed.after_p in by failed.last (omega arith) failed.fails
  where
    by : (last : ℕ) → b ≤ last → ((q ≡ last + 1) × Rose (h.faults_at last) (h.faults_at q)) ⊎ ((q ≡ last) × (budget ≤ last)) → ⊥
    by last after_b (inl (next, rose)) = none last q after_b (omega arith) to (inl rose)
    by last after_b (inr (same, spent)) = none q q (omega arith) (omega arith) to (inr (omega arith))

-- a state that is the old one is so
old_if_calm : (t : Bool) (h : History) (p q : ℕ) → OldIf t h p q → OldIf t (calm h) p q
old_if_calm true h p q old = old
old_if_calm false h p q old = tt

answers_by_calm : {h : History} {settings : Settings} {b c p q : ℕ} {op : Op} {label : Label} {takes : ℕ} {reply : Reply} → FaultFree h b c → b ≤ p → p ≤ q → q ≤ c
    → AnswersBy settings h p q op label takes reply → AnswersBy settings (calm h) p q op label takes reply
answers_by_calm none from order to (machine one stepped) = machine one stepped
answers_by_calm none from order to (unavailable is failed old) = absurd (none_failed none from order to failed)
answers_by_calm {h = h} {p = p} {q = q} {op = op} none from order to (memory is old) = memory is (old_if_calm (is_old_if_out_of_memory op) h p q old)

pub answers_calm : {h : History} {settings : Settings} {b c p t q : ℕ} {op : Op} {label : Label} {takes : ℕ} {reply : Reply} → FaultFree h b c → b ≤ p → q ≤ c
    → Answers settings h p t q op label takes reply → Answers settings (calm h) p t q op label takes reply
answers_calm none from to answers =
    let first = answers.passes.after_p in
    let last = answers.passes.up_to_q in
    record { passes = passes_calm answers.passes; by = answers_by_calm none from (omega arith) to answers.by }
