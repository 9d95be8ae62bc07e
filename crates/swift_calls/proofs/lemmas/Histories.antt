-- What one call adds to a history, and what was told of it once is so in each later history.
use Rattle.std.specs.Prelude.{ℕ, ◌+◌, ◌<◌, ◌≤◌, Result, Ok, Err}
use Rattle.std.proofs.Common.{refl, ◌∙◌, inl, inr, arith}
use Rattle.gate_base.specs.Causes.{Rose}
use Rattle.swift_calls.specs.declared.calls.SwiftReply.{SwiftReply}
use Rattle.swift_calls.specs.declared.calls.SwiftFault.{SwiftFault}
use Rattle.swift_calls.specs.declared.calls.SwiftFault.TheVariants.{Failed, Memory}
use Rattle.swift_calls.specs.History.{budget, History, Counts, Extends, FaultFree}

-- a call is counted once or not at all
pub counts_near : (p q : ℕ) (result : Result SwiftReply SwiftFault) → Counts p q result → (p ≤ q) × (q ≤ p + 1)
counts_near p q (Ok reply) c = let e = c.1 in (omega arith, omega arith)
counts_near p q (Err Failed) (inl c) = let e = c.1 in (omega arith, omega arith)
counts_near p q (Err Failed) (inr c) = let e = c.1 in (omega arith, omega arith)
counts_near p q (Err Memory) (inl c) = let e = c.1 in (omega arith, omega arith)
counts_near p q (Err Memory) (inr e) = (omega arith, omega arith)

pub extends_refl : (c : ℕ) (h : History) → Extends c h h
extends_refl c h = record { accounts = λ k within. refl; counts = λ k within. refl }

-- what is kept up to p, and then up to q, is kept up to p
pub extends_trans : {p q : ℕ} {a b c : History} → p ≤ q → Extends p a b → Extends q b c → Extends p a c
extends_trans near first then = record {
  accounts = λ k within. then.accounts k (omega arith) ∙ first.accounts k within;
  counts = λ k within. then.counts k (omega arith) ∙ first.counts k within;
}

-- what is kept up to q is kept up to a number before it
pub extends_before : {p q : ℕ} {old new : History} → p ≤ q → Extends q old new → Extends p old new
extends_before near kept = record {
  accounts = λ k within. kept.accounts k (omega arith);
  counts = λ k within. kept.counts k (omega arith);
}

-- where counts never fall, calls are left at q, and the count at q did not rise from that at p, no call failed between them
pub is_fault_free : (h : History) (p q : ℕ) → ((j k : ℕ) → j ≤ k → k ≤ q → h.faults_at j ≤ h.faults_at k) → q < budget
    → (Rose (h.faults_at p) (h.faults_at q) → ⊥) → FaultFree h p q
is_fault_free h p q rise left still j k from order to (inl rose) =
    let before = rise p j from (omega arith) in
    let after = rise k q to (omega arith) in
    still (omega arith)
is_fault_free h p q rise left still j k from order to (inr spent) = omega arith
