-- A call that changes a bucket's container alone, where no completion is sealed.
use Rattle.std.specs.Prelude.{◌≡◌, ℕ, List, true}
use Rattle.std.proofs.Common.{sym, ap, subst, ◌∙◌}
use Rattle.s3_names.specs.Bucket.{is_bucket}
use Rattle.s3_machine.specs.State.{State}
use Rattle.swift_calls.specs.declared.calls.SwiftRequest.{SwiftRequest}
use Rattle.swift_calls.specs.Account.{SwiftAccount}
use Rattle.swift_calls.specs.Step.{swift_step}
use Rattle.upload_records.specs.Native.{plain, SameGateway, IsUnsealed, s3_state}
use Rattle.upload_records.specs.Consistent.{IsConsistent}
use Rattle.upload_records.specs.Laws.{ChangesBy}
use Rattle.upload_records.proofs.lemmas.Settled.{OffSame, same_off, unsealed_same, s3_state_by_plain}

-- a call that leaves another account, where the gateway's own container is the same
pub changes_same : (tree new : SwiftAccount) (request : SwiftRequest) (f : State → State) → IsUnsealed tree → SameGateway tree new
    → (swift_step request tree).tree ≡ new → IsConsistent new → plain new ≡ f (plain tree) → ChangesBy tree request f
changes_same tree new request f unsealed same leaves sound state = record {
  sound = subst IsConsistent (sym leaves) sound;
  state = ap s3_state leaves ∙ s3_state_by_plain tree new f unsealed (unsealed_same tree new same unsealed) state;
  gateway = subst (SameGateway tree) (sym leaves) same;
}

-- a call that leaves another account, which differs in a bucket's container alone
pub changes_by : (tree new : SwiftAccount) (b : List ℕ) (request : SwiftRequest) (f : State → State) → is_bucket b ≡ true → IsUnsealed tree → OffSame tree new b
    → (swift_step request tree).tree ≡ new → IsConsistent new → plain new ≡ f (plain tree) → ChangesBy tree request f
changes_by tree new b request f is unsealed off leaves sound state = changes_same tree new request f unsealed (same_off tree new b is off) leaves sound state
