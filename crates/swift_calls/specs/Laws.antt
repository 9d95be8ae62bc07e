-- What the laws of this crate say.
use Rattle.std.specs.Prelude.{◌≡◌, ℕ, true, Result}
use Rattle.swift_calls.specs.Account.{SwiftAccount}
use Rattle.swift_calls.specs.Step.{swift_step, only_reads}
use Rattle.swift_calls.specs.History.{History, Called}
use Rattle.swift_calls.specs.declared.calls.SwiftRequest.{SwiftRequest}
use Rattle.swift_calls.specs.declared.calls.SwiftReply.{SwiftReply}
use Rattle.swift_calls.specs.declared.calls.SwiftFault.{SwiftFault}

-- a call that only reads leaves the account
abbrev pub ReadsLeave : Type 0
ReadsLeave = (request : SwiftRequest) (tree : SwiftAccount) → only_reads request ≡ true → (swift_step request tree).tree ≡ tree

-- and so it does in each history, whatever came of it
abbrev pub ReadsKeep : Type 0
ReadsKeep = (h : History) (p q : ℕ) (request : SwiftRequest) (result : Result SwiftReply SwiftFault)
    → only_reads request ≡ true → Called h p q request result → h.account_at q ≡ h.account_at p
