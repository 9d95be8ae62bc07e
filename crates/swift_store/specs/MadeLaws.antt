-- Laws of the accounts that calls within their limits make.
use Rattle.std.specs.Prelude.{◌≡◌, true}
use Rattle.swift_calls.specs.Account.{SwiftAccount}
use Rattle.swift_calls.specs.Step.{Fit, swift_step}
use Rattle.swift_calls.specs.declared.calls.SwiftRequest.{SwiftRequest}
use Rattle.swift_replies.specs.AnswerText.{is_spelled}
use Rattle.swift_store.specs.Made.{IsMade}

-- each such call leaves such an account
abbrev pub StaysMade : Type 0
StaysMade = (call : SwiftRequest) (account : SwiftAccount) → Fit call → IsMade account → IsMade (swift_step call account).tree

-- the reply to each such call has a spelling
abbrev pub HasSpelling : Type 0
HasSpelling = (call : SwiftRequest) (account : SwiftAccount) → Fit call → IsMade account → is_spelled call (swift_step call account).reply ≡ true
