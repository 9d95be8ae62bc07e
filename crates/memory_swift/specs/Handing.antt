-- What handing the bytes of a request to a store comes to, and how the exchanges of a link go by their numbers. Source: this
-- profile.
use Rattle.std.specs.Prelude.{◌≡◌, ◌⊎◌, ⊤, ℕ, Bool, true, false, List, Option, Some, None, Result, Ok, Err}
use Rattle.gate_base.specs.Causes.{Rose}
use Rattle.gate_base.specs.declared.faults.Memory.{Memory}
use Rattle.http_wire.specs.declared.judge.TheConstants.{MOST_BODY_LIMIT}
use Rattle.http_wire.specs.FirstMessage.{Spells}
use Rattle.http_wire.specs.declared.message.Message.{Message}
use Rattle.swift_calls.specs.Account.{SwiftAccount}
use Rattle.swift_calls.specs.Step.{swift_step}
use Rattle.swift_calls.specs.declared.calls.SwiftRequest.{SwiftRequest}
use Rattle.swift_calls.specs.declared.outcome.Outcome.{Outcome}
use Rattle.swift_calls.specs.declared.outcome.Outcome.TheVariants.{Answered, LostBefore, LostAfter}
use Rattle.swift_replies.specs.Answers.{SpellsAnswer}

-- the one message that the bytes are, from the first to the last; or they are none
abbrev pub IsMessageIn : List ℕ → Option Message → Type 0
IsMessageIn bytes (Some message) = Spells MOST_BODY_LIMIT bytes message
IsMessageIn bytes None = (message : Message) → ¬ (Spells MOST_BODY_LIMIT bytes message)

-- what was answered to the request of a call, and what that left: the spelling of the step's reply and its account, or
-- nothing where the answer is lost, and then the account is the old one or the step's
abbrev pub Hands : SwiftRequest → SwiftAccount → SwiftAccount → List ℕ → Result Bool Memory → Type 0
Hands call old new answer (Ok false) = SpellsAnswer call (swift_step call old).reply answer × (new ≡ (swift_step call old).tree)
Hands call old new answer (Ok true) = (new ≡ old) ⊎ (new ≡ (swift_step call old).tree)
Hands call old new answer (Err wanted) = new ≡ old

-- how an exchange goes: a request that is lost is not served, an answer that is lost doesn't come, and else none is lost
-- but where the store's count of faults rose. T is what the store is
abbrev pub Goes : {T : Type 0} → (T → ℕ) → Outcome → T → T → Result Bool Memory → Type 0
Goes faults Answered old new (Ok lost) = lost ≡ true → Rose (faults old) (faults new)
Goes faults LostBefore old new (Ok lost) = (lost ≡ true) × (new ≡ old)
Goes faults LostAfter old new (Ok lost) = lost ≡ true
Goes faults Answered old new (Err wanted) = ⊤
Goes faults LostBefore old new (Err wanted) = ⊥
Goes faults LostAfter old new (Err wanted) = ⊤
