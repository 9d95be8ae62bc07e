-- Laws of the answers: of the definitions alone, without code. Source: Object Storage API v1 and RFC 9112 as the definitions cite them.
use Rattle.std.specs.Prelude.{◌≡◌, ℕ, ◌<◌, ◌^◌, true, List, length}
use Rattle.swift_calls.specs.declared.calls.SwiftRequest.{SwiftRequest}
use Rattle.swift_calls.specs.declared.calls.SwiftReply.{SwiftReply}
use Rattle.http_answers.specs.Framing.{Ends}
use Rattle.swift_replies.specs.Answers.{asks_head, SpellsAnswer}
use Rattle.swift_replies.specs.AnswerText.{answer_text, is_spelled}
use Rattle.http_answers.specs.declared.framing.End.TheVariants.{At}

-- no bytes spell two replies to one call
abbrev pub OneReply : Type 0
OneReply = (call : SwiftRequest) (first second : SwiftReply) (bytes : List ℕ) → SpellsAnswer call first bytes → SpellsAnswer call second bytes → first ≡ second

-- bytes that spell a reply to a call are one whole answer
abbrev pub OneAnswer : Type 0
OneAnswer = (call : SwiftRequest) (reply : SwiftReply) (bytes : List ℕ) → SpellsAnswer call reply bytes → Ends (asks_head call) bytes (At (length bytes))

-- what is written for a reply that has a spelling spells it, where it is no longer than bytes can be
abbrev pub ReadsBack : Type 0
ReadsBack = (call : SwiftRequest) (reply : SwiftReply) → is_spelled call reply ≡ true → length (answer_text call reply) < 2 ^ 63
    → SpellsAnswer call reply (answer_text call reply)
