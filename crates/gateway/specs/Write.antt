-- What the writing of a reply does to the line.
use Rattle.std.specs.Prelude.{◌≡◌, ◌≢◌, ◌⊎◌, ℕ, Bool, true, false, List, Option, None, Some}
use Rattle.gate_base.specs.Transcript.{Transcript, with_piece, SendsPrefix}
use Rattle.http_wire.specs.FirstMessage.{is_head}
use Rattle.http_wire.specs.Print.{memory_reply}
use Rattle.s3_machine.specs.declared.operation.Label.{Label}
use Rattle.s3_machine.specs.declared.operation.Reply.{Reply}
use Rattle.s3_machine.specs.declared.operation.Reply.TheVariants as answer
use Rattle.gateway.specs.Request.{reply_text}
use Rattle.gateway.specs.declared.send.Stop.{Stop}
use Rattle.gateway.specs.declared.send.Stop.TheVariants as stop
use Rattle.gateway.specs.declared.write.Written.{Written}
use Rattle.gateway.specs.declared.write.Written.TheVariants.{Whole, Memory, Failed}

-- the text of the reply, or that of the out-of-memory reply
abbrev pub IsReplyText : Reply → Label → List ℕ → List ℕ → Bool → List ℕ → Type 0
IsReplyText reply label method resource closing bytes =
    ((reply ≢ answer.Memory) × (bytes ≡ reply_text reply label method resource closing)) ⊎ (bytes ≡ memory_reply (is_head method))

-- one piece was sent, after `at` calls: the whole text, the out-of-memory reply, or the first bytes of either, or none
abbrev pub WritesReply : Transcript → ℕ → Reply → Label → List ℕ → List ℕ → Bool → Written → Transcript → Type 0
WritesReply old at reply label method resource closing Whole new =
    (reply ≢ answer.Memory) × (new ≡ with_piece old at (reply_text reply label method resource closing))
WritesReply old at reply label method resource closing Memory new = new ≡ with_piece old at (memory_reply (is_head method))
WritesReply old at reply label method resource closing Failed new =
    (bytes : List ℕ) × IsReplyText reply label method resource closing bytes × SendsPrefix old at bytes new

-- these bytes, the out-of-memory reply, were sent after `at` calls, or the first of them, or none
abbrev pub WritesOutOfMemory : Transcript → ℕ → List ℕ → Written → Transcript → Type 0
WritesOutOfMemory old at bytes Whole new = ⊥
WritesOutOfMemory old at bytes Memory new = new ≡ with_piece old at bytes
WritesOutOfMemory old at bytes Failed new = SendsPrefix old at bytes new

-- whether the line failed
abbrev pub is_failed_write : Written → Bool
is_failed_write Whole = false
is_failed_write Memory = false
is_failed_write Failed = true

-- the line failed under the head of a read, or under the out-of-memory reply
abbrev pub CutsHead : Transcript → ℕ → List ℕ → List ℕ → Transcript → Type 0
CutsHead old at text method new =
    (bytes : List ℕ) × (((is_head method ≡ false) × (bytes ≡ text)) ⊎ (bytes ≡ memory_reply (is_head method))) × SendsPrefix old at bytes new

-- the head of a read was sent, after `at` calls, or the out-of-memory reply in its place, or the line failed
abbrev pub WritesHead : Transcript → ℕ → List ℕ → List ℕ → Written → Transcript → Type 0
WritesHead old at text method Whole new = new ≡ with_piece old at text
WritesHead old at text method Memory new = new ≡ with_piece old at (memory_reply (is_head method))
WritesHead old at text method Failed new = CutsHead old at text method new

-- whether the line failed under a piece
abbrev pub is_failed_stop : Option Stop → Bool
is_failed_stop None = false
is_failed_stop (Some stop.Line) = true
is_failed_stop (Some (stop.Fault fault)) = false
