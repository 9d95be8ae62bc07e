use Rattle.std.proofs.Common.{◌≡◌, ◌++◌, ap, subst, ◌∙◌, IfOk}
use Rattle.gate_base.specs.MemLine.{transcript_of}
use Rattle.http_wire.specs.Reading.{Pending}
use Rattle.memory_swift.specs.Handing.{IsMessageIn}
use Rattle.memory_swift.proofs.reading.message_at_hand.Goals as goal

pub returns : goal.returns
returns c =
    let all : c.in_ok-reader.reader.bytes ++ (transcript_of c.in_ok-line.line).rest ≡ c.args.bytes.now =
    ap (λ (r : Pending). r.bytes ++ (transcript_of c.in_ok-line.line).rest) c.in_ok-reader.ensures ∙ c.in_ok-line.ensures.rest
    in
    subst (λ b. IfOk c.read_message_at_hand.result (IsMessageIn b)) all c.read_message_at_hand.ensures
