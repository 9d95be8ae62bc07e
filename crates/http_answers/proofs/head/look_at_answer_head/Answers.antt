use Rattle.std.proofs.Common.{arith}
use Rattle.http_answers.proofs.lemmas.HeadLemmas.{dead_long}
use Rattle.http_answers.proofs.head.look_at_answer_head.Goals as goal

pub returns-else-spans-le-HEAD_LIMIT : goal.returns-else-spans-le-HEAD_LIMIT
returns-else-spans-le-HEAD_LIMIT c =
    let complete = rw c.in-Ok-Complete.field-0-is at c.in-Ok-Complete.ensures.complete in
    let within = rw c.in-Ok-Complete.field-0-is at c.in-Ok-Complete.ensures.within in
    dead_long c.args.bytes.now c.parse_response.new.headers c.in-Ok-Complete.spans complete within (omega (arith, c.if-spans-le-HEAD_LIMIT.false))
