use Rattle.http_wire.proofs.SeenLemmas.{found_long, found_open}
use Rattle.http_wire.proofs.advance.head_found_in.Goals as goal

pub returns-then-bytes-ge-HEAD_LIMIT-clause-found : goal.returns-then-bytes-ge-HEAD_LIMIT-clause-found
returns-then-bytes-ge-HEAD_LIMIT-clause-found c =
    found_long c.args.bytes.now c.window.result.now c.look.new.headers c.window.ensures.value c.in-More.ensures.0 c.in-More.ensures.1
    c.if-bytes-ge-HEAD_LIMIT.true

pub returns-else-bytes-ge-HEAD_LIMIT-clause-found : goal.returns-else-bytes-ge-HEAD_LIMIT-clause-found
returns-else-bytes-ge-HEAD_LIMIT-clause-found c =
    found_open c.args.bytes.now c.window.result.now c.window.ensures.value c.in-More.ensures.0 c.in-More.ensures.1
    c.if-bytes-ge-HEAD_LIMIT.false
