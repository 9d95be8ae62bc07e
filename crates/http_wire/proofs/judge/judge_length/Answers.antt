use Rattle.std.proofs.Common.{◌≡◌, codes, ap, sym, ◌∙◌, arith}
use Rattle.std.specs.Prelude.{count_by}
use Rattle.http_wire.specs.FirstMessage.{value_judged}
use Rattle.http_wire.specs.Headers.{has_name}
use Rattle.http_wire.proofs.lemmas.MessageLemmas.{judged_many, judged_one, judged_wanting, judged_empty}
use Rattle.http_wire.proofs.judge.judge_length.Goals as goal

pub returns-then-given-gt1-clause-value : goal.returns-then-given-gt1-clause-value
returns-then-given-gt1-clause-value c =
    judged_many c.args.limit c.args.put (codes "content-length") c.args.headers.now (omega (arith, c.if-given-gt1.true, c.count_headers-given.ensures))

pub returns-then-given-eq1-clause-value : goal.returns-then-given-eq1-clause-value
returns-then-given-eq1-clause-value c =
    c.judge_value.ensures.value ∙ ap (value_judged c.args.limit) c.first_value.ensures
    ∙ judged_one c.args.limit c.args.put (codes "content-length") c.args.headers.now (sym c.count_headers-given.ensures ∙ c.if-given-eq1.true)

pub returns-then-put-clause-value : goal.returns-then-put-clause-value
returns-then-put-clause-value c =
    let none : count_by (has_name (codes "content-length")) c.args.headers.now ≡ 0 =
    omega (arith, c.if-given-gt1.false, c.if-given-eq1.false, c.count_headers-given.ensures) in
    judged_wanting c.args.limit c.args.put (codes "content-length") c.args.headers.now none c.if-put.true

pub returns-else-put-clause-value : goal.returns-else-put-clause-value
returns-else-put-clause-value c =
    let none : count_by (has_name (codes "content-length")) c.args.headers.now ≡ 0 =
    omega (arith, c.if-given-gt1.false, c.if-given-eq1.false, c.count_headers-given.ensures) in
    judged_empty c.args.limit c.args.put (codes "content-length") c.args.headers.now none c.if-put.false
