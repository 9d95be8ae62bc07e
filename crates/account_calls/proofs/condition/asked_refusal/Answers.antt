use Rattle.std.specs.Option.{option_map}
use Rattle.account_calls.specs.Condition.{etag_of_head}
use Rattle.account_calls.proofs.lemmas.Conditions.{asks_no_refusal, asks_refusal, codes_by}
use Rattle.account_calls.proofs.condition.asked_refusal.Goals as goal

pub returns-in_err-head-clause-asks : goal.returns-in_err-head-clause-asks
returns-in_err-head-clause-asks g c = asks_no_refusal c.args.bucket.now c.args.key.now c.args.only_if.now c.in_err-head.ensures.asks _ c.from_residual.ensures.1

pub returns-clause-asks : goal.returns-clause-asks
returns-clause-asks g c = asks_refusal c.args.bucket.now c.args.key.now c.args.only_if.now _ c.in_ok-head.ensures.asks c.refusal_by_head.ensures

pub returns-in_err-head-clause-leaves : goal.returns-in_err-head-clause-leaves
returns-in_err-head-clause-leaves g c = c.in_err-head.ensures.leaves

pub returns-clause-leaves : goal.returns-clause-leaves
returns-clause-leaves g c = c.in_ok-head.ensures.leaves

pub returns-clause-codes : goal.returns-clause-codes
returns-clause-codes g c = codes_by c.args.only_if.now (option_map etag_of_head c.in_ok-head.head) _ c.refusal_by_head.ensures
