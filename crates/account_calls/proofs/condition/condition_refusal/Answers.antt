use Rattle.std.proofs.Common.{refl, sym, ◌∙◌}
use Rattle.account_calls.proofs.lemmas.Conditions.{asks_by_call, asks_without}
use Rattle.account_calls.proofs.condition.condition_refusal.Goals as goal

pub returns-then-is_always-clause-asks : goal.returns-then-is_always-clause-asks
returns-then-is_always-clause-asks g c = asks_without _ c.args.bucket.now c.args.key.now c.args.only_if.now (sym c.is_always.ensures ∙ c.if-is_always.true)

pub returns-clause-asks : goal.returns-clause-asks
returns-clause-asks g c = asks_by_call c.args.bucket.now c.args.key.now c.args.only_if.now (sym c.is_always.ensures ∙ c.if-is_always.false) c.asked_refusal.ensures.asks
