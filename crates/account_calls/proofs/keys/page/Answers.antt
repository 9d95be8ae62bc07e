use Rattle.account_calls.proofs.KeyAsks.{as_named, keys_fault, keys_told}
use Rattle.account_calls.proofs.keys.page.Goals as goal

pub returns-in_err-names-clause-asks : goal.returns-in_err-names-clause-asks
returns-in_err-names-clause-asks g c = keys_fault _ _ _ c.bytes.ensures.fit (as_named c.bytes.ensures.value c.as_slice.ensures c.in_err-names.ensures.asks) _ c.from_residual.ensures.1

pub returns-clause-asks : goal.returns-clause-asks
returns-clause-asks g c = keys_told _ _ _ c.bytes.ensures.fit (as_named c.bytes.ensures.value c.as_slice.ensures c.in_ok-names.ensures.asks)
