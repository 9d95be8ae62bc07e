use Rattle.account_calls.proofs.keys.list_objects.Goals as goal

pub returns-clause-asks : goal.returns-clause-asks
returns-clause-asks g c = rw c.get.ensures.value at c.listed_objects.ensures.asks
