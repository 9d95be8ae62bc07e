use Rattle.std.proofs.Common.{subst, sym, ◌∙◌}
use Rattle.account_calls.specs.Interpret.{IsShownHead}
use Rattle.many_keys.proofs.Sources.{proper_head}
use Rattle.many_keys.proofs.source.proper_head_to_copy.Goals as goal

pub returns-then-is_head_to_copy-clause-proper : goal.returns-then-is_head_to_copy-clause-proper
returns-then-is_head_to_copy-clause-proper c = proper_head c.in-Some.head (sym c.is_head_to_copy.ensures ∙ c.if-is_head_to_copy.true) (subst IsShownHead c.in-Some.is c.requires.shown).1
