use Rattle.std.proofs.Common.{◌∙◌}
use Rattle.memory_swift.proofs.Logged.{exchanged_in_pieces}
use Rattle.memory_swift.proofs.store_link.StoreLinkLink.exchange.Goals as goal

pub returns-clause-exchanges : goal.returns-clause-exchanges
returns-clause-exchanges g c = exchanged_in_pieces _ _ _ _ _ _ _ _ (c.as_slice.ensures ∙ c.in_ok-request.ensures) c.new.ensures c.exchange_message.ensures.exchanges
