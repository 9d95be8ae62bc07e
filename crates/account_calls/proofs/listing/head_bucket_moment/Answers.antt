use Rattle.std.proofs.Common.{inr}
use Rattle.account_calls.proofs.Created.{created_reads}
use Rattle.account_calls.proofs.lemmas.One.{not_asked, asked_of, asked_of_in_vain}
use Rattle.account_calls.proofs.listing.head_bucket_moment.Goals as goal

pub returns-in_err-copy-clause-asks : goal.returns-in_err-copy-clause-asks
returns-in_err-copy-clause-asks g c = not_asked _ _ _ c.from_residual.ensures.1

pub returns-in_err-reply-clause-asks : goal.returns-in_err-reply-clause-asks
returns-in_err-reply-clause-asks g c = asked_of_in_vain (created_reads c.in_ok-copy.ensures c.requires) c.in_err-reply.ensures _ c.from_residual-in_err-reply.ensures.1

pub returns-clause-asks : goal.returns-clause-asks
returns-clause-asks g c = asked_of (created_reads c.in_ok-copy.ensures c.requires) c.in_ok-reply.ensures _ (inr c.interpret_bucket_moment.ensures.due) c.interpret_bucket_moment.ensures.own
