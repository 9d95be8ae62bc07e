use Rattle.std.proofs.Common.{inr}
use Rattle.account_calls.proofs.lemmas.One.{not_asked, asked_of, asked_of_in_vain}
use Rattle.many_keys.proofs.CutCalls.{sub_reads_so}
use Rattle.many_keys.proofs.manifests.get_sub_manifest.Goals as goal

pub returns-in_err-request-clause-asks : goal.returns-in_err-request-clause-asks
returns-in_err-request-clause-asks g c = not_asked _ _ _ c.from_residual.ensures.1

pub returns-in_err-reply-clause-asks : goal.returns-in_err-reply-clause-asks
returns-in_err-reply-clause-asks g c = asked_of_in_vain (sub_reads_so c.args.bucket.now c.args.id c.args.n c.in_ok-request.ensures.request) c.in_err-reply.ensures.calls _ c.from_residual-in_err-reply.ensures.1

pub returns-clause-asks : goal.returns-clause-asks
returns-clause-asks g c = asked_of (sub_reads_so c.args.bucket.now c.args.id c.args.n c.in_ok-request.ensures.request) c.in_ok-reply.ensures.calls _ (inr c.interpret_listed_segments.ensures.due) c.interpret_listed_segments.ensures.own
