use Rattle.std.proofs.Common.{refl}
use Rattle.account_calls.proofs.Files.{get_reads}
use Rattle.account_calls.proofs.lemmas.Left.{left}
use Rattle.account_calls.proofs.lemmas.One.{asked_in_vain, asked}
use Rattle.account_calls.proofs.Unchanged.{gives_unchanged}
use Rattle.account_calls.proofs.lemmas.Counted.{counted, not_counted}
use Rattle.account_calls.proofs.object.get_object.Goals as goal

pub returns-in_err-reply-clause-asks : goal.returns-in_err-reply-clause-asks
returns-in_err-reply-clause-asks g c = asked_in_vain (get_reads c.into_text.ensures.value c.into_text-2.ensures.value c.into_text.ensures.fit) c.in_err-reply.ensures _ c.from_residual.ensures.1

pub returns-clause-asks : goal.returns-clause-asks
returns-clause-asks g c = asked (get_reads c.into_text.ensures.value c.into_text-2.ensures.value c.into_text.ensures.fit) c.in_ok-reply.ensures _ c.bytes_in.ensures.due c.bytes_in.ensures.own

pub returns-clause-unchanged : goal.returns-clause-unchanged
returns-clause-unchanged g c =
    rw (c.into_text.ensures.value, c.into_text-2.ensures.value) at (gives_unchanged c.args.etag.now c.args.size c.in_ok-reply.ensures _ c.bytes_in.ensures.due)

pub returns-in_err-reply-clause-counts : goal.returns-in_err-reply-clause-counts
returns-in_err-reply-clause-counts g c = not_counted c.in_err-reply.ensures _ c.from_residual.ensures.1

pub returns-clause-counts : goal.returns-clause-counts
returns-clause-counts g c = counted c.in_ok-reply.ensures _ c.bytes_in.ensures.own

pub returns-in_err-reply-clause-leaves : goal.returns-in_err-reply-clause-leaves
returns-in_err-reply-clause-leaves g c = left (λ tree. refl) c.in_err-reply.ensures

pub returns-clause-leaves : goal.returns-clause-leaves
returns-clause-leaves g c = left (λ tree. refl) c.in_ok-reply.ensures
