use Rattle.std.proofs.Common.{refl}
use Rattle.account_calls.proofs.lemmas.One.{sent_in_vain, sent}
use Rattle.account_calls.proofs.Put.{puts}
use Rattle.account_calls.proofs.bucket.put_bucket_container.Goals as goal

pub returns-in_err-reply-clause-changes : goal.returns-in_err-reply-clause-changes
returns-in_err-reply-clause-changes g c =
    sent_in_vain (puts (record { named = c.into_text.ensures.value; listed = c.container_readers_of_acl.ensures; is = c.into_text.ensures.fit; below = c.args.label.now.timed })) c.in_err-reply.ensures _ c.from_residual.ensures.1

pub returns-clause-changes : goal.returns-clause-changes
returns-clause-changes g c =
    sent (puts (record { named = c.into_text.ensures.value; listed = c.container_readers_of_acl.ensures; is = c.into_text.ensures.fit; below = c.args.label.now.timed })) c.in_ok-reply.ensures _ c.interpret_bucket_put.ensures.due c.interpret_bucket_put.ensures.own
