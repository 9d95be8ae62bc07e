use Rattle.std.proofs.Common.{refl}
use Rattle.account_calls.proofs.Drop.{drops}
use Rattle.account_calls.proofs.lemmas.One.{sent_in_vain, sent}
use Rattle.account_calls.proofs.bucket.delete_bucket_container.Goals as goal

pub returns-in_err-reply-clause-changes : goal.returns-in_err-reply-clause-changes
returns-in_err-reply-clause-changes g c = sent_in_vain (drops c.into_text.ensures.value c.into_text.ensures.fit) c.in_err-reply.ensures _ c.from_residual.ensures.1

pub returns-clause-changes : goal.returns-clause-changes
returns-clause-changes g c = sent (drops c.into_text.ensures.value c.into_text.ensures.fit) c.in_ok-reply.ensures _ c.interpret_bucket_delete.ensures.due c.interpret_bucket_delete.ensures.own
