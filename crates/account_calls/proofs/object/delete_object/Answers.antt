use Rattle.std.proofs.Common.{refl}
use Rattle.account_calls.proofs.Files.{deletes}
use Rattle.account_calls.proofs.lemmas.One.{sent_in_vain, sent}
use Rattle.account_calls.proofs.object.delete_object.Goals as goal

pub returns-in_err-reply-clause-changes : goal.returns-in_err-reply-clause-changes
returns-in_err-reply-clause-changes g c = sent_in_vain (deletes c.into_text.ensures.value c.into_text-2.ensures.value c.into_text.ensures.fit) c.in_err-reply.ensures _ c.from_residual.ensures.1

pub returns-clause-changes : goal.returns-clause-changes
returns-clause-changes g c = sent (deletes c.into_text.ensures.value c.into_text-2.ensures.value c.into_text.ensures.fit) c.in_ok-reply.ensures _ c.interpret_file_delete.ensures.due c.interpret_file_delete.ensures.own
