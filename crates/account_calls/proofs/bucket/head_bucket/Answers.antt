use Rattle.std.proofs.Common.{refl, inr}
use Rattle.account_calls.proofs.Head.{head_reads}
use Rattle.account_calls.proofs.lemmas.Left.{left}
use Rattle.account_calls.proofs.lemmas.One.{not_asked, asked_in_vain, asked}
use Rattle.account_calls.proofs.bucket.head_bucket.Goals as goal

pub returns-in_err-copy_text-clause-asks : goal.returns-in_err-copy_text-clause-asks
returns-in_err-copy_text-clause-asks g c = not_asked _ _ _ c.from_residual.ensures.1

pub returns-in_err-reply-clause-asks : goal.returns-in_err-reply-clause-asks
returns-in_err-reply-clause-asks g c = asked_in_vain (head_reads c.in_ok-copy_text.ensures.value c.in_ok-copy_text.ensures.fit) c.in_err-reply.ensures _ c.from_residual-in_err-reply.ensures.1

pub returns-clause-asks : goal.returns-clause-asks
returns-clause-asks g c = asked (head_reads c.in_ok-copy_text.ensures.value c.in_ok-copy_text.ensures.fit) c.in_ok-reply.ensures _ (inr c.interpret_bucket_head.ensures.due) c.interpret_bucket_head.ensures.own

pub returns-in_err-copy_text-clause-leaves : goal.returns-in_err-copy_text-clause-leaves
returns-in_err-copy_text-clause-leaves g c = λ observable. refl

pub returns-in_err-reply-clause-leaves : goal.returns-in_err-reply-clause-leaves
returns-in_err-reply-clause-leaves g c = left (head_reads c.in_ok-copy_text.ensures.value c.in_ok-copy_text.ensures.fit).leaves c.in_err-reply.ensures

pub returns-clause-leaves : goal.returns-clause-leaves
returns-clause-leaves g c = left (head_reads c.in_ok-copy_text.ensures.value c.in_ok-copy_text.ensures.fit).leaves c.in_ok-reply.ensures
