use Rattle.std.proofs.Common.{refl}
use Rattle.account_calls.proofs.Files.{head_reads}
use Rattle.account_calls.proofs.lemmas.Left.{left}
use Rattle.account_calls.proofs.lemmas.One.{not_asked, asked_in_vain, asked}
use Rattle.account_calls.proofs.object.head_object.Goals as goal

pub returns-in_err-container-clause-asks : goal.returns-in_err-container-clause-asks
returns-in_err-container-clause-asks g c = not_asked _ _ _ c.from_residual.ensures.1

pub returns-in_err-name-clause-asks : goal.returns-in_err-name-clause-asks
returns-in_err-name-clause-asks g c = not_asked _ _ _ c.from_residual-in_err-name.ensures.1

pub returns-in_err-reply-clause-asks : goal.returns-in_err-reply-clause-asks
returns-in_err-reply-clause-asks g c = asked_in_vain (head_reads c.in_ok-container.ensures.value c.in_ok-name.ensures.value c.in_ok-container.ensures.fit) c.in_err-reply.ensures _ c.from_residual-in_err-reply.ensures.1

pub returns-clause-asks : goal.returns-clause-asks
returns-clause-asks g c = asked (head_reads c.in_ok-container.ensures.value c.in_ok-name.ensures.value c.in_ok-container.ensures.fit) c.in_ok-reply.ensures _ c.interpret_object_head.ensures.due c.interpret_object_head.ensures.own

pub returns-in_err-container-clause-leaves : goal.returns-in_err-container-clause-leaves
returns-in_err-container-clause-leaves g c = λ observable. refl

pub returns-in_err-name-clause-leaves : goal.returns-in_err-name-clause-leaves
returns-in_err-name-clause-leaves g c = λ observable. refl

pub returns-in_err-reply-clause-leaves : goal.returns-in_err-reply-clause-leaves
returns-in_err-reply-clause-leaves g c = left (λ tree. refl) c.in_err-reply.ensures

pub returns-clause-leaves : goal.returns-clause-leaves
returns-clause-leaves g c = left (λ tree. refl) c.in_ok-reply.ensures
