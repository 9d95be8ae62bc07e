use Rattle.std.proofs.Common.{refl, ◌∙◌}
use Rattle.account_calls.proofs.lemmas.Left.{throughout_none, throughout_one}
use Rattle.account_calls.proofs.lemmas.One.{not_asked, asked_of, asked_of_in_vain}
use Rattle.leftovers.proofs.Held.{says_record}
use Rattle.leftovers.proofs.RecordReads.{record_reads}
use Rattle.leftovers.proofs.records.get_listed_record.Goals as goal

pub returns-in_err-container-clause-asks : goal.returns-in_err-container-clause-asks
returns-in_err-container-clause-asks g c = λ bucket is of. not_asked _ _ _ c.from_residual.ensures.1

pub returns-in_err-container-clause-leaves : goal.returns-in_err-container-clause-leaves
returns-in_err-container-clause-leaves g c = throughout_none (g.W.Swift.history c.args.store.now)

pub returns-in_err-name-clause-asks : goal.returns-in_err-name-clause-asks
returns-in_err-name-clause-asks g c = λ bucket is of. not_asked _ _ _ c.from_residual-in_err-name.ensures.1

pub returns-in_err-name-clause-leaves : goal.returns-in_err-name-clause-leaves
returns-in_err-name-clause-leaves g c = throughout_none (g.W.Swift.history c.args.store.now)

pub returns-in_err-reply-clause-asks : goal.returns-in_err-reply-clause-asks
returns-in_err-reply-clause-asks g c = λ bucket is of.
    asked_of_in_vain (record_reads bucket (c.in_ok-container.ensures ∙ of) c.in_ok-name.ensures is) c.in_err-reply.ensures _ c.from_residual-in_err-reply.ensures.1

pub returns-in_err-reply-clause-leaves : goal.returns-in_err-reply-clause-leaves
returns-in_err-reply-clause-leaves g c = throughout_one (λ tree. refl) c.in_err-reply.ensures

pub returns-clause-asks : goal.returns-clause-asks
returns-clause-asks g c = λ bucket is of.
    asked_of (record_reads bucket (c.in_ok-container.ensures ∙ of) c.in_ok-name.ensures is) c.in_ok-reply.ensures _ c.listed_record_in_reply.ensures.due c.listed_record_in_reply.ensures.own

pub returns-clause-leaves : goal.returns-clause-leaves
returns-clause-leaves g c = throughout_one (λ tree. refl) c.in_ok-reply.ensures

pub returns-clause-says : goal.returns-clause-says
returns-clause-says g c = says_record c.in_ok-container.ensures c.in_ok-name.ensures c.in_ok-reply.ensures _ c.listed_record_in_reply.ensures.due
