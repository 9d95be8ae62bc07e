use Rattle.std.proofs.Common.{ap, refl, ◌∙◌, inr}
use Rattle.account_calls.specs.Listing.{names_due}
use Rattle.account_calls.proofs.lemmas.Left.{throughout_none, throughout_one}
use Rattle.account_calls.proofs.lemmas.One.{asked_of, asked_of_in_vain}
use Rattle.account_calls.proofs.lemmas.Pages.{names_there, page_reads}
use Rattle.account_calls.proofs.listing.container_names_page.Goals as goal

pub returns-in_err-reply-clause-asks : goal.returns-in_err-reply-clause-asks
returns-in_err-reply-clause-asks g c = asked_of_in_vain (page_reads c.in_ok-copy.ensures) c.in_err-reply.ensures _ c.from_residual-in_err-reply.ensures.1

pub returns-clause-asks : goal.returns-clause-asks
returns-clause-asks g c = asked_of (page_reads c.in_ok-copy.ensures) c.in_ok-reply.ensures _ (inr (c.interpret_container_names.ensures.due ∙ ap (λ m. names_due m c.in_ok-reply.reply) c.as_slice.ensures)) c.interpret_container_names.ensures.own

pub returns-in_err-copy-clause-leaves : goal.returns-in_err-copy-clause-leaves
returns-in_err-copy-clause-leaves g c = throughout_none (g.W.Swift.history c.args.store.now)

pub returns-in_err-reply-clause-leaves : goal.returns-in_err-reply-clause-leaves
returns-in_err-reply-clause-leaves g c = throughout_one (λ tree. refl) c.in_err-reply.ensures

pub returns-clause-leaves : goal.returns-clause-leaves
returns-clause-leaves g c = throughout_one (λ tree. refl) c.in_ok-reply.ensures

pub returns-clause-there : goal.returns-clause-there
returns-clause-there g c = names_there c.args.marker.now c.in_ok-reply.ensures _ (c.interpret_container_names.ensures.due ∙ ap (λ m. names_due m c.in_ok-reply.reply) c.as_slice.ensures)
