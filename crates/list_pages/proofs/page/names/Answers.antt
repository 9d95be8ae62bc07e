use Rattle.list_pages.proofs.Asking.{page_answered, page_failed}
use Rattle.list_pages.proofs.page.names.Goals as goal

pub returns-in_err-reply-clause-asks : goal.returns-in_err-reply-clause-asks
returns-in_err-reply-clause-asks g c = page_failed _ c.in_ok-request.ensures c.in_err-reply.ensures c.from_residual-in_err-reply.ensures.1

pub returns-clause-asks : goal.returns-clause-asks
returns-clause-asks g c = page_answered _ c.in_ok-request.ensures c.in_ok-reply.ensures c.read_names_page.ensures.comes
