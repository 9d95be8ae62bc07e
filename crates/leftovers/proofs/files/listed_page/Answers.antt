use Rattle.account_calls.proofs.lemmas.FilePages.{page_fault, page_told}
use Rattle.account_calls.proofs.lemmas.Left.{throughout_page}
use Rattle.leftovers.proofs.SaidFiles.{says_files}
use Rattle.leftovers.proofs.files.listed_page.Goals as goal

pub returns-in_err-names-clause-asks : goal.returns-in_err-names-clause-asks
returns-in_err-names-clause-asks g c = page_fault _ _ _ c.in_err-names.ensures.asks _ c.from_residual.ensures.1

pub returns-clause-asks : goal.returns-clause-asks
returns-clause-asks g c = page_told _ _ _ c.in_ok-names.ensures.asks

pub returns-in_err-names-clause-leaves : goal.returns-in_err-names-clause-leaves
returns-in_err-names-clause-leaves g c = throughout_page c.in_err-names.ensures.asks

pub returns-clause-leaves : goal.returns-clause-leaves
returns-clause-leaves g c = throughout_page c.in_ok-names.ensures.asks

pub returns-clause-says : goal.returns-clause-says
returns-clause-says g c = says_files _ _ _ _ c.in_ok-names.ensures.asks
