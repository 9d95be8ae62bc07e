use Rattle.std.proofs.Common.{sym, subst}
use Rattle.swift_calls.specs.Step.{IsContainerName}
use Rattle.sweep.proofs.forget_walk.aging_page.Goals as goal

pub file_page-requires-clause-folder : goal.file_page-requires-clause-folder
file_page-requires-clause-folder g c = subst IsContainerName (sym c.as_slice.ensures) c.requires.folder

pub returns-clause-page : goal.returns-clause-page
returns-clause-page g c = rw (c.as_slice-2.ensures) at c.file_page.ensures.page

pub returns-clause-asks : goal.returns-clause-asks
returns-clause-asks g c = rw (c.as_slice.ensures, c.as_slice-2.ensures) at c.file_page.ensures.asks
