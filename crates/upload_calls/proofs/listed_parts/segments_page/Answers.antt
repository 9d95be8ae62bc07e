use Rattle.std.proofs.Common.{sym, ap, subst, ◌∙◌}
use Rattle.swift_calls.specs.Step.{IsContainerName}
use Rattle.upload_records.specs.Layout.{segments_name}
use Rattle.account_calls.proofs.lemmas.One.{not_asked}
use Rattle.account_calls.proofs.lemmas.SideNames.{segments_fits}
use Rattle.upload_calls.proofs.lemmas.Taking.{as_page}
use Rattle.upload_calls.proofs.listed_parts.segments_page.Goals as goal

pub returns-in_err-folder-clause-asks : goal.returns-in_err-folder-clause-asks
returns-in_err-folder-clause-asks g c = not_asked _ _ _ c.from_residual.ensures.1

pub settled_file_page-requires-clause-folder : goal.settled_file_page-requires-clause-folder
settled_file_page-requires-clause-folder g c =
    subst IsContainerName (sym (c.as_slice.ensures ∙ c.in_ok-folder.ensures ∙ ap segments_name c.bytes.ensures.value)) (segments_fits c.args.bucket.now c.bytes.ensures.fit)

pub returns-clause-page : goal.returns-clause-page
returns-clause-page g c = rw (c.as_slice-2.ensures, c.as_slice-3.ensures) at c.settled_file_page.ensures.page

pub returns-clause-asks : goal.returns-clause-asks
returns-clause-asks g c =
    as_page _ _ _ _ _ _ (c.as_slice.ensures ∙ c.in_ok-folder.ensures ∙ ap segments_name c.bytes.ensures.value) c.as_slice-2.ensures c.as_slice-3.ensures c.settled_file_page.ensures.asks
