use Rattle.std.proofs.Common.{◌++◌, ap, ◌∙◌}
use Rattle.account_calls.specs.Listing.{next_marker}
use Rattle.account_calls.proofs.lemmas.Ask.{asks_fault, asks_told}
use Rattle.account_calls.proofs.lemmas.Pages.{more_there, tells_next}
use Rattle.account_calls.proofs.listing.add_container_names_page.Goals as goal

pub returns-in_err-page-clause-asks : goal.returns-in_err-page-clause-asks
returns-in_err-page-clause-asks g c = asks_fault (λ tree has. has) c.in_err-page.ensures.asks _ c.from_residual.ensures.1

pub returns-clause-asks : goal.returns-clause-asks
returns-clause-asks g c =
    asks_told (λ tree has. has) c.in_ok-next_marker.field-0
    (λ tree sound has tells. tells_next c.args.marker.now c.args.names.now c.add_container_names.new.names c.in_ok-page.page tree sound tells
    (c.in_ok-add_container_names.ensures ∙ ap (λ xs. c.args.names.now ++ xs) c.as_slice.ensures) c.in_ok-next_marker.field-0 (c.in_ok-next_marker.ensures ∙ ap next_marker c.as_slice-2.ensures))
    c.in_ok-page.ensures.asks

pub returns-clause-there : goal.returns-clause-there
returns-clause-there g c = λ first.
    more_there (g.W.Swift.history c.args.store.now) c.args.names.now c.in_ok-page.page c.add_container_names.new.names (c.in_ok-add_container_names.ensures ∙ ap (λ xs. c.args.names.now ++ xs) c.as_slice.ensures) c.in_ok-page.ensures.there first
