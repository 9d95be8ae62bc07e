use Rattle.std.proofs.Common.{ap, sym, subst, ◌∙◌}
use Rattle.swift_calls.specs.Step.{Fit}
use Rattle.swift_calls.specs.Files.{PutObject}
use Rattle.upload_records.specs.Layout.{uploads_name}
use Rattle.account_calls.proofs.lemmas.SealStands.{record_fits}
use Rattle.recovery.proofs.sealed.rolled_forward_record_request.Goals as goal

pub returns-clause-fits : goal.returns-clause-fits
returns-clause-fits c =
    let contained = c.in_ok-container.ensures ∙ ap uploads_name c.as_slice.ensures in
    let named = c.in_ok-name.ensures ∙ c.id_digits.ensures in
    subst Fit (λ i. PutObject (sym contained i) (sym named i) (sym c.in_ok-content_type.ensures i) (sym c.new.ensures i) (sym c.requires.text i)) (record_fits c.args.sealed.now c.requires.has)
