use Rattle.std.proofs.Common.{ap, sym, subst, ◌∙◌}
use Rattle.swift_calls.specs.Step.{Fit}
use Rattle.swift_calls.specs.Files.{PutObject}
use Rattle.upload_records.specs.Layout.{uploads_name}
use Rattle.upload_calls.proofs.OpenCalls.{open_fits}
use Rattle.upload_calls.proofs.records.request_for_put_record.Goals as goal

pub returns-clause-fits : goal.returns-clause-fits
returns-clause-fits c =
    let contained = c.in_ok-container.ensures ∙ ap uploads_name c.bytes.ensures.value in
    let named = c.in_ok-name.ensures ∙ c.id_digits.ensures in
    subst Fit (λ i. PutObject (sym contained i) (sym named i) (sym c.in_ok-content_type.ensures i) (sym c.new.ensures i) c.args.text)
    (open_fits c.args.bucket.now c.args.id c.args.text c.bytes.ensures.fit c.requires.short)
