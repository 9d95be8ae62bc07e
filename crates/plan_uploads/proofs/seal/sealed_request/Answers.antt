use Rattle.std.proofs.Common.{sym, subst}
use Rattle.swift_calls.specs.Step.{Fit}
use Rattle.swift_calls.specs.Files.{PutObject}
use Rattle.plan_uploads.proofs.SealCalls.{seal_fits}
use Rattle.plan_uploads.proofs.seal.sealed_request.Goals as goal

pub returns-clause-fits : goal.returns-clause-fits
returns-clause-fits c =
    subst Fit (λ i. PutObject (sym c.in_ok-container.ensures i) (sym c.in_ok-name.ensures i) (sym c.in_ok-content_type.ensures i) (sym c.new.ensures i) c.args.text)
    (seal_fits c.args.text c.requires.short)
