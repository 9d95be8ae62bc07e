use Rattle.std.proofs.Common.{sym, subst}
use Rattle.swift_calls.specs.Step.{Fit}
use Rattle.swift_calls.specs.Files.{PutObject}
use Rattle.sweep.proofs.AgesOne.{dated_fits}
use Rattle.sweep.proofs.forget.dated_record_request.Goals as goal

pub returns-clause-fits : goal.returns-clause-fits
returns-clause-fits c =
    subst Fit (λ i. PutObject (sym c.in_ok-container.ensures i) (sym c.in_ok-name.ensures i) (sym c.in_ok-content_type.ensures i) (sym c.new.ensures i) c.args.text)
    (dated_fits c.args.folder.now c.args.name.now c.args.text c.requires.folder c.requires.name c.requires.short)
