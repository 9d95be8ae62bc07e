use Rattle.std.proofs.Common.{sym, subst, arith}
use Rattle.swift_calls.specs.Step.{IsContainerName}
use Rattle.upload_records.specs.Consistent.{IsBeside}
use Rattle.sweep.proofs.Beside.{asks_err, asks_made, beside_is, folder_fits, records_cleared, segments_cleared}
use Rattle.sweep.proofs.Tally.{tallies_of}
use Rattle.leftovers.specs.Faults.{as_plan}
use Rattle.leftovers.proofs.lemmas.Faults.{plan_gives}
use Rattle.sweep.proofs.containers.sweep_missing.Goals as goal

pub sweep_stray-requires : goal.sweep_stray-requires
sweep_stray-requires g c = record { folder = subst IsContainerName (sym c.requires.folder.2) (folder_fits c.requires.folder.0 c.requires.folder.1 c.args.kind) }

pub returns-in_err-files-clause-asks : goal.returns-in_err-files-clause-asks
returns-in_err-files-clause-asks g c = λ bucket is named. asks_err (rw (named) at (c.in_err-files.ensures.asks bucket (subst (λ f. IsBeside f bucket) (sym named) (beside_is bucket is c.args.kind)))) (as_plan c.from_residual.result) (plan_gives _ _ c.from_residual.ensures.1)

pub returns-in-Records-clause-asks : goal.returns-in-Records-clause-asks
returns-in-Records-clause-asks g c = λ bucket is named.
    rw (c.in-Records.is) (asks_made _ (λ old new sound stray cleared. records_cleared bucket is old new c.in_ok-files.files stray cleared) (rw (named, c.in-Records.is) at (c.in_ok-files.ensures.asks bucket (subst (λ f. IsBeside f bucket) (sym named) (beside_is bucket is c.args.kind)))))

pub returns-in-Segments-clause-asks : goal.returns-in-Segments-clause-asks
returns-in-Segments-clause-asks g c = λ bucket is named.
    rw (c.in-Segments.is) (asks_made _ (λ old new sound stray cleared. segments_cleared bucket is old new c.in_ok-files.files stray cleared) (rw (named, c.in-Segments.is) at (c.in_ok-files.ensures.asks bucket (subst (λ f. IsBeside f bucket) (sym named) (beside_is bucket is c.args.kind)))))

pub returns-in-Records-clause-tallies : goal.returns-in-Records-clause-tallies
returns-in-Records-clause-tallies g c =
    let paid = c.in_ok-files.ensures.counted in
    let fits = c.in_ok-files.ensures.fits in
    tallies_of 0 c.in_ok-files.files 1 (omega (arith, paid)) (omega (arith, fits))

pub returns-in-Segments-clause-tallies : goal.returns-in-Segments-clause-tallies
returns-in-Segments-clause-tallies g c =
    let paid = c.in_ok-files.ensures.counted in
    let fits = c.in_ok-files.ensures.fits in
    tallies_of c.in_ok-files.files 0 1 (omega (arith, paid)) (omega (arith, fits))
