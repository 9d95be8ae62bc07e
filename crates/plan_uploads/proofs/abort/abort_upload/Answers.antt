use Rattle.std.proofs.Common.{ap, arith, rules}
use Rattle.account_calls.specs.Answers.{pages}
use Rattle.account_calls.specs.Calls.{always}
use Rattle.account_calls.proofs.lemmas.Ends.{met_settled, goes_on_from}
use Rattle.upload_calls.specs.declared.found.Found.TheVariants.{NoBucket, NoUpload, Open}
use Rattle.upload_calls.proofs.lemmas.Asking.{after_told_of, asked_in_vain, asked_reply}
use Rattle.upload_calls.proofs.lemmas.Finding.{named_same}
use Rattle.plan_uploads.proofs.Behind.{clears_fault, clears_on, clears_other}
use Rattle.plan_uploads.proofs.Steps.{abort_lost, abort_missing}
use Rattle.account_calls.proofs.lemmas.Refusals.{stops_unrefused}
use Rattle.upload_calls.specs.Found.{is_bucket_missing}
use Rattle.plan_uploads.proofs.abort.abort_upload.Goals as goal

pub returns-in_err-find_upload-clause-plans : goal.returns-in_err-find_upload-clause-plans
returns-in_err-find_upload-clause-plans g c = λ label. asked_in_vain (always 2) (omega arith) met_settled c.in_err-find_upload.ensures.asks _ c.from_residual.ensures.1

pub returns-in_err-find_upload-clause-beside : goal.returns-in_err-find_upload-clause-beside
returns-in_err-find_upload-clause-beside g c = λ label. clears_fault _ _ c.from_residual.ensures.1

pub returns-in-NoBucket-clause-plans : goal.returns-in-NoBucket-clause-plans
returns-in-NoBucket-clause-plans g c = λ label.
    asked_reply (always 2) (omega arith) (λ tree has. has.settled) NoBucket c.in-NoBucket.is _ c.in_ok-find_upload.ensures.asks (search rules)
    (λ tree sound has missing. abort_missing _ _ _ _ missing _ _)

pub returns-in-NoBucket-clause-beside : goal.returns-in-NoBucket-clause-beside
returns-in-NoBucket-clause-beside g c = λ label. clears_other _ (λ gone. cc)

pub returns-in-NoUpload-clause-plans : goal.returns-in-NoUpload-clause-plans
returns-in-NoUpload-clause-plans g c = λ label.
    asked_reply (always 2) (omega arith) (λ tree has. has.settled) NoUpload c.in-NoUpload.is _ c.in_ok-find_upload.ensures.asks (search rules)
    (λ tree sound has lacks. abort_lost _ _ _ _ _ tree c.fits.ensures lacks)

pub returns-in-NoUpload-clause-beside : goal.returns-in-NoUpload-clause-beside
returns-in-NoUpload-clause-beside g c = λ label. clears_other _ (λ gone. cc)

pub returns-in-Open-clause-plans : goal.returns-in-Open-clause-plans
returns-in-Open-clause-plans g c = λ label.
    goes_on_from met_settled c.find_upload.ensures.stays.settings c.in_ok-find_upload.ensures.asks (c.abort_open.ensures.plans c.args.upload.now.key c.args.upload.now.id label)
    (λ any tells. after_told_of (Open c.in-Open.id) c.in-Open.is tells)
    (λ x. let same = named_same c.in-Open.is x.1 in let paged = ap pages same in omega (arith, same, paged))

pub returns-in-Open-clause-beside : goal.returns-in-Open-clause-beside
returns-in-Open-clause-beside g c = λ label.
    clears_on met_settled c.in_ok-find_upload.ensures.asks (λ any tells. after_told_of (Open c.in-Open.id) c.in-Open.is tells)
    (c.abort_open.ensures.plans c.args.upload.now.key c.args.upload.now.id label).grows.on (c.abort_open.ensures.beside c.args.upload.now.key c.args.upload.now.id label)

pub returns-in-NoBucket-clause-stops : goal.returns-in-NoBucket-clause-stops
returns-in-NoBucket-clause-stops g c = record { so = let near = c.in_ok-find_upload.ensures.missing (ap is_bucket_missing c.in-NoBucket.is) in omega (arith, near) }

pub returns-in-Open-clause-stops : goal.returns-in-Open-clause-stops
returns-in-Open-clause-stops g c = stops_unrefused _ c.abort_open.ensures.unrefused
