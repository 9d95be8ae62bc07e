use Rattle.std.proofs.Common.{subst, lit≤, rules, ap, arith}
use Rattle.account_calls.specs.Calls.{always}
use Rattle.account_calls.proofs.lemmas.Ends.{met_settled, goes_on_from}
use Rattle.account_calls.proofs.lemmas.Puts.{ensures_less}
use Rattle.upload_calls.specs.Found.{IsFoundBy, is_bucket_missing}
use Rattle.upload_calls.specs.declared.found.Found.TheVariants.{NoBucket, NoUpload, Open}
use Rattle.upload_calls.proofs.lemmas.Asking.{after_told_of, asked_in_vain, asked_reply}
use Rattle.plan_uploads.proofs.Steps.{part_lost, part_missing}
use Rattle.account_calls.proofs.lemmas.Refusals.{stops_unrefused}
use Rattle.plan_uploads.proofs.part.upload_part.Goals as goal

pub returns-in_err-find_upload-clause-plans : goal.returns-in_err-find_upload-clause-plans
returns-in_err-find_upload-clause-plans g c = asked_in_vain (always 2) (lit≤ tt) met_settled c.in_err-find_upload.ensures.asks _ c.from_residual.ensures.1

pub returns-in-NoBucket-clause-plans : goal.returns-in-NoBucket-clause-plans
returns-in-NoBucket-clause-plans g c =
    asked_reply (always 2) (lit≤ tt) (λ tree has. has.settled) NoBucket c.in-NoBucket.is _ c.in_ok-find_upload.ensures.asks (search rules)
    (λ tree sound has missing. part_missing _ _ _ _ missing _ _ _ _ _)

pub returns-in-NoUpload-clause-plans : goal.returns-in-NoUpload-clause-plans
returns-in-NoUpload-clause-plans g c =
    asked_reply (always 2) (lit≤ tt) (λ tree has. has.settled) NoUpload c.in-NoUpload.is _ c.in_ok-find_upload.ensures.asks (search rules)
    (λ tree sound has lacks. part_lost _ _ _ _ _ tree c.fits.ensures lacks _ _ _)

pub returns-in-Open-clause-plans : goal.returns-in-Open-clause-plans
returns-in-Open-clause-plans g c =
    goes_on_from met_settled c.find_upload.ensures.stays.settings c.in_ok-find_upload.ensures.asks (c.part_into.ensures.plans c.args.part.key c.args.part.id)
    (λ any tells. after_told_of (Open c.in-Open.id) c.in-Open.is tells) (lit≤ tt)

pub returns-in-Open-clause-stands : goal.returns-in-Open-clause-stands
returns-in-Open-clause-stands g c =
    let is = subst (IsFoundBy c.args.part.id) c.in-Open.is c.in_ok-find_upload.ensures.by_text in
    ensures_less (λ tree stands. record { id = c.in-Open.id; is = is; stands = stands }) _ c.part_into.ensures.stands

pub returns-in-NoBucket-clause-stops : goal.returns-in-NoBucket-clause-stops
returns-in-NoBucket-clause-stops g c = record { so = let near = c.in_ok-find_upload.ensures.missing (ap is_bucket_missing c.in-NoBucket.is) in omega (arith, near) }

pub returns-in-Open-clause-stops : goal.returns-in-Open-clause-stops
returns-in-Open-clause-stops g c = stops_unrefused _ c.part_into.ensures.unrefused
