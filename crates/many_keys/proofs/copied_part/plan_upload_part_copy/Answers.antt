use Rattle.std.proofs.Common.{subst, lit≤, rules}
use Rattle.account_calls.specs.Calls.{always}
use Rattle.account_calls.proofs.lemmas.Ends.{met_settled, goes_on_from}
use Rattle.upload_calls.specs.declared.found.Found.TheVariants.{NoBucket, NoUpload, Open}
use Rattle.upload_calls.proofs.lemmas.Asking.{after_told_of, asked_in_vain, asked_reply}
use Rattle.many_keys.proofs.CopiedPart.{copy_lost, copy_missing}
use Rattle.account_calls.proofs.lemmas.Puts.{ensures_less}
use Rattle.upload_calls.specs.Found.{IsFoundBy}
use Rattle.account_calls.proofs.lemmas.Refusals.{stops_behind}
use Rattle.many_keys.proofs.copied_part.plan_upload_part_copy.Goals as goal

pub returns-in_err-find_upload-clause-plans : goal.returns-in_err-find_upload-clause-plans
returns-in_err-find_upload-clause-plans g c = asked_in_vain (always 2) (lit≤ tt) met_settled c.in_err-find_upload.ensures.asks _ c.from_residual.ensures.1

pub returns-in-NoBucket-clause-plans : goal.returns-in-NoBucket-clause-plans
returns-in-NoBucket-clause-plans g c =
    asked_reply (always 2) (lit≤ tt) (λ tree has. has.settled) NoBucket c.in-NoBucket.is _ c.in_ok-find_upload.ensures.asks (search rules)
    (λ tree sound has missing. copy_missing _ _ _ _ _ _ _ _ _ _ _ missing)

pub returns-in-NoUpload-clause-plans : goal.returns-in-NoUpload-clause-plans
returns-in-NoUpload-clause-plans g c =
    asked_reply (always 2) (lit≤ tt) (λ tree has. has.settled) NoUpload c.in-NoUpload.is _ c.in_ok-find_upload.ensures.asks (search rules)
    (λ tree sound has lacks. copy_lost _ _ _ _ _ _ _ _ _ _ tree c.fits.ensures lacks)

pub returns-in-Open-clause-plans : goal.returns-in-Open-clause-plans
returns-in-Open-clause-plans g c =
    goes_on_from met_settled c.find_upload.ensures.stays.settings c.in_ok-find_upload.ensures.asks (c.plan_part_copy_into_upload.ensures.plans c.args.copy.key c.args.copy.id)
    (λ any tells. after_told_of (Open c.in-Open.id) c.in-Open.is tells) (lit≤ tt)

pub returns-in-Open-clause-stands : goal.returns-in-Open-clause-stands
returns-in-Open-clause-stands g c =
    let is = subst (IsFoundBy c.args.copy.id) c.in-Open.is c.in_ok-find_upload.ensures.by_text in
    ensures_less (λ tree part. record { body = part.body; part = record { id = c.in-Open.id; is = is; stands = part.stands } }) _ c.plan_part_copy_into_upload.ensures.stands

pub returns-in-Open-clause-stops : goal.returns-in-Open-clause-stops
returns-in-Open-clause-stops g c = stops_behind c.in_ok-find_upload.ensures.asks _ c.plan_part_copy_into_upload.ensures.stops
