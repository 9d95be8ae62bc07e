use Rattle.std.proofs.Common.{sym, ◌∙◌, arith, rules}
use Rattle.account_calls.proofs.lemmas.Ends.{needs_none, goes_on_from}
use Rattle.upload_calls.proofs.lemmas.Asking.{asked_in_vain}
use Rattle.upload_calls.proofs.lemmas.Finding.{met_there}
use Rattle.plan_uploads.proofs.Beside.{opens_none, opens_on, opens_still}
use Rattle.plan_uploads.proofs.Creating.{asks_start, start_after}
use Rattle.plan_uploads.proofs.Steps.{create_other}
use Rattle.account_calls.proofs.lemmas.Refusals.{stops_unrefused}
use Rattle.plan_uploads.proofs.create.plan_create_upload_within.Goals as goal

pub returns-then-is_other_acl-clause-plans : goal.returns-then-is_other_acl-clause-plans
returns-then-is_other_acl-clause-plans g c = needs_none _ (search rules) (λ tree there. create_other _ _ _ _ _ there _ _ _ _ (sym c.is_other_acl.ensures ∙ c.if-is_other_acl.true))

pub returns-then-is_other_acl-clause-beside : goal.returns-then-is_other_acl-clause-beside
returns-then-is_other_acl-clause-beside g c = opens_still _ _ _ _ _

pub returns-in_err-id-clause-plans : goal.returns-in_err-id-clause-plans
returns-in_err-id-clause-plans g c = asked_in_vain _ (omega arith) (met_there _ _ c.fits.ensures) c.in_err-id.ensures.asks _ c.from_residual.ensures.1

pub returns-in_err-id-clause-beside : goal.returns-in_err-id-clause-beside
returns-in_err-id-clause-beside g c = opens_none _ _ (met_there _ _ c.fits.ensures) c.in_err-id.ensures.asks _

pub returns-clause-plans : goal.returns-clause-plans
returns-clause-plans g c =
    goes_on_from (λ met. met) c.free_id.ensures.stays.settings (asks_start _ c.args.list _ c.fits.ensures c.in_ok-id.ensures.asks) (c.start_under.ensures.plans c.args.list (sym c.is_other_acl.ensures ∙ c.if-is_other_acl.false)) (λ told tells. start_after tells) (λ x. omega arith)

pub returns-clause-beside : goal.returns-clause-beside
returns-clause-beside g c =
    opens_on (λ met. met) (asks_start _ c.args.list _ c.fits.ensures c.in_ok-id.ensures.asks) (λ old new tells. tells.same) (λ told tells. start_after tells) (c.start_under.ensures.plans c.args.list (sym c.is_other_acl.ensures ∙ c.if-is_other_acl.false)).grows.on (c.start_under.ensures.beside c.args.list)

pub returns-clause-stops : goal.returns-clause-stops
returns-clause-stops g c = stops_unrefused _ c.start_under.ensures.unrefused
