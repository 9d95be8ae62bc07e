use Rattle.std.proofs.Common.{◌≡◌, true, None, Some, sym, subst}
use Rattle.sigv4.specs.Keys.{keys_of, are_keys}
use Rattle.gateway_cmd.specs.Facts.{Fits, is_possible}
use Rattle.gateway_cmd.specs.Report.{Admits}
use Rattle.gateway_cmd.specs.Session.{was_settled, was_swept, was_surveyed}
use Rattle.gateway_cmd.specs.declared.status.RunOutcome.TheVariants.{Plain}
use Rattle.gateway_cmd.specs.Tasks.{task_of}
use Rattle.gateway_cmd.proofs.Sessions.{as_region, run_session}
use Rattle.gateway_cmd.proofs.Trials.{tries_admits}
use Rattle.gateway_cmd.proofs.attempt.perform_by_keys.Goals as goal

pub returns-in-Session-clause-does : goal.returns-in-Session-clause-does
returns-in-Session-clause-does g c = λ text is. rw c.in-Session.is
    (run_session (as_region c.in-Session.region c.in-Session.least_part c.in-Session.largest_body c.in-Session.extended None) text c.serve.ensures.serves.0 is (rw c.settings_of-settings.ensures at c.serve.ensures.line) (rw c.settings_of-settings.ensures at c.serve.ensures.serves.1))

pub returns-in-Serve-clause-does : goal.returns-in-Serve-clause-does
returns-in-Serve-clause-does g c = λ text is. rw c.in-Serve.is
    (run_session (as_region c.in-Serve.region c.in-Serve.least_part c.in-Serve.largest_body c.in-Serve.extended (Some c.in-Serve.connections)) text c.serve-in-Serve.ensures.serves.0 is (rw c.settings_of-settings-in-Serve.ensures at c.serve-in-Serve.ensures.line) (rw c.settings_of-settings-in-Serve.ensures at c.serve-in-Serve.ensures.serves.1))

pub returns-in-Session-clause-admits : goal.returns-in-Session-clause-admits
returns-in-Session-clause-admits g c = λ text is.
    subst (λ command. Admits (is_possible (task_of (Some command)) text) (Plain c.serve.result)) (sym c.in-Session.is)
    (tries_admits (are_keys (keys_of text)) (Plain c.serve.result) (subst (λ keys. are_keys keys ≡ true) is c.requires.keys) c.serve.ensures.taken)

pub returns-in-Serve-clause-admits : goal.returns-in-Serve-clause-admits
returns-in-Serve-clause-admits g c = λ text is.
    subst (λ command. Admits (is_possible (task_of (Some command)) text) (Plain c.serve-in-Serve.result)) (sym c.in-Serve.is)
    (tries_admits (are_keys (keys_of text)) (Plain c.serve-in-Serve.result) (subst (λ keys. are_keys keys ≡ true) is c.requires.keys) c.serve-in-Serve.ensures.taken)

pub returns-in-Session-clause-fits : goal.returns-in-Session-clause-fits
returns-in-Session-clause-fits g c = subst (λ command. Fits (task_of (Some command)) (Plain c.serve.result)) (sym c.in-Session.is) c.serve.ensures.fits

pub returns-in-Serve-clause-fits : goal.returns-in-Serve-clause-fits
returns-in-Serve-clause-fits g c = subst (λ command. Fits (task_of (Some command)) (Plain c.serve-in-Serve.result)) (sym c.in-Serve.is) c.serve-in-Serve.ensures.fits

pub returns-in-Sign-clause-fits : goal.returns-in-Sign-clause-fits
returns-in-Sign-clause-fits g c = subst (λ command. Fits (task_of (Some command)) c.sign.result) (sym c.in-Sign.is) (c.sign.ensures.fits c.in-Sign.key c.in-Sign.region)

pub returns-in-Presign-clause-fits : goal.returns-in-Presign-clause-fits
returns-in-Presign-clause-fits g c = subst (λ command. Fits (task_of (Some command)) c.presign.result) (sym c.in-Presign.is) (c.presign.ensures.fits c.in-Presign.key c.in-Presign.region c.in-Presign.expires)

pub returns-in-Recover-clause-fits : goal.returns-in-Recover-clause-fits
returns-in-Recover-clause-fits g c = subst (λ command. Fits (task_of (Some command)) c.recover.result) (sym c.in-Recover.is) c.recover.ensures.fits

pub returns-in-Recover-clause-does : goal.returns-in-Recover-clause-does
returns-in-Recover-clause-does g c = λ text is. rw c.in-Recover.is (was_settled c.recover.ensures.settles.0 c.recover.ensures.settles.1 c.recover.ensures.settles.2)

pub returns-in-Sweep-clause-fits : goal.returns-in-Sweep-clause-fits
returns-in-Sweep-clause-fits g c = subst (λ command. Fits (task_of (Some command)) c.sweep_account.result) (sym c.in-Sweep.is) c.sweep_account.ensures.fits

pub returns-in-Sweep-clause-does : goal.returns-in-Sweep-clause-does
returns-in-Sweep-clause-does g c = λ text is. rw c.in-Sweep.is (was_swept c.sweep_account.ensures.sweeps)

pub returns-in-Check-clause-fits : goal.returns-in-Check-clause-fits
returns-in-Check-clause-fits g c = subst (λ command. Fits (task_of (Some command)) c.check_account.result) (sym c.in-Check.is) c.check_account.ensures.fits

pub returns-in-Check-clause-does : goal.returns-in-Check-clause-does
returns-in-Check-clause-does g c = λ text is. rw c.in-Check.is (was_surveyed c.check_account.ensures.surveys)

pub returns-in-Trial-clause-admits : goal.returns-in-Trial-clause-admits
returns-in-Trial-clause-admits g c = λ text is.
    subst (λ command. Admits (is_possible (task_of (Some command)) text) c.try_store.result) (sym c.in-Trial.is)
    (tries_admits (are_keys (keys_of text)) c.try_store.result (subst (λ keys. are_keys keys ≡ true) is c.requires.keys) c.try_store.ensures.taken)

pub returns-in-Trial-clause-fits : goal.returns-in-Trial-clause-fits
returns-in-Trial-clause-fits g c = subst (λ command. Fits (task_of (Some command)) c.try_store.result) (sym c.in-Trial.is) c.try_store.ensures.fits

pub returns-in-Trial-clause-does : goal.returns-in-Trial-clause-does
returns-in-Trial-clause-does g c = λ text is. rw c.in-Trial.is (c.try_store.ensures.tries text)
