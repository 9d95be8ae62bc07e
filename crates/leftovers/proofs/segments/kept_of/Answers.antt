use Rattle.std.proofs.Common.{refl, ap, ◌∙◌}
use Rattle.upload_records.specs.Layout.{uploads_name}
use Rattle.account_calls.proofs.lemmas.One.{not_asked}
use Rattle.account_calls.proofs.lemmas.Left.{throughout_none, throughout_then}
use Rattle.leftovers.proofs.lemmas.KeptOf.{kept_told, kept_unlisted, kept_unopened}
use Rattle.leftovers.proofs.SegmentsHeeded.{kept_holds}
use Rattle.leftovers.specs.Faults.{as_plan}
use Rattle.leftovers.proofs.lemmas.Faults.{plan_gives}
use Rattle.leftovers.proofs.segments.kept_of.Goals as goal

pub returns-in_err-uploads-clause-asks : goal.returns-in_err-uploads-clause-asks
returns-in_err-uploads-clause-asks g c =
    not_asked _ _ (as_plan c.from_residual.result) (plan_gives _ _ c.from_residual.ensures.1)

pub returns-in_err-uploads-clause-leaves : goal.returns-in_err-uploads-clause-leaves
returns-in_err-uploads-clause-leaves g c =
    throughout_none (g.W.Swift.history c.args.store.now)

pub returns-in_err-opened-clause-asks : goal.returns-in_err-opened-clause-asks
returns-in_err-opened-clause-asks g c =
    kept_unopened (c.in_ok-uploads.ensures ∙ ap uploads_name c.as_slice.ensures) c.in_err-opened.ensures.asks (as_plan c.from_residual-in_err-opened.result) (plan_gives _ _ c.from_residual-in_err-opened.ensures.1)

pub returns-in_err-opened-clause-leaves : goal.returns-in_err-opened-clause-leaves
returns-in_err-opened-clause-leaves g c =
    c.in_err-opened.ensures.leaves

pub returns-in_err-listed-clause-asks : goal.returns-in_err-listed-clause-asks
returns-in_err-listed-clause-asks g c =
    kept_unlisted (c.in_ok-uploads.ensures ∙ ap uploads_name c.as_slice.ensures) refl c.in_ok-opened.ensures.asks c.in_err-listed.ensures.asks (as_plan c.from_residual-in_err-listed.result) (plan_gives _ _ c.from_residual-in_err-listed.ensures.1)

pub returns-in_err-listed-clause-leaves : goal.returns-in_err-listed-clause-leaves
returns-in_err-listed-clause-leaves g c =
    throughout_then c.in_ok-opened.ensures.asks.grows.on c.in_err-listed.ensures.asks.grows.on c.in_ok-opened.ensures.leaves c.in_err-listed.ensures.leaves

pub returns : goal.returns
returns g c = record { asks = kept_told (c.in_ok-uploads.ensures ∙ ap uploads_name c.as_slice.ensures) refl c.in_ok-opened.ensures.asks c.in_ok-listed.ensures.asks; holds = kept_holds c.args.bucket.now _ _ (c.in_ok-uploads.ensures ∙ ap uploads_name c.as_slice.ensures) c.in_ok-opened.ensures.asks.grows.on c.in_ok-opened.ensures.leaves c.in_ok-opened.ensures.holds c.in_ok-listed.ensures.holds; leaves = throughout_then c.in_ok-opened.ensures.asks.grows.on c.in_ok-listed.ensures.asks.grows.on c.in_ok-opened.ensures.leaves c.in_ok-listed.ensures.leaves }
