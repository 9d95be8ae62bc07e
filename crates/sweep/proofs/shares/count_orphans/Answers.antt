use Rattle.std.proofs.Common.{refl, sym, ap, subst, ◌∙◌}
use Rattle.swift_calls.specs.Step.{IsContainerName}
use Rattle.upload_records.specs.Layout.{segments_name}
use Rattle.account_calls.proofs.lemmas.One.{not_asked}
use Rattle.account_calls.proofs.lemmas.SideNames.{segments_fits}
use Rattle.account_calls.proofs.lemmas.Left.{throughout_none, throughout_then}
use Rattle.sweep.proofs.Buckets.{orphans_counted, orphans_uncounted, orphans_ungathered, orphans_unsealed}
use Rattle.leftovers.specs.Faults.{as_plan}
use Rattle.leftovers.proofs.lemmas.Faults.{plan_gives}
use Rattle.sweep.proofs.shares.count_orphans.Goals as goal

pub returns-in_err-folder : goal.returns-in_err-folder
returns-in_err-folder g c = record { asks = not_asked _ _ (as_plan c.from_residual.result) (plan_gives _ _ c.from_residual.ensures.1); leaves = throughout_none (g.W.Swift.history c.args.store.now) }

pub returns-in_err-listed : goal.returns-in_err-listed
returns-in_err-listed g c = record { asks = orphans_ungathered c.args.bucket.now c.args.sealed.now c.args.opened c.in_err-listed.ensures.asks (as_plan c.from_residual-in_err-listed.result) (plan_gives _ _ c.from_residual-in_err-listed.ensures.1); leaves = c.in_err-listed.ensures.leaves }

pub returns-in_err-id : goal.returns-in_err-id
returns-in_err-id g c = record { asks = orphans_unsealed c.args.bucket.now c.args.sealed.now c.args.opened c.in_ok-listed.ensures.asks (as_plan c.from_residual-in_err-id.result) (plan_gives _ _ c.from_residual-in_err-id.ensures.1); leaves = c.in_ok-listed.ensures.leaves }

pub tally_files-requires : goal.tally_files-requires
tally_files-requires g c = subst IsContainerName (sym (c.in_ok-folder.ensures ∙ ap segments_name c.as_slice.ensures)) (segments_fits c.args.bucket.now c.requires.bucket)

pub returns-in_err-tally : goal.returns-in_err-tally
returns-in_err-tally g c = record {
  asks = orphans_uncounted c.args.bucket.now c.args.sealed.now c.args.opened c.in_ok-listed.ensures.asks (c.in_ok-folder.ensures ∙ ap segments_name c.as_slice.ensures) _ c.in_err-tally.ensures.asks (as_plan c.from_residual-in_err-tally.result) (plan_gives _ _ c.from_residual-in_err-tally.ensures.1);
  leaves = throughout_then c.in_ok-listed.ensures.asks.grows.on c.in_err-tally.ensures.asks.grows.on c.in_ok-listed.ensures.leaves c.in_err-tally.ensures.leaves;
}

pub returns : goal.returns
returns g c = record {
  asks = orphans_counted c.args.bucket.now c.args.sealed.now c.args.opened c.in_ok-listed.ensures.asks (c.in_ok-folder.ensures ∙ ap segments_name c.as_slice.ensures) _ c.in_ok-id.ensures.added refl c.in_ok-id.ensures.id c.in_ok-tally.ensures.asks;
  leaves = throughout_then c.in_ok-listed.ensures.asks.grows.on c.in_ok-tally.ensures.asks.grows.on c.in_ok-listed.ensures.leaves c.in_ok-tally.ensures.leaves;
}
