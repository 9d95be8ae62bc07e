use Rattle.std.proofs.Common.{sym, ap, subst, ◌∙◌}
use Rattle.swift_calls.specs.Step.{IsContainerName}
use Rattle.upload_records.specs.Layout.{uploads_name}
use Rattle.account_calls.proofs.lemmas.One.{not_asked}
use Rattle.account_calls.proofs.lemmas.SideNames.{uploads_fits}
use Rattle.account_calls.proofs.lemmas.Left.{throughout_none, throughout_then}
use Rattle.sweep.proofs.Buckets.{records_surveyed, records_uncounted, records_ungathered}
use Rattle.leftovers.specs.Faults.{as_plan}
use Rattle.leftovers.proofs.lemmas.Faults.{plan_gives}
use Rattle.sweep.proofs.shares.survey_records.Goals as goal

pub returns-in_err-folder : goal.returns-in_err-folder
returns-in_err-folder g c = record { asks = not_asked _ _ (as_plan c.from_residual.result) (plan_gives _ _ c.from_residual.ensures.1); leaves = throughout_none (g.W.Swift.history c.args.store.now) }

pub returns-in_err-opened : goal.returns-in_err-opened
returns-in_err-opened g c = record { asks = records_ungathered c.args.bucket.now c.requires (c.in_ok-folder.ensures ∙ ap uploads_name c.as_slice.ensures) c.in_err-opened.ensures.asks (as_plan c.from_residual-in_err-opened.result) (plan_gives _ _ c.from_residual-in_err-opened.ensures.1); leaves = c.in_err-opened.ensures.leaves }

pub tally_files-requires : goal.tally_files-requires
tally_files-requires g c = subst IsContainerName (sym (c.in_ok-folder.ensures ∙ ap uploads_name c.as_slice.ensures)) (uploads_fits c.args.bucket.now c.requires)

pub returns-in_err-tally : goal.returns-in_err-tally
returns-in_err-tally g c = record {
  asks = records_uncounted c.args.bucket.now c.requires (c.in_ok-folder.ensures ∙ ap uploads_name c.as_slice.ensures) c.in_ok-opened.ensures.asks c.named-used.result c.in_err-tally.ensures.asks (as_plan c.from_residual-in_err-tally.result) (plan_gives _ _ c.from_residual-in_err-tally.ensures.1);
  leaves = throughout_then c.in_ok-opened.ensures.asks.grows.on c.in_err-tally.ensures.asks.grows.on c.in_ok-opened.ensures.leaves c.in_err-tally.ensures.leaves;
}

pub returns : goal.returns
returns g c = record {
  asks = records_surveyed c.args.bucket.now c.requires (c.in_ok-folder.ensures ∙ ap uploads_name c.as_slice.ensures) c.in_ok-opened.ensures.asks c.named-used.result c.named-used.ensures.listed c.named-used.ensures.opened c.named-used.ensures.sealed c.in_ok-tally.ensures.asks;
  leaves = throughout_then c.in_ok-opened.ensures.asks.grows.on c.in_ok-tally.ensures.asks.grows.on c.in_ok-opened.ensures.leaves c.in_ok-tally.ensures.leaves;
}
