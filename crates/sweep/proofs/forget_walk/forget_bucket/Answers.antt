use Rattle.std.proofs.Common.{ap, ◌∙◌}
use Rattle.upload_records.specs.Layout.{uploads_name}
use Rattle.sweep.proofs.PlanFaults.{sweep_no_memory}
use Rattle.sweep.proofs.forget_walk.forget_bucket.Goals as goal

pub returns-in_err-folder-clause-forgets : goal.returns-in_err-folder-clause-forgets
returns-in_err-folder-clause-forgets g c = sweep_no_memory _ _ c.from_residual.ensures.1

pub forget_records-requires : goal.forget_records-requires
forget_records-requires g c = record { folder = (c.args.bucket.now, (c.requires, c.in_ok-folder.ensures ∙ ap uploads_name c.as_slice.ensures)) }

pub returns-clause-forgets : goal.returns-clause-forgets
returns-clause-forgets g c = c.forget_records.ensures.forgets c.args.bucket.now (c.requires, c.in_ok-folder.ensures ∙ ap uploads_name c.as_slice.ensures)

pub returns-clause-calls : goal.returns-clause-calls
returns-clause-calls g c = c.forget_records.ensures.calls c.args.bucket.now (c.requires, c.in_ok-folder.ensures ∙ ap uploads_name c.as_slice.ensures)
