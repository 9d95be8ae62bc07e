use Rattle.std.proofs.Common.{ap, ◌∙◌}
use Rattle.upload_records.specs.Layout.{segments_name}
use Rattle.account_calls.proofs.lemmas.Idle.{goes_none, goes_trans}
use Rattle.account_calls.proofs.lemmas.One.{not_asked}
use Rattle.account_calls.proofs.lemmas.Left.{throughout_none, throughout_then}
use Rattle.leftovers.specs.Asking.{ClearsAll}
use Rattle.leftovers.specs.Kept.{goes}
use Rattle.leftovers.proofs.SegmentsHeeded.{heeds_none, heeds_swept}
use Rattle.leftovers.proofs.SegmentsSwept.{segments_asked, segments_swept, segments_unasked, segments_unkept}
use Rattle.leftovers.proofs.Counts.{counted_later, fits_later}
use Rattle.leftovers.proofs.Held.{said_there}
use Rattle.leftovers.specs.Faults.{as_plan}
use Rattle.leftovers.proofs.lemmas.Faults.{plan_gives}
use Rattle.leftovers.proofs.segments.sweep_segments.Goals as goal

pub returns-in_err-folder-clause-asks : goal.returns-in_err-folder-clause-asks
returns-in_err-folder-clause-asks g c = not_asked _ _ (as_plan c.from_residual.result) (plan_gives _ _ c.from_residual.ensures.1)

pub returns-in_err-folder-clause-heeds : goal.returns-in_err-folder-clause-heeds
returns-in_err-folder-clause-heeds g c = heeds_none c.args.bucket.now (goes_none (g.W.Swift.history c.args.store.now)) (throughout_none (g.W.Swift.history c.args.store.now))

pub returns-in_err-kept-clause-asks : goal.returns-in_err-kept-clause-asks
returns-in_err-kept-clause-asks g c = segments_unkept c.in_err-kept.ensures.asks (as_plan c.from_residual-in_err-kept.result) (plan_gives _ _ c.from_residual-in_err-kept.ensures.1)

pub returns-in_err-kept-clause-heeds : goal.returns-in_err-kept-clause-heeds
returns-in_err-kept-clause-heeds g c = heeds_none c.args.bucket.now c.in_err-kept.ensures.asks.grows.on c.in_err-kept.ensures.leaves

pub ask_segments-requires-clause-folder : goal.ask_segments-requires-clause-folder
ask_segments-requires-clause-folder g c = c.in_ok-folder.ensures ∙ ap segments_name c.as_slice.ensures

pub returns-in_err-ask_segments-clause-asks : goal.returns-in_err-ask_segments-clause-asks
returns-in_err-ask_segments-clause-asks g c = segments_unasked c.args.bucket.now c.in_ok-kept.kept c.requires (c.in_ok-folder.ensures ∙ ap segments_name c.as_slice.ensures) c.in_ok-kept.ensures.asks c.in_err-ask_segments.ensures.asks (as_plan c.from_residual-in_err-ask_segments.result) (plan_gives _ _ c.from_residual-in_err-ask_segments.ensures.1)

pub returns-in_err-ask_segments-clause-heeds : goal.returns-in_err-ask_segments-clause-heeds
returns-in_err-ask_segments-clause-heeds g c = heeds_none c.args.bucket.now (goes_trans c.in_ok-kept.ensures.asks.grows.on c.in_err-ask_segments.ensures.asks.grows.on)
    (throughout_then c.in_ok-kept.ensures.asks.grows.on c.in_err-ask_segments.ensures.asks.grows.on c.in_ok-kept.ensures.leaves c.in_err-ask_segments.ensures.leaves)

pub returns-clause-asks : goal.returns-clause-asks
returns-clause-asks g c =
    let named = c.in_ok-folder.ensures ∙ ap segments_name c.as_slice.ensures in
    segments_swept c.args.bucket.now c.in_ok-kept.kept c.requires named (segments_asked c.args.bucket.now c.in_ok-kept.kept c.requires named c.in_ok-kept.ensures.asks c.in_ok-ask_segments.ensures.asks) _ (c.sweep_files.ensures.asks c.args.bucket.now)

pub returns-clause-heeds : goal.returns-clause-heeds
returns-clause-heeds g c =
    let named = c.in_ok-folder.ensures ∙ ap segments_name c.as_slice.ensures in
    heeds_swept c.in_ok-kept.kept named (goes_trans c.in_ok-kept.ensures.asks.grows.on c.in_ok-ask_segments.ensures.asks.grows.on)
    (throughout_then c.in_ok-kept.ensures.asks.grows.on c.in_ok-ask_segments.ensures.asks.grows.on c.in_ok-kept.ensures.leaves c.in_ok-ask_segments.ensures.leaves) c.in_ok-kept.ensures.holds
    (λ observable. said_there (λ tree. ClearsAll c.in_ok-folder.folder c.args.bucket.now (goes c.in_ok-kept.kept) tree) c.in_ok-kept.ensures.asks.grows.on c.in_ok-kept.ensures.leaves observable c.in_ok-ask_segments.ensures.clear)
    c.sweep_files.ensures.spares

pub returns-clause-counted : goal.returns-clause-counted
returns-clause-counted g c = counted_later (g.W.Swift.history c.sweep_files.new.store).called (goes_trans c.in_ok-kept.ensures.asks.grows.on c.in_ok-ask_segments.ensures.asks.grows.on).ordered _ c.sweep_files.ensures.counted

pub returns-clause-fits : goal.returns-clause-fits
returns-clause-fits g c = fits_later (goes_trans c.in_ok-kept.ensures.asks.grows.on c.in_ok-ask_segments.ensures.asks.grows.on).ordered _ c.sweep_files.ensures.fits
