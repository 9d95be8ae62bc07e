use Rattle.std.proofs.Common.{false, ap}
use Rattle.plan_uploads.proofs.UploadsListed.{none_asked}
use Rattle.plan_uploads.proofs.listed_uploads.list_uploads.Goals as goal

pub returns-then-asked-eq0-clause-asks : goal.returns-then-asked-eq0-clause-asks
returns-then-asked-eq0-clause-asks g c =
    none_asked _ _ c.args.bucket.now c.args.asked.now.prefix c.args.asked.now.key_marker c.args.asked.now.id_marker c.args.asked.now.max c.if-asked-eq0.true _ (ap (λ items. (items, false)) c.new.ensures)
