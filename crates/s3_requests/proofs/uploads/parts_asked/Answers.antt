use Rattle.std.proofs.Common.{◌≤◌, ℕ, sym, subst}
use Rattle.std.specs.Prelude.{codes}
use Rattle.s3_machine.specs.Limits.{most_items}
use Rattle.s3_requests.proofs.ProperReads.{most_proper}
use Rattle.s3_requests.proofs.uploads.parts_asked.Goals as goal

pub of-asked-requires : goal.of-asked-requires
of-asked-requires c = subst (λ (max : ℕ). max ≤ most_items) (sym c.most_by.ensures) (most_proper (codes "max-parts") c.args.query.now)
