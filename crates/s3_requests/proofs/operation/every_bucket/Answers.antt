use Rattle.std.proofs.Common.{refl, sym, subst}
use Rattle.s3_machine.specs.Limits.{is_listing_text}
use Rattle.s3_machine.specs.Proper.{IsProperBuckets}
use Rattle.s3_requests.proofs.operation.every_bucket.Goals as goal

pub of-requires : goal.of-requires
unfolding is_listing_text
of-requires c = subst IsProperBuckets (sym c.all.ensures) (record { prefix = refl; token = tt; few = tt })
