use Rattle.std.specs.Prelude.{◌≡◌, false}
use Rattle.std.proofs.Common.{sym, subst, ◌∙◌}
use Rattle.s3_names.specs.Bucket.{is_bucket}
use Rattle.account_calls.proofs.Made.{none_added}
use Rattle.account_calls.proofs.listing.add_bucket_of_container.Goals as goal

pub returns-then-not-is_bucket-clause-asks : goal.returns-then-not-is_bucket-clause-asks
returns-then-not-is_bucket-clause-asks g c = none_added _ c.args.name.now _ (subst (λ n. is_bucket n ≡ false) c.as_slice.ensures (sym c.is_bucket.ensures ∙ c.if-not-is_bucket.true))
