use Rattle.std.proofs.Common.{sym, ap, ◌∙◌, arith}
use Rattle.s3_names.specs.Bucket.{is_bucket}
use Rattle.sweep.proofs.NamedShares.{bucket_share}
use Rattle.sweep.proofs.Steps.{asks_wider}
use Rattle.sweep.proofs.shares.survey_name.Goals as goal

pub survey_bucket-requires-clause-bucket : goal.survey_bucket-requires-clause-bucket
survey_bucket-requires-clause-bucket g c = ap is_bucket (sym c.as_slice.ensures) ∙ sym c.is_bucket.ensures ∙ c.if-is_bucket.true

pub returns-then-is_bucket : goal.returns-then-is_bucket
returns-then-is_bucket g c = record { asks = bucket_share c.args.name.now (ap is_bucket (sym c.as_slice.ensures) ∙ sym c.is_bucket.ensures ∙ c.if-is_bucket.true) c.survey_bucket.ensures.asks; leaves = c.survey_bucket.ensures.leaves }

pub survey_side-requires : goal.survey_side-requires
survey_side-requires g c = ap is_bucket (sym c.as_slice.ensures) ∙ sym c.is_bucket.ensures ∙ c.if-is_bucket.false

pub returns : goal.returns
returns g c = record { asks = asks_wider (λ tree has. tt) (omega arith) c.survey_side.ensures.asks; leaves = c.survey_side.ensures.leaves }
