use Rattle.std.proofs.Common.{refl, sym, ap, ◌∙◌, inl, arith}
use Rattle.s3_names.specs.Bucket.{is_bucket}
use Rattle.sweep.proofs.AgingNames.{bucket_aged, bucket_calls, few_or, other_aged}
use Rattle.sweep.proofs.forget_walk.forget_name.Goals as goal

pub returns-then-not-is_bucket-clause-forgets : goal.returns-then-not-is_bucket-clause-forgets
returns-then-not-is_bucket-clause-forgets g c = other_aged c.args.before c.args.name.now _ (ap is_bucket (sym c.as_slice.ensures) ∙ sym c.is_bucket.ensures ∙ c.if-not-is_bucket.true)

pub returns-clause-forgets : goal.returns-clause-forgets
returns-clause-forgets g c = bucket_aged c.args.name.now _ (ap is_bucket (sym c.as_slice.ensures) ∙ sym c.is_bucket.ensures ∙ c.if-not-is_bucket.false) c.forget_bucket.ensures.forgets

pub returns-clause-calls : goal.returns-clause-calls
returns-clause-calls g c = bucket_calls c.args.name.now (ap is_bucket (sym c.as_slice.ensures) ∙ sym c.is_bucket.ensures ∙ c.if-not-is_bucket.false) c.forget_bucket.ensures.calls

pub returns-then-not-is_bucket-clause-counted : goal.returns-then-not-is_bucket-clause-counted
returns-then-not-is_bucket-clause-counted g c = (omega arith, inl refl)

pub returns-then-not-is_bucket-clause-calls : goal.returns-then-not-is_bucket-clause-calls
returns-then-not-is_bucket-clause-calls g c = λ met. omega arith

pub returns-clause-counted : goal.returns-clause-counted
returns-clause-counted g c = few_or _ _ _ c.forget_bucket.ensures.counted
