use Rattle.std.proofs.Common.{refl, arith}
use Rattle.upload_records.specs.Native.{s3_state}
use Rattle.account_calls.specs.Calls.{always}
use Rattle.account_calls.proofs.lemmas.Ends.{after_told, calls_in_vain, goes_on_from, met_within}
use Rattle.many_keys.specs.Copies.{IsFoundSource, IsReadSource}
use Rattle.many_keys.proofs.CopiedFrom.{copied_of}
use Rattle.many_keys.proofs.copies.copy_plain_source.Goals as goal

pub returns-in_err-body-clause-plans : goal.returns-in_err-body-clause-plans
returns-in_err-body-clause-plans g c = λ acl list same other.
    calls_in_vain (always 1) (omega arith) (met_within (λ tree found. found.source)) c.in_err-body.ensures.asks _ c.from_residual.ensures.1

pub returns-clause-plans : goal.returns-clause-plans
returns-clause-plans g c = λ acl list same other.
    goes_on_from (met_within (λ tree found. found.source)) c.get_source_to_copy.ensures.stays.settings c.in_ok-body.ensures.asks
    (c.put_copy.ensures.plans acl list c.args.copy.from_bucket c.args.copy.from_key same other)
    (after_told (λ tree. IsFoundSource c.args.copy.to.bucket list c.args.copy.from_bucket c.args.copy.from_key c.args.head (s3_state tree))
    (λ tree. IsReadSource c.args.copy.to.bucket list c.args.copy.from_bucket c.args.copy.from_key c.args.head c.in_ok-body.body (s3_state tree)) c.in_ok-body.body refl
    (λ tree found told. record { listed = found.listed; source = found.source; read = told }))
    (omega arith)

pub returns-clause-source : goal.returns-clause-source
returns-clause-source g c = copied_of _ _ c.in_ok-body.ensures.unchanged _ c.put_copy.ensures.told
