use Rattle.extended.proofs.Checking.{meant_by_claims}
use Rattle.extended.proofs.meaning.extended_meaning.Goals as goal

pub returns-in-Ok-clause-value : goal.returns-in-Ok-clause-value
returns-in-Ok-clause-value c =
    meant_by_claims c.args.settings.now c.args.message.now c.args.target.now c.args.sender.now c.in-Ok.claims c.as_slice.result.now c.meaning_by_claims.result c.in-Ok.ensures c.as_slice.ensures c.meaning_by_claims.ensures.value
