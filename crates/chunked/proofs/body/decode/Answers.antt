use Rattle.chunked.proofs.Law.{given_means}
use Rattle.chunked.proofs.body.decode.Goals as goal

pub returns-clause-decodes : goal.returns-clause-decodes
returns-clause-decodes c = given_means c.args.form c.args.seal.now c.args.count c.args.body.items _ c.decoded_body.ensures
