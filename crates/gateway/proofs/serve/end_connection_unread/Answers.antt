use Rattle.std.proofs.Common.{arith}
use Rattle.gateway.proofs.Pieces.{part_of}
use Rattle.gateway.proofs.serve.end_connection_unread.Goals as goal

pub returns-in-Failed-clause-effect : goal.returns-in-Failed-clause-effect
returns-in-Failed-clause-effect g c = λ observable. part_of _ (g.W.Swift.history c.args.store.now).called _ _ _ (omega arith) (c.in-Failed.ensures.effect observable)
