use Rattle.std.proofs.Common.{sym, arith}
use Rattle.std.proofs.lemmas.List.{take_all}
use Rattle.leftovers.proofs.kept.id_in.Goals as goal

pub returns-then-name-lt32 : goal.returns-then-name-lt32
returns-then-name-lt32 c = sym (take_all 32 c.args.name.now (omega (arith, c.if-name-lt32.true)))
