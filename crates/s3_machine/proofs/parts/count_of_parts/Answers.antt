use Rattle.std.proofs.Common.{◌<◌, ◌^◌, IfSome, sym, subst}
use Rattle.s3_machine.proofs.Counts.{count_small}
use Rattle.s3_machine.proofs.parts.count_of_parts.Goals as goal

pub returns-clause-within : goal.returns-clause-within
returns-clause-within c = subst (λ found. IfSome found (λ count. count < 2 ^ 32)) (sym c.number_of.ensures) (count_small c.args.text.now)
